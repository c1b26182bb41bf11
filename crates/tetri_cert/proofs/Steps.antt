-- Steps of the walk.
use Rattle.std.proofs.Common.{◌≡◌, ℕ, suc, ◌-◌, ◌<◌, refl, sym, ap, ◌∙◌, subst, arith, List, [], ◌∷◌, ◌++◌, length, get_or, take, drop, Bool, true, false, not, cond, ltb, reverse, Ok}
use Prim.Native.Nat.{zero}
use Rattle.std.specs.Prelude.{◌&&◌, ◌<ℤ◌, ◌≤ℤ◌}
use Rattle.std.proofs.lemmas.Int.{ints, by_lt_z}
use Rattle.std.proofs.lemmas.List.{append-nil, drop_all, take_all}
use borrow.Author.Tests.{ltb-true}
use lib.IntN.{ℤ, pos}
use lib.Signed.{lt_z}
use Rattle.tetri_ip.specs.declared.programs.Program.{Program}
use Rattle.tetri_ip.specs.Points.{Bounds, bounds_of}
use Rattle.tetri_cert.specs.declared.marks.Mark.{Mark}
use Rattle.tetri_cert.specs.declared.marks.Mark.TheVariants.{Split, Close, Whole, Rest}
use Rattle.tetri_cert.specs.declared.faults.TreeFault.{TreeFault}
use Rattle.tetri_cert.specs.declared.walk.Walk.{Walk}
use Rattle.tetri_cert.specs.declared.faults.TreeFault.TheVariants.{Bad}
use Rattle.tetri_cert.specs.declared.faults.TreeWhy.TheVariants as why
use Rattle.tetri_cert.specs.NodeBounds.{HasSides, node_bound, refuse, split_bound}
use Rattle.tetri_cert.specs.Turns.{pending}
use Rattle.tetri_cert.specs.Walks.{AreInBox, tells, tells_nodes, or_found, regions_of}
use Rattle.tetri_cert.specs.Trees.{places_behind, fills, tree_from, if_fills}
use Rattle.tetri_cert.proofs.Covers.{not_false}

pub tree_from_none : (p : Program) (node most : ℕ) (ms : List Mark) → tree_from p [] node most ms ≡ Ok most
tree_from_none p node most [] = refl
tree_from_none p node most (m ∷ ms) = refl

pub fills_step : (n : ℕ) (m : Mark) (ms : List Mark) → 0 < n → fills n (m ∷ ms) ≡ fills (places_behind m (n - 1)) ms
fills_step zero m ms h = absurd (omega arith)
fills_step (suc k) m ms h = ap (λ i. fills (places_behind m i) ms) (omega arith)

three_passed : (a b c : Bool) (d e f : TreeFault) (n : ℕ) → refuse a d (refuse b e (refuse c f (Ok 0))) ≡ Ok n → (a ≡ false) × (b ≡ false) × (c ≡ false)
three_passed false false false d e f n h = (refl, refl, refl)
three_passed true b c d e f n h = cc
three_passed false true c d e f n h = cc
three_passed false false true d e f n h = cc

split_passed : (p : Program) (b : Bounds) (node j : ℕ) (at : ℤ) (n : ℕ) → split_bound p b node j at ≡ Ok n →
    (not (ltb j (length p.costs.items)) ≡ false) × (lt_z at (get_or b.lower j (pos 0)) ≡ false) × (not (lt_z at (get_or b.upper j (pos 0))) ≡ false)
unfolding split_bound
split_passed p b node j at n h = three_passed (not (ltb j (length p.costs.items))) (lt_z at (get_or b.lower j (pos 0))) (not (lt_z at (get_or b.upper j (pos 0)))) (Bad node why.Column) (Bad node why.At) (Bad node why.At) n h

-- a split that passes its tests
pub split_inside : (p : Program) (b : Bounds) (node j : ℕ) (at : ℤ) (n : ℕ) → split_bound p b node j at ≡ Ok n → (j < length p.costs.items) × (get_or b.lower j (pos 0) ≤ℤ at) × (at <ℤ get_or b.upper j (pos 0))
split_inside p b node j at n h =
    let s = split_passed p b node j at n h in
    let x = s.1 in
    let y : lt_z at (get_or b.upper j (pos 0)) ≡ true = not_false _ s.2 in
    (ltb-true _ _ (not_false _ s.0), by_lt_z at (get_or b.lower j (pos 0)) (λ k. absurd (omega (arith, ints))) (λ k. k), by_lt_z at (get_or b.upper j (pos 0)) (λ k. k) (λ k. absurd (omega (arith, ints))))

pub split_told : (p : Program) (b : Bounds) (node j : ℕ) (at : ℤ) → (j < length p.costs.items) × (get_or b.lower j (pos 0) ≤ℤ at) × (at <ℤ get_or b.upper j (pos 0)) → split_bound p b node j at ≡ Ok 0
unfolding split_bound
split_told p b node j at h =
    ap (λ t. refuse (not t) (Bad node why.Column) (refuse (lt_z at (get_or b.lower j (pos 0))) (Bad node why.At) (refuse (not (lt_z at (get_or b.upper j (pos 0)))) (Bad node why.At) (Ok 0)))) (told_below j (length p.costs.items) h.0)
    ∙ ap (λ t. refuse t (Bad node why.At) (refuse (not (lt_z at (get_or b.upper j (pos 0)))) (Bad node why.At) (Ok 0))) (not_less at (get_or b.lower j (pos 0)) h.1)
    ∙ ap (λ t. refuse (not t) (Bad node why.At) (Ok 0)) (less at (get_or b.upper j (pos 0)) h.2)
  where
    told_below : (m n : ℕ) → m < n → ltb m n ≡ true
    told_below m n h = grind arith

    not_less : (x y : ℤ) → y ≤ℤ x → lt_z x y ≡ false
    not_less x y h = grind (arith, ints)

    less : (x y : ℤ) → x <ℤ y → lt_z x y ≡ true
    less x y h = grind (arith, ints)

-- a node that passes its tests
pub has_sides : (p : Program) (b : Bounds) (node : ℕ) (m : Mark) (n : ℕ) → length b.lower ≡ length p.costs.items → node_bound p b node m ≡ Ok n → HasSides b m
unfolding node_bound
has_sides p b node (Split j at licence) n e h = let s = split_inside p b node j at n h in (subst (λ k. j < k) (sym e) s.0, s.1, s.2)
has_sides p b node (Close q ws) n e h = tt
has_sides p b node (Whole q ws worth point) n e h = tt
has_sides p b node (Rest q ws) n e h = tt

pub first_in_box : (p : Program) (w : Walk) → w.live ≡ true → AreInBox p (regions_of w) → AreInBox p (bounds_of w.region ∷ pending (bounds_of w.region) (reverse w.trail.items))
first_in_box p w e i = subst (λ (t : Bool). AreInBox p (cond t (bounds_of w.region ∷ pending (bounds_of w.region) (reverse w.trail.items)) [])) e i

pub tells_dead : (w : Walk) (p : Program) (m : Mark) (others : List Mark) (k : ℕ) → w.live ≡ false → tells_nodes (record w { node = k }) p others ≡ tells_nodes w p (m ∷ others)
unfolding tells_nodes
tells_dead w p m others k e =
    let none = λ (ms : List Mark) (n : ℕ). ap (λ (v : Bool). or_found w.fault (tree_from p (cond v (bounds_of w.region ∷ pending (bounds_of w.region) (reverse w.trail.items)) []) n w.most ms)) e ∙ ap (or_found w.fault) (tree_from_none p n w.most ms) in
    none others k ∙ sym (none (m ∷ others) w.node)

pub tells_step : (w v : Walk) (p : Program) (m : Mark) (others : List Mark) (n : ℕ) → 0 < w.places → v.extra ≡ w.extra → n ≡ places_behind m (w.places - 1) → tells_nodes v p others ≡ tells_nodes w p (m ∷ others) → tells (record v { places = n }) p others ≡ tells w p (m ∷ others)
unfolding tells tells_nodes
tells_step w v p m others n h x e t =
    ap (λ (b : Bool). if_fills (not b && fills n others) (tells_nodes v p others)) x
    ∙ ap (λ k. if_fills (not w.extra && fills k others) (tells_nodes v p others)) e
    ∙ ap (λ b. if_fills (not w.extra && b) (tells_nodes v p others)) (sym (fills_step w.places m others h))
    ∙ ap (if_fills (not w.extra && fills w.places (m ∷ others))) t

-- a list that takes the place of another in a vector
pub length_kept : (n : ℕ) (new old : List ℤ) → length old ≡ n → length new ≡ length old → length (take n (new ++ drop (length new) old)) ≡ length old
length_kept n new old e h =
    ap (λ xs. length (take n (new ++ xs))) (drop_all (length new) old (omega arith))
    ∙ ap (λ xs. length (take n xs)) (append-nil new)
    ∙ ap length (take_all n new (omega arith)) ∙ h
