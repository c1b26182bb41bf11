-- Nodes have a bound exactly where they are a proper tree in preorder.
use Rattle.std.proofs.Common.{◌≡◌, ℕ, ◌+◌, ◌<◌, max, refl, sym, ap, ◌∙◌, arith, List, [], ◌∷◌, ◌++◌, append_assoc, length, get_or, cond, Bool, true, false, Result, Ok, Err}
use Prim.Native.Nat.{zero, suc}
use Rattle.std.specs.Prelude.{◌≤ℤ◌, ◌<ℤ◌, ◌&&◌, ◌||◌, not, nat_lt}
use Rattle.std.specs.List.{list_any}
use Rattle.std.specs.Int.{int_div_euclid}
use Rattle.std.proofs.lemmas.Bool.{false≢true}
use Rattle.std.proofs.lemmas.Int.{ints}
use borrow.Author.Tests.{ltb-true}
use Rattle.std.proofs.lemmas.List.{length-set}
use lib.IntN.{ℤ, pos, negsuc, ◌+ℤ◌}
use lib.Signed.{le_z, lt_z}
use Rattle.tetri_ip.specs.declared.programs.Program.{Program}
use Rattle.tetri_ip.specs.declared.programs.Weight.{Weight}
use Rattle.tetri_ip.specs.declared.programs.WeighFault.{WeighFault}
use Rattle.tetri_ip.specs.declared.programs.WeighFault.TheVariants as weighing
use Rattle.tetri_ip.specs.Forming.{weigh_answer}
use Rattle.tetri_ip.specs.Points.{Bounds, box_of, number_at, objective}
use Rattle.tetri_ip.specs.Weighed.{AreNotNegative, weighed}
use Rattle.tetri_ip.proofs.IntegerProgramLaws.{answer_is_weighed}
use Rattle.tetri_cert.specs.declared.marks.Cell.{Cell}
use Rattle.tetri_cert.specs.declared.faults.TreeFault.TheVariants.{Bad}
use Rattle.tetri_cert.specs.declared.faults.TreeWhy.TheVariants as why
use Rattle.tetri_cert.specs.Cells.{AreOfColumns, are_of_columns, is_point, is_same, is_whole_point, point_of}
use Rattle.tetri_cert.specs.declared.marks.Mark.{Mark}
use Rattle.tetri_cert.specs.declared.marks.Mark.TheVariants.{Split, Close, Whole, Rest}
use Rattle.tetri_cert.specs.NodeBounds.{capped, high_side, is_negative, is_unknown_row, low_side, node_bound, quotient_at, refuse, sides_before, weights_bound, where_weighed}
use Rattle.tetri_base.specs.ResultSteps.{◌>>=◌}
use Rattle.tetri_cert.specs.ProperTrees.{AreProper, BoundsProperTrees, IsEnd, IsProper, IsWorth, Tree, end_bound, ends, floor_of, greatest, preorder, splits}
use Rattle.tetri_cert.specs.Trees.{fills, if_fills, tree_bound, tree_from}
use Rattle.tetri_cert.proofs.Covers.{bind_ok, length_sides, not_false, not_negative, refused, same_ok, shape_ok}
use Rattle.tetri_cert.proofs.PointLemmas.{both_true, columns_below, is_point_is, length-point_of, point_told_by_counts}
use Rattle.tetri_cert.proofs.Steps.{split_inside, split_told}

-- ---- weights over q
rows_below : (n : ℕ) (ws : List Weight) → list_any (is_unknown_row n) ws ≡ false → (k : ℕ) (d : Weight) → k < length ws → (get_or ws k d).row < n
rows_below n [] h k d l = absurd (omega arith)
rows_below n (w ∷ ws) h k d l = by_test (not (nat_lt w.row n)) refl h (λ g i m. rows_below n ws g i d m) k l
  where
    by_test : (t : Bool) → not (nat_lt w.row n) ≡ t → (t || list_any (is_unknown_row n) ws) ≡ false → (list_any (is_unknown_row n) ws ≡ false → (i : ℕ) → i < length ws → (get_or ws i d).row < n) → (k : ℕ) → k < length (w ∷ ws) → (get_or (w ∷ ws) k d).row < n
    by_test true e f g k l = absurd (false≢true (sym f))
    by_test false e f g zero l = ltb-true _ _ (not_false _ e)
    by_test false e f g (suc k) l = g f k (omega arith)

told_below : (m n : ℕ) → m < n → nat_lt m n ≡ true
told_below m n h = grind arith

rows_told : (n : ℕ) (ws : List Weight) → ((k : ℕ) (d : Weight) → k < length ws → (get_or ws k d).row < n) → list_any (is_unknown_row n) ws ≡ false
rows_told n [] h = refl
rows_told n (w ∷ ws) h = ap (λ t. not t || list_any (is_unknown_row n) ws) (told_below w.row n (h 0 w (omega arith))) ∙ rows_told n ws (λ k d l. h (suc k) d (omega arith))

told_not_negative : (z : ℤ) → pos 0 ≤ℤ z → is_negative z ≡ false
told_not_negative z h = grind (arith, ints)

not_negative_is : (z : ℤ) → is_negative z ≡ false → pos 0 ≤ℤ z
not_negative_is z h = grind (arith, ints)

negative_is : (z : ℤ) → is_negative z ≡ true → z <ℤ pos 0
negative_is z h = grind (arith, ints)

told_negative : (z : ℤ) → z <ℤ pos 0 → is_negative z ≡ true
told_negative z h = grind (arith, ints)

weights_told : (ws : List Weight) → AreNotNegative ws → list_any (λ w. is_negative w.by) ws ≡ false
weights_told [] h = refl
weights_told (w ∷ ws) h = ap (λ t. t || list_any (λ w. is_negative w.by) ws) (told_not_negative w.by (h 0 w (omega arith))) ∙ weights_told ws (λ k d l. h (suc k) d (omega arith))

quotient_is : (node : ℕ) (q w : ℤ) (n : ℕ) → is_negative q ≡ false → quotient_at node q w ≡ Ok n → (q ≡ pos 0 → w <ℤ pos 0) × (cond (lt_z (pos 0) q) (capped (int_div_euclid w q)) 0 ≡ n)
quotient_is node q w n g h = by_sign (lt_z (pos 0) q) refl h
  where
    above_zero : (z : ℤ) → lt_z (pos 0) z ≡ true → z ≡ pos 0 → ⊥
    above_zero z e f = omega (arith, ints)

    by_sign : (t : Bool) → lt_z (pos 0) q ≡ t → cond t (Ok (capped (int_div_euclid w q))) (refuse (not (is_negative w)) (Bad node why.Denominator) (Ok 0)) ≡ Ok n → (q ≡ pos 0 → w <ℤ pos 0) × (cond t (capped (int_div_euclid w q)) 0 ≡ n)
    by_sign true e f = (λ z. absurd (above_zero q e z), same_ok _ _ f)
    by_sign false e f = let r = refused _ _ _ _ f in (λ z. negative_is w (not_false _ r.0), same_ok _ _ r.1)

zero_of : (z : ℤ) → lt_z (pos 0) z ≡ false → is_negative z ≡ false → z ≡ pos 0
zero_of (pos zero) a b = refl
zero_of (pos (suc n)) a b = absurd (omega (arith, ints))
zero_of (negsuc n) a b = absurd (false≢true (sym b))

quotient_told : (node : ℕ) (q w : ℤ) → pos 0 ≤ℤ q → (q ≡ pos 0 → w <ℤ pos 0) → quotient_at node q w ≡ Ok (cond (lt_z (pos 0) q) (capped (int_div_euclid w q)) 0)
quotient_told node q w g h = by_sign (lt_z (pos 0) q) refl
  where
    by_sign : (t : Bool) → lt_z (pos 0) q ≡ t → cond t (Ok (capped (int_div_euclid w q))) (refuse (not (is_negative w)) (Bad node why.Denominator) (Ok 0)) ≡ Ok (cond t (capped (int_div_euclid w q)) 0)
    by_sign true e = refl
    by_sign false e = ap (λ t. refuse (not t) (Bad node why.Denominator) (Ok 0)) (told_negative w (h (zero_of q e (told_not_negative q g))))

weights_are : (p : Program) (b : Bounds) (node : ℕ) (q : ℤ) (ws : List Weight) (n : ℕ) → weights_bound p b node q ws ≡ Ok n → AreProper p b q ws × (floor_of p b q ws ≡ n)
unfolding weights_bound
weights_are p b node q ws n h =
    let r = refused _ _ _ _ h in
    let s = refused _ _ _ _ r.1 in
    let t = refused _ _ _ _ s.1 in
    by_answer (weigh_answer p b q ws) refl r.0 s.0 t.0 t.1
  where
    by_answer : (o : Result ℤ WeighFault) → weigh_answer p b q ws ≡ o → list_any (is_unknown_row (length p.rows.items)) ws ≡ false → list_any (λ w. is_negative w.by) ws ≡ false → is_negative q ≡ false → where_weighed node q o ≡ Ok n → AreProper p b q ws × (floor_of p b q ws ≡ n)
    by_answer (Ok z) e x y g f =
        let i : z ≡ weighed p b q ws = answer_is_weighed p b q ws z e in
        let u = quotient_is node q (weighed p b q ws) n g (ap (quotient_at node q) (sym i) ∙ f) in
        (record { rows = rows_below (length p.rows.items) ws x; weights = not_negative ws y; over = not_negative_is q g; formed = e ∙ ap Ok i; empty = u.0 }, u.1)
    by_answer (Err (weighing.Past j)) e x y g f = cc
    by_answer (Err (weighing.Negative row)) e x y g f = cc

weights_told_bound : (p : Program) (b : Bounds) (node : ℕ) (q : ℤ) (ws : List Weight) → AreProper p b q ws → weights_bound p b node q ws ≡ Ok (floor_of p b q ws)
unfolding weights_bound
weights_told_bound p b node q ws h =
    ap (λ t. refuse t (Bad node why.Row) (refuse (list_any (λ w. is_negative w.by) ws) (Bad node why.Negative) (refuse (is_negative q) (Bad node why.Denominator) (where_weighed node q (weigh_answer p b q ws))))) (rows_told (length p.rows.items) ws h.rows)
    ∙ ap (λ t. refuse t (Bad node why.Negative) (refuse (is_negative q) (Bad node why.Denominator) (where_weighed node q (weigh_answer p b q ws)))) (weights_told ws h.weights)
    ∙ ap (λ t. refuse t (Bad node why.Denominator) (where_weighed node q (weigh_answer p b q ws))) (told_not_negative q h.over)
    ∙ ap (where_weighed node q) h.formed
    ∙ quotient_told node q (weighed p b q ws) h.over h.empty

-- ---- the point of a Whole node
columns_told : (n : ℕ) (cells : List Cell) → AreOfColumns n cells → are_of_columns n cells ≡ true
columns_told n [] h = refl
columns_told n (c ∷ cs) h = ap (λ t. t && are_of_columns n cs) (told_below c.column n (h 0 c (omega arith))) ∙ columns_told n cs (λ k d l. h (suc k) d (omega arith))

same_is : (x y : ℤ) → is_same x y ≡ true → x ≡ y
same_is x y h = let e = both_true (le_z x y) (le_z y x) h in between x y e.0 e.1
  where
    between : (x y : ℤ) → le_z x y ≡ true → le_z y x ≡ true → x ≡ y
    between x y e f = grind (arith, ints)

same_told : (x y : ℤ) → x ≡ y → is_same x y ≡ true
same_told x y e = ap (λ z. is_same z y) e ∙ same y
  where
    least : (z : ℤ) → le_z z z ≡ true
    least z = grind (arith, ints)

    same : (z : ℤ) → is_same z z ≡ true
    same z = ap (λ t. t && le_z z z) (least z) ∙ least z

worth_is : (p : Program) (b : Bounds) (worth : ℤ) (cells : List Cell) → is_whole_point p b worth cells ≡ true → IsWorth p b worth cells
unfolding is_whole_point
worth_is p b worth cells h =
    let n = length p.costs.items in
    let xs = point_of n cells in
    let e = both_true (are_of_columns n cells) (is_point p b xs && is_same worth (objective p xs)) h in
    let f = both_true (is_point p b xs) (is_same worth (objective p xs)) e.1 in
    record { columns = columns_below n cells e.0; point = is_point_is p b xs (length-point_of n cells) f.0; worth_is = same_is worth (objective p xs) f.1 }

worth_told : (p : Program) (b : Bounds) (worth : ℤ) (cells : List Cell) → length b.lower ≡ length p.costs.items → length b.upper ≡ length p.costs.items → IsWorth p b worth cells → is_whole_point p b worth cells ≡ true
unfolding is_whole_point
worth_told p b worth cells l u h =
    let n = length p.costs.items in
    let xs = point_of n cells in
    ap (λ t. t && (is_point p b xs && is_same worth (objective p xs))) (columns_told n cells h.columns)
    ∙ ap (λ t. t && is_same worth (objective p xs)) (point_told_by_counts p b xs l u h.point)
    ∙ same_told worth (objective p xs) h.worth_is

-- ---- one node
-- what a node says of its region, the trees of a split's sides aside
abbrev pub IsSound : Program → Bounds → Mark → Type 0
IsSound p b (Split j at licence) = (j < length p.costs.items) × (number_at b.lower j ≤ℤ at) × (at <ℤ number_at b.upper j)
IsSound p b (Close q ws) = AreProper p b q ws
IsSound p b (Whole q ws worth cells) = AreProper p b q ws × IsWorth p b worth cells
IsSound p b (Rest q ws) = AreProper p b q ws

node_is : (p : Program) (b : Bounds) (node : ℕ) (m : Mark) (n : ℕ) → node_bound p b node m ≡ Ok n → IsSound p b m × (end_bound p b m ≡ n)
unfolding node_bound
node_is p b node (Split j at licence) n h = (split_inside p b node j at n h, same_ok _ _ (sym (split_told p b node j at (split_inside p b node j at n h)) ∙ h))
node_is p b node (Close q ws) n h = weights_are p b node q ws n h
node_is p b node (Whole q ws worth cells) n h =
    let r = bind_ok (weights_bound p b node q ws) (λ n. refuse (not (is_whole_point p b worth cells)) (Bad node why.Point) (Ok n)) n h in
    let s = refused _ _ _ _ r.2 in
    let w = weights_are p b node q ws r.0 r.1 in
    ((w.0, worth_is p b worth cells (not_false _ s.0)), w.1 ∙ same_ok _ _ s.1)
node_is p b node (Rest q ws) n h = weights_are p b node q ws n h

-- a node that is sound bounds its region
pub node_told : (p : Program) (b : Bounds) (node : ℕ) (m : Mark) → length b.lower ≡ length p.costs.items → length b.upper ≡ length p.costs.items → IsSound p b m → node_bound p b node m ≡ Ok (end_bound p b m)
unfolding node_bound
node_told p b node (Split j at licence) l u h = split_told p b node j at h
node_told p b node (Close q ws) l u h = weights_told_bound p b node q ws h
node_told p b node (Whole q ws worth cells) l u h =
    ap (λ r. r >>= λ n. refuse (not (is_whole_point p b worth cells)) (Bad node why.Point) (Ok n)) (weights_told_bound p b node q ws h.0)
    ∙ ap (λ t. refuse (not t) (Bad node why.Point) (Ok (floor_of p b q ws))) (worth_told p b worth cells l u h.1)
node_told p b node (Rest q ws) l u h = weights_told_bound p b node q ws h

-- ---- from nodes to trees
-- the trees of the open regions
abbrev AreTrees : Program → List Bounds → List Tree → Type 0
AreTrees p [] [] = Unit {0}
AreTrees p [] (t ∷ ts) = ⊥
AreTrees p (b ∷ bs) [] = ⊥
AreTrees p (b ∷ bs) (t ∷ ts) = IsProper p b t × AreTrees p bs ts

abbrev pub preorders : List Tree → List Mark
preorders [] = []
preorders (t ∷ ts) = preorder t ++ preorders ts

abbrev greatest_of : Program → List Bounds → List Tree → ℕ
greatest_of p [] ts = 0
greatest_of p (b ∷ bs) [] = 0
greatest_of p (b ∷ bs) (t ∷ ts) = max (greatest p b t) (greatest_of p bs ts)

record Forest (p : Program) (bs : List Bounds) (ms : List Mark) (most t : ℕ) : Type 0 where
  trees : List Tree
  nodes : preorders trees ≡ ms
  proper : AreTrees p bs trees
  bound : max most (greatest_of p bs trees) ≡ t

one_more : (p : Program) (b : Bounds) (bs : List Bounds) (m : Mark) (ms : List Mark) (most n t : ℕ) → IsSound p b m → end_bound p b m ≡ n → Forest p (sides_before b m bs) ms (max most n) t → Forest p (b ∷ bs) (m ∷ ms) most t
one_more p b bs (Split j at licence) ms most n t s e f = with_sides f.trees f.nodes f.proper f.bound
  where
    with_sides : (ts : List Tree) → preorders ts ≡ ms → AreTrees p (high_side b j at ∷ low_side b j at ∷ bs) ts → max (max most n) (greatest_of p (high_side b j at ∷ low_side b j at ∷ bs) ts) ≡ t → Forest p (b ∷ bs) (Split j at licence ∷ ms) most t
    with_sides [] i h g = absurd h
    with_sides (high ∷ []) i h g = absurd h.1
    with_sides (high ∷ low ∷ ts) i h g = record {
      trees = splits j at licence high low ∷ ts;
      nodes = ap (λ ns. Split j at licence ∷ ns) (append_assoc (preorder high) (preorder low) (preorders ts) ∙ i);
      proper = ((s, (h.0, h.1.0)), h.1.1);
      bound = omega (arith, e, g);
    }
one_more p b bs (Close q ws) ms most n t s e f = record { trees = ends (Close q ws) ∷ f.trees; nodes = ap (λ ns. Close q ws ∷ ns) f.nodes; proper = (s, f.proper); bound = let g = f.bound in omega (arith, e, g) }
one_more p b bs (Whole q ws worth cells) ms most n t s e f = record { trees = ends (Whole q ws worth cells) ∷ f.trees; nodes = ap (λ ns. Whole q ws worth cells ∷ ns) f.nodes; proper = (s, f.proper); bound = let g = f.bound in omega (arith, e, g) }
one_more p b bs (Rest q ws) ms most n t s e f = record { trees = ends (Rest q ws) ∷ f.trees; nodes = ap (λ ns. Rest q ws ∷ ns) f.nodes; proper = (s, f.proper); bound = let g = f.bound in omega (arith, e, g) }

forest_of : (p : Program) (ms : List Mark) (bs : List Bounds) (node most t : ℕ) → fills (length bs) ms ≡ true → tree_from p bs node most ms ≡ Ok t → Forest p bs ms most t
forest_of p [] [] node most t f h = record { trees = []; nodes = refl; proper = tt; bound = let e = same_ok _ _ h in omega (arith, e) }
forest_of p [] (b ∷ bs) node most t f h = absurd (false≢true f)
forest_of p (m ∷ ms) [] node most t f h = absurd (false≢true f)
forest_of p (m ∷ ms) (b ∷ bs) node most t f h =
    let r = bind_ok (node_bound p b node m) (λ n. tree_from p (sides_before b m bs) (node + 1) (max most n) ms) t h in
    let s = node_is p b node m r.0 r.1 in
    let g : fills (length (sides_before b m bs)) ms ≡ true = ap (λ k. fills k ms) (length_sides b bs m) ∙ f in
    one_more p b bs m ms most r.0 t s.0 s.1 (forest_of p ms (sides_before b m bs) (node + 1) (max most r.0) t g r.2)

pub append_nil : (ms : List Mark) → ms ++ [] ≡ ms
append_nil [] = refl
append_nil (m ∷ ms) = ap (λ ns. m ∷ ns) (append_nil ms)

record Single (p : Program) (ms : List Mark) (t : ℕ) : Type 0 where
  tree : Tree
  nodes : preorder tree ≡ ms
  proper : IsProper p (box_of p) tree
  bound : greatest p (box_of p) tree ≡ t

single : (p : Program) (ms : List Mark) (t : ℕ) (trees : List Tree) → preorders trees ≡ ms → AreTrees p (box_of p ∷ []) trees → max 0 (greatest_of p (box_of p ∷ []) trees) ≡ t → Single p ms t
single p ms t [] e h g = absurd h
single p ms t (u ∷ []) e h g = record { tree = u; nodes = sym (append_nil (preorder u)) ∙ e; proper = h.0; bound = omega (arith, g) }
single p ms t (u ∷ v ∷ us) e h g = absurd h.1

-- ---- from trees to nodes
record Goes (p : Program) (bs cs : List Bounds) (node most more : ℕ) (ns ms : List Mark) : Type 0 where
  next : ℕ
  is : tree_from p bs node most ns ≡ tree_from p cs next more ms

goes_on : (p : Program) (b : Bounds) (bs : List Bounds) (m : Mark) (ms : List Mark) (node most n : ℕ) → node_bound p b node m ≡ Ok n → tree_from p (b ∷ bs) node most (m ∷ ms) ≡ tree_from p (sides_before b m bs) (node + 1) (max most n) ms
goes_on p b bs m ms node most n e = ap (λ r. r >>= λ n. tree_from p (sides_before b m bs) (node + 1) (max most n) ms) e

past_end : (p : Program) (b : Bounds) (bs : List Bounds) (m : Mark) (ms : List Mark) (node most : ℕ) → length b.lower ≡ length p.costs.items → length b.upper ≡ length p.costs.items → IsEnd p b m → Goes p (b ∷ bs) bs node most (max most (end_bound p b m)) (m ∷ ms) ms
past_end p b bs (Split j at licence) ms node most l u h = absurd h
past_end p b bs (Close q ws) ms node most l u h = record { next = node + 1; is = goes_on p b bs (Close q ws) ms node most (floor_of p b q ws) (node_told p b node (Close q ws) l u h) }
past_end p b bs (Whole q ws worth cells) ms node most l u h = record { next = node + 1; is = goes_on p b bs (Whole q ws worth cells) ms node most (floor_of p b q ws) (node_told p b node (Whole q ws worth cells) l u h) }
past_end p b bs (Rest q ws) ms node most l u h = record { next = node + 1; is = goes_on p b bs (Rest q ws) ms node most (floor_of p b q ws) (node_told p b node (Rest q ws) l u h) }

past_tree : (p : Program) (tree : Tree) (b : Bounds) (bs : List Bounds) (ms : List Mark) (node most : ℕ) → length b.lower ≡ length p.costs.items → length b.upper ≡ length p.costs.items → IsProper p b tree →
    Goes p (b ∷ bs) bs node most (max most (greatest p b tree)) (preorder tree ++ ms) ms
past_tree p (ends m) b bs ms node most l u h = past_end p b bs m ms node most l u h
past_tree p (splits j at licence high low) b bs ms node most l u h =
    let x = past_tree p high (high_side b j at) (low_side b j at ∷ bs) (preorder low ++ ms) (node + 1) (max most 0) (length-set b.lower j (at +ℤ pos 1) ∙ l) u h.1.0 in
    let y = past_tree p low (low_side b j at) bs ms x.next (max (max most 0) (greatest p (high_side b j at) high)) l (length-set b.upper j at ∙ u) h.1.1 in
    let g : max (max (max most 0) (greatest p (high_side b j at) high)) (greatest p (low_side b j at) low) ≡ max most (max (greatest p (high_side b j at) high) (greatest p (low_side b j at) low)) = omega arith in
    record {
      next = y.next;
      is = ap (λ ns. tree_from p (b ∷ bs) node most (Split j at licence ∷ ns)) (append_assoc (preorder high) (preorder low) ms)
          ∙ goes_on p b bs (Split j at licence) (preorder high ++ (preorder low ++ ms)) node most 0 (node_told p b node (Split j at licence) l u h.0)
          ∙ x.is ∙ y.is ∙ ap (λ k. tree_from p bs y.next k ms) g;
    }

fills_end : (p : Program) (b : Bounds) (m : Mark) (k : ℕ) (ms : List Mark) → IsEnd p b m → fills (suc k) (m ∷ ms) ≡ fills k ms
fills_end p b (Split j at licence) k ms h = absurd h
fills_end p b (Close q ws) k ms h = refl
fills_end p b (Whole q ws worth cells) k ms h = refl
fills_end p b (Rest q ws) k ms h = refl

fills_tree : (p : Program) (tree : Tree) (b : Bounds) (k : ℕ) (ms : List Mark) → IsProper p b tree → fills (suc k) (preorder tree ++ ms) ≡ fills k ms
fills_tree p (ends m) b k ms h = fills_end p b m k ms h
fills_tree p (splits j at licence high low) b k ms h =
    ap (λ ns. fills (suc (suc k)) ns) (append_assoc (preorder high) (preorder low) ms)
    ∙ fills_tree p high (high_side b j at) (suc k) (preorder low ++ ms) h.1.0
    ∙ fills_tree p low (low_side b j at) k ms h.1.1

-- ---- both
pub bounds_proper_trees : BoundsProperTrees
unfolding tree_bound
bounds_proper_trees p ms t fit = (there, back)
  where
    there : if_fills (fills 1 ms) (tree_from p (box_of p ∷ []) 0 0 ms) ≡ Ok t → (tree : Tree) × (preorder tree ≡ ms) × IsProper p (box_of p) tree × (greatest p (box_of p) tree ≡ t)
    there h =
        let s = shape_ok _ _ _ h in
        let f = forest_of p ms (box_of p ∷ []) 0 0 t s.0 s.1 in
        let u = single p ms t f.trees f.nodes f.proper f.bound in
        (u.tree, u.nodes, u.proper, u.bound)

    back : ((tree : Tree) × (preorder tree ≡ ms) × IsProper p (box_of p) tree × (greatest p (box_of p) tree ≡ t)) → if_fills (fills 1 ms) (tree_from p (box_of p ∷ []) 0 0 ms) ≡ Ok t
    back h =
        let tree = h.0 in
        let e : preorder tree ++ [] ≡ ms = append_nil (preorder tree) ∙ h.1 in
        let x = past_tree p tree (box_of p) [] [] 0 0 fit.lower_count fit.upper_count h.2 in
        let g : max 0 (greatest p (box_of p) tree) ≡ t = omega (arith, h.3) in
        sym (ap (λ ns. if_fills (fills 1 ns) (tree_from p (box_of p ∷ []) 0 0 ns)) e)
        ∙ ap (λ b. if_fills b (tree_from p (box_of p ∷ []) 0 0 (preorder tree ++ []))) (fills_tree p tree (box_of p) 0 [] h.2)
        ∙ x.is ∙ ap Ok g
