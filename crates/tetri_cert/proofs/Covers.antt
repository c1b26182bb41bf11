-- A tree's bound holds at each point of the open regions.
use Rattle.std.proofs.Common.{◌≡◌, ℕ, ◌+◌, ◌-◌, ◌^◌, ◌<◌, ◌≤◌, max, refl, sym, ap, ◌∙◌, subst, inl, inr, ⊎_elim, arith, List, [], ◌∷◌, length, get_or, cond, Bool, true, false, Result, Ok, Err}
use Prim.Native.Nat.{zero, suc}
use Rattle.std.specs.Prelude.{◌≤ℤ◌, ◌<ℤ◌, ◌⊎◌, not, ◌||◌}
use Rattle.std.specs.List.{list_any}
use Rattle.std.specs.Int.{int_div_euclid}
use Rattle.std.proofs.lemmas.Bool.{false≢true}
use Rattle.std.proofs.lemmas.Int.{ints, by_lt_z}
use lib.IntN.{ℤ, pos, negsuc, ◌+ℤ◌, ◌*ℤ◌}
use lib.Signed.{lt_z}
use Rattle.tetri_num.proofs.FractionLaws.{floor_above}
use Rattle.tetri_ip.specs.declared.programs.Program.{Program}
use Rattle.tetri_ip.specs.declared.programs.Weight.{Weight}
use Rattle.tetri_algebra.specs.Integers.{mul_le_of_nonnegative}
use Rattle.tetri_ip.specs.declared.programs.WeighFault.{WeighFault}
use Rattle.tetri_ip.specs.declared.programs.WeighFault.TheVariants as weighing
use Rattle.tetri_ip.specs.Points.{Bounds, IsPoint, box_of, number_at, objective}
use Rattle.tetri_ip.specs.Weighed.{AreNotNegative, weighed}
use Rattle.tetri_ip.specs.Forming.{weigh_answer}
use Rattle.tetri_ip.proofs.IntegerProgramLaws.{answer_is_weighed, weak_duality}
use Rattle.tetri_cert.specs.declared.marks.Mark.{Mark}
use Rattle.tetri_cert.specs.declared.marks.Mark.TheVariants.{Split, Close, Whole, Rest}
use Rattle.tetri_cert.specs.declared.faults.TreeFault.{TreeFault}
use Rattle.tetri_cert.specs.declared.faults.TreeFault.TheVariants.{Bad}
use Rattle.tetri_cert.specs.declared.faults.TreeWhy.TheVariants as why
use Rattle.tetri_cert.specs.NodeBounds.{refuse, is_negative, capped, quotient_at, where_weighed, weights_bound, node_bound, high_side, low_side, sides_before}
use Rattle.tetri_base.specs.ResultSteps.{◌>>=◌}
use Rattle.tetri_cert.specs.Trees.{places_behind, fills, tree_from, if_fills, tree_bound}
use Rattle.tetri_cert.proofs.RegionLemmas.{set_keeps}
use Rattle.tetri_cert.specs.TreeLaws.{TreeBoundHolds}

-- ---- steps that may fail
pub refused : (t : Bool) (e : TreeFault) (r : Result ℕ TreeFault) (n : ℕ) → refuse t e r ≡ Ok n → (t ≡ false) × (r ≡ Ok n)
refused true e r n h = cc
refused false e r n h = (refl, h)

pub bind_ok : (r : Result ℕ TreeFault) (f : ℕ → Result ℕ TreeFault) (n : ℕ) → (r >>= f) ≡ Ok n → (x : ℕ) × (r ≡ Ok x) × (f x ≡ Ok n)
bind_ok (Ok x) f n h = (x, refl, h)
bind_ok (Err e) f n h = cc

pub same_ok : (a b : ℕ) → ◌≡◌ {A = Result ℕ TreeFault} (Ok a) (Ok b) → a ≡ b
same_ok a b h = cc

pub not_false : (t : Bool) → not t ≡ false → t ≡ true
not_false true h = refl
not_false false h = sym h

-- ---- quotients
capped_mono : (a b : ℤ) → a ≤ℤ b → capped a ≤ capped b
capped_mono (pos m) (pos n) h = omega (arith, ints)
capped_mono (pos m) (negsuc n) h = absurd (omega (arith, ints))
capped_mono (negsuc m) b h = omega arith

below_quotient : (q o w d : ℤ) → pos 0 <ℤ q → (q *ℤ o) ≤ℤ w → w <ℤ ((d +ℤ pos 1) *ℤ q) → o ≤ℤ d
below_quotient q o w d h k l = by_lt_z d o (λ m. let e = mul_le_of_nonnegative q (d +ℤ pos 1) o (omega (arith, ints)) (omega (arith, ints)) in absurd (omega (arith, ints))) (λ m. m)

quotient_covers : (node : ℕ) (q w o : ℤ) (n : ℕ) → is_negative q ≡ false → (q *ℤ o) ≤ℤ w → quotient_at node q w ≡ Ok n → capped o ≤ n
quotient_covers node q w o n g h e = by_sign (lt_z (pos 0) q) refl e
  where
    by_sign : (t : Bool) → lt_z (pos 0) q ≡ t → cond t (Ok (capped (int_div_euclid w q))) (refuse (not (is_negative w)) (Bad node why.Denominator) (Ok 0)) ≡ Ok n → capped o ≤ n
    by_sign true s f =
        let k : pos 0 <ℤ q = omega (arith, ints) in
        let d = int_div_euclid w q in
        let l = floor_above w q d refl k in
        let m = capped_mono o d (below_quotient q o w d k h l) in
        let i = same_ok _ _ f in
        omega arith
    by_sign false s f =
        let z : q ≡ pos 0 = zero_of q s g in
        let v = not_false (is_negative w) (refused _ _ _ _ f).0 in
        let y : (pos 0 *ℤ o) ≤ℤ w = subst (λ x. (x *ℤ o) ≤ℤ w) z h in
        absurd (omega (arith, ints))
      where
        zero_of : (z : ℤ) → lt_z (pos 0) z ≡ false → is_negative z ≡ false → z ≡ pos 0
        zero_of (pos zero) a b = refl
        zero_of (pos (suc n)) a b = absurd (omega (arith, ints))
        zero_of (negsuc n) a b = absurd (false≢true (sym b))

-- ---- weights
pub not_negative : (ws : List Weight) → list_any (λ w. is_negative w.by) ws ≡ false → AreNotNegative ws
not_negative [] h k d l = absurd (omega arith)
not_negative (w ∷ ws) h k d l = by_test (is_negative w.by) refl h (λ g i m. not_negative ws g i d m) k l
  where
    by_test : (t : Bool) → is_negative w.by ≡ t → (t || list_any (λ w. is_negative w.by) ws) ≡ false → (list_any (λ w. is_negative w.by) ws ≡ false → (i : ℕ) → i < length ws → pos 0 ≤ℤ (get_or ws i d).by) → (k : ℕ) → k < length (w ∷ ws) → pos 0 ≤ℤ (get_or (w ∷ ws) k d).by
    by_test true e f g k l = absurd (false≢true (sym f))
    by_test false e f g zero l = omega (arith, ints)
    by_test false e f g (suc k) l = g f k (omega arith)

weights_cover : (p : Program) (b : Bounds) (node : ℕ) (q : ℤ) (ws : List Weight) (n : ℕ) (x : List ℤ) → weights_bound p b node q ws ≡ Ok n → IsPoint p b x → capped (objective p x) ≤ n
unfolding weights_bound
weights_cover p b node q ws n x h i =
    let r = refused _ _ _ _ h in
    let s = refused _ _ _ _ r.1 in
    let t = refused _ _ _ _ s.1 in
    let w = weak_duality p b q ws (not_negative ws s.0) x i in
    formed (weigh_answer p b q ws) refl t.0 w t.1
  where
    formed : (o : Result ℤ WeighFault) → weigh_answer p b q ws ≡ o → is_negative q ≡ false → (q *ℤ objective p x) ≤ℤ weighed p b q ws → where_weighed node q o ≡ Ok n → capped (objective p x) ≤ n
    formed (Ok z) e s w h = quotient_covers node q z (objective p x) n s (subst (λ y. (q *ℤ objective p x) ≤ℤ y) (sym (answer_is_weighed p b q ws z e)) w) h
    formed (Err (weighing.Past j)) e s w h = cc
    formed (Err (weighing.Negative row)) e s w h = cc

-- ---- the two sides of a split
next_above : (at x : ℤ) → at <ℤ x → (at +ℤ pos 1) ≤ℤ x
next_above at x h = omega (arith, ints)

in_high : (p : Program) (b : Bounds) (j : ℕ) (at : ℤ) (x : List ℤ) → IsPoint p b x → at <ℤ number_at x j → IsPoint p (high_side b j at) x
in_high p b j at x i h = record {
  count = i.count;
  inside = λ k l. (set_keeps (λ z. z ≤ℤ number_at x k) b.lower j (at +ℤ pos 1) k (λ e. subst (λ m. (at +ℤ pos 1) ≤ℤ number_at x m) (sym e) (next_above at (number_at x j) h)) (i.inside k l).0, (i.inside k l).1);
  met = i.met;
}

in_low : (p : Program) (b : Bounds) (j : ℕ) (at : ℤ) (x : List ℤ) → IsPoint p b x → number_at x j ≤ℤ at → IsPoint p (low_side b j at) x
in_low p b j at x i h = record {
  count = i.count;
  inside = λ k l. ((i.inside k l).0, set_keeps (λ z. number_at x k ≤ℤ z) b.upper j at k (λ e. subst (λ m. number_at x m ≤ℤ at) (sym e) h) (i.inside k l).1);
  met = i.met;
}

-- a point of one of the regions
abbrev IsIn : Program → List Bounds → List ℤ → Type 0
IsIn p [] x = ⊥
IsIn p (b ∷ bs) x = IsPoint p b x ⊎ IsIn p bs x

node_covers : (p : Program) (b : Bounds) (bs : List Bounds) (node : ℕ) (m : Mark) (n : ℕ) (x : List ℤ) → node_bound p b node m ≡ Ok n → IsPoint p b x → (capped (objective p x) ≤ n) ⊎ IsIn p (sides_before b m bs) x
unfolding node_bound
node_covers p b bs node (Split j at licence) n x h i =
    inr (by_lt_z at (number_at x j)
    (λ k. inl (in_high p b j at x i k))
    (λ k. inr (inl (in_low p b j at x i k))))
node_covers p b bs node (Close q ws) n x h i = inl (weights_cover p b node q ws n x h i)
node_covers p b bs node (Whole q ws worth point) n x h i =
    let r = bind_ok _ _ _ h in
    let s = refused _ _ _ _ r.2 in
    inl (weights_cover p b node q ws n x (r.1 ∙ s.1) i)
node_covers p b bs node (Rest q ws) n x h i = inl (weights_cover p b node q ws n x h i)

in_others : (p : Program) (b : Bounds) (bs : List Bounds) (m : Mark) (x : List ℤ) → IsIn p bs x → IsIn p (sides_before b m bs) x
in_others p b bs (Split j at licence) x h = inr (inr h)
in_others p b bs (Close q ws) x h = h
in_others p b bs (Whole q ws worth point) x h = h
in_others p b bs (Rest q ws) x h = h

pub length_sides : (b : Bounds) (bs : List Bounds) (m : Mark) → length (sides_before b m bs) ≡ places_behind m (length bs)
length_sides b bs (Split j at licence) = refl
length_sides b bs (Close q ws) = refl
length_sides b bs (Whole q ws worth point) = refl
length_sides b bs (Rest q ws) = refl

-- ---- whole trees
tree_covers : (p : Program) (ms : List Mark) (bs : List Bounds) (node most t : ℕ) → fills (length bs) ms ≡ true → tree_from p bs node most ms ≡ Ok t → (most ≤ t) × ((x : List ℤ) → IsIn p bs x → capped (objective p x) ≤ t)
tree_covers p [] [] node most t f h = let e = same_ok _ _ h in (omega arith, λ x i. absurd i)
tree_covers p [] (b ∷ bs) node most t f h = absurd (false≢true f)
tree_covers p (m ∷ ms) [] node most t f h = absurd (false≢true f)
tree_covers p (m ∷ ms) (b ∷ bs) node most t f h =
    let r = bind_ok (node_bound p b node m) (λ n. tree_from p (sides_before b m bs) (node + 1) (max most n) ms) t h in
    let n = r.0 in
    let g : fills (length (sides_before b m bs)) ms ≡ true = ap (λ k. fills k ms) (length_sides b bs m) ∙ f in
    let i = tree_covers p ms (sides_before b m bs) (node + 1) (max most n) t g r.2 in
    (omega arith, λ x. ⊎_elim (λ a. ⊎_elim (λ c. omega arith) (i.1 x) (node_covers p b bs node m n x r.1 a)) (λ a. i.1 x (in_others p b bs m x a)))

-- ---- the law
pub shape_ok : (t : Bool) (r : Result ℕ TreeFault) (n : ℕ) → if_fills t r ≡ Ok n → (t ≡ true) × (r ≡ Ok n)
shape_ok true r n h = (refl, h)
shape_ok false r n h = cc

below_capped : (o : ℤ) (t : ℕ) → capped o ≤ t → (t < 2 ^ 64 - 1) ⊎ (o ≤ℤ pos (2 ^ 64 - 1)) → o ≤ℤ pos t
below_capped (pos n) t h = ⊎_elim (λ l. omega (arith, ints)) (λ l. omega (arith, ints))
below_capped (negsuc n) t h = λ l. omega (arith, ints)

pub tree_bound_holds : TreeBoundHolds
unfolding tree_bound
tree_bound_holds p marks t h k point i =
    let s = shape_ok _ _ _ h in
    let c = tree_covers p marks (box_of p ∷ []) 0 0 t s.0 s.1 in
    below_capped (objective p point) t (c.1 point (inl i)) (⊎_elim (λ l. inl l) (λ l. inr (l point i)) k)
