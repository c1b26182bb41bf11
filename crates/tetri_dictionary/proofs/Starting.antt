-- The loops that form the first table.
use Rattle.std.proofs.Common.{◌≡◌, ℕ, ◌+◌, ◌^◌, ◌<◌, ◌≤◌, refl, sym, ap, ◌∙◌, subst, arith, List, [], ◌∷◌, ◌++◌, append_assoc, length, drop, map, Bool, true, false, cond}
use Rattle.std.specs.Prelude.{unsigned_abs, ◌≤ℤ◌}
use Rattle.std.specs.List.{range_with_len}
use Prim.Native.Nat.{zero, suc}
use Rattle.std.proofs.lemmas.List.{append-nil, at_drop_all, drop_more}
use Rattle.std.proofs.lemmas.Int.{ints, fits_signed_from_abs, unsigned_abs-mul}
use lib.IntN.{ℤ, pos, ◌+ℤ◌, ◌-ℤ◌, ◌*ℤ◌}
use lib.Signed.{lt_z}
use mir.Val.{SFits, to_z, of_z}
use mir.Syntax.{w128}
use Rattle.tetri_algebra.specs.Rational.{whole_ℚ}
use Rattle.tetri_num.specs.declared.fractions.Frac.{Frac}
use Rattle.tetri_num.specs.Frac.{value}
use Rattle.tetri_algebra.specs.Range.{IsWithin}
use Rattle.tetri_ip.specs.declared.programs.Program.{Program}
use Rattle.tetri_ip.specs.declared.programs.Term.{Term}
use Rattle.tetri_ip.specs.Points.{Bounds, IsFitRow, IsInBox, left_side, number_at, sizes}
use Rattle.tetri_ip.proofs.IntegerProgramLaws.{sizes-cons, sizes-reach}
use Rattle.tetri_dictionary.specs.Fractions.{values}
use Rattle.tetri_dictionary.specs.Start.{IsStart, corner, start_at}
use Rattle.tetri_dictionary.proofs.Entries.{map_push}
use Rattle.tetri_dictionary.proofs.Numbers.{number_read}

-- ---- numbers in a row
pub range_more : (a n : ℕ) → range_with_len a (n + 1) ≡ range_with_len a n ++ ((a + n) ∷ [])
range_more a zero = ap (λ k. k ∷ []) (plus_zero a)
  where
    plus_zero : (a : ℕ) → a ≡ a + 0
    plus_zero a = omega arith
range_more a (suc n) =
    let e : suc n + 1 ≡ suc (n + 1) = omega arith in
    let f : a + 1 + n ≡ a + suc n = omega arith in
    ap (range_with_len a) e ∙ ap (λ zs. a ∷ zs) (range_more (a + 1) n) ∙ ap (λ k. (a ∷ range_with_len (a + 1) n) ++ (k ∷ [])) f

-- ---- one more number of a row
pub number_pushed : (done made : List Frac) (x : Frac) (z : ℤ) (rest all : List ℤ) → made ≡ done ++ (x ∷ []) → value x ≡ whole_ℚ z → all ≡ z ∷ rest →
    values made ++ map whole_ℚ rest ≡ values done ++ map whole_ℚ all
number_pushed done made x z rest all me ve ae =
    ap (λ zs. zs ++ map whole_ℚ rest) (ap values me ∙ map_push value done x)
    ∙ append_assoc (values done) (value x ∷ []) (map whole_ℚ rest)
    ∙ ap (λ w. values done ++ (w ∷ map whole_ℚ rest)) ve
    ∙ ap (λ zs. values done ++ map whole_ℚ zs) (sym ae)

pub nothing_left : (done : List Frac) (rest : List ℤ) → rest ≡ [] → values done ++ map whole_ℚ rest ≡ values done
nothing_left done rest e = rw (e, append-nil)

-- a whole number that the code made of a number in range
pub whole_read : (x : Frac) (n z : ℤ) → value x ≡ whole_ℚ (to_z w128 (of_z w128 n)) → IsWithin n → n ≡ z → value x ≡ whole_ℚ z
whole_read x n z e h f = e ∙ ap whole_ℚ (number_read n h ∙ f)

-- ---- where the columns start
corner_more : (cs ls us : List ℤ) (j : ℕ) → j < length cs → j < length ls → j < length us →
    corner (drop j cs) (drop j ls) (drop j us) ≡ start_at (number_at cs j) (number_at ls j) (number_at us j) ∷ corner (drop (j + 1) cs) (drop (j + 1) ls) (drop (j + 1) us)
corner_more cs ls us j h g k = rw (drop_more cs j (pos 0) h, drop_more ls j (pos 0) g, drop_more us j (pos 0) k)

pub corner_pushed : (cs ls us done made : List ℤ) (j : ℕ) (s c l u : ℤ) → j < length cs → j < length ls → j < length us → made ≡ done ++ (s ∷ []) → s ≡ start_at c l u → c ≡ number_at cs j → l ≡ number_at ls j → u ≡ number_at us j →
    made ++ corner (drop (j + 1) cs) (drop (j + 1) ls) (drop (j + 1) us) ≡ done ++ corner (drop j cs) (drop j ls) (drop j us)
corner_pushed cs ls us done made j s c l u h g k me se ce le ue = rw (me, append_assoc, se, ce, le, ue, corner_more cs ls us j h g k)

pub corner_done : (cs ls us done : List ℤ) (j : ℕ) → length cs ≤ j → done ++ corner (drop j cs) (drop j ls) (drop j us) ≡ done
corner_done cs ls us done j h = at_drop_all (λ xs. done ++ corner xs (drop j ls) (drop j us)) cs j h ∙ append-nil done

corner_at : (cs ls us : List ℤ) (k : ℕ) → k < length cs → length ls ≡ length cs → length us ≡ length cs → number_at (corner cs ls us) k ≡ start_at (number_at cs k) (number_at ls k) (number_at us k)
corner_at [] ls us k h e f = absurd (omega arith)
corner_at (c ∷ cs) [] us k h e f = absurd (omega arith)
corner_at (c ∷ cs) (l ∷ ls) [] k h e f = absurd (omega arith)
corner_at (c ∷ cs) (l ∷ ls) (u ∷ us) zero h e f = refl
corner_at (c ∷ cs) (l ∷ ls) (u ∷ us) (suc k) h e f = corner_at cs ls us k (omega arith) (omega arith) (omega arith)

corner_length : (cs ls us : List ℤ) → length ls ≡ length cs → length us ≡ length cs → length (corner cs ls us) ≡ length cs
corner_length [] ls us e f = refl
corner_length (c ∷ cs) [] us e f = absurd (omega arith)
corner_length (c ∷ cs) (l ∷ ls) [] e f = absurd (omega arith)
corner_length (c ∷ cs) (l ∷ ls) (u ∷ us) e f = ap suc (corner_length cs ls us (omega arith) (omega arith))

pub corner_starts : (p : Program) (b : Bounds) (start : List ℤ) → IsInBox p b → start ≡ corner p.costs.items b.lower b.upper → IsStart p start
corner_starts p b start i e =
    record {
      count = ap length e ∙ corner_length p.costs.items b.lower b.upper i.lower_count i.upper_count;
      inside = λ k h.
          subst (λ (xs : List ℤ). (number_at p.lower.items k ≤ℤ number_at xs k) × (number_at xs k ≤ℤ number_at p.upper.items k)) (sym e)
          (subst (λ z. (number_at p.lower.items k ≤ℤ z) × (z ≤ℤ number_at p.upper.items k)) (sym (corner_at p.costs.items b.lower b.upper k h i.lower_count i.upper_count))
          (between (lt_z (pos 0) (number_at p.costs.items k)) _ _ _ _ (i.above k h) (i.ordered k h) (i.below k h)));
    }
  where
    between : (t : Bool) (a l u z : ℤ) → a ≤ℤ l → l ≤ℤ u → u ≤ℤ z → (a ≤ℤ cond t u l) × (cond t u l ≤ℤ z)
    between true a l u z f g h = (omega (arith, ints), omega (arith, ints))
    between false a l u z f g h = (omega (arith, ints), omega (arith, ints))

-- ---- slacks
left_sizes : (ts : List Term) (point : List ℤ) → unsigned_abs (left_side ts point) ≤ sizes ts point
left_sizes [] point = omega (arith, ints)
left_sizes (t ∷ ts) point =
    both (t.by *ℤ number_at point t.column) (left_side ts point) _ _ (sizes (t ∷ ts) point) (unsigned_abs-mul t.by (number_at point t.column)) (left_sizes ts point) (sizes-cons t ts point)
  where
    both : (a b : ℤ) (m n k : ℕ) → unsigned_abs a ≡ m → unsigned_abs b ≤ n → k ≡ m + n → unsigned_abs (a +ℤ b) ≤ k
    both a b m n k e h f = omega (arith, ints)

pub row_sizes : (p : Program) (start : List ℤ) (ts : List Term) (right : ℤ) → IsStart p start → IsFitRow p ts right → sizes ts start + unsigned_abs right < 2 ^ 127
row_sizes p start ts right s f = below _ _ _ (sizes-reach p start ts s.inside f.columns) f.in_range
  where
    below : (a b c : ℕ) → a ≤ b → b + c < 2 ^ 127 → a + c < 2 ^ 127
    below a b c h k = omega arith

pub sizes_within : (p : Program) (start : List ℤ) (ts : List Term) (right : ℤ) → IsStart p start → IsFitRow p ts right → sizes ts start < 2 ^ 127
sizes_within p start ts right s f = let h = row_sizes p start ts right s f in omega arith

-- the difference of a right side and a left side, as the code reads it
pub record IsSlack (right left difference : ℤ) : Type 0 where
  pub fits : SFits w128 difference
  pub value : to_z w128 (of_z w128 difference) ≡ right -ℤ left
  pub within : IsWithin (to_z w128 (of_z w128 difference))

pub slack_read : (p : Program) (start : List ℤ) (ts : List Term) (right left : ℤ) → IsStart p start → IsFitRow p ts right → left ≡ left_side ts start →
    IsSlack right (left_side ts start) (to_z w128 (of_z w128 right) -ℤ to_z w128 (of_z w128 left))
slack_read p start ts right left s f e =
    let n = sizes ts start in
    let a = row_sizes p start ts right s f in
    let b = left_sizes ts start in
    let rw : IsWithin right = omega arith in
    let lw : IsWithin left = subst IsWithin (sym e) (at_most (left_side ts start) n b (sizes_within p start ts right s f)) in
    let d : to_z w128 (of_z w128 right) -ℤ to_z w128 (of_z w128 left) ≡ right -ℤ left_side ts start =
    ap (λ z. z -ℤ to_z w128 (of_z w128 left)) (number_read right rw) ∙ ap (λ z. right -ℤ z) (number_read left lw ∙ e) in
    let w : IsWithin (right -ℤ left_side ts start) = within right (left_side ts start) n b a in
    let v : IsWithin (to_z w128 (of_z w128 right) -ℤ to_z w128 (of_z w128 left)) = subst IsWithin (sym d) w in
    record {
      fits = fits_signed_from_abs w128 _ v;
      value = number_read _ v ∙ d;
      within = subst IsWithin (sym (number_read _ v ∙ d)) w;
    }
  where
    at_most : (z : ℤ) (n : ℕ) → unsigned_abs z ≤ n → n < 2 ^ 127 → IsWithin z
    at_most z n h k = omega arith

    within : (r l : ℤ) (n : ℕ) → unsigned_abs l ≤ n → n + unsigned_abs r < 2 ^ 127 → unsigned_abs (r -ℤ l) < 2 ^ 127
    within r l n h k = omega (arith, ints)
