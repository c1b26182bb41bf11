-- The point of an allotment meets the rows of a walk, and its form is at least the worth.
use Rattle.std.proofs.Common.{◌≡◌, ℕ, zero, suc, ◌+◌, ◌*◌, ◌/◌, ◌≤◌, ◌==◌, min, Bool, true, false, cond, nat_le, List, [], ◌∷◌, ◌++◌, length, map, refl, sym, ap, ◌∙◌, subst, arith, le_trans, inl, inr}
use Rattle.std.proofs.Math.Nat.{mul-zero, mul-le-mul_left}
use Rattle.std.specs.Prelude.{if◌then◌else◌}
use Rattle.std.proofs.lemmas.List.{length-map, length-append}
use Rattle.std.proofs.lemmas.List.Elements.{Contains-append_left, Contains-append_right}
use Rattle.std.proofs.lemmas.Bool.Decides.{nat_tests}
use Rattle.tetri_strl.specs.declared.expr.Leaf.{Leaf}
use Rattle.tetri_strl.specs.Aligned.{EachLeaf, EachLeafOf}
use Rattle.tetri_strl.specs.Thrifty.{IsBare, AtMostOne, IsThrifty, AreThrifty}
use Rattle.tetri_strl.specs.Tree.{Operator, greatest, least, added, Tree, one, join, scale, barrier, Trees, none, more}
use Rattle.tetri_strl.specs.Tree.{numbers, numbers_of}
use Rattle.tetri_strl.specs.WellMade.{IsGoodLeaf}
use Rattle.tetri_strl.specs.Worth.{worth_at, joined, greatest_of, least_of, least_from, added_of, worth_by, worths_by}
use Rattle.tetri_strl.proofs.ExprLaws.{worth_at-none, worth_at_le, worth_by-le, EachLeaf-both}
use Rattle.tetri_compile.specs.Marks.{mark, own_values, values, values_of}
use Rattle.tetri_base.specs.Lists.{sum_of}
use Rattle.tetri_compile.specs.Forms.{share, at_point, run, limit, AreMet, Reads}
use Rattle.tetri_compile.specs.Walk.{ones, best, own_uppers, uppers, uppers_of, width, form, forms, rows, rows_of, rows_under}
use Rattle.tetri_compile.proofs.FormLemmas.{at_point-append, at_point-times, at_point-run, run-reads, Reads-split, AreMet-append}

pub mark-le : (n : ℕ) → mark n ≤ 1
mark-le zero = omega arith
mark-le (suc n) = omega arith

pub same_mark : (m n : ℕ) → (m ≡ 0 → n ≡ 0) → (n ≡ 0 → m ≡ 0) → mark m ≡ mark n
same_mark zero zero p q = refl
same_mark zero (suc n) p q = absurd (omega (arith, p refl))
same_mark (suc m) zero p q = absurd (omega (arith, q refl))
same_mark (suc m) (suc n) p q = refl

abbrev AreZero : List ℕ → Type 0
AreZero [] = Unit {0}
AreZero (x ∷ xs) = (x ≡ 0) × AreZero xs

least_zero : (m : ℕ) (xs : List ℕ) → m ≡ 0 → least_from m xs ≡ 0
least_zero m [] e = e
least_zero m (x ∷ xs) e = least_zero (min m x) xs (omega arith)

joined_zero : (op : Operator) (xs : List ℕ) → AreZero xs → joined op xs ≡ 0
joined_zero greatest [] h = refl
joined_zero greatest (x ∷ xs) h = omega (arith, h.0, joined_zero greatest xs h.1)
joined_zero least [] h = refl
joined_zero least (x ∷ xs) h = least_zero x xs h.0
joined_zero added [] h = refl
joined_zero added (x ∷ xs) h = omega (arith, h.0, joined_zero added xs h.1)

marks_zero : (xs : List ℕ) → AreZero xs → sum_of mark xs ≡ 0
marks_zero [] h = refl
marks_zero (x ∷ xs) h = omega (arith, ap mark h.0, marks_zero xs h.1)

marks_le : (xs : List ℕ) → sum_of mark xs ≤ length xs
marks_le [] = omega arith
marks_le (x ∷ xs) = omega (arith, mark-le x, marks_le xs)

greatest_le_added : (xs : List ℕ) → greatest_of xs ≤ added_of xs
greatest_le_added [] = omega arith
greatest_le_added (x ∷ xs) = omega (arith, greatest_le_added xs)

-- the number is at most each of these
abbrev pub IsBelowEach : ℕ → List ℕ → Type 0
IsBelowEach m [] = Unit {0}
IsBelowEach m (x ∷ xs) = (m ≤ x) × IsBelowEach m xs

below_more : (m n : ℕ) (xs : List ℕ) → m ≤ n → IsBelowEach n xs → IsBelowEach m xs
below_more m n [] le h = tt
below_more m n (x ∷ xs) le h = (le_trans le h.0, below_more m n xs le h.1)

least_from_le : (m : ℕ) (xs : List ℕ) → (least_from m xs ≤ m) × IsBelowEach (least_from m xs) xs
least_from_le m [] = (omega arith, tt)
least_from_le m (x ∷ xs) =
    let rest = least_from_le (min m x) xs in
    (omega (arith, rest.0), (omega (arith, rest.0), rest.1))

pub least_below : (xs : List ℕ) → IsBelowEach (least_of xs) xs
least_below [] = tt
least_below (x ∷ xs) = least_from_le x xs

-- a number that is 0 where the other is, and at most k
under_mark : (w m k y : ℕ) → y ≡ mark w → (w ≡ 0 → m ≡ 0) → m ≤ k → m ≤ k * y + 0 + 0
under_mark zero m k y e p le = rw (e, p refl) (omega arith)
under_mark (suc w) m k y e p le = rw e (omega arith)

over_mark : (w k y : ℕ) → y ≡ mark w → k * y + 0 ≤ k
over_mark zero k y e = rw e (omega arith)
over_mark (suc w) k y e = rw e (omega arith)

itself_mark : (w y : ℕ) → y ≡ mark w → w ≤ w * y + 0
itself_mark zero y e = omega arith
itself_mark (suc w) y e = rw e (omega arith)

run-marks : (x : ℕ → ℕ) (value : Leaf → ℕ) (n : ℕ) (ts : Trees) → Reads x n (map mark (worths_by value ts)) → at_point x (run 1 n (ones ts)) ≡ sum_of mark (worths_by value ts)
run-marks x value n none h = refl
run-marks x value n (more t ts) h = omega (arith, h.0, run-marks x value (n + 1) ts h.1)

eq_from_test : (m n : ℕ) → (m == n) ≡ true → m ≡ n
eq_from_test m n e = grind (arith, nat_tests)

-- what a least adds to the form: nothing where the best of it is 0
least_form : (x : ℕ → ℕ) (n w b : ℕ) → w ≤ b → x n ≡ w → w ≤ at_point x (if b == 0 then [] else (share n 1 ∷ []))
least_form x n w b le e = by_test (b == 0) (λ t. eq_from_test b 0 t)
  where
    by_test : (t : Bool) → (t ≡ true → b ≡ 0) → w ≤ at_point x (cond t [] (share n 1 ∷ []))
    by_test true p = omega (arith, p refl)
    by_test false p = omega arith

barred_some : (v w : ℕ) → cond (nat_le v w) v 0 ≤ w
barred_some v w = grind (arith, nat_tests)

barred_of_zero : (v w : ℕ) → w ≡ 0 → cond (nat_le v w) v 0 ≡ 0
barred_of_zero v w e = grind (arith, nat_tests)

-- the row and the form of a bar
bar_row : (v w f y : ℕ) → w ≤ f → y ≡ mark (cond (nat_le v w) v 0) → (v * y + 0 ≤ f + 0) × (cond (nat_le v w) v 0 ≤ v * y + 0)
bar_row v w f y le e = by_test (nat_le v w) (λ t. le_from_test v w t) e
  where
    le_from_test : (m n : ℕ) → nat_le m n ≡ true → m ≤ n
    le_from_test m n t = grind (arith, nat_tests)

    by_test : (t : Bool) → (t ≡ true → v ≤ w) → y ≡ mark (cond t v 0) → (v * y + 0 ≤ f + 0) × (cond t v 0 ≤ v * y + 0)
    by_test true p e = (omega (arith, over_mark v v y e, p refl), itself_mark v y e)
    by_test false p e = (rw e (omega arith), omega arith)

barred_zero : (v w : ℕ) → w ≡ 0 → cond (nat_le v w) v 0 ≡ 0
barred_zero v w e = grind (arith, nat_tests)

module _ (inside : ℕ → List ℕ) (usable : ℕ → Leaf → ℕ) (value : Leaf → ℕ) (taken : Leaf → ℕ → ℕ) (held : List ℕ) where
  -- what an allotment gives to a leaf
  pub record IsRight (l : Leaf) : Type 0 where
    pub good : IsGoodLeaf l
    pub few : sum_of (taken l) (inside l.set) ≤ l.k
    pub worth : value l ≡ worth_at l (sum_of (taken l) (inside l.set))
    pub bare : IsBare value held (l.num ∷ []) → sum_of (taken l) (inside l.set) ≡ 0

  left_bare : (xs ys : List ℕ) → IsBare value held (xs ++ ys) → IsBare value held xs
  left_bare xs ys h n at = h n (Contains-append_left xs ys n at)

  right_bare : (xs ys : List ℕ) → IsBare value held (xs ++ ys) → IsBare value held ys
  right_bare xs ys h n at = h n (Contains-append_right xs ys n at)

  mutual
    -- a tree without grants is worth nothing
    bare_worth : (t : Tree) → EachLeaf IsRight t → IsBare value held (numbers t) → worth_by value t ≡ 0
    bare_worth (one l) h b = h.worth ∙ ap (worth_at l) (h.bare b) ∙ worth_at-none l h.good
    bare_worth (join op ts) h b = joined_zero op (worths_by value ts) (bare_worths ts h b)
    bare_worth (scale t s) h b = ap (λ w. s * w) (bare_worth t h b) ∙ mul-zero s
    bare_worth (barrier t v) h b = barred_zero v (worth_by value t) (bare_worth t h b)

    bare_worths : (ts : Trees) → EachLeafOf IsRight ts → IsBare value held (numbers_of ts) → AreZero (worths_by value ts)
    bare_worths none h b = tt
    bare_worths (more t ts) h b =
        (bare_worth t h.0 (left_bare (numbers t) (numbers_of ts) b), bare_worths ts h.1 (right_bare (numbers t) (numbers_of ts) b))

  pub worth_le_best : (t : Tree) → EachLeaf IsRight t → worth_by value t ≤ best t
  worth_le_best t h =
      worth_by-le value (λ l. l.v) t
      (EachLeaf-both IsRight IsRight (λ l. value l ≤ l.v) (λ l p q. rw p.worth (worth_at_le l _ p.good)) t h h)

  marks_one : (ts : Trees) → EachLeafOf IsRight ts → AtMostOne value held ts → sum_of mark (worths_by value ts) ≤ 1
  marks_one none h few = omega arith
  marks_one (more t ts) h (inl p) = omega (arith, ap mark (bare_worth t h.0 p.0), marks_one ts h.1 p.1)
  marks_one (more t ts) h (inr p) = omega (arith, mark-le (worth_by value t), marks_zero (worths_by value ts) (bare_worths ts h.1 p))

  pub length-marks : (ts : Trees) → length (map mark (worths_by value ts)) ≡ length (ones ts)
  length-marks none = refl
  length-marks (more t ts) = ap suc (length-marks ts)

  pub length-own : (op : Operator) (ts : Trees) → length (own_values inside value taken op ts) ≡ length (own_uppers inside usable op ts)
  length-own greatest ts = length-marks ts
  length-own least ts = refl
  length-own added ts = length-marks ts

  mutual
    pub length-values : (t : Tree) → length (values inside value taken t) ≡ width inside usable t
    length-values (one l) = length-map (inside l.set) (taken l) ∙ sym (length-map (inside l.set) (λ p. min l.k (usable p l)))
    length-values (join op ts) =
        length-append (own_values inside value taken op ts) (values_of inside value taken ts)
        ∙ ap (λ n. n + length (values_of inside value taken ts)) (length-own op ts)
        ∙ ap (λ n. length (own_uppers inside usable op ts) + n) (length-values_of ts)
        ∙ sym (length-append (own_uppers inside usable op ts) (uppers_of inside usable ts))
    length-values (scale t s) = length-values t
    length-values (barrier t v) = length-values t

    pub length-values_of : (ts : Trees) → length (values_of inside value taken ts) ≡ length (uppers_of inside usable ts)
    length-values_of none = refl
    length-values_of (more t ts) =
        length-append (values inside value taken t) (values_of inside value taken ts)
        ∙ ap (λ n. n + length (values_of inside value taken ts)) (length-values t)
        ∙ ap (λ n. width inside usable t + n) (length-values_of ts)
        ∙ sym (length-append (uppers inside usable t) (uppers_of inside usable ts))

  module _ (x : ℕ → ℕ) where
    abbrev Holds : Tree → ℕ → ℕ → Type 0
    Holds t i n = AreMet x (rows inside usable t i n) × (worth_by value t ≤ at_point x (form inside usable t i n))

    gang_rows : (l : Leaf) (i n w g : ℕ) (linear same : Bool) → (same ≡ true → g ≡ l.k) → (w ≡ 0 → g ≡ 0) →
        w ≡ cond linear (l.v / l.k * min l.k g) (cond same l.v 0) → g ≤ l.k → at_point x (run 1 n (inside l.set)) ≡ g → x i ≡ mark w →
        AreMet x (limit (run 1 n (inside l.set)) (share i l.k ∷ []) ∷ cond linear [] (limit (share i l.k ∷ []) (run 1 n (inside l.set)) ∷ [])) ×
        (w ≤ at_point x (cond linear (run (l.v / l.k) n (inside l.set)) (share i l.v ∷ [])))
    gang_rows l i n w g true same k bare e few counted at =
        let short : min l.k g ≡ g = omega arith in (
          (omega (arith, under_mark w g l.k (x i) at bare few), tt),
          omega (arith, at_point-run x (l.v / l.k) n (inside l.set), ap (λ m. l.v / l.k * m) counted, e ∙ ap (λ m. l.v / l.k * m) short),
        )
    gang_rows l i n w g false true k bare e few counted at = (
      (omega (arith, under_mark w g l.k (x i) at bare few), (omega (arith, over_mark w l.k (x i) at, k refl), tt)),
      subst (λ v. w ≤ v * x i + 0) e (itself_mark w (x i) at),
    )
    gang_rows l i n w g false false k bare e few counted at =
        let zero_marked : x i ≡ 0 = at ∙ ap mark e in (
          (omega (arith, under_mark w g l.k (x i) at bare few), (subst (λ y. l.k * y + 0 ≤ at_point x (run 1 n (inside l.set)) + 0) (sym zero_marked) (omega arith), tt)),
          omega arith,
        )

    mutual
      pub hold : (t : Tree) → EachLeaf IsRight t → IsThrifty value held t → (i n : ℕ) → x i ≡ mark (worth_by value t) → Reads x n (values inside value taken t) → Holds t i n
      hold (one l) h thrifty i n at reads =
          gang_rows l i n (value l) (sum_of (taken l) (inside l.set)) l.linear (sum_of (taken l) (inside l.set) == l.k)
          (λ e. eq_from_test _ _ e) (λ e. h.bare (thrifty e)) h.worth h.few (run-reads x (taken l) n (inside l.set) reads) at
      hold (join greatest ts) h thrifty i n at reads =
          let parts = Reads-split x n (length (ones ts)) (own_values inside value taken greatest ts) (values_of inside value taken ts) (length-own greatest ts) reads in
          let below = hold_of ts h thrifty.2 n (n + length (ones ts)) parts.0 parts.1 in
          let ws = worths_by value ts in
          let row = under_mark (greatest_of ws) (sum_of mark ws) 1 (x i) at (λ e. marks_zero ws (bare_worths ts h (thrifty.0 e))) (marks_one ts h thrifty.1) in
          ((omega (arith, row, run-marks x value n ts parts.0), below.0), omega (arith, below.1, greatest_le_added ws))
      hold (join least ts) h thrifty i n at reads = (
        hold_under ts h thrifty.2 (least_of (worths_by value ts)) (least_below (worths_by value ts)) thrifty.0 i n (n + 1) at reads.0 reads.1,
        least_form x n (least_of (worths_by value ts)) (best (join least ts)) (worth_le_best (join least ts) h) reads.0,
      )
      hold (join added ts) h thrifty i n at reads =
          let parts = Reads-split x n (length (ones ts)) (own_values inside value taken added ts) (values_of inside value taken ts) (length-own added ts) reads in
          let below = hold_of ts h thrifty.2 n (n + length (ones ts)) parts.0 parts.1 in
          let ws = worths_by value ts in
          let many : sum_of mark ws ≤ length (ones ts) = omega (arith, marks_le ws, sym (length-map ws mark) ∙ length-marks ts) in
          let row = under_mark (added_of ws) (sum_of mark ws) (length (ones ts)) (x i) at (λ e. marks_zero ws (bare_worths ts h (thrifty.0 e))) many in
          ((omega (arith, row, run-marks x value n ts parts.0), below.0), below.1)
      hold (scale t s) h thrifty i n at reads =
          let w = worth_by value t in
          let same = same_mark (s * w) w (λ e. bare_worth t h (thrifty.0 e)) (λ e. ap (λ m. s * m) e ∙ mul-zero s) in
          let below = hold t h thrifty.1 i n (at ∙ same) reads in
          (below.0, omega (arith, at_point-times x s (form inside usable t i n), mul-le-mul_left s below.1))
      hold (barrier t v) h thrifty i n at reads =
          let w = worth_by value t in
          let same = same_mark (worth_by value (barrier t v)) w (λ e. bare_worth t h (thrifty.0 e)) (λ e. barred_of_zero v w e) in
          let below = hold t h thrifty.1 i n (at ∙ same) reads in
          let bar = bar_row v w (at_point x (form inside usable t i n)) (x i) below.1 at in
          (AreMet-append x _ _ below.0 (bar.0, tt), bar.1)

      hold_of : (ts : Trees) → EachLeafOf IsRight ts → AreThrifty value held ts → (j n : ℕ) → Reads x j (map mark (worths_by value ts)) →
          Reads x n (values_of inside value taken ts) →
          AreMet x (rows_of inside usable ts j n) × (added_of (worths_by value ts) ≤ at_point x (forms inside usable ts j n))
      hold_of none h thrifty j n marks reads = (tt, omega arith)
      hold_of (more t ts) h thrifty j n marks reads =
          let parts = Reads-split x n (width inside usable t) (values inside value taken t) (values_of inside value taken ts) (length-values t) reads in
          let here = hold t h.0 thrifty.0 j n marks.0 parts.0 in
          let rest = hold_of ts h.1 thrifty.1 (j + 1) (n + width inside usable t) marks.1 parts.1 in (
            AreMet-append x _ _ here.0 rest.0,
            omega (arith, here.1, rest.1, at_point-append x (form inside usable t j n) (forms inside usable ts (j + 1) (n + width inside usable t))),
          )

      hold_under : (ts : Trees) → EachLeafOf IsRight ts → AreThrifty value held ts → (low : ℕ) → IsBelowEach low (worths_by value ts) →
          (low ≡ 0 → IsBare value held (numbers_of ts)) → (i c n : ℕ) → x i ≡ mark low → x c ≡ low → Reads x n (values_of inside value taken ts) →
          AreMet x (rows_under inside usable ts i c n)
      hold_under none h thrifty low floor bare i c n at own reads = tt
      hold_under (more t ts) h thrifty low floor bare i c n at own reads =
          let parts = Reads-split x n (width inside usable t) (values inside value taken t) (values_of inside value taken ts) (length-values t) reads in
          let worthless : low ≡ 0 → worth_by value t ≡ 0 = λ e. bare_worth t h.0 (left_bare (numbers t) (numbers_of ts) (bare e)) in
          let here = hold t h.0 thrifty.0 i n (at ∙ same_mark low (worth_by value t) worthless (λ e. omega (arith, floor.0))) parts.0 in
          let rest = hold_under ts h.1 thrifty.1 low floor.1 (λ e. right_bare (numbers t) (numbers_of ts) (bare e)) i c (n + width inside usable t) at own parts.1 in
          AreMet-append x _ _ here.0 (omega (arith, here.1, floor.0), rest)
