-- The choices over rows of whole numbers and rows of fractions.
use Rattle.std.proofs.Common.{◌≡◌, ℕ, ◌+◌, ◌<◌, ◌≤◌, refl, sym, ap, ◌∙◌, subst, arith, List, [], ◌∷◌, length, get_or, drop, Bool, true, false, cond, Option, Some, None, Result, Ok, Err, IfSome, ◌⊎◌, inl, inr, drop-cons}
use Prim.Native.Nat.{suc}
use Rattle.std.proofs.lemmas.List.{length-map}
use Rattle.tetri_algebra.specs.Rational.{ℚ}
use Rattle.tetri_algebra.specs.RationalRing.{zero_ℚ, neg_ℚ}
use Rattle.tetri_num.specs.declared.places.Kind.TheVariants as Kind
use Rattle.tetri_num.specs.declared.places.Place.{Place}
use Rattle.tetri_num.specs.Checked.{checked_quotient}
use Rattle.tetri_dictionary.specs.declared.choices.Candidate.{Candidate}
use Rattle.tetri_dictionary.specs.declared.mixed.MixedRow.{MixedRow}
use Rattle.tetri_dictionary.specs.Candidates.{IsCandidate}
use Rattle.tetri_dictionary.specs.Choices.{lesser_place, leaving_from, lesser_ratio, entering_from, has_positive}
use Rattle.tetri_dictionary.specs.Mixed.{mixed_row, mixed_rows}
use Rattle.tetri_dictionary.specs.Steps.{place_at, or_place}
use Rattle.tetri_base.specs.ResultSteps.{then_ok}
use Rattle.tetri_dictionary.specs.Tables.{coefficients_of, constant_of, is_negative, is_positive}
use Rattle.tetri_dictionary.proofs.Choosing.{leaving_more, entering_more, coefficient_at}
use Rattle.tetri_dictionary.proofs.Forming.{drop_past}
use Rattle.tetri_dictionary.proofs.MixedPivots.{mixed_read}

behind : (j : ℕ) → j + 1 ≡ suc j
behind j = omega arith

-- ---- leaving
pub leaving_next : (vs : List ℕ) (k : ℕ) (rows : List MixedRow) (best : Option ℕ) (r : MixedRow) (t : Bool) → k < length vs → k < length rows → r ≡ get_or rows k r → is_negative (get_or (mixed_row r) 0 zero_ℚ) ≡ t →
    leaving_from vs (k + 1) (drop (k + 1) vs) (drop (k + 1) (mixed_rows rows)) (cond t (lesser_place vs best k) best) ≡ leaving_from vs k (drop k vs) (drop k (mixed_rows rows)) best
leaving_next vs k rows best r t h g e b =
    let s : is_negative (constant_of (get_or (mixed_rows rows) k [])) ≡ t = ap (λ z. is_negative (constant_of z)) (mixed_read rows k r g e) ∙ b in
    ap (λ z. leaving_from vs (k + 1) (drop (k + 1) vs) (drop (k + 1) (mixed_rows rows)) (cond z (lesser_place vs best k) best)) (sym s)
    ∙ sym (leaving_more vs k (mixed_rows rows) best h (subst (λ m. k < m) (sym (length-map rows mixed_row)) g))

-- ---- a coefficient above 0
within_row : (xs : List ℚ) (n j : ℕ) → length xs ≡ n + 1 → j < n → j < length (coefficients_of xs)
within_row [] n j e h = absurd (omega arith)
within_row (x ∷ xs) n j e h = omega arith

past_row : (xs : List ℚ) (n j : ℕ) → length xs ≡ n + 1 → n ≤ j → length (coefficients_of xs) ≤ j
past_row [] n j e h = absurd (omega arith)
past_row (x ∷ xs) n j e h = omega arith

at_coefficient : (xs : List ℚ) (j : ℕ) → get_or (coefficients_of xs) j zero_ℚ ≡ get_or xs (j + 1) zero_ℚ
at_coefficient xs j = coefficient_at xs j ∙ ap (λ k. get_or xs k zero_ℚ) (sym (behind j))

pub positive_next : (xs : List ℚ) (n j : ℕ) (t : Bool) → length xs ≡ n + 1 → j < n → is_positive (get_or xs (j + 1) zero_ℚ) ≡ t →
    has_positive (drop j (coefficients_of xs)) ≡ cond t true (has_positive (drop (j + 1) (coefficients_of xs)))
positive_next xs n j t e h b =
    ap has_positive (drop-cons (coefficients_of xs) j zero_ℚ (within_row xs n j e h))
    ∙ ap (λ z. cond z true (has_positive (drop (suc j) (coefficients_of xs)))) (ap is_positive (at_coefficient xs j) ∙ b)
    ∙ ap (λ k. cond t true (has_positive (drop k (coefficients_of xs)))) (sym (behind j))

pub positive_init : (xs : List ℚ) → has_positive (drop 0 (coefficients_of xs)) ≡ has_positive (coefficients_of xs)
positive_init xs = refl

pub positive_done : (xs : List ℚ) (n j : ℕ) → length xs ≡ n + 1 → n ≤ j → has_positive (drop j (coefficients_of xs)) ≡ false
positive_done xs n j e h = ap has_positive (drop_past j (coefficients_of xs) (past_row xs n j e h))

-- ---- entering
abbrev pub rest_of : List ℕ → ℕ → List ℚ → List ℚ → ℕ → Option (ℕ × ℚ) → Result (Option (ℕ × ℚ)) Place
rest_of vs i xs ds j best = entering_from vs i j (drop j (coefficients_of xs)) (drop j (coefficients_of ds)) best

one_on : (vs : List ℕ) (i n j : ℕ) (xs ds : List ℚ) (best : Option (ℕ × ℚ)) (t : Bool) → length xs ≡ n + 1 → length ds ≡ n + 1 → j < n → is_positive (get_or xs (j + 1) zero_ℚ) ≡ t →
    rest_of vs i xs ds j best
    ≡ cond t (then_ok (or_place (checked_quotient (neg_ℚ (get_or ds (j + 1) zero_ℚ)) (get_or xs (j + 1) zero_ℚ)) Kind.Ratio i j) (λ x. rest_of vs i xs ds (j + 1) (lesser_ratio vs best j x))) (rest_of vs i xs ds (j + 1) best)
one_on vs i n j xs ds best t lx ld h b =
    let cs = coefficients_of xs in
    let us = coefficients_of ds in
    entering_more vs i j cs us best (within_row xs n j lx h) (within_row ds n j ld h)
    ∙ ap (λ z. cond (is_positive z) (then_ok (or_place (checked_quotient (neg_ℚ (get_or us j zero_ℚ)) z) Kind.Ratio i j) (λ x. rest_of vs i xs ds (j + 1) (lesser_ratio vs best j x))) (rest_of vs i xs ds (j + 1) best)) (at_coefficient xs j)
    ∙ ap (λ z. cond (is_positive (get_or xs (j + 1) zero_ℚ)) (then_ok (or_place (checked_quotient (neg_ℚ z) (get_or xs (j + 1) zero_ℚ)) Kind.Ratio i j) (λ x. rest_of vs i xs ds (j + 1) (lesser_ratio vs best j x))) (rest_of vs i xs ds (j + 1) best)) (at_coefficient ds j)
    ∙ ap (λ z. cond z (then_ok (or_place (checked_quotient (neg_ℚ (get_or ds (j + 1) zero_ℚ)) (get_or xs (j + 1) zero_ℚ)) Kind.Ratio i j) (λ x. rest_of vs i xs ds (j + 1) (lesser_ratio vs best j x))) (rest_of vs i xs ds (j + 1) best)) b

pub skipped : (vs : List ℕ) (i n j : ℕ) (xs ds : List ℚ) (best : Option (ℕ × ℚ)) → length xs ≡ n + 1 → length ds ≡ n + 1 → j < n → is_positive (get_or xs (j + 1) zero_ℚ) ≡ false → rest_of vs i xs ds (j + 1) best ≡ rest_of vs i xs ds j best
skipped vs i n j xs ds best lx ld h b = sym (one_on vs i n j xs ds best false lx ld h b)

weighed : (vs : List ℕ) (i n j : ℕ) (xs ds : List ℚ) (best : Option (ℕ × ℚ)) (a d neg : ℚ) (o : Option ℚ) → length xs ≡ n + 1 → length ds ≡ n + 1 → j < n → is_positive (get_or xs (j + 1) zero_ℚ) ≡ true → a ≡ get_or xs (j + 1) zero_ℚ → d ≡ get_or ds (j + 1) zero_ℚ → neg ≡ neg_ℚ d →
    checked_quotient neg a ≡ o → rest_of vs i xs ds j best ≡ then_ok (or_place o Kind.Ratio i j) (λ x. rest_of vs i xs ds (j + 1) (lesser_ratio vs best j x))
weighed vs i n j xs ds best a d neg o lx ld h b ae de ne q =
    let g : Option ℚ → Result (Option (ℕ × ℚ)) Place = λ p. then_ok (or_place p Kind.Ratio i j) (λ x. rest_of vs i xs ds (j + 1) (lesser_ratio vs best j x)) in
    one_on vs i n j xs ds best true lx ld h b
    ∙ ap g (ap (λ z. checked_quotient (neg_ℚ z) (get_or xs (j + 1) zero_ℚ)) (sym de) ∙ ap (λ z. checked_quotient z (get_or xs (j + 1) zero_ℚ)) (sym ne) ∙ ap (λ z. checked_quotient neg z) (sym ae) ∙ q)

pub taken : (vs : List ℕ) (i n j : ℕ) (xs ds : List ℚ) (best : Option (ℕ × ℚ)) (a d neg x : ℚ) → length xs ≡ n + 1 → length ds ≡ n + 1 → j < n → is_positive (get_or xs (j + 1) zero_ℚ) ≡ true → a ≡ get_or xs (j + 1) zero_ℚ → d ≡ get_or ds (j + 1) zero_ℚ → neg ≡ neg_ℚ d →
    checked_quotient neg a ≡ Some x → rest_of vs i xs ds (j + 1) (lesser_ratio vs best j x) ≡ rest_of vs i xs ds j best
taken vs i n j xs ds best a d neg x lx ld h b ae de ne q = sym (weighed vs i n j xs ds best a d neg (Some x) lx ld h b ae de ne q)

pub entering_init : (vs : List ℕ) (i : ℕ) (xs ds : List ℚ) → rest_of vs i xs ds 0 None ≡ entering_from vs i 0 (coefficients_of xs) (coefficients_of ds) None
entering_init vs i xs ds = refl

pub refused : (vs : List ℕ) (i n j : ℕ) (xs ds : List ℚ) (best : Option (ℕ × ℚ)) (a d neg : ℚ) → length xs ≡ n + 1 → length ds ≡ n + 1 → j < n → is_positive (get_or xs (j + 1) zero_ℚ) ≡ true → a ≡ get_or xs (j + 1) zero_ℚ → d ≡ get_or ds (j + 1) zero_ℚ → neg ≡ neg_ℚ d →
    checked_quotient neg a ≡ None → rest_of vs i xs ds j best ≡ Err (place_at Kind.Ratio i j)
refused vs i n j xs ds best a d neg lx ld h b ae de ne q = weighed vs i n j xs ds best a d neg None lx ld h b ae de ne q

pub entering_done : (vs : List ℕ) (i n j : ℕ) (xs ds : List ℚ) (best : Option (ℕ × ℚ)) → length xs ≡ n + 1 → n ≤ j → rest_of vs i xs ds j best ≡ Ok best
entering_done vs i n j xs ds best lx h = ap (λ us. entering_from vs i j us (drop j (coefficients_of ds)) best) (drop_past j (coefficients_of xs) (past_row xs n j lx h))

-- the candidate after a step
pub candidate_kept : (vs : List ℕ) (xs : List ℚ) (j : ℕ) (best after : Option Candidate) → j < length vs → is_positive (get_or xs (j + 1) zero_ℚ) ≡ true → IfSome best (λ b. IsCandidate vs xs b) → IfSome after (λ c. (c.place ≡ j) ⊎ (best ≡ Some c)) →
    IfSome after (λ b. IsCandidate vs xs b)
candidate_kept vs xs j best None h t k f = tt
candidate_kept vs xs j best (Some c) h t k f = by_side f
  where
    by_side : (c.place ≡ j) ⊎ (best ≡ Some c) → IsCandidate vs xs c
    by_side (inl e) = record { within = subst (λ z. z < length vs) (sym e) h; positive = ap (λ z. is_positive (get_or xs (suc z) zero_ℚ)) e ∙ ap (λ z. is_positive (get_or xs z zero_ℚ)) (sym (behind j)) ∙ t }
    by_side (inr e) = subst (λ o. IfSome o (λ b. IsCandidate vs xs b)) e k
