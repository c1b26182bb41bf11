-- The first kept rows of the first dictionary, which are the slacks of the program's rows.
use Rattle.std.proofs.Common.{◌≡◌, ℕ, ◌+◌, ◌<◌, ◌≤◌, refl, sym, ap, ◌∙◌, subst, arith, List, [], ◌∷◌, ◌++◌, length, get_or, map, take, drop}
use Prim.Native.Nat.{zero, suc}
use Rattle.std.proofs.lemmas.List.{get_or-take, length-map, length-take, take-map}
use Rattle.std.proofs.Math.Seq.{take-append_seam}
use Rattle.std.proofs.lemmas.Int.{ints}
use lib.IntN.{ℤ, pos, ◌*ℤ◌, neg_ℤ}
use Rattle.tetri_algebra.specs.Rational.{ℚ, whole_ℚ}
use Rattle.tetri_algebra.specs.RationalRing.{zero_ℚ}
use Rattle.tetri_ip.specs.declared.programs.Row.{Row}
use Rattle.tetri_ip.specs.declared.programs.Term.{Term}
use Rattle.tetri_ip.specs.Points.{coefficient, terms_of}
use Rattle.tetri_dictionary.specs.declared.mixed.MixedRow.{MixedRow}
use Rattle.tetri_dictionary.specs.Holders.{number_in}
use Rattle.tetri_dictionary.specs.Mixed.{mixed_row, mixed_rows}
use Rattle.tetri_dictionary.specs.Start.{direction, slack_from, slack_row}
use Rattle.tetri_dictionary.proofs.FirstTable.{wholes}

-- the front of a front
pub front_of_front : {A : Type 0} → (xs ys zs : List A) → take (length xs) ys ≡ xs → take (length ys) zs ≡ ys → take (length xs) zs ≡ xs
front_of_front [] ys zs h g = refl
front_of_front (x ∷ xs) [] zs h g = absurd (omega (arith, ap length h))
front_of_front (x ∷ xs) (y ∷ ys) [] h g = absurd (omega (arith, ap length g))
front_of_front (x ∷ xs) (y ∷ ys) (z ∷ zs) h g =
    ap (λ u. u ∷ take (length xs) zs) (ap (λ us. get_or us 0 x) g ∙ ap (λ us. get_or us 0 x) h)
    ∙ ap (λ us. x ∷ us) (front_of_front xs ys zs (ap (λ us. drop 1 us) h) (ap (λ us. drop 1 us) g))

-- the front before one more row is kept behind
pub kept_front : {A : Type 0} → (xs ys zs us : List A) (u : A) → take (length xs) ys ≡ xs → zs ≡ ys ++ (u ∷ []) → us ≡ zs → take (length xs) us ≡ xs
kept_front xs ys zs us u h e f = front_of_front xs ys us h (ap (λ vs. take (length ys) vs) (f ∙ e) ∙ take-append_seam ys (u ∷ []))

-- a slack has 0 at a column that its row has not
slack_absent : (ts : List Term) (i : ℕ) (cs : List ℤ) (j : ℕ) → coefficient ts (i + j) ≡ pos 0 → get_or (map whole_ℚ (slack_from ts i cs)) j zero_ℚ ≡ zero_ℚ
slack_absent ts i [] j e = refl
slack_absent ts i (c ∷ cs) zero e = let z : i ≡ i + 0 = omega arith in ap whole_ℚ (ap (λ x. neg_ℤ (x *ℤ direction c)) (ap (coefficient ts) z ∙ e) ∙ nothing (direction c))
  where
    nothing : (d : ℤ) → neg_ℤ (pos 0 *ℤ d) ≡ pos 0
    nothing d = omega (arith, ints)
slack_absent ts i (c ∷ cs) (suc j) e = let z : (i + 1) + j ≡ i + suc j = omega arith in slack_absent ts (i + 1) cs j (ap (coefficient ts) z ∙ e)

slacks_absent : (cs start : List ℤ) (rows : List Row) (j k : ℕ) → coefficient (terms_of rows k) j ≡ pos 0 → number_in (wholes (map (slack_row cs start) rows)) k j ≡ zero_ℚ
slacks_absent cs start [] j k e = refl
slacks_absent cs start (r ∷ rows) j zero e = let z : 0 + j ≡ j = omega arith in slack_absent r.terms.items 0 cs j (ap (coefficient r.terms.items) z ∙ e)
slacks_absent cs start (r ∷ rows) j (suc k) e = slacks_absent cs start rows j k e

slacks_count : (cs start : List ℤ) (rows : List Row) (slacks : List MixedRow) → mixed_rows slacks ≡ wholes (map (slack_row cs start) rows) → length slacks ≡ length rows
slacks_count cs start rows slacks e = sym (length-map slacks mixed_row) ∙ ap length e ∙ length-map (map (slack_row cs start) rows) (map whole_ℚ) ∙ length-map rows (slack_row cs start)

-- kept rows that begin with the slacks
pub slacks_among : (cs start : List ℤ) (rows : List Row) (slacks kept : List MixedRow) → mixed_rows slacks ≡ wholes (map (slack_row cs start) rows) → take (length slacks) kept ≡ slacks → length rows ≤ length kept
slacks_among cs start rows slacks kept e f =
    let n = slacks_count cs start rows slacks e in
    let m = length-take (length slacks) kept in
    omega (arith, n, m, ap length f)

pub slacks_held : (cs start : List ℤ) (rows : List Row) (slacks kept : List MixedRow) → mixed_rows slacks ≡ wholes (map (slack_row cs start) rows) → take (length slacks) kept ≡ slacks →
    (j k : ℕ) → k < length rows → coefficient (terms_of rows k) j ≡ pos 0 → number_in (mixed_rows kept) k j ≡ zero_ℚ
slacks_held cs start rows slacks kept e f j k l z =
    ap (λ (us : List ℚ). get_or us (suc j) zero_ℚ)
    (sym (get_or-take (length slacks) (mixed_rows kept) k [] (subst (λ n. k < n) (sym (slacks_count cs start rows slacks e)) l))
    ∙ ap (λ (us : List (List ℚ)). get_or us k []) (take-map mixed_row (length slacks) kept ∙ ap mixed_rows f ∙ e))
    ∙ slacks_absent cs start rows j k z
