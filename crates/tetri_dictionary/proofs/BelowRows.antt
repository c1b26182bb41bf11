-- Which rows have a constant below 0, row by row.
use Rattle.std.proofs.Common.{◌≡◌, ℕ, ◌+◌, ◌<◌, ◌≤◌, sym, ap, ◌∙◌, subst, List, [], ◌∷◌, ◌++◌, length, get_or, set, drop, take, Bool, cond, Option}
use Rattle.std.proofs.lemmas.List.{length-map, map-set, get_or-map, take_more, take_all}
use Rattle.tetri_algebra.specs.Rational.{ℚ}
use Rattle.tetri_algebra.specs.RationalRing.{zero_ℚ}
use Rattle.tetri_dictionary.specs.declared.mixed.MixedRow.{MixedRow}
use Rattle.tetri_dictionary.specs.Below.{below_of}
use Rattle.tetri_dictionary.specs.Choices.{lesser_place, leaving_from}
use Rattle.tetri_dictionary.specs.Mixed.{mixed_row, mixed_rows}
use Rattle.tetri_dictionary.specs.Tables.{constant_of, is_negative}
use Rattle.tetri_dictionary.proofs.Choosing.{leaving_more}
use Rattle.tetri_dictionary.proofs.MixedPivots.{mixed_read}

pub below_length : (rows : List MixedRow) → length (below_of (mixed_rows rows)) ≡ length rows
below_length rows = length-map (mixed_rows rows) (λ (row : List ℚ). is_negative (constant_of row)) ∙ length-map rows mixed_row

-- one row is written
pub below_set : (bs after_bs : List Bool) (rows after : List MixedRow) (k : ℕ) (b : Bool) (row : MixedRow) → bs ≡ below_of (mixed_rows rows) → after_bs ≡ set bs k b → after ≡ set rows k row → b ≡ is_negative (get_or (mixed_row row) 0 zero_ℚ) → after_bs ≡ below_of (mixed_rows after)
below_set bs after_bs rows after k b row h be re e =
    let f : List ℚ → Bool = λ (us : List ℚ). is_negative (constant_of us) in
    be ∙ ap (λ (cs : List Bool). set cs k b) h ∙ ap (λ c. set (below_of (mixed_rows rows)) k c) e
    ∙ sym (ap (λ (us : List MixedRow). below_of (mixed_rows us)) re ∙ ap below_of (map-set mixed_row rows k row) ∙ map-set f (mixed_rows rows) k (mixed_row row))

-- ---- leaving
pub leaving_step : (vs : List ℕ) (k : ℕ) (bs : List Bool) (rows : List (List ℚ)) (best : Option ℕ) (t d : Bool) → k < length vs → k < length bs → bs ≡ below_of rows → get_or bs k d ≡ t →
    leaving_from vs (k + 1) (drop (k + 1) vs) (drop (k + 1) rows) (cond t (lesser_place vs best k) best) ≡ leaving_from vs k (drop k vs) (drop k rows) best
leaving_step vs k bs rows best t d h g e b =
    let f : List ℚ → Bool = λ (us : List ℚ). is_negative (constant_of us) in
    let m : k < length rows = subst (λ z. k < z) (ap length e ∙ length-map rows f) g in
    let s : is_negative (constant_of (get_or rows k [])) ≡ t = sym (get_or-map f rows k [] d m) ∙ ap (λ (cs : List Bool). get_or cs k d) (sym e) ∙ b in
    ap (λ z. leaving_from vs (k + 1) (drop (k + 1) vs) (drop (k + 1) rows) (cond z (lesser_place vs best k) best)) (sym s)
    ∙ sym (leaving_more vs k rows best h m)

-- ---- the first rows
pub below_next : (rows : List MixedRow) (k : ℕ) (bs made : List Bool) (r : MixedRow) (b : Bool) → k < length rows → r ≡ get_or rows k r → made ≡ bs ++ (b ∷ []) → b ≡ is_negative (get_or (mixed_row r) 0 zero_ℚ) →
    bs ≡ take k (below_of (mixed_rows rows)) → made ≡ take (k + 1) (below_of (mixed_rows rows))
below_next rows k bs made r b l re me be e =
    let f : List ℚ → Bool = λ (us : List ℚ). is_negative (constant_of us) in
    let m : k < length (mixed_rows rows) = subst (λ z. k < z) (sym (length-map rows mixed_row)) l in
    let n : k < length (below_of (mixed_rows rows)) = subst (λ z. k < z) (sym (below_length rows)) l in
    me ∙ ap (λ (cs : List Bool). cs ++ (b ∷ [])) e ∙ ap (λ c. take k (below_of (mixed_rows rows)) ++ (c ∷ [])) (be ∙ sym (get_or-map f (mixed_rows rows) k [] b m ∙ ap f (mixed_read rows k r l re)))
    ∙ sym (take_more (below_of (mixed_rows rows)) k b n)

pub below_done : (rows : List MixedRow) (k : ℕ) (bs : List Bool) → length rows ≤ k → bs ≡ take k (below_of (mixed_rows rows)) → bs ≡ below_of (mixed_rows rows)
below_done rows k bs h e = e ∙ take_all k (below_of (mixed_rows rows)) (subst (λ z. z ≤ k) (sym (below_length rows)) h)
