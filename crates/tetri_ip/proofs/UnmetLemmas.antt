-- One step of the search for a row that a point breaks, and its test.
use Rattle.std.proofs.Common.{◌≡◌, ℕ, ◌+◌, ◌<◌, refl, sym, ap, ◌∙◌, arith, List, ◌∷◌, length, get_or, drop, Bool, true, false, cond, Option, Some, None}
use Prim.Native.Nat.{suc}
use Rattle.std.specs.Prelude.{◌↔◌, IsTrue, is_some, not}
use Rattle.std.proofs.Math.Seq.{drop-cons}
use Rattle.std.proofs.lemmas.Bool.{false≢true}
use lib.IntN.{ℤ}
use lib.Signed.{lt_z}
use Rattle.tetri_ip.specs.declared.programs.Row.{Row}
use Rattle.tetri_ip.specs.Points.{MeetsRows, first_unmet_from, left_side}
use Rattle.tetri_ip.proofs.PointLemmas.{first_unmet_none, met_first_unmet}

pub unmet_step : (rows : List Row) (point : List ℤ) (i : ℕ) (r : Row) (side side' right' : ℤ) (t : Bool) → i < length rows → r ≡ get_or rows i r → side ≡ left_side r.terms.items point → side' ≡ side → right' ≡ r.right → lt_z right' side' ≡ t →
    first_unmet_from i (drop i rows) point ≡ cond t (Some i) (first_unmet_from (i + 1) (drop (i + 1) rows) point)
unmet_step rows point i r side side' right' t l e se se' re te =
    let s : suc i ≡ i + 1 = omega arith in
    let d : drop i rows ≡ r ∷ drop (i + 1) rows = drop-cons rows i r l ∙ ap (λ (x : Row). x ∷ drop (suc i) rows) (sym e) ∙ ap (λ k. r ∷ drop k rows) s in
    let f : lt_z r.right (left_side r.terms.items point) ≡ t = ap (λ z. lt_z z (left_side r.terms.items point)) (sym re) ∙ ap (λ z. lt_z right' z) (sym (se' ∙ se)) ∙ te in
    ap (λ xs. first_unmet_from i xs point) d ∙ ap (λ b. cond b (Some i) (first_unmet_from (i + 1) (drop (i + 1) rows) point)) f

pub none_is_met : (rows : List Row) (point : List ℤ) (o : Option ℕ) (t : Bool) → o ≡ first_unmet_from 0 rows point → is_some o ≡ not t → IsTrue t ↔ MeetsRows rows point
none_is_met rows point None true e f = (λ h. first_unmet_none 0 rows point (sym e), λ h. refl)
none_is_met rows point None false e f = absurd (false≢true f)
none_is_met rows point (Some i) true e f = absurd (false≢true (sym f))
none_is_met rows point (Some i) false e f = (λ h. absurd (false≢true h), λ h. let n = met_first_unmet 0 rows point h in cc)
