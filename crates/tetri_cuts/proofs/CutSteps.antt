-- The steps of the loops that form a cut.
use Rattle.std.proofs.Common.{◌≡◌, ℕ, ◌+◌, ◌<◌, ◌≤◌, refl, sym, ap, ◌∙◌, subst, arith, List, [], ◌∷◌, ◌++◌, length, get_or, drop, Option, Some, None, Bool, true, false, cond, ◌==◌}
use Prim.Native.Nat.{suc}
use Rattle.std.specs.Prelude.{unsigned_abs, is_none}
use Rattle.std.specs.Int.{int_div_euclid}
use Rattle.std.proofs.lemmas.Bool.{eqb-true}
use Rattle.std.proofs.lemmas.Int.{ints, fits_signed_from_abs, to_z-of_z, to_z_pos}
use Rattle.std.proofs.Math.Seq.{append_snoc}
use Rattle.std.proofs.lemmas.List.{append-nil, drop_all, drop_more}
use lib.IntN.{ℤ, pos, ◌+ℤ◌}
use mir.Val.{SFits, of_z, to_z}
use mir.Syntax.{w128}
use Rattle.tetri_ip.specs.declared.programs.Row.{Row}
use Rattle.tetri_ip.specs.declared.programs.Term.{Term}
use Rattle.tetri_ip.specs.declared.programs.Weight.{Weight}
use Rattle.tetri_ip.specs.Points.{right_of}
use Rattle.tetri_algebra.specs.Range.{IsWithin}
use Rattle.tetri_ip.specs.Weighed.{column_sum, right_sum}
use Rattle.tetri_ip.specs.Forming.{coefficients, form_sum}
use Rattle.tetri_ip.proofs.IntegerProgramLaws.{sum_is}
use Rattle.tetri_cuts.specs.Cuts.{past_from, quotients, sums_from, with_term}

-- ---- a sum that was formed
pub within_fits : (x : ℤ) → IsWithin x → SFits w128 x
within_fits x h = fits_signed_from_abs w128 x h

-- a number whose bits are 0
pub read_zero : (r : ℤ) → SFits w128 r → of_z w128 r ≡ 0 → r ≡ pos 0
read_zero r f e = sym (to_z-of_z w128 r f) ∙ ap (to_z w128) e ∙ to_z_pos w128 0 (omega arith)

-- a formed sum from 0, as the code reads it
pub record IsFormed (z s : ℤ) : Type 0 where
  pub is : z ≡ s
  pub within : IsWithin z

from_nothing : (z s : ℤ) → z ≡ pos 0 +ℤ s → z ≡ s
from_nothing z s e = omega (arith, ints)

zero_within : IsWithin (pos 0)
zero_within = omega arith

pub right_formed : (rows : List Row) (ws : List Weight) (x z : ℤ) → form_sum (right_of rows) ws (pos 0) ≡ Some x → (SFits w128 x → z ≡ x) → IsFormed z (right_sum rows ws)
right_formed rows ws x z e read =
    let f = sum_is (right_of rows) ws (pos 0) x zero_within e in
    let r = read (within_fits x f.1) in
    record { is = r ∙ from_nothing x _ f.0; within = subst IsWithin (sym r) f.1 }

pub column_formed : (rows : List Row) (j : ℕ) (ws : List Weight) (x z : ℤ) → form_sum (coefficients rows j) ws (pos 0) ≡ Some x → (SFits w128 x → z ≡ x) → IsFormed z (column_sum rows ws j)
column_formed rows j ws x z e read =
    let f = sum_is (coefficients rows j) ws (pos 0) x zero_within e in
    let r = read (within_fits x f.1) in
    record { is = r ∙ from_nothing x _ f.0; within = subst IsWithin (sym r) f.1 }

-- ---- the sums of the columns
pub sums_more : (rows : List Row) (ws : List Weight) (costs : List ℤ) (j : ℕ) (z : ℤ) (old new all : List ℤ) → j < length costs → new ≡ old ++ z ∷ [] → z ≡ column_sum rows ws j →
    old ++ sums_from rows ws j (drop j costs) ≡ all → new ++ sums_from rows ws (j + 1) (drop (j + 1) costs) ≡ all
sums_more rows ws costs j z old new all l pushed is so =
    let rest = sums_from rows ws (j + 1) (drop (j + 1) costs) in
    ap (λ v. v ++ rest) pushed ∙ append_snoc old z rest ∙ ap (λ y. old ++ (y ∷ rest)) is
    ∙ ap (λ v. old ++ sums_from rows ws j v) (sym (drop_more costs j (pos 0) l)) ∙ so

pub past_more : (rows : List Row) (ws : List Weight) (costs : List ℤ) (j : ℕ) (x : ℤ) → j < length costs → form_sum (coefficients rows j) ws (pos 0) ≡ Some x →
    past_from rows ws (j + 1) (drop (j + 1) costs) ≡ past_from rows ws j (drop j costs)
past_more rows ws costs j x l e =
    sym (ap (past_from rows ws j) (drop_more costs j (pos 0) l) ∙ ap (λ (o : Option ℤ). cond (is_none o) (Some j) (past_from rows ws (j + 1) (drop (j + 1) costs))) e)

pub past_here : (rows : List Row) (ws : List Weight) (costs : List ℤ) (j : ℕ) → j < length costs → form_sum (coefficients rows j) ws (pos 0) ≡ None → past_from rows ws j (drop j costs) ≡ Some j
past_here rows ws costs j l e =
    ap (past_from rows ws j) (drop_more costs j (pos 0) l) ∙ ap (λ (o : Option ℤ). cond (is_none o) (Some j) (past_from rows ws (j + 1) (drop (j + 1) costs))) e

pub length-sums_from : (rows : List Row) (ws : List Weight) (j : ℕ) (cs : List ℤ) → length (sums_from rows ws j cs) ≡ length cs
length-sums_from rows ws j [] = refl
length-sums_from rows ws j (c ∷ cs) = ap suc (length-sums_from rows ws (j + 1) cs)

-- ---- the quotients
module _ (q : ℤ) (ss : List ℤ) (j : ℕ) (by : ℤ) (old all : List Term) (l : j < length ss) (is : by ≡ int_div_euclid (get_or ss j (pos 0)) q)
    (so : old ++ quotients q j (drop j ss) ≡ all) where
  opened : old ++ with_term j by (quotients q (j + 1) (drop (j + 1) ss)) ≡ all
  opened =
      ap (λ y. old ++ with_term j y (quotients q (j + 1) (drop (j + 1) ss))) is
      ∙ ap (λ v. old ++ quotients q j v) (sym (drop_more ss j (pos 0) l)) ∙ so

  pub quotient_skip : by ≡ pos 0 → old ++ quotients q (j + 1) (drop (j + 1) ss) ≡ all
  quotient_skip e = ap (λ y. old ++ with_term j y (quotients q (j + 1) (drop (j + 1) ss))) (sym e) ∙ opened

  pub quotient_push : (new : List Term) → new ≡ old ++ record { column = j; by = by } ∷ [] → (by ≡ pos 0 → ⊥) → new ++ quotients q (j + 1) (drop (j + 1) ss) ≡ all
  quotient_push new pushed n =
      let rest = quotients q (j + 1) (drop (j + 1) ss) in
      ap (λ v. v ++ rest) pushed ∙ append_snoc old (record { column = j; by = by }) rest
      ∙ ap (λ v. old ++ v) (kept (unsigned_abs by == 0) refl) ∙ opened
    where
      kept : (t : Bool) → unsigned_abs by == 0 ≡ t → record { column = j; by = by } ∷ quotients q (j + 1) (drop (j + 1) ss) ≡ cond t (quotients q (j + 1) (drop (j + 1) ss)) (record { column = j; by = by } ∷ quotients q (j + 1) (drop (j + 1) ss))
      kept true e = let h = eqb-true _ _ e in absurd (n (omega (arith, ints)))
      kept false e = refl

pub quotients_done : (q : ℤ) (ss : List ℤ) (j : ℕ) (old : List Term) → length ss ≤ j → old ++ quotients q j (drop j ss) ≡ old
quotients_done q ss j old l = ap (λ v. old ++ quotients q j v) (drop_all j ss l) ∙ append-nil old
