-- Where weighing answers a number, it is the weighed number.
use Rattle.std.proofs.Common.{◌≡◌, ℕ, ◌+◌, refl, sym, ap, ◌∙◌, subst, arith, List, [], ◌∷◌, Option, Some, None, Result, Ok, Err, Bool, true, false, cond, IfOk}
use Rattle.std.specs.Prelude.{◌≤ℤ◌}
use Rattle.std.proofs.lemmas.Int.{ints}
use borrow.Author.Differences.{lt-true}
use lib.IntN.{ℤ, pos}
use lib.Signed.{lt_z}
use Rattle.tetri_ip.specs.declared.programs.Program.{Program}
use Rattle.tetri_ip.specs.declared.programs.Row.{Row}
use Rattle.tetri_ip.specs.declared.programs.Weight.{Weight}
use Rattle.tetri_ip.specs.declared.programs.WeighFault.{WeighFault}
use Rattle.tetri_ip.specs.declared.programs.WeighFault.TheVariants.{Negative}
use Rattle.tetri_ip.specs.Forming.{first_negative, form_column, form_columns, form_right, or_past, unless_negative, weigh_answer}
use Rattle.tetri_ip.specs.Points.{Bounds}
use Rattle.tetri_ip.specs.Weighed.{weighed}
use Rattle.tetri_ip.proofs.IntegerProgramLaws.{weighed_where_formed}
use Rattle.tetri_simplex.proofs.WeightSigns.{AreRowWeights}

pub none_negative : (n : ℕ) (ws : List Weight) → AreRowWeights n ws → first_negative ws ≡ None
none_negative n [] h = refl
none_negative n (w ∷ ws) h = by_test (lt_z w.by (pos 0)) refl (none_negative n ws h.1)
  where
    by_test : (t : Bool) → lt_z w.by (pos 0) ≡ t → first_negative ws ≡ None → cond t (Some w.row) (first_negative ws) ≡ None
    by_test true e f = absurd (contrary w.by h.0.0 e)
      where
        contrary : (z : ℤ) → pos 0 ≤ℤ z → lt_z z (pos 0) ≡ true → ⊥
        contrary z h e = let k = lt-true z (pos 0) e in omega (arith, ints)
    by_test false e f = f

-- the columns give a number, or the column at which none was formed
columns_not_negative : (rows : List Row) (b : Bounds) (q : ℤ) (ws : List Weight) (j : ℕ) (cs : List ℤ) (sum : ℤ) (i : ℕ) → form_columns rows b q ws j cs sum ≡ Err (Negative i) → ⊥
columns_not_negative rows b q ws j [] sum i e = cc
columns_not_negative rows b q ws j (c ∷ cs) sum i e = by_column (form_column rows b q ws j c sum) (λ n f. columns_not_negative rows b q ws (j + 1) cs n i f) e
  where
    by_column : (o : Option ℤ) → ((n : ℤ) → form_columns rows b q ws (j + 1) cs n ≡ Err (Negative i) → ⊥) → or_past j o (λ next. form_columns rows b q ws (j + 1) cs next) ≡ Err (Negative i) → ⊥
    by_column None ih f = cc
    by_column (Some n) ih f = ih n f

answer_is : (p : Program) (b : Bounds) (q : ℤ) (ws : List Weight) → first_negative ws ≡ None → or_past 0 (form_right p.rows.items ws (pos 0)) (λ sum. form_columns p.rows.items b q ws 0 p.costs.items sum) ≡ weigh_answer p b q ws
answer_is p b q ws e = ap (λ o. unless_negative o (or_past 0 (form_right p.rows.items ws (pos 0)) (λ sum. form_columns p.rows.items b q ws 0 p.costs.items sum))) (sym e)

pub never_negative : (p : Program) (b : Bounds) (q : ℤ) (ws : List Weight) (i : ℕ) → first_negative ws ≡ None → weigh_answer p b q ws ≡ Err (Negative i) → ⊥
never_negative p b q ws i n e = by_right (form_right p.rows.items ws (pos 0)) (answer_is p b q ws n ∙ e)
  where
    by_right : (o : Option ℤ) → or_past 0 o (λ sum. form_columns p.rows.items b q ws 0 p.costs.items sum) ≡ Err (Negative i) → ⊥
    by_right None f = cc
    by_right (Some sum) f = columns_not_negative p.rows.items b q ws 0 p.costs.items sum i f

pub weighed_is : (p : Program) (b : Bounds) (q : ℤ) (ws : List Weight) (z : ℤ) → first_negative ws ≡ None → weigh_answer p b q ws ≡ Ok z → z ≡ weighed p b q ws
weighed_is p b q ws z n e = by_right (form_right p.rows.items ws (pos 0)) refl (answer_is p b q ws n ∙ e)
  where
    by_right : (o : Option ℤ) → o ≡ form_right p.rows.items ws (pos 0) → or_past 0 o (λ sum. form_columns p.rows.items b q ws 0 p.costs.items sum) ≡ Ok z → z ≡ weighed p b q ws
    by_right None f g = cc
    by_right (Some sum) f g =
        subst (λ (r : Result ℤ WeighFault). IfOk r (λ x. x ≡ weighed p b q ws)) g
        (weighed_where_formed p b q ws sum sum (Some sum) (form_columns p.rows.items b q ws 0 p.costs.items sum) f refl (λ s. refl) refl)
