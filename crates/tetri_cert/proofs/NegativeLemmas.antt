-- Weighing tells a weight below 0 before anything else.
use Rattle.std.proofs.Common.{◌≡◌, ℕ, ◌+◌, Bool, true, false, ◌||◌, cond, List, [], ◌∷◌, length, refl, sym, ap, ◌∙◌, Option, Some, None, Result, Ok, Err}
use Rattle.std.specs.List.{list_any}
use Rattle.std.specs.Prelude.{pos}
use lib.IntN.{ℤ}
use Rattle.tetri_ip.specs.declared.programs.Program.{Program}
use Rattle.tetri_ip.specs.declared.programs.Row.{Row}
use Rattle.tetri_ip.specs.declared.programs.WeighFault.{WeighFault}
use Rattle.tetri_ip.specs.declared.programs.WeighFault.TheVariants as weighing
use Rattle.tetri_ip.specs.declared.programs.Weight.{Weight}
use Rattle.tetri_ip.specs.Forming.{first_negative, form_column, form_columns, form_right, or_past, unless_negative, weigh_answer}
use Rattle.tetri_ip.specs.Points.{Bounds}
use Rattle.tetri_cert.specs.declared.faults.TreeFault.TheVariants.{Bad}
use Rattle.tetri_cert.specs.declared.faults.TreeWhy.TheVariants as why
use Rattle.tetri_cert.specs.NodeBounds.{bound_by, is_negative, is_unknown_row, multiplied, refuse, weights_bound, where_weighed}

-- weighing told no weight below 0
abbrev NeverNegative : Result ℤ WeighFault → Type 0
NeverNegative (Ok w) = Unit {0}
NeverNegative (Err (weighing.Past j)) = Unit {0}
NeverNegative (Err (weighing.Negative row)) = ⊥

columns_never : (rows : List Row) (b : Bounds) (q : ℤ) (ws : List Weight) (j : ℕ) (cs : List ℤ) (sum : ℤ) → NeverNegative (form_columns rows b q ws j cs sum)
columns_never rows b q ws j [] sum = tt
columns_never rows b q ws j (c ∷ cs) sum = by_column (λ next. columns_never rows b q ws (j + 1) cs next) (form_column rows b q ws j c sum)
  where
    by_column : ((next : ℤ) → NeverNegative (form_columns rows b q ws (j + 1) cs next)) → (o : Option ℤ) → NeverNegative (or_past j o (λ next. form_columns rows b q ws (j + 1) cs next))
    by_column rest None = tt
    by_column rest (Some next) = rest next

formed_never : (p : Program) (b : Bounds) (q : ℤ) (ws : List Weight) (o : Option ℤ) → NeverNegative (or_past 0 o (λ sum. form_columns p.rows.items b q ws 0 p.costs.items sum))
formed_never p b q ws None = tt
formed_never p b q ws (Some sum) = columns_never p.rows.items b q ws 0 p.costs.items sum

abbrev is_found : Option ℕ → Bool
is_found None = false
is_found (Some row) = true

-- a weight below 0 is found exactly where there is one
any_is : (ws : List Weight) → list_any (λ w. is_negative w.by) ws ≡ is_found (first_negative ws)
any_is [] = refl
any_is (w ∷ ws) = by_test (is_negative w.by) (any_is ws)
  where
    by_test : (t : Bool) → list_any (λ w. is_negative w.by) ws ≡ is_found (first_negative ws) → (t || list_any (λ w. is_negative w.by) ws) ≡ is_found (cond t (Some w.row) (first_negative ws))
    by_test true e = refl
    by_test false e = e

same_answer : (node : ℕ) (q : ℤ) (o : Option ℕ) (r : Result ℤ WeighFault) → NeverNegative r →
    refuse (is_found o) (Bad node why.Negative) (multiplied node q (where_weighed node q (unless_negative o r))) ≡ bound_by node q (unless_negative o r)
same_answer node q (Some row) r h = refl
same_answer node q None (Ok w) h = refl
same_answer node q None (Err (weighing.Past j)) h = refl
same_answer node q None (Err (weighing.Negative row)) h = absurd h

module _ (p : Program) (b : Bounds) (node : ℕ) (q : ℤ) (ws : List Weight) where
  by_answer : weights_bound p b node q ws ≡ refuse (list_any (is_unknown_row (length p.rows.items)) ws) (Bad node why.Row) (bound_by node q (weigh_answer p b q ws))
  unfolding weights_bound
  by_answer =
      ap (λ t. refuse (list_any (is_unknown_row (length p.rows.items)) ws) (Bad node why.Row) (refuse t (Bad node why.Negative) (multiplied node q (where_weighed node q (weigh_answer p b q ws))))) (any_is ws)
      ∙ ap (refuse (list_any (is_unknown_row (length p.rows.items)) ws) (Bad node why.Row))
      (same_answer node q (first_negative ws) (or_past 0 (form_right p.rows.items ws (pos 0)) (λ sum. form_columns p.rows.items b q ws 0 p.costs.items sum)) (formed_never p b q ws (form_right p.rows.items ws (pos 0))))

  -- what is told where no row is past the program's
  pub told_by : (answer : Result ℤ WeighFault) → answer ≡ weigh_answer p b q ws → list_any (is_unknown_row (length p.rows.items)) ws ≡ false → weights_bound p b node q ws ≡ bound_by node q answer
  told_by answer is rows =
      by_answer ∙ ap (λ t. refuse t (Bad node why.Row) (bound_by node q (weigh_answer p b q ws))) rows ∙ ap (bound_by node q) (sym is)
