-- The first table of a program over a region: each column starts at the bound that its cost prefers, and its variable is the distance from there.
use Rattle.std.specs.Prelude.{◌≡◌, ℕ, ◌+◌, List, [], ◌∷◌, ◌++◌, map, length, cond, ◌==◌, ◌-ℤ◌, ◌*ℤ◌, pos}
use Rattle.std.specs.List.{range_with_len}
use lib.IntN.{ℤ, negsuc, neg_ℤ}
use lib.Signed.{lt_z}
use Rattle.tetri_algebra.specs.IntegerRing.{ℤ_ring}
use Rattle.tetri_algebra.specs.Sums.{dot}
use Rattle.tetri_algebra.specs.Rational.{whole_ℚ}
use Rattle.tetri_ip.specs.declared.programs.Program.{Program}
use Rattle.tetri_ip.specs.declared.programs.Row.{Row}
use Rattle.tetri_ip.specs.declared.programs.Term.{Term}
use Rattle.tetri_ip.specs.Points.{Bounds, IsBetween, coefficient, left_side}
use Rattle.tetri_dictionary.specs.Tables.{Table}

-- where a column starts: at its upper bound with a cost above 0, else at its lower one
abbrev pub start_at : ℤ → ℤ → ℤ → ℤ
start_at cost lower upper = cond (lt_z (pos 0) cost) upper lower

-- by costs, lower and upper bounds
abbrev pub corner : List ℤ → List ℤ → List ℤ → List ℤ
corner [] ls us = []
corner (c ∷ cs) [] us = []
corner (c ∷ cs) (l ∷ ls) [] = []
corner (c ∷ cs) (l ∷ ls) (u ∷ us) = start_at c l u ∷ corner cs ls us

-- what the variable of a column adds to the column: -1 from its upper bound, 1 from its lower one
abbrev pub direction : ℤ → ℤ
direction cost = cond (lt_z (pos 0) cost) (negsuc 0) (pos 1)

-- the coefficients of a row's slack, from column j on
abbrev pub slack_from : List Term → ℕ → List ℤ → List ℤ
slack_from ts j [] = []
slack_from ts j (c ∷ cs) = neg_ℤ (coefficient ts j *ℤ direction c) ∷ slack_from ts (j + 1) cs

-- the slack of a row: its right side less its left side
abbrev pub slack_row : List ℤ → List ℤ → Row → List ℤ
slack_row cs start r = (r.right -ℤ left_side r.terms.items start) ∷ slack_from r.terms.items 0 cs

-- the coefficients of column j's bound slack, from column k on: -1 at the column, 0 elsewhere
abbrev pub minus_one_at : ℕ → ℕ → List ℤ → List ℤ
minus_one_at j k [] = []
minus_one_at j k (c ∷ cs) = cond (j == k) (negsuc 0) (pos 0) ∷ minus_one_at j (k + 1) cs

-- the bound slacks from column j on: the width of the column's bounds less its variable
abbrev pub bound_rows : ℕ → List ℤ → List ℤ → List ℤ → List (List ℤ)
bound_rows j cs [] us = []
bound_rows j cs (l ∷ ls) [] = []
bound_rows j cs (l ∷ ls) (u ∷ us) = ((u -ℤ l) ∷ minus_one_at j 0 cs) ∷ bound_rows (j + 1) cs ls us

abbrev pub objective_row : List ℤ → List ℤ → List ℤ
objective_row cs start = dot ℤ_ring cs start ∷ map (λ c. c *ℤ direction c) cs

-- the row slacks, the bound slacks and last the objective
abbrev pub first_rows : Program → Bounds → List (List ℤ)
first_rows p b =
    let start = corner p.costs.items b.lower b.upper in
    map (slack_row p.costs.items start) p.rows.items ++ bound_rows 0 p.costs.items b.lower b.upper ++ (objective_row p.costs.items start ∷ [])

-- with n columns and m rows: the columns' variables have the numbers from 0 on, the row slacks from n on, the bound slacks from n + m on
unfoldable pub first_table : Program → Bounds → Table
first_table p b =
    let n = length p.costs.items in
    let m = length p.rows.items in
    record { nonbasic = range_with_len 0 n; basic = range_with_len n (m + n); rows = map (map whole_ℚ) (first_rows p b) }

-- one number for each column, each in the program's box
pub record IsStart (p : Program) (start : List ℤ) : Type 0 where
  pub count : length start ≡ length p.costs.items
  pub inside : IsBetween (length p.costs.items) p.lower.items start p.upper.items
