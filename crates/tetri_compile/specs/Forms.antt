-- Forms and limits over the columns of a program, in natural numbers, and what they are at a point.
use Rattle.std.specs.Prelude.{◌≡◌, ℕ, ◌+◌, ◌*◌, ◌≤◌, List, [], ◌∷◌}
use Rattle.tetri_base.specs.Lists.{sum_of}
use Rattle.tetri_compile.specs.declared.outline.Inequality.{Inequality}
use Rattle.tetri_compile.specs.declared.outline.Share.{Share}

-- so many times a column
abbrev pub share : ℕ → ℕ → Share
share c b = record { column = c; by = b }

-- a sum of shares
abbrev pub Form : Type 0
Form = List Share

-- a form's value, where each column has a number
abbrev pub at_point : (ℕ → ℕ) → Form → ℕ
at_point x f = sum_of (λ s. s.by * x s.column) f

-- a form so many times
abbrev pub times : ℕ → Form → Form
times s [] = []
times s (p ∷ ps) = share p.column (s * p.by) ∷ times s ps

-- a column for each item, from number n on, each so many times
abbrev pub run : {X : Type 0} → ℕ → ℕ → List X → Form
run b n [] = []
run b n (x ∷ xs) = share n b ∷ run b (n + 1) xs

-- a row: a form is at most another one and a number
pub record Limit : Type 0 where
  pub most : Form
  pub under : Form
  pub plus : ℕ

-- what an inequality says
abbrev pub plain_limit : Inequality → Limit
plain_limit r = record { most = r.most.items; under = r.under.items; plus = r.plus }

abbrev pub limit : Form → Form → Limit
limit f g = record { most = f; under = g; plus = 0 }

abbrev pub IsMet : (ℕ → ℕ) → Limit → Type 0
IsMet x r = at_point x r.most ≤ at_point x r.under + r.plus

abbrev pub AreMet : (ℕ → ℕ) → List Limit → Type 0
AreMet x [] = Unit {0}
AreMet x (r ∷ rs) = IsMet x r × AreMet x rs

-- the columns from number n on have these values
abbrev pub Reads : (ℕ → ℕ) → ℕ → List ℕ → Type 0
Reads x n [] = Unit {0}
Reads x n (v ∷ vs) = (x n ≡ v) × Reads x (n + 1) vs

-- the columns from number n on are within these upper bounds
abbrev pub Within : (ℕ → ℕ) → ℕ → List ℕ → Type 0
Within x n [] = Unit {0}
Within x n (u ∷ us) = (x n ≤ u) × Within x (n + 1) us
