-- The entries of a row: how many times its columns stand on its two sides.
use Rattle.std.specs.Prelude.{◌≡◌, ℕ, ◌≤◌, ◌==◌, if◌then◌else◌, List, [], ◌∷◌, ◌-ℤ◌, pos}
use Rattle.tetri_ip.specs.declared.programs.Term.{Term}
use Rattle.tetri_base.specs.Lists.{EachPair, sum_of}
use Rattle.tetri_compile.specs.declared.outline.Share.{Share}
use Rattle.tetri_compile.specs.Flat.{coefficient}
use Rattle.tetri_compile.specs.Forms.{Form}
use Rattle.tetri_wide.specs.declared.terms.Sides.{Sides}

abbrev pub on_left : Share → Sides
on_left s = record { column = s.column; plus = s.by; minus = 0 }

abbrev pub on_right : Share → Sides
on_right s = record { column = s.column; plus = 0; minus = s.by }

-- how many times a column stands on a side of the entries
abbrev pub times_in : (Sides → ℕ) → List Sides → ℕ → ℕ
times_in side es j = sum_of (λ e. if e.column == j then side e else 0) es

-- the entries ascend, and say how many times each column stands in the two forms
pub record AreEntriesOf (most under : Form) (es : List Sides) : Type 0 where
  pub ascending : EachPair (λ d e. d.column ≤ e.column) es
  pub plus : (j : ℕ) → times_in (λ e. e.plus) es j ≡ coefficient most j
  pub minus : (j : ℕ) → times_in (λ e. e.minus) es j ≡ coefficient under j

-- the term of an entry; none where its sides are equal
abbrev pub term_of : Sides → List Term
term_of e = if e.plus == e.minus then [] else (record { column = e.column; by = pos e.plus -ℤ pos e.minus } ∷ [])
