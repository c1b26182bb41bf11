-- Rows of whole numbers over one denominator, where these are short, and rows of fractions.
use Rattle.std.specs.Prelude.{◌≡◌, ℕ, ◌+◌, List, [], map, length, get_or, set, Option, Ok, All, IfSome, Vec}
use Rattle.std.specs.Global.{Global}
use lib.IntN.{ℤ}
use Rattle.tetri_algebra.specs.Rational.{ℚ}
use Rattle.tetri_num.specs.declared.fractions.Frac.{Frac}
use Rattle.tetri_rows.specs.Rows.{meaning}
use Rattle.tetri_rows.specs.Small.{IsShort, IsDenominator}
use Rattle.tetri_rows.specs.Terms.{AreTerms}
use Rattle.tetri_rows.specs.declared.terms.Terms.{Terms}
use Rattle.tetri_dictionary.specs.declared.mixed.MixedRow.{MixedRow}
use Rattle.tetri_dictionary.specs.declared.mixed.MixedRow.TheVariants.{Whole, Fractions}
use Rattle.tetri_dictionary.specs.Fractions.{values}
use Rattle.tetri_dictionary.specs.Pivots.{replaced_row}

-- the row's numbers, the constant first
abbrev pub mixed_row : MixedRow → List ℚ
mixed_row (Whole den numbers) = meaning den numbers.items
mixed_row (Fractions numbers) = values numbers.items

abbrev pub mixed_rows : List MixedRow → List (List ℚ)
mixed_rows rows = map mixed_row rows

-- short whole numbers over a denominator: a constant and n coefficients
pub record AreWholeNumbers (n : ℕ) (den : ℤ) (numbers : List ℤ) : Type 0 where
  pub over : IsDenominator den
  pub short : All IsShort numbers
  pub wide : length numbers ≡ n + 1

-- a constant and n coefficients
abbrev pub IsMixedRow : ℕ → MixedRow → Type 0
IsMixedRow n (Whole den numbers) = AreWholeNumbers n den numbers.items
IsMixedRow n (Fractions numbers) = length numbers.items ≡ n + 1

abbrev pub AreMixedRows : ℕ → List MixedRow → Type 0
AreMixedRows n rows = All (IsMixedRow n) rows

-- the terms are those of the row, where it is whole
abbrev pub AreTermsOfRow : MixedRow → Terms → Type 0
AreTermsOfRow (Whole den numbers) t = AreTerms t.places.items t.numbers.items numbers.items
AreTermsOfRow (Fractions numbers) t = Unit {0}

-- these are the row's numbers as fractions, where they were made
abbrev pub AreFractionsOfRow : MixedRow → Option (Vec Frac Global) → Type 0
AreFractionsOfRow row known = IfSome known (λ v. values v.items ≡ mixed_row row)

-- row k has the solved row put in for its variable at place j, and the others are as they were
pub record IsReplacedAt (n k j : ℕ) (solved : List ℚ) (old new : List MixedRow) : Type 0 where
  pub row : MixedRow
  pub rows : new ≡ set old k row
  pub formed : replaced_row n k j solved (get_or (mixed_rows old) k []) ≡ Ok (mixed_row row)
