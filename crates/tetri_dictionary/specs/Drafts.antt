-- The first dictionary that keeps one row for the two variables of a column, place by place.
use Rattle.std.specs.Prelude.{◌≡◌, ℕ, ◌<◌, ◌≤◌, List, length, get_or, None, All}
use Rattle.tetri_algebra.specs.Rational.{ℚ}
use Rattle.tetri_dictionary.specs.declared.pairs_start.Draft.{Draft}
use Rattle.tetri_dictionary.specs.Below.{below_of}
use Rattle.tetri_dictionary.specs.Mirrors.{rows_from, IsOrigin}
use Rattle.tetri_dictionary.specs.Mixed.{mixed_rows, AreMixedRows}
use Rattle.tetri_dictionary.specs.Pairs.{IsKept, IsMirrorOf, IsOfColumn, IsOnlyPlace, IsPlaceOf, origin_at}

-- the rows of all places so far, of n coefficients
abbrev pub draft_rows : ℕ → Draft → List (List ℚ)
draft_rows n d = rows_from n (mixed_rows d.rows.items) d.origins.items

-- each kept row has one place, each nonbasic place at most one that is a width less its variable, and there is no mirror yet
pub record IsDraft (n : ℕ) (d : Draft) : Type 0 where
  pub rows : AreMixedRows n d.rows.items
  pub within : All (IsOrigin n (length d.rows.items)) d.origins.items
  pub fewer : length d.rows.items ≤ length d.origins.items
  pub homes_count : length d.homes.items ≡ length d.rows.items
  pub home : (r : ℕ) → r < length d.rows.items → IsOnlyPlace (IsKept r) d.origins.items (get_or d.homes.items r 0)
  pub no_mirror : (r k : ℕ) → k < length d.origins.items → IsMirrorOf r (origin_at d.origins.items k) → ⊥
  pub columns_count : length d.columns.items ≡ n
  pub column : (p : ℕ) → p < n → IsPlaceOf (IsOfColumn p) d.origins.items (get_or d.columns.items p None)
  pub below : d.below.items ≡ below_of (draft_rows n d)
