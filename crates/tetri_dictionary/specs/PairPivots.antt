-- Where rows come from after a pivot, and after a row and its mirror have changed places, and whose signs are known in between.
use Rattle.std.specs.Prelude.{◌≡◌, ◌⊎◌, ℕ, ◌<◌, List, length, get_or, set, map, Option, None, Ok, All, MatchOption, cond, ◌==◌, Bool, false}
use lib.IntN.{ℤ, pos}
use Rattle.tetri_algebra.specs.Rational.{ℚ}
use Rattle.tetri_dictionary.specs.declared.pairs.Pairs.{Pairs}
use Rattle.tetri_dictionary.specs.Below.{below_of}
use Rattle.tetri_dictionary.specs.Holders.{bit, words_at, IsHolder, AreHolders}
use Rattle.tetri_dictionary.specs.Mirrors.{row_from, IsOrigin}
use Rattle.tetri_dictionary.specs.Mixed.{mixed_rows, AreMixedRows}
use Rattle.tetri_dictionary.specs.Pairs.{origin_at, IsKept, IsMirrorOf, IsOnlyPlace, IsPlaceOf}
use Rattle.tetri_dictionary.specs.Pivots.{pivoted_rows}
use Rattle.tetri_dictionary.specs.Tables.{constant_of, is_negative}
use Rattle.tetri_dictionary.specs.declared.mixed.MixedRow.{MixedRow}
use Rattle.tetri_dictionary.specs.declared.origins.Origin.{Origin}
use Rattle.tetri_dictionary.specs.declared.origins.Origin.TheVariants.{Kept, Mirror, Column}

-- after the variable of kept row r and that of nonbasic place j are exchanged
abbrev pub exchanged : ℕ → ℕ → Origin → Origin
exchanged r j (Kept q) = Kept q
exchanged r j (Mirror q w) = cond (q == r) (Column j w) (Mirror q w)
exchanged r j (Column p w) = cond (p == j) (Mirror r w) (Column p w)

-- after kept row r is made its mirror, of width w
abbrev pub turned : ℕ → ℤ → Origin → Origin
turned r w (Kept q) = cond (q == r) (Mirror r w) (Kept q)
turned r w (Mirror q v) = cond (q == r) (Kept r) (Mirror q v)
turned r w (Column p v) = Column p v

-- of a kept row there is none
abbrev pub width_of : Origin → ℤ
width_of (Kept r) = pos 0
width_of (Mirror r w) = w
width_of (Column p w) = w

-- the kept row of an origin stands before k or has no bit
abbrev pub IsSettled : List ℕ → ℕ → Origin → Type 0
IsSettled words k (Kept r) = (r < k) ⊎ (bit words r ≡ 0)
IsSettled words k (Mirror r w) = (r < k) ⊎ (bit words r ≡ 0)
IsSettled words k (Column p w) = Unit {0}

-- the signs of the constants are known at the places whose origin is settled
abbrev pub AreTold : ℕ → List (List ℚ) → List Origin → List ℕ → ℕ → List Bool → Type 0
AreTold n rows origins words k below =
    (p : ℕ) → p < length origins → IsSettled words k (origin_at origins p) → get_or below p false ≡ is_negative (constant_of (row_from n rows (origin_at origins p)))

-- the places of m kept rows and of their mirrors
pub record AreHomes (n m : ℕ) (origins : List Origin) (homes : List ℕ) (mirrors : List (Option ℕ)) : Type 0 where
  pub within : All (IsOrigin n m) origins
  pub homes_count : length homes ≡ m
  pub home : (r : ℕ) → r < m → IsOnlyPlace (IsKept r) origins (get_or homes r 0)
  pub mirrors_count : length mirrors ≡ m
  pub mirror : (r : ℕ) → r < m → IsPlaceOf (IsMirrorOf r) origins (get_or mirrors r None)

-- basic place i, whose row r is kept, and nonbasic place j are exchanged in all but the signs of the places, of which that of the former mirror of row r alone is told
pub record IsExchanged (t u : Pairs) (i r j : ℕ) : Type 0 where
  pub formed : pivoted_rows (length t.nonbasic.items) r j (mixed_rows t.rows.items) ≡ Ok (mixed_rows u.rows.items)
  pub nonbasic : u.nonbasic.items ≡ set t.nonbasic.items j (get_or t.basic.items i 0)
  pub basic : u.basic.items ≡ set t.basic.items i (get_or t.nonbasic.items j 0)
  pub origins : u.origins.items ≡ map (exchanged r j) t.origins.items
  pub homes : u.homes.items ≡ t.homes.items
  pub mirrors : u.mirrors.items ≡ set t.mirrors.items r (get_or t.columns.items j None)
  pub columns : u.columns.items ≡ set t.columns.items j (get_or t.mirrors.items r None)
  pub below : MatchOption (get_or t.mirrors.items r None) (u.below.items ≡ t.below.items) (λ k. u.below.items ≡ set t.below.items k false)
  pub rows : AreMixedRows (length t.nonbasic.items) u.rows.items
  pub row_below : u.row_below.items ≡ below_of (mixed_rows u.rows.items)
  pub holders : AreHolders (length t.nonbasic.items) u.holders.items (mixed_rows u.rows.items)
  pub holder : IsHolder (words_at u.holders.items j) (mixed_rows t.rows.items) j
  pub untouched : (q : ℕ) (row : MixedRow) → bit (words_at u.holders.items j) q ≡ 0 → get_or u.rows.items q row ≡ get_or t.rows.items q row
