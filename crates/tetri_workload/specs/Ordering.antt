-- A list in order of a number of each item.
use Rattle.std.specs.Prelude.{ℕ, List}
use Rattle.std.specs.List.Sorted.{IsPermutation, IsSortedByKey, IsStableByKey}
use Rattle.std.specs.Ordering.{nat_cmp}

-- the second list is the first in order, and what has one number stays in its order
pub record IsOrderBy {X : Type 0} (key : X → ℕ) (xs ys : List X) : Type 0 where
  pub moved : IsPermutation xs ys
  pub sorted : IsSortedByKey key nat_cmp ys
  pub stable : IsStableByKey key nat_cmp xs ys

-- the second list is the first in some order, in which what has one number stays in its order
pub record IsMoveBy {X : Type 0} (key : X → ℕ) (xs ys : List X) : Type 0 where
  pub moved : IsPermutation xs ys
  pub stable : IsStableByKey key nat_cmp xs ys
