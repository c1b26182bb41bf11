-- How many tasks of an array may run at once.
use Rattle.std.specs.Prelude.{ℕ, ◌+◌, ◌-◌, ◌^◌, ◌==◌, ◌&&◌, Bool, true, false, List, [], ◌∷◌, ◌++◌, drop, fold, length, map, take, slice_get, slice_index, slice_index_or, slice_set, min, nat_le, nat_lt, Option, Some, None, if◌then◌else◌, position}
use Rattle.std.specs.List.{list_any}
use Rattle.tetri_cluster.specs.Names.{is_among, number_of}
use Rattle.tetri_hosts.specs.Columns.{columns_of}
use Rattle.tetri_io.specs.Numbers.{digits_below}
use Rattle.tetri_io.specs.Words.{parts_at}
use Rattle.tetri_queue.specs.declared.arrays.Limit.{Limit}
use Rattle.tetri_queue.specs.declared.arrays.Limits.{Limits}

-- the arrays that have a limit, and for each the limit and how many of its tasks run, were released or are taken
pub record Throttles : Type 0 where
  pub arrays : List (List ℕ)
  pub limits : List Limit

abbrev pub throttles : Limits → Throttles
throttles l = record { arrays = l.arrays; limits = l.limits.items }

abbrev pub no_limits : Throttles
no_limits = record { arrays = []; limits = [] }

-- how many tasks of each array may run at once, however many do
abbrev pub most_of : Throttles → List ℕ
most_of t = map (λ l. l.most) t.limits

abbrev pub front_if : List ℕ → Option ℕ → Option (List ℕ)
front_if id None = None
front_if id (Some place) = Some (take place id)

-- the array of a task, as 6 of 6_0 and 6_[0-3%2]
abbrev pub array_of : List ℕ → Option (List ℕ)
array_of id = front_if id (position (λ b. b == 95) id)

abbrev pub number_in : List ℕ → Option ℕ
number_in text = digits_below (2 ^ 32) text

abbrev pub positive : Option ℕ → Option ℕ
positive None = None
positive (Some number) = if number == 0 then None else Some number

-- the number that is not 0 before a bracket that ends a text
abbrev pub limit_behind : List ℕ → Option ℕ
limit_behind text = if slice_index text (length text - 1) == 93 then positive (number_in (take (length text - 1) text)) else None

abbrev pub limit_at : List ℕ → Option ℕ → Option ℕ
limit_at id None = None
limit_at id (Some place) = if list_any (λ b. b == 91) (take place id) then limit_behind (drop (place + 1) id) else None

-- how many tasks may run at once of an array whose line has this identifier, as 6_[0-3%2]
abbrev pub limit_in : List ℕ → Option ℕ
limit_in id = limit_at id (position (λ b. b == 37) id)

-- the first line of an array that says a limit gives it
abbrev pub with_new : Throttles → List ℕ → ℕ → Throttles
with_new t array most = if is_among array t.arrays then t else record { arrays = t.arrays ++ array ∷ []; limits = t.limits ++ record { most = most; used = 0 } ∷ [] }

abbrev pub with_limit_of : Throttles → Option (List ℕ) → Option ℕ → Throttles
with_limit_of t None most = t
with_limit_of t (Some array) None = t
with_limit_of t (Some array) (Some most) = with_new t array most

abbrev pub with_limit : Throttles → List ℕ → Throttles
with_limit t id = with_limit_of t (array_of id) (limit_in id)

-- the first column of a line
abbrev pub id_of : List (List ℕ) → List ℕ
id_of columns = slice_index_or columns 0 []

abbrev pub with_limit_line : Throttles → List ℕ → Throttles
with_limit_line t line = with_limit t (id_of (columns_of line))

abbrev pub limits_of : Throttles → List ℕ → Throttles
limits_of t text = fold with_limit_line t (parts_at 10 text)

-- the limits that lines of arrays give, and those of the queue
abbrev pub limits_in : List ℕ → List ℕ → Throttles
limits_in arrays jobs = limits_of (limits_of no_limits arrays) jobs

abbrev pub place_if : Throttles → Option (List ℕ) → Option ℕ
place_if t None = None
place_if t (Some array) = number_of array t.arrays

-- the place of a task's array
abbrev pub place_of : Throttles → List ℕ → Option ℕ
place_of t id = place_if t (array_of id)

abbrev pub is_used_up : Option Limit → Bool
is_used_up None = false
is_used_up (Some l) = nat_le l.most l.used

abbrev pub is_full_at : Throttles → Option ℕ → Bool
is_full_at t None = false
is_full_at t (Some place) = is_used_up (slice_get t.limits place)

-- no more tasks of this one's array may run
abbrev pub is_full : Throttles → List ℕ → Bool
is_full t id = is_full_at t (place_of t id)

-- one task more
abbrev pub one_more : Limit → Limit
one_more l = record l { used = min (l.used + 1) (2 ^ 64 - 1) }

-- what stands for a limit that is not there
abbrev pub no_limit : Limit
no_limit = record { most = 0; used = 0 }

abbrev pub limit_of : Throttles → ℕ → Limit
limit_of t place = slice_index_or t.limits place no_limit

abbrev pub with_used_at : Throttles → Option ℕ → Throttles
with_used_at t None = t
with_used_at t (Some place) = if nat_lt place (length t.limits) then record t { limits = slice_set t.limits place (one_more (limit_of t place)) } else t

-- one task more of this one's array
abbrev pub with_used : Throttles → List ℕ → Throttles
with_used t id = with_used_at t (place_of t id)

-- the same, if this holds
abbrev pub with_used_if : Bool → Throttles → List ℕ → Throttles
with_used_if taken t id = if taken then with_used t id else t
