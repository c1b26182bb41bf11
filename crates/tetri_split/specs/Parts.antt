-- The independent parts of an instance: no job of one part can share a node with a job of another, and no part can be
-- divided further.
use Rattle.std.specs.Prelude.{◌≡◌, ℕ, ◌+◌, ◌<◌, ◌≤◌, Bool, true, false, List, [], ◌∷◌, All, AllPairs, Contains, Some, length, map, slice_index, slice_index_or}
use Rattle.std.specs.List.{Any, flat_map}
use Rattle.std.specs.List.Sorted.{IsStrictlyIncreasing}
use Rattle.tetri_base.specs.Lists.{has}
use Rattle.tetri_strl.specs.declared.expr.Leaf.{Leaf}
use Rattle.tetri_strl.specs.declared.grants.Grant.{Grant}
use Rattle.tetri_space.specs.Lawful.{IsLawful}
use Rattle.tetri_space.specs.Trimmed.{IsThriftyForAll}
use Rattle.tetri_space.specs.Space.{Bid, Space, IsLive, leaf_in, set_of}
use Rattle.tetri_space.specs.Total.{total_in}
use Rattle.tetri_split.specs.Restricted.{restricted, grants_to}

-- the numbers of the jobs of bids
abbrev pub jobs_in : List Bid → List ℕ
jobs_in bs = map (λ b. b.job) bs

-- the job offers a live leaf whose set has the node
pub record MayUse (s : Space) (job node : ℕ) : Type 0 where
  pub number : ℕ
  pub leaf : Leaf
  pub offered : leaf_in s.bids job number ≡ Some leaf
  pub live : IsLive s leaf
  pub in_set : Contains (set_of s leaf) node

-- some node may be used by both jobs
abbrev pub Meet : Space → ℕ → ℕ → Type 0
Meet s i j = (n : ℕ) × MayUse s i n × MayUse s j n

-- no job is in both lists, and no job of the one meets a job of the other
pub record AreIndependent (s : Space) (p q : List ℕ) : Type 0 where
  pub other_jobs : (j : ℕ) → Contains p j → Contains q j → ⊥
  pub no_meeting : (i j : ℕ) → Contains p i → Contains q j → Meet s i j → ⊥

-- a job of the list that passes the test meets one that does not
pub record IsCrossed (s : Space) (side : ℕ → Bool) (p : List ℕ) : Type 0 where
  pub one : ℕ
  pub other : ℕ
  pub has_one : Contains p one
  pub has_other : Contains p other
  pub passes : side one ≡ true
  pub fails : side other ≡ false
  pub meeting : Meet s one other

-- wherever a test divides the jobs of the list into two lists that are not empty, a job of the one meets a job of the other
abbrev pub IsUndivided : Space → List ℕ → Type 0
IsUndivided s p = (side : ℕ → Bool) (i j : ℕ) → Contains p i → side i ≡ true → Contains p j → side j ≡ false → IsCrossed s side p

-- the first job of a list, which is the least where the jobs ascend
abbrev pub first_job : List ℕ → ℕ
first_job p = slice_index p 0

-- The parts of an instance, by least job. Each job of the instance is in one of them, and no other job is.
pub record ArePartsOf (s : Space) (parts : List (List ℕ)) : Type 0 where
  pub covered : All (λ b. Any (λ p. Contains p b.job) parts) s.bids
  pub pending : All (All (Contains (jobs_in s.bids))) parts
  pub some_jobs : All (λ p. 1 ≤ length p) parts
  pub ascending : All IsStrictlyIncreasing parts
  pub by_least : AllPairs (λ p q. first_job p < first_job q) parts
  pub independent : AllPairs (AreIndependent s) parts
  pub undivided : All (IsUndivided s) parts

-- the job is in the part of this number
abbrev pub is_in_part : List (List ℕ) → ℕ → ℕ → Bool
is_in_part parts k = has (slice_index_or parts k [])

-- the grants are lawful in the instance with these jobs alone
abbrev pub IsLawfulForPart : Space → List ℕ → List Grant → Type 0
IsLawfulForPart s p a = IsLawful (restricted (has p) s) a

-- none of the grants to these jobs is wasted
abbrev pub IsThriftyForPart : Space → List ℕ → List Grant → Type 0
IsThriftyForPart s p a = IsThriftyForAll (restricted (has p) s) a

-- no grants that are lawful for these jobs alone are worth more there
abbrev pub BoundsPart : Space → List ℕ → ℕ → Type 0
BoundsPart s p bound = (a : List Grant) → IsLawfulForPart s p a → total_in (restricted (has p) s) a ≤ bound

-- what each part's list of grants is worth in the instance with the part's jobs alone, together
abbrev pub total_by_parts : Space → List (List ℕ) → List (List Grant) → ℕ
total_by_parts s [] lists = 0
total_by_parts s (p ∷ ps) [] = 0
total_by_parts s (p ∷ ps) (a ∷ lists) = total_in (restricted (has p) s) a + total_by_parts s ps lists

-- the grants of an allotment part by part
abbrev pub by_parts : List (List ℕ) → List Grant → List (List Grant)
by_parts parts a = map (λ p. grants_to (has p) a) parts

-- all grants of these lists, one list after another
abbrev pub in_a_row : List (List Grant) → List Grant
in_a_row = flat_map (λ a. a)
