-- Jobs grouped by a key that some of them have.
use Rattle.std.specs.Prelude.{◌≡◌, ◌⊎◌, ℕ, ◌<◌, ◌≤◌, ◌==◌, List, [], ◌∷◌, All, AllPairs, Contains, length, Option, Some, None, slice_index_or, if◌then◌else◌}
use Rattle.std.specs.List.{Any}
use Rattle.std.specs.List.Sorted.{IsStrictlyIncreasing}
use Rattle.tetri_split.specs.Parts.{first_job}

-- the key that stands where the job does
abbrev pub key_of : List (Option ℕ) → List ℕ → ℕ → Option ℕ
key_of [] jobs j = None
key_of (key ∷ keys) [] j = None
key_of (key ∷ keys) (i ∷ jobs) j = if i == j then key else key_of keys jobs j

module _ (key : ℕ → Option ℕ) where
  -- both jobs have this key, or they are one job
  abbrev pub AreAlike : ℕ → ℕ → Type 0
  AreAlike i j = (i ≡ j) ⊎ ((x : ℕ) × (key i ≡ Some x) × (key j ≡ Some x))

  -- no job of the one list is in the other, or has the key of one of it
  abbrev pub AreUnlike : List ℕ → List ℕ → Type 0
  AreUnlike p q = (i j : ℕ) → Contains p i → Contains q j → AreAlike i j → ⊥

  -- the jobs in groups by key, those without a key by themselves; ascending, and by least job
  pub record AreGroups (jobs : List ℕ) (groups : List (List ℕ)) : Type 0 where
    pub covered : All (λ j. Any (λ p. Contains p j) groups) jobs
    pub pending : All (All (Contains jobs)) groups
    pub some_jobs : All (λ p. 1 ≤ length p) groups
    pub ascending : All IsStrictlyIncreasing groups
    pub by_least : AllPairs (λ p q. first_job p < first_job q) groups
    pub unlike : AllPairs AreUnlike groups
    pub alike : All (λ p. (i j : ℕ) → Contains p i → Contains p j → AreAlike i j) groups

  -- The group of each key: none where no job has the key.
  pub record ArePlaces (places : List (Option ℕ)) (groups : List (List ℕ)) : Type 0 where
    pub there : (x k : ℕ) → slice_index_or places x None ≡ Some k → (k < length groups) × All (λ j. key j ≡ Some x) (slice_index_or groups k [])
    pub nowhere : (x : ℕ) → slice_index_or places x None ≡ None → All (All (λ j. key j ≡ Some x → ⊥)) groups
