-- What is noted of the jobs that are taken.
use Rattle.std.specs.Prelude.{◌≡◌, ◌==◌, ◌≤◌, ◌⊎◌, ℕ, Bool, false, true, List, ◌++◌, All, codes, decimal}
use Rattle.std.specs.List.{list_any}
use Rattle.tetri_workload.specs.Marks.{AreMarked}
use Rattle.tetri_workload.specs.declared.notes.Notes.{Notes}

-- the mark of a job that was submitted again: when that was
abbrev pub again_mark : ℕ → List ℕ
again_mark submit = codes ":" ++ decimal submit

-- what it is called: its name with that mark
abbrev pub again_name : List ℕ → ℕ → List ℕ
again_name name submit = name ++ again_mark submit

-- whether a colon, with which such a mark begins, stands in a name
abbrev pub has_colon : List ℕ → Bool
has_colon name = list_any (λ b. b == 58) name

-- what a job is called that was submitted again, no later than at this second
abbrev pub IsAgainBy : ℕ → List ℕ → Type 0
IsAgainBy latest name = (first : List ℕ) × (second : ℕ) × (name ≡ again_name first second) × (second ≤ latest)

-- a colon stands in this name only if it is such a job's
abbrev pub IsPlainBy : ℕ → List ℕ → Type 0
IsPlainBy latest name = (has_colon name ≡ false) ⊎ IsAgainBy latest name

-- what is noted of jobs that were submitted at these seconds and have these names
pub record AreNoted (n : Notes) (submits : List ℕ) (names : List (List ℕ)) : Type 0 where
  pub marked : AreMarked n.marks names
  pub past : All (λ second. second ≤ n.latest) submits
  pub plain : n.plain ≡ true → All (IsPlainBy n.latest) names
