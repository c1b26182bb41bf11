-- Lines of a log that are read ahead of their turn.
use Rattle.std.specs.Prelude.{◌≡◌, ◌<◌, ℕ, List, [], ◌∷◌, length, map, false}
use Rattle.tetri_logs.specs.Entry.{line_entries}
use Rattle.tetri_logs.specs.declared.ahead.Ahead.{Ahead}
use Rattle.tetri_logs.specs.declared.entry.Entry.TheVariants.{Job}
use Rattle.tetri_logs.specs.declared.entry.LoggedJob.{LoggedJob}
use Rattle.tetri_logs.specs.declared.layout.Layout.{Layout}

-- the line of a job, which alone stands on it, where nodes do not differ
abbrev pub IsLineOf : Layout → List ℕ → LoggedJob → Type 0
IsLineOf layout text job = line_entries false layout job.line text ≡ Job job ∷ []

-- a text that is that line, or says nothing, as it has no byte
abbrev pub IsTextOf : Layout → List ℕ → LoggedJob → Type 0
IsTextOf layout text job = 0 < length text → IsLineOf layout text job

-- such texts of jobs at the same places, as far as there are texts and jobs
abbrev pub AreTextsOf : Layout → List (List ℕ) → List LoggedJob → Type 0
AreTextsOf layout [] jobs = Unit {0}
AreTextsOf layout (text ∷ texts) [] = Unit {0}
AreTextsOf layout (text ∷ texts) (job ∷ jobs) = IsTextOf layout text job × AreTextsOf layout texts jobs

-- what was read ahead of these jobs
abbrev pub AreAhead : Ahead → List LoggedJob → Type 0
AreAhead a jobs = AreTextsOf a.layout (map (λ t. t.now) a.texts.items) jobs

-- the same with a text of each of them
abbrev pub AreAllAhead : Ahead → List LoggedJob → Type 0
AreAllAhead a jobs = (length a.texts.items ≡ length jobs) × AreAhead a jobs
