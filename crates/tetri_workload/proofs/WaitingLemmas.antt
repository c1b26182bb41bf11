-- Jobs that wait, and one that comes.
use Rattle.std.proofs.Common.{◌≡◌, ◌∙◌, ℕ, List, true, false, ap, sym, true≢false}
use Rattle.std.specs.Prelude.{All}
use Rattle.std.proofs.lemmas.List.Elements.{All-weaker}
use Rattle.tetri_logs.specs.declared.entry.LoggedJob.{LoggedJob}
use Rattle.tetri_workload.specs.Marks.{AreSecondsMarked, is_marked, place_of_second}
use Rattle.tetri_workload.specs.declared.marks.Marks.{Marks}
use Rattle.tetri_workload.proofs.EntryLemmas.{submit_of}

-- a job was submitted in the second of none of these
abbrev pub IsApart : ℕ → List LoggedJob → Type 0
IsApart second jobs = All (λ j. second ≡ submit_of j → ⊥) jobs

-- one whose second is not marked
pub apart-unmarked : (seconds : Marks) (jobs : List LoggedJob) (second : ℕ) → AreSecondsMarked seconds jobs → is_marked seconds (place_of_second second) ≡ false → IsApart second jobs
apart-unmarked seconds jobs second marked none =
    All-weaker (λ j. is_marked seconds (place_of_second j.account.submit) ≡ true) (λ j. second ≡ submit_of j → ⊥)
    (λ j is same. true≢false (sym is ∙ ap (λ n. is_marked seconds (place_of_second n)) (sym same) ∙ none)) jobs marked
