-- The text of a report.
use Rattle.std.specs.Prelude.{ℕ, List, [], ◌∷◌, ◌++◌, map, flat_map, slice_index_or, codes, decimal}
use Rattle.tetri_strl.specs.declared.grants.Grant.{Grant}
use Rattle.tetri_cert.specs.declared.certificate.Certificate.{Certificate}
use Rattle.tetri_cert.specs.declared.plan_mark.PlanMark.{PlanMark}
use Rattle.tetri_cert.specs.Text.{mark_text, certificate_text}
use Rattle.tetri_cluster.specs.Cluster.{name_at}
use Rattle.tetri_state.specs.Begin.{Occurrences}
use Rattle.tetri_state.specs.declared.happened.PieceId.{PieceId}
use Rattle.tetri_trace.specs.Scenario.{Scenario, job_names}
use Rattle.tetri_report.specs.Block.{Block}
use Rattle.tetri_report.specs.BlockLines.{occurrences_in}
use Rattle.tetri_report.specs.declared.cycle.Summary.{Summary}

unfoldable pub cycle_line : ℕ → List ℕ
cycle_line number = codes "cycle " ++ decimal number ++ codes "\n"

unfoldable pub plan_line : ℕ → ℕ → PlanMark → ℕ → List ℕ
plan_line value bound mark nodes = codes "plan " ++ decimal value ++ codes " " ++ decimal bound ++ codes " " ++ mark_text mark ++ codes " " ++ decimal nodes ++ codes "\n"

-- a word and a job
unfoldable pub name_line : List ℕ → List ℕ → List ℕ
name_line word name = word ++ codes " " ++ name ++ codes "\n"

-- a word, a job and a leaf
unfoldable pub leaf_line : List ℕ → List ℕ → ℕ → List ℕ
leaf_line word name leaf = word ++ codes " " ++ name ++ codes " " ++ decimal leaf ++ codes "\n"

abbrev pub after_comma : List ℕ → List ℕ
after_comma name = 44 ∷ name

-- names with commas between
abbrev pub joined : List (List ℕ) → List ℕ
joined [] = []
joined (name ∷ names) = name ++ flat_map after_comma names

unfoldable pub granted_line : List ℕ → ℕ → ℕ → List (List ℕ) → List ℕ
granted_line name leaf start nodes = codes "grant " ++ name ++ codes " " ++ decimal leaf ++ codes " " ++ decimal start ++ codes " " ++ joined nodes ++ codes "\n"

-- the lines of a trace's jobs and nodes
module _ (s : Scenario) where
  abbrev pub job_name : ℕ → List ℕ
  job_name job = slice_index_or (job_names s.submissions) job []

  abbrev pub job_line : List ℕ → ℕ → List ℕ
  job_line word job = name_line word (job_name job)

  abbrev pub piece_line : List ℕ → PieceId → List ℕ
  piece_line word p = leaf_line word (job_name p.job) p.leaf

  abbrev pub grant_line : Grant → ℕ → List ℕ
  grant_line g start = granted_line (job_name g.job) g.leaf start (map (name_at s.nodes) g.nodes)

  -- each grant with its start
  abbrev pub grant_lines : List Grant → List ℕ → List ℕ
  grant_lines [] starts = []
  grant_lines (g ∷ gs) [] = []
  grant_lines (g ∷ gs) (start ∷ starts) = grant_line g start ++ grant_lines gs starts

  -- the lines of what happened
  unfoldable pub happened_text : Occurrences → List ℕ
  happened_text o =
      flat_map (piece_line (codes "end")) o.ended ++ flat_map (job_line (codes "cancel")) o.cancelled
      ++ flat_map (job_line (codes "fail")) o.failed ++ flat_map (piece_line (codes "over")) o.over ++ flat_map (job_line (codes "expire")) o.expired

  -- the first line of a cycle, and the lines of what happened at its beginning
  unfoldable pub events_text : ℕ → Occurrences → List ℕ
  events_text number o = cycle_line number ++ happened_text o

  -- the lines of a plan: its numbers and its mark, its grants with their starts, and its certificate
  unfoldable pub plan_text : ℕ → ℕ → PlanMark → ℕ → List Grant → List ℕ → Certificate → List ℕ
  plan_text value bound mark nodes grants starts certificate = plan_line value bound mark nodes ++ grant_lines grants starts ++ certificate_text certificate

  -- the lines of the jobs that are launched
  unfoldable pub launches_text : List ℕ → List ℕ
  launches_text jobs = flat_map (job_line (codes "launch")) jobs

  -- the lines of a cycle
  unfoldable pub cycle_text : Block → List ℕ
  cycle_text b = events_text b.number (occurrences_in b) ++ plan_text b.value b.bound b.mark b.nodes b.grants b.starts b.certificate ++ launches_text b.launched

-- a key of the summary and its number
unfoldable pub entry : List ℕ → ℕ → List ℕ
entry key number = codes " " ++ key ++ codes "=" ++ decimal number

unfoldable pub summary_text : Summary → List ℕ
summary_text s =
    codes "summary" ++ entry (codes "cycles") s.cycles ++ entry (codes "launched") s.launched ++ entry (codes "ended") s.ended
    ++ entry (codes "cancelled") s.cancelled ++ entry (codes "expired") s.expired ++ entry (codes "worth") s.worth ++ entry (codes "optimal") s.optimal ++ codes "\n"
