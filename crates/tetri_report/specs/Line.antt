-- What one line of a report says.
use Rattle.std.specs.Prelude.{ℕ, ◌++◌, ◌^◌, List, [], ◌∷◌, length, drop, take, Option, Some, None, if◌then◌else◌, bytes_eq, codes, option_map}
use Rattle.tetri_cert.specs.NodeText.{node_by_tag}
use Rattle.tetri_cert.specs.Numbers.{small_number, small_numbers}
use Rattle.tetri_cert.specs.Text.{mark_text}
use Rattle.tetri_cert.specs.declared.plan_mark.PlanMark.{PlanMark}
use Rattle.tetri_cert.specs.declared.plan_mark.PlanMark.TheVariants.{Optimal, Spent, Wide}
use Rattle.tetri_cluster.specs.Cluster.{names_of}
use Rattle.tetri_cluster.specs.Names.{number_of}
use Rattle.tetri_io.specs.Codec.{Codec, among, four_in, numbers, one_in, two_in}
use Rattle.tetri_io.specs.Numbers.{number_below}
use Rattle.tetri_io.specs.Words.{parts_at, words_of}
use Rattle.tetri_state.specs.declared.happened.PieceId.{PieceId}
use Rattle.tetri_trace.specs.Scenario.{Scenario, job_names}
use Rattle.tetri_report.specs.declared.line.Kind.{Kind}
use Rattle.tetri_report.specs.declared.line.Kind.TheVariants as kinds
use Rattle.tetri_report.specs.declared.line.ReportLine.{ReportLine}
use Rattle.tetri_report.specs.declared.line.ReportLine.TheVariants as lines
use Rattle.tetri_base.specs.OptionSteps.{◌>>=◌}

-- worths and counts; the worth of a whole run
abbrev pub large_number : List ℕ → Option ℕ
large_number word = number_below (2 ^ 64) word

abbrev pub huge_number : List ℕ → Option ℕ
huge_number word = number_below (2 ^ 127) word

abbrev pub large_numbers : Codec ℕ
large_numbers = numbers (2 ^ 64)

abbrev pub plan_marks : Codec PlanMark
plan_marks = among mark_text (Optimal ∷ Spent ∷ Wide ∷ [])

abbrev pub cycle_in : List (List ℕ) → Option ReportLine
cycle_in words = one_in lines.Cycle small_numbers words

abbrev pub mark_in : List ℕ → Option PlanMark
mark_in word = plan_marks.read word

abbrev pub plan_with : ℕ → ℕ → PlanMark → ℕ → ReportLine
plan_with value bound mark nodes = lines.Plan (record { value = value; bound = bound; mark = mark; nodes = nodes })

unfoldable pub plan_in : List (List ℕ) → Option ReportLine
plan_in words = four_in plan_with large_numbers large_numbers plan_marks small_numbers words

abbrev pub tops_in : List (List ℕ) → Option ReportLine
tops_in words = two_in lines.Tops large_numbers large_numbers words

-- the number behind a key and its equals sign
unfoldable pub entry_in : List ℕ → ℕ → List ℕ → Option ℕ
entry_in key limit word = if bytes_eq (take (length key) word) key then number_below limit (drop (length key) word) else None

unfoldable pub summary_of_entries : List ℕ → List ℕ → List ℕ → List ℕ → List ℕ → List ℕ → List ℕ → Option ReportLine
summary_of_entries cycles launched ended cancelled expired worth optimal = do
  cycles ← entry_in (codes "cycles=") (2 ^ 64) cycles
  launched ← entry_in (codes "launched=") (2 ^ 64) launched
  ended ← entry_in (codes "ended=") (2 ^ 64) ended
  cancelled ← entry_in (codes "cancelled=") (2 ^ 64) cancelled
  expired ← entry_in (codes "expired=") (2 ^ 64) expired
  worth ← entry_in (codes "worth=") (2 ^ 127) worth
  optimal ← entry_in (codes "optimal=") (2 ^ 64) optimal
  Some (lines.Summary (record { cycles = cycles; launched = launched; ended = ended; cancelled = cancelled; expired = expired; worth = worth; optimal = optimal }))

abbrev pub summary_in : List (List ℕ) → Option ReportLine
summary_in (cycles ∷ launched ∷ ended ∷ cancelled ∷ expired ∷ worth ∷ optimal ∷ []) = summary_of_entries cycles launched ended cancelled expired worth optimal
summary_in words = None

-- the kind of a line by its first word; the words of a tree's nodes are none of these
unfoldable pub kind_in : List ℕ → Option Kind
kind_in word =
    if bytes_eq word (codes "cycle") then Some kinds.Cycle
    else (if bytes_eq word (codes "end") then Some kinds.End
    else (if bytes_eq word (codes "cancel") then Some kinds.Cancel
    else (if bytes_eq word (codes "fail") then Some kinds.Fail
    else (if bytes_eq word (codes "over") then Some kinds.Over
    else (if bytes_eq word (codes "expire") then Some kinds.Expire
    else (if bytes_eq word (codes "plan") then Some kinds.Plan
    else (if bytes_eq word (codes "grant") then Some kinds.Grant
    else (if bytes_eq word (codes "tops") then Some kinds.Tops
    else (if bytes_eq word (codes "launch") then Some kinds.Launch
    else (if bytes_eq word (codes "summary") then Some kinds.Summary else None))))))))))

-- nodes, and then those that were found
abbrev pub after_nodes : List ℕ → Option (List ℕ) → Option (List ℕ)
after_nodes front found = found >>= λ ns. Some (front ++ ns)

-- the lines that name jobs and nodes of a trace
module _ (s : Scenario) where
  unfoldable pub job_in : List ℕ → Option ℕ
  job_in name = number_of name (job_names s.submissions)

  unfoldable pub node_in : List ℕ → Option ℕ
  node_in name = number_of name (names_of s.nodes)

  -- a job by itself
  abbrev pub lone_job : List (List ℕ) → Option ℕ
  lone_job (job ∷ []) = job_in job
  lone_job words = None

  abbrev pub piece_in : List (List ℕ) → Option PieceId
  piece_in (job ∷ leaf ∷ []) = job_in job >>= λ job. small_number leaf >>= λ leaf. Some (record { job = job; leaf = leaf })
  piece_in words = None

  -- each name as a node
  abbrev pub nodes_in : List (List ℕ) → Option (List ℕ)
  nodes_in [] = Some []
  nodes_in (name ∷ names) = node_in name >>= λ n. nodes_in names >>= λ ns. Some (n ∷ ns)

  unfoldable pub grant_in : List (List ℕ) → Option ReportLine
  grant_in (job ∷ leaf ∷ start ∷ nodes ∷ []) = do
    job ← job_in job
    leaf ← small_number leaf
    start ← small_number start
    nodes ← nodes_in (parts_at 44 nodes)
    Some (lines.Grant (record { job = job; leaf = leaf; nodes = nodes }) start)
  grant_in words = None

  -- a line by its kind and the other words
  unfoldable pub line_of_kind : Kind → List (List ℕ) → Option ReportLine
  line_of_kind kinds.Cycle words = cycle_in words
  line_of_kind kinds.End words = option_map lines.End (piece_in words)
  line_of_kind kinds.Cancel words = option_map lines.Cancel (lone_job words)
  line_of_kind kinds.Fail words = option_map lines.Fail (lone_job words)
  line_of_kind kinds.Over words = option_map lines.Over (piece_in words)
  line_of_kind kinds.Expire words = option_map lines.Expire (lone_job words)
  line_of_kind kinds.Plan words = plan_in words
  line_of_kind kinds.Grant words = grant_in words
  line_of_kind kinds.Tops words = tops_in words
  line_of_kind kinds.Launch words = option_map lines.Launch (lone_job words)
  line_of_kind kinds.Summary words = summary_in words

  -- a line by its kind, if its first word is that of one, and else the node of a tree, if it is one
  abbrev pub line_by_tag : Option Kind → List ℕ → List (List ℕ) → Option ReportLine
  line_by_tag (Some kind) tag words = line_of_kind kind words
  line_by_tag None tag words = option_map lines.Node (node_by_tag tag words)

  abbrev pub line_of_words : List (List ℕ) → Option ReportLine
  line_of_words [] = None
  line_of_words (tag ∷ words) = line_by_tag (kind_in tag) tag words

  -- what a line says
  abbrev pub line_in : List ℕ → Option ReportLine
  line_in bytes = line_of_words (words_of bytes)
