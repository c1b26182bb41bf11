-- Rows as lines of JSON.
use Rattle.std.specs.Prelude.{ℕ, ◌-◌, List, ◌++◌, map, flat_map, Option, Some, None, codes, decimal, unwrap_or}
use Rattle.tetri_cluster.specs.Cluster.{name_at}
use Rattle.tetri_report.specs.Text.{job_name, joined}
use Rattle.tetri_state.specs.Snapshot.{offered}
use Rattle.tetri_state.specs.declared.pieces.Piece.{Piece}
use Rattle.tetri_strl.specs.Worth.{top_of}
use Rattle.tetri_trace.specs.Scenario.{Scenario, submission_of}
use Rattle.tetri_accounts.specs.declared.row.Outcome.{Outcome}
use Rattle.tetri_accounts.specs.declared.row.Outcome.TheVariants.{Ran, Overran, Failed, Cancelled, Expired, Waiting, Running}
use Rattle.tetri_accounts.specs.declared.row.Row.{Row}

abbrev pub outcome_text : Outcome → List ℕ
outcome_text Ran = codes "ran"
outcome_text Overran = codes "overran"
outcome_text Failed = codes "failed"
outcome_text Cancelled = codes "cancelled"
outcome_text Expired = codes "expired"
outcome_text Waiting = codes "waiting"
outcome_text Running = codes "running"

-- a number, if there is one
abbrev pub number_text : Option ℕ → List ℕ
number_text None = codes "null"
number_text (Some n) = decimal n

-- what a launch was worth; a job without one has no such number
abbrev pub worth_by : Option ℕ → ℕ → Option ℕ
worth_by None worth = None
worth_by (Some start) worth = Some worth

abbrev pub worth_of : Row → Option ℕ
worth_of r = worth_by r.start r.worth

unfoldable pub quoted : List ℕ → List ℕ
quoted text = codes "\"" ++ text ++ codes "\""

unfoldable pub named_text : List ℕ → ℕ → List ℕ → List ℕ
named_text name arrival outcome = codes "{\"job\":\"" ++ name ++ codes "\",\"arrival\":" ++ decimal arrival ++ codes ",\"outcome\":\"" ++ outcome ++ codes "\",\"start\":"

unfoldable pub waited_text : ℕ → List ℕ
waited_text wait = codes ",\"wait\":" ++ decimal wait ++ codes ",\"end\":"

-- the numbers of the leaves of pieces, and what they were worth
abbrev pub leaves_text : List Piece → List ℕ
leaves_text pieces = joined (map (λ p. decimal p.leaf) pieces)

abbrev pub worked_text : Row → List ℕ
worked_text r = codes ",\"leaf\":[" ++ leaves_text r.pieces ++ codes "],\"worth\":" ++ number_text (worth_of r)

unfoldable pub topped_text : ℕ → List ℕ
topped_text top = codes ",\"top\":" ++ decimal top ++ codes ",\"nodes\":["

module _ (t : Scenario) where
  -- the most that a job could earn as it arrived, by its leaves that start from then on
  abbrev pub top_at : ℕ → ℕ
  top_at job = top_of (submission_of t job).arrival 20001 (offered t (submission_of t job).arrival job)

  -- How many slots a job waited from its arrival on: up to its launch, and without one up to its end, or to the end of the run.
  abbrev pub wait_of : Row → ℕ
  wait_of r = unwrap_or r.start (unwrap_or r.end t.header.until) - (submission_of t r.job).arrival

  abbrev pub node_text : ℕ → List ℕ
  node_text node = quoted (name_at t.nodes node)

  -- the nodes of pieces, in their order
  abbrev pub nodes_text : List Piece → List ℕ
  nodes_text pieces = joined (map node_text (flat_map (λ p. p.nodes) pieces))

  -- when a row's launch or job came, started and ended
  unfoldable pub times_text : Row → List ℕ
  times_text r =
      named_text (job_name t r.job) (submission_of t r.job).arrival (outcome_text r.outcome) ++ number_text r.start
      ++ waited_text (wait_of r) ++ number_text r.end

  -- what it ran, and what it was worth
  unfoldable pub ran_text : Row → List ℕ
  ran_text r = worked_text r ++ topped_text (top_at r.job) ++ nodes_text r.pieces ++ codes "]}\n"

  -- A row as a line: `{"job":NAME,"arrival":N,"outcome":WORD,"start":N,"wait":N,"end":N,"leaf":[N,..],"worth":N,"top":N,"nodes":[NAME,..]}`,
  -- with `null` for a start, an end or a worth that is not there.
  abbrev pub row_line : Row → List ℕ
  row_line r = times_text r ++ ran_text r

  abbrev pub rows_text : List Row → List ℕ
  rows_text rows = flat_map row_line rows
