-- The lines of a cycle, in their order.
use Rattle.std.specs.Prelude.{ℕ, ◌+◌, List, [], ◌∷◌, ◌++◌, map, length}
use Rattle.tetri_strl.specs.declared.grants.Grant.{Grant}
use Rattle.tetri_cert.specs.declared.certificate.Certificate.{Certificate}
use Rattle.tetri_cert.specs.declared.certificate.Certificate.TheVariants.{Tops, Tree}
use Rattle.tetri_state.specs.Begin.{Occurrences}
use Rattle.tetri_report.specs.Block.{Block}
use Rattle.tetri_report.specs.declared.line.PlanLine.{PlanLine}
use Rattle.tetri_report.specs.declared.line.ReportLine.{ReportLine}
use Rattle.tetri_report.specs.declared.line.ReportLine.TheVariants as lines

-- each grant with its start
abbrev pub granted : List Grant → List ℕ → List (Grant × ℕ)
granted [] starts = []
granted (g ∷ gs) [] = []
granted (g ∷ gs) (start ∷ starts) = (g, start) ∷ granted gs starts

abbrev pub grant_line : Grant × ℕ → ReportLine
grant_line p = lines.Grant p.0 p.1

-- one `tops` line, or the nodes of a tree
abbrev pub certificate_lines : Certificate → List ReportLine
certificate_lines (Tops columns rows) = lines.Tops columns rows ∷ []
certificate_lines (Tree marks) = map lines.Node marks

abbrev pub plan_of : Block → PlanLine
plan_of b = record { value = b.value; bound = b.bound; mark = b.mark; nodes = b.nodes }

-- what a cycle tells of its beginning
abbrev pub occurrences_in : Block → Occurrences
occurrences_in b = record { ended = b.ended; cancelled = b.cancelled; failed = b.failed; over = b.over; expired = b.expired }

-- the lines of events, and then others
abbrev pub event_lines : Occurrences → List ReportLine → List ReportLine
event_lines o rest = map lines.End o.ended ++ (map lines.Cancel o.cancelled ++ (map lines.Fail o.failed ++ (map lines.Over o.over ++ (map lines.Expire o.expired ++ rest))))

abbrev pub count_events : Occurrences → ℕ
count_events o = length o.ended + length o.cancelled + length o.failed + length o.over + length o.expired

-- the lines behind the first one
abbrev pub inner_lines : Block → List ReportLine
inner_lines b =
    event_lines (occurrences_in b)
    (lines.Plan (plan_of b) ∷ (map grant_line (granted b.grants b.starts) ++ (certificate_lines b.certificate ++ map lines.Launch b.launched)))

abbrev pub block_lines : Block → List ReportLine
block_lines b = lines.Cycle b.number ∷ inner_lines b

-- The places of a cycle's lines, where the `cycle` line has the place 0: its plan, its grants, the first line of its certificate,
-- its launches, and the line that stands behind it.
abbrev pub events : Block → ℕ
events b = count_events (occurrences_in b)

abbrev pub plan_place : Block → ℕ
plan_place b = 1 + events b

abbrev pub grant_place : Block → ℕ → ℕ
grant_place b grant = plan_place b + 1 + grant

abbrev pub certificate_place : Block → ℕ
certificate_place b = grant_place b (length b.grants)

abbrev pub launch_place : Block → ℕ
launch_place b = certificate_place b + length (certificate_lines b.certificate)

abbrev pub end_place : Block → ℕ
end_place b = launch_place b + length b.launched
