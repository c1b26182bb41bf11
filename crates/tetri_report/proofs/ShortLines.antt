-- Each line of a printed report is short.
use Rattle.std.proofs.Common.{◌≡◌, ℕ, ◌+◌, ◌*◌, ◌<◌, ◌≤◌, ◌^◌, ◌&&◌, Bool, true, false, nat_le, List, [], ◌∷◌, ◌++◌, length, map, All, codes, decimal, arith, lit≤, length-append, ap, refl, subst, sym}
use Rattle.std.specs.Prelude.{flat_map}
use Rattle.std.specs.List.{list_all}
use Rattle.std.proofs.lemmas.Bool.{false≢true}
use Rattle.std.proofs.lemmas.Bool.Decides.{nat_tests}
use Rattle.std.proofs.lemmas.List.{get_or-map, length-map}
use Rattle.std.proofs.lemmas.List.Elements.{All-head, All-map, All-tail, All-weaker}
use Rattle.tetri_cert.proofs.MarkLaws.{short, text_joined}
use Rattle.tetri_cluster.specs.Cluster.{name_at}
use Rattle.tetri_cluster.specs.Names.{is_name, is_name_byte}
use Rattle.tetri_io.specs.Lines.{lines_from}
use Rattle.tetri_io.proofs.TextLaws.{decimal_short, joined_within, room}
use Rattle.tetri_trace.specs.Scenario.{Scenario}
use Rattle.tetri_trace.specs.Sound.{IsSound}
use Rattle.tetri_report.specs.Block.{Block}
use Rattle.tetri_report.specs.Printable.{IsInRange, IsPrintable, IsSummaryInRange}
use Rattle.tetri_report.specs.Text.{cycle_text, job_name, summary_text}
use Rattle.tetri_report.specs.declared.cycle.Summary.{Summary}
use Rattle.tetri_report.specs.declared.line.ReportLine.{ReportLine}
use Rattle.tetri_report.specs.declared.line.ReportLine.TheVariants as lines
use Rattle.tetri_report.proofs.PrintedLines.{IsPrintableLine, job_named, larges, line_of, marked, node_named, smalls, words}
use Rattle.tetri_report.proofs.ReadReports.{lines_printable, lines_printed, report_lines}

entry_short : (key : List ℕ) (n : ℕ) → length key ≤ 10 → n < 2 ^ 127 → length (key ++ decimal n) ≤ 49
entry_short key n few h = omega (arith, few, decimal_short n h, length-append key (decimal n))

name_short : (name : List ℕ) → is_name name ≡ true → length name ≤ 64
name_short name h = let few = second (nat_le 1 (length name)) (nat_le (length name) 64) (list_all is_name_byte name) h in grind (arith, nat_tests)
  where
    second : (a b c : Bool) → (a && b && c) ≡ true → b ≡ true
    second true true c h = refl
    second true false c h = absurd (false≢true h)
    second false b c h = absurd (false≢true h)

abbrev pub IsShort : List ℕ → Type 0
IsShort line = length line ≤ 1048576

pub from_map : (ls : List (List ℕ × ℕ)) → All IsShort (map (λ l. l.0) ls) → All (λ l. IsShort l.0) ls
from_map ls short k d lt = subst IsShort (get_or-map (λ (l : List ℕ × ℕ). l.0) ls k d d.0 lt) (short k d.0 (omega (arith, lt, length-map ls (λ (l : List ℕ × ℕ). l.0))))

module _ (t : Scenario) (sound : IsSound t) where
  job_short : (job : ℕ) → job < length t.submissions → length (job_name t job) ≤ 64
  job_short job h = name_short (job_name t job) (job_named t sound job h)

  nodes_room : (ns : List ℕ) → All (λ n. n < length t.nodes) ns → room (map (name_at t.nodes) ns) ≤ length ns * 65
  nodes_room [] all = omega arith
  nodes_room (n ∷ ns) all =
      let here = name_short (name_at t.nodes n) (node_named t sound n (All-head (λ m. m < length t.nodes) n ns all)) in
      let rest = nodes_room ns (All-tail (λ m. m < length t.nodes) n ns all) in
      omega arith

  pub line_short : (l : ReportLine) → IsPrintableLine t l → length (line_of t l) ≤ 1048576
  line_short (lines.Cycle number) h = omega (arith, joined_within 32 (words t (lines.Cycle number)), smalls.short number h)
  line_short (lines.End piece) h = omega (arith, joined_within 32 (words t (lines.End piece)), job_short piece.job h.0, smalls.short piece.leaf h.1)
  line_short (lines.Cancel job) h = omega (arith, joined_within 32 (words t (lines.Cancel job)), job_short job h)
  line_short (lines.Fail job) h = omega (arith, joined_within 32 (words t (lines.Fail job)), job_short job h)
  line_short (lines.Over piece) h = omega (arith, joined_within 32 (words t (lines.Over piece)), job_short piece.job h.0, smalls.short piece.leaf h.1)
  line_short (lines.Expire job) h = omega (arith, joined_within 32 (words t (lines.Expire job)), job_short job h)
  line_short (lines.Plan p) h = omega (arith, joined_within 32 (words t (lines.Plan p)), larges.short p.value h.0, larges.short p.bound h.1, marked.short p.mark tt, smalls.short p.nodes h.2)
  line_short (lines.Grant g start) h =
      let nodes = joined_within 44 (map (name_at t.nodes) g.nodes) in
      omega (arith, joined_within 32 (words t (lines.Grant g start)), job_short g.job h.0, smalls.short g.leaf h.1, smalls.short start h.2, nodes, nodes_room g.nodes h.4, h.5)
  line_short (lines.Tops columns rows) h = omega (arith, joined_within 32 (words t (lines.Tops columns rows)), larges.short columns h.0, larges.short rows h.1)
  line_short (lines.Node m) h = omega (arith, ap length (text_joined m), short m h.plain h.short)
  line_short (lines.Launch job) h = omega (arith, joined_within 32 (words t (lines.Launch job)), job_short job h)
  line_short (lines.Summary s) h =
      omega (
        arith,
        joined_within 32 (words t (lines.Summary s)),
        entry_short (codes "cycles=") s.cycles (lit≤ tt) (omega (arith, h.0)),
        entry_short (codes "launched=") s.launched (lit≤ tt) (omega (arith, h.1)),
        entry_short (codes "ended=") s.ended (lit≤ tt) (omega (arith, h.2)),
        entry_short (codes "cancelled=") s.cancelled (lit≤ tt) (omega (arith, h.3)),
        entry_short (codes "expired=") s.expired (lit≤ tt) (omega (arith, h.4)),
        entry_short (codes "worth=") s.worth (lit≤ tt) h.5,
        entry_short (codes "optimal=") s.optimal (lit≤ tt) (omega (arith, h.6)),
      )

  pub lines_short : (bs : List Block) (s : Summary) → All (IsPrintable t) bs → All IsInRange bs → IsSummaryInRange s →
      All (λ l. length l.0 ≤ 1048576) (lines_from 0 (flat_map (cycle_text t) bs ++ summary_text s))
  lines_short bs s good range small =
      let ls = report_lines bs s in
      let short = All-weaker (IsPrintableLine t) (λ l. IsShort (line_of t l)) line_short ls (lines_printable t sound bs s good range small) in
      from_map (lines_from 0 (flat_map (cycle_text t) bs ++ summary_text s))
      (subst (All IsShort) (sym (lines_printed t sound bs s good range small)) (All-map IsShort (line_of t) ls short))
