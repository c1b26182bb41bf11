-- The texts that a cycle is printed as are whole lines, none of them long.
use Rattle.std.proofs.Common.{◌≡◌, ◌≢◌, ◌≤◌, ℕ, List, [], ◌∷◌, ◌++◌, false, All, map, length, codes, sym, ap, ◌∙◌, refl, subst, eqb}
use Rattle.std.specs.Prelude.{flat_map}
use Rattle.std.proofs.lemmas.Bool.{eqb-false}
use Rattle.std.proofs.lemmas.Grind.{flat_map-append}
use Rattle.std.proofs.lemmas.List.{append_assoc}
use Rattle.std.proofs.lemmas.List.Elements.{All-append, All-cons, All-head, All-map, All-nil, All-tail, All-weaker}
use Rattle.tetri_cert.specs.Text.{certificate_text}
use Rattle.tetri_io.specs.Lines.{lines_from}
use Rattle.tetri_io.proofs.TextLaws.{AllAvoid, lines_of_text, other, text_of}
use Rattle.tetri_trace.specs.Scenario.{Scenario}
use Rattle.tetri_trace.specs.Sound.{IsSound}
use Rattle.tetri_report.specs.Block.{Block}
use Rattle.tetri_report.specs.BlockLines.{certificate_lines, granted, occurrences_in, plan_of}
use Rattle.tetri_report.specs.BlockLines as read
use Rattle.tetri_report.specs.Printable.{IsInRange, IsPrintable}
use Rattle.tetri_report.specs.Text.{cycle_line, events_text, grant_lines, happened_text, job_line, job_name, launches_text, plan_line, plan_text}
use Rattle.tetri_report.specs.WholeLines.{IsOfShortLines, IsShortLine, with_feed}
use Rattle.tetri_report.specs.declared.line.ReportLine.{ReportLine}
use Rattle.tetri_report.specs.declared.line.ReportLine.TheVariants as lines
use Rattle.tetri_report.proofs.PrintedLines.{IsPrintableLine, line_avoids, line_of}
use Rattle.tetri_report.proofs.ReadBlocks.{grants_good}
use Rattle.tetri_report.proofs.ReadReports.{certificate_good, certificate_is, cycle_is, flat_is, grants_are, happened_is, lines_text, name_is, plan_is}
use Rattle.tetri_report.proofs.ShortLines.{IsShort, from_map, line_short}

text_is_flat : (ls : List (List ℕ)) → text_of ls ≡ flat_map with_feed ls
text_is_flat [] = refl
text_is_flat (l ∷ ls) = ap (λ x. l ++ 10 ∷ x) (text_is_flat ls) ∙ sym (append_assoc l (10 ∷ []) (flat_map with_feed ls))

all_avoid : (ls : List (List ℕ)) → All IsShortLine ls → AllAvoid 10 ls
all_avoid [] all = tt
all_avoid (l ∷ ls) all =
    (All-weaker (λ b. b ≢ 10) (λ b. eqb b 10 ≡ false) (λ b h. other b 10 h) l (All-head IsShortLine l ls all).whole, all_avoid ls (All-tail IsShortLine l ls all))

-- a text behind another
pub behind_short : (a b : List ℕ) → IsOfShortLines a → IsOfShortLines b → IsOfShortLines (a ++ b)
behind_short a b x y = record {
  lines = x.lines ++ y.lines;
  short = All-append IsShortLine x.lines y.lines x.short y.short;
  text_is = ap (λ l. l ++ b) x.text_is ∙ ap (λ l. flat_map with_feed x.lines ++ l) y.text_is ∙ sym (flat_map-append with_feed x.lines y.lines);
}

-- what a reader finds
pub read_short : (text : List ℕ) → IsOfShortLines text → All (λ l. length l.0 ≤ 1048576) (lines_from 0 text)
read_short text x =
    let reads : map (λ l. l.0) (lines_from 0 text) ≡ x.lines =
    ap (λ bytes. map (λ l. l.0) (lines_from 0 bytes)) (x.text_is ∙ sym (text_is_flat x.lines)) ∙ lines_of_text 0 x.lines (all_avoid x.lines x.short) in
    from_map (lines_from 0 text) (subst (All IsShort) (sym reads) (All-weaker IsShortLine IsShort (λ l h. h.short) x.lines x.short))

module _ (t : Scenario) (sound : IsSound t) where
  lines_good : (ls : List ReportLine) → All (IsPrintableLine t) ls → IsOfShortLines (lines_text t ls)
  lines_good ls all = record {
    lines = map (line_of t) ls;
    short = All-map IsShortLine (line_of t) ls
        (All-weaker (IsPrintableLine t) (λ l. IsShortLine (line_of t l))
        (λ l h. record { short = line_short t sound l h; whole = All-weaker (λ b. eqb b 10 ≡ false) (λ b. b ≢ 10) (λ b h. eqb-false b 10 h) (line_of t l) (line_avoids t sound l h) }) ls all);
    text_is = text_is_flat (map (line_of t) ls);
  }

  of_lines : (text : List ℕ) (ls : List ReportLine) → text ≡ lines_text t ls → All (IsPrintableLine t) ls → IsOfShortLines text
  of_lines text ls is all = subst IsOfShortLines (sym is) (lines_good ls all)

  alone : (l : ReportLine) → IsPrintableLine t l → All (IsPrintableLine t) (l ∷ [])
  alone l h = All-cons (IsPrintableLine t) l [] h (All-nil (IsPrintableLine t))

  module _ (b : Block) (good : IsPrintable t b) (range : IsInRange b) where
    happened_short : IsOfShortLines (happened_text t (occurrences_in b))
    happened_short =
        let P = IsPrintableLine t in
        subst IsOfShortLines (sym (happened_is t b))
        (behind_short _ _
        (behind_short _ _
        (behind_short _ _
        (behind_short _ _ (lines_good (map lines.End b.ended) (All-map P lines.End b.ended (λ k d lt. (good.ended k d lt, range.ended k d lt))))
        (lines_good (map lines.Cancel b.cancelled) (All-map P lines.Cancel b.cancelled good.cancelled)))
        (lines_good (map lines.Fail b.failed) (All-map P lines.Fail b.failed good.failed)))
        (lines_good (map lines.Over b.over) (All-map P lines.Over b.over (λ k d lt. (good.over k d lt, range.over k d lt)))))
        (lines_good (map lines.Expire b.expired) (All-map P lines.Expire b.expired good.expired)))

    pub events_short : IsOfShortLines (events_text t b.number (occurrences_in b))
    unfolding events_text
    events_short =
        behind_short (cycle_line b.number) (happened_text t (occurrences_in b)) (of_lines (cycle_line b.number) (lines.Cycle b.number ∷ []) (cycle_is t b.number) (alone (lines.Cycle b.number) range.number))
        happened_short

    pub plan_short : IsOfShortLines (plan_text t b.value b.bound b.mark b.nodes b.grants b.starts b.certificate)
    unfolding plan_text
    plan_short =
        let P = IsPrintableLine t in
        behind_short (plan_line b.value b.bound b.mark b.nodes ++ grant_lines t b.grants b.starts) (certificate_text b.certificate)
        (behind_short (plan_line b.value b.bound b.mark b.nodes) (grant_lines t b.grants b.starts)
        (of_lines (plan_line b.value b.bound b.mark b.nodes) (lines.Plan (plan_of b) ∷ []) (plan_is t b) (alone (lines.Plan (plan_of b)) (range.value, range.bound, range.nodes)))
        (of_lines (grant_lines t b.grants b.starts) (map read.grant_line (granted b.grants b.starts)) (grants_are t b.grants b.starts)
        (All-map P read.grant_line (granted b.grants b.starts) (grants_good t b.grants b.starts good.starts good.grants range.grants range.starts))))
        (of_lines (certificate_text b.certificate) (certificate_lines b.certificate) (certificate_is t b.certificate) (certificate_good t sound b.certificate good.certificate range.certificate))

    pub launches_short : IsOfShortLines (launches_text t b.launched)
    unfolding launches_text
    launches_short =
        of_lines (launches_text t b.launched) (map lines.Launch b.launched) (flat_is t (job_line t (codes "launch")) lines.Launch (λ j. name_is t (codes "launch") (job_name t j)) b.launched)
        (All-map (IsPrintableLine t) lines.Launch b.launched good.launched)
