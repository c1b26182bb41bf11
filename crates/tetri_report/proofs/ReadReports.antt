-- A printed report reads back.
use Rattle.std.proofs.Common.{◌≡◌, ℕ, refl, sym, ap, ◌∙◌, List, [], ◌∷◌, ◌++◌, map, true, Bool, All, codes, decimal}
use Rattle.std.specs.Prelude.{Option, Some, None, Ok, flat_map, if◌then◌else◌}
use Rattle.std.specs.List.{join_with_byte}
use Rattle.std.proofs.lemmas.List.{append-nil, append_assoc, map-append}
use Rattle.std.proofs.lemmas.List.Elements.{All-append, All-cons, All-head, All-map, All-nil, All-tail}
use Rattle.tetri_strl.specs.declared.grants.Grant.{Grant}
use Rattle.tetri_cert.specs.NodeText.{node_line}
use Rattle.tetri_cert.specs.Text.{certificate_text}
use Rattle.tetri_cert.specs.declared.certificate.Certificate.{Certificate}
use Rattle.tetri_cert.specs.declared.certificate.Certificate.TheVariants.{Tops, Tree}
use Rattle.tetri_cert.specs.declared.marks.Mark.{Mark}
use Rattle.tetri_cert.proofs.MarkLaws.{text_joined}
use Rattle.tetri_cluster.specs.Cluster.{name_at}
use Rattle.tetri_io.specs.Lines.{lines_from}
use Rattle.tetri_io.proofs.TextLaws.{AllAvoid, lines_of_text, text_of}
use Rattle.tetri_trace.specs.Scenario.{Scenario}
use Rattle.tetri_trace.specs.Sound.{IsSound}
use Rattle.tetri_report.specs.Block.{Block}
use Rattle.tetri_report.specs.BlockLines.{block_lines, certificate_lines, granted, inner_lines, occurrences_in, plan_of}
use Rattle.tetri_report.specs.BlockLines as read
use Rattle.tetri_report.specs.Printable.{IsCertificateInRange, IsInRange, IsPrintable, IsPrintableCertificate, IsSummaryInRange}
use Rattle.tetri_report.specs.Reading.{Reading, is_between, is_certified, onto_report, opened, report_from, report_in, with_read}
use Rattle.tetri_base.specs.Lists.{with_first}
use Rattle.tetri_report.specs.Text.{after_comma, cycle_line, cycle_text, entry, events_text, grant_line, grant_lines, granted_line, happened_text, job_line, job_name, joined, launches_text, leaf_line, name_line, piece_line, plan_line, plan_text, summary_text}
use Rattle.tetri_report.specs.declared.cycle.Summary.{Summary}
use Rattle.tetri_report.specs.declared.line.ReportLine.{ReportLine}
use Rattle.tetri_report.specs.declared.line.ReportLine.TheVariants as lines
use Rattle.tetri_report.specs.declared.line.Stage.TheVariants as stages
use Rattle.tetri_report.proofs.StageLemmas.{certified_between}
use Rattle.tetri_report.proofs.PrintedLines.{IsPrintableLine, line_avoids, line_back, line_of}
use Rattle.tetri_report.proofs.ReadBlocks.{grants_good, reads_block}
use Rattle.tetri_report.proofs.ReadSteps.{step}

abbrev pub report_lines : List Block → Summary → List ReportLine
report_lines [] s = lines.Summary s ∷ []
report_lines (b ∷ bs) s = block_lines b ++ report_lines bs s

-- words behind spaces, and then the rest
abbrev behind : List (List ℕ) → List ℕ → List ℕ
behind [] rest = rest
behind (w ∷ ws) rest = 32 ∷ (w ++ behind ws rest)

abbrev added : List ℕ → List (List ℕ) → List ℕ → List ℕ
added front [] rest = front ++ rest
added front (w ∷ ws) rest = added (front ++ 32 ∷ w) ws rest

by_words : (w : List ℕ) (ws : List (List ℕ)) (rest : List ℕ) → added w ws rest ≡ join_with_byte 32 (w ∷ ws) ++ rest
by_words w ws rest = added_is w ws rest ∙ sym (joined_then w ws rest)
  where
    added_is : (w : List ℕ) (ws : List (List ℕ)) (rest : List ℕ) → added w ws rest ≡ w ++ behind ws rest
    added_is w [] rest = refl
    added_is w (v ∷ ws) rest = added_is (w ++ 32 ∷ v) ws rest ∙ append_assoc w (32 ∷ v) (behind ws rest)

    joined_then : (w : List ℕ) (ws : List (List ℕ)) (rest : List ℕ) → join_with_byte 32 (w ∷ ws) ++ rest ≡ w ++ behind ws rest
    joined_then w [] rest = refl
    joined_then w (v ∷ ws) rest = append_assoc w (32 ∷ join_with_byte 32 (v ∷ ws)) rest ∙ ap (λ l. w ++ 32 ∷ l) (joined_then v ws rest)

four_words : (tag a b c d : List ℕ) → (tag ++ 32 ∷ []) ++ a ++ (32 ∷ []) ++ b ++ (32 ∷ []) ++ c ++ (32 ∷ []) ++ d ++ (10 ∷ []) ≡ join_with_byte 32 (tag ∷ a ∷ b ∷ c ∷ d ∷ []) ++ 10 ∷ []
four_words tag a b c d = simp append_assoc

seven_words : (tag a b c d e f g : List ℕ) → tag ++ (32 ∷ a) ++ (32 ∷ b) ++ (32 ∷ c) ++ (32 ∷ d) ++ (32 ∷ e) ++ (32 ∷ f) ++ (32 ∷ g) ++ (10 ∷ []) ≡ join_with_byte 32 (tag ∷ a ∷ b ∷ c ∷ d ∷ e ∷ f ∷ g ∷ []) ++ 10 ∷ []
seven_words tag a b c d e f g = by_words tag (a ∷ b ∷ c ∷ d ∷ e ∷ f ∷ g ∷ []) (10 ∷ [])

-- The text of a report is made of its lines.
module _ (t : Scenario) where
  abbrev pub lines_text : List ReportLine → List ℕ
  lines_text ls = text_of (map (line_of t) ls)

  lines_text-append : (ls ms : List ReportLine) → lines_text (ls ++ ms) ≡ lines_text ls ++ lines_text ms
  lines_text-append [] ms = refl
  lines_text-append (l ∷ ls) ms = ap (λ x. line_of t l ++ 10 ∷ x) (lines_text-append ls ms) ∙ sym (append_assoc (line_of t l) (10 ∷ lines_text ls) (lines_text ms))

  pub cycle_is : (number : ℕ) → cycle_line number ≡ line_of t (lines.Cycle number) ++ 10 ∷ []
  unfolding cycle_line
  cycle_is number = refl

  pub name_is : (word name : List ℕ) → name_line word name ≡ join_with_byte 32 (word ∷ name ∷ []) ++ 10 ∷ []
  unfolding name_line
  name_is word name = simp append_assoc

  leaf_is : (word name : List ℕ) (leaf : ℕ) → leaf_line word name leaf ≡ join_with_byte 32 (word ∷ name ∷ decimal leaf ∷ []) ++ 10 ∷ []
  unfolding leaf_line
  leaf_is word name leaf = simp append_assoc

  pub plan_is : (b : Block) → plan_line b.value b.bound b.mark b.nodes ≡ line_of t (lines.Plan (plan_of b)) ++ 10 ∷ []
  unfolding plan_line
  plan_is b = simp append_assoc

  joined_is : (names : List (List ℕ)) → joined names ≡ join_with_byte 44 names
  joined_is [] = refl
  joined_is (x ∷ xs) = from_first x xs
    where
      from_first : (x : List ℕ) (xs : List (List ℕ)) → x ++ flat_map after_comma xs ≡ join_with_byte 44 (x ∷ xs)
      from_first x [] = append-nil x
      from_first x (y ∷ xs) = ap (λ l. x ++ 44 ∷ l) (from_first y xs)

  grant_is : (g : Grant) (start : ℕ) → grant_line t g start ≡ line_of t (lines.Grant g start) ++ 10 ∷ []
  unfolding granted_line
  grant_is g start =
      ap (λ l. codes "grant " ++ job_name t g.job ++ codes " " ++ decimal g.leaf ++ codes " " ++ decimal start ++ codes " " ++ l ++ codes "\n") (joined_is (map (name_at t.nodes) g.nodes))
      ∙ four_words (codes "grant") (job_name t g.job) (decimal g.leaf) (decimal start) (join_with_byte 44 (map (name_at t.nodes) g.nodes))

  summary_is : (s : Summary) → summary_text s ≡ line_of t (lines.Summary s) ++ 10 ∷ []
  unfolding summary_text entry
  summary_is s =
      seven_words (codes "summary") (codes "cycles=" ++ decimal s.cycles) (codes "launched=" ++ decimal s.launched) (codes "ended=" ++ decimal s.ended) (codes "cancelled=" ++ decimal s.cancelled)
      (codes "expired=" ++ decimal s.expired) (codes "worth=" ++ decimal s.worth) (codes "optimal=" ++ decimal s.optimal)

  -- lines of one kind
  pub flat_is : {X : Type 0} (text : X → List ℕ) (make : X → ReportLine) → ((x : X) → text x ≡ line_of t (make x) ++ 10 ∷ []) → (xs : List X) → flat_map text xs ≡ lines_text (map make xs)
  flat_is text make is [] = refl
  flat_is text make is (x ∷ xs) = ap (λ l. l ++ flat_map text xs) (is x) ∙ append_assoc (line_of t (make x)) (10 ∷ []) (flat_map text xs) ∙ ap (λ l. line_of t (make x) ++ 10 ∷ l) (flat_is text make is xs)

  node_is : (m : Mark) → node_line m ≡ line_of t (lines.Node m) ++ 10 ∷ []
  node_is m = ap (λ l. l ++ 10 ∷ []) (text_joined m)

  pub certificate_is : (c : Certificate) → certificate_text c ≡ lines_text (certificate_lines c)
  unfolding certificate_text
  certificate_is (Tops columns rows) = simp append_assoc
  certificate_is (Tree marks) = flat_is node_line lines.Node node_is marks

  pub grants_are : (gs : List Grant) (ss : List ℕ) → grant_lines t gs ss ≡ lines_text (map read.grant_line (granted gs ss))
  grants_are [] ss = refl
  grants_are (g ∷ gs) [] = refl
  grants_are (g ∷ gs) (s ∷ ss) =
      ap (λ l. l ++ grant_lines t gs ss) (grant_is g s) ∙ append_assoc (line_of t (lines.Grant g s)) (10 ∷ []) (grant_lines t gs ss) ∙ ap (λ l. line_of t (lines.Grant g s) ++ 10 ∷ l) (grants_are gs ss)

  pub happened_is : (b : Block) → happened_text t (occurrences_in b) ≡ lines_text (map lines.End b.ended) ++ lines_text (map lines.Cancel b.cancelled) ++ lines_text (map lines.Fail b.failed) ++ lines_text (map lines.Over b.over) ++ lines_text (map lines.Expire b.expired)
  unfolding happened_text
  happened_is b =
      let ended = flat_is (piece_line t (codes "end")) lines.End (λ p. leaf_is (codes "end") (job_name t p.job) p.leaf) b.ended in
      let cancelled = flat_is (job_line t (codes "cancel")) lines.Cancel (λ j. name_is (codes "cancel") (job_name t j)) b.cancelled in
      let failed = flat_is (job_line t (codes "fail")) lines.Fail (λ j. name_is (codes "fail") (job_name t j)) b.failed in
      let over = flat_is (piece_line t (codes "over")) lines.Over (λ p. leaf_is (codes "over") (job_name t p.job) p.leaf) b.over in
      let expired = flat_is (job_line t (codes "expire")) lines.Expire (λ j. name_is (codes "expire") (job_name t j)) b.expired in
      five_parts ended cancelled failed over expired
    where
      five_parts : {a a' b b' c c' d d' e e' : List ℕ} → a ≡ a' → b ≡ b' → c ≡ c' → d ≡ d' → e ≡ e' → a ++ b ++ c ++ d ++ e ≡ a' ++ b' ++ c' ++ d' ++ e'
      five_parts p q r s u = cc

  -- the parts of a block's text, glued
  glued : (c h p g m l : List ℕ) (e1 e2 e3 e4 e5 : List ℕ) → h ≡ e1 ++ e2 ++ e3 ++ e4 ++ e5 →
      (c ++ h) ++ (p ++ g ++ m) ++ l ≡ c ++ (e1 ++ (e2 ++ (e3 ++ (e4 ++ (e5 ++ (p ++ (g ++ (m ++ l))))))))
  glued c h p g m l e1 e2 e3 e4 e5 is = ap (λ x. (c ++ x) ++ (p ++ g ++ m) ++ l) is ∙ simp append_assoc

  glue : (x y : List ℕ) (ls ms : List ReportLine) → x ≡ lines_text ls → y ≡ lines_text ms → x ++ y ≡ lines_text (ls ++ ms)
  glue x y ls ms p q = ap (λ l. l ++ y) p ∙ ap (λ l. lines_text ls ++ l) q ∙ sym (lines_text-append ls ms)

  cycle_text_is : (b : Block) → cycle_text t b ≡ lines_text (block_lines b)
  unfolding cycle_text events_text plan_text launches_text
  cycle_text_is b =
      let launches = flat_is (job_line t (codes "launch")) lines.Launch (λ j. name_is (codes "launch") (job_name t j)) b.launched in
      let from_certificate = glue (certificate_text b.certificate) _ (certificate_lines b.certificate) _ (certificate_is b.certificate) launches in
      let from_grants = glue (grant_lines t b.grants b.starts) _ (map read.grant_line (granted b.grants b.starts)) _ (grants_are b.grants b.starts) from_certificate in
      let from_plan = glue (plan_line b.value b.bound b.mark b.nodes) _ (lines.Plan (plan_of b) ∷ []) _ (plan_is b) from_grants in
      let from_expired = glue (lines_text (map lines.Expire b.expired)) _ (map lines.Expire b.expired) _ refl from_plan in
      let from_over = glue (lines_text (map lines.Over b.over)) _ (map lines.Over b.over) _ refl from_expired in
      let from_failed = glue (lines_text (map lines.Fail b.failed)) _ (map lines.Fail b.failed) _ refl from_over in
      let from_cancelled = glue (lines_text (map lines.Cancel b.cancelled)) _ (map lines.Cancel b.cancelled) _ refl from_failed in
      let from_ended = glue (lines_text (map lines.End b.ended)) _ (map lines.End b.ended) _ refl from_cancelled in
      glued (cycle_line b.number) (happened_text t (occurrences_in b)) (plan_line b.value b.bound b.mark b.nodes) (grant_lines t b.grants b.starts) (certificate_text b.certificate) (flat_map (job_line t (codes "launch")) b.launched)
      (lines_text (map lines.End b.ended)) (lines_text (map lines.Cancel b.cancelled)) (lines_text (map lines.Fail b.failed)) (lines_text (map lines.Over b.over)) (lines_text (map lines.Expire b.expired)) (happened_is b)
      ∙ glue (cycle_line b.number) _ (lines.Cycle b.number ∷ []) _ (cycle_is b.number) from_ended

  report_text_is : (bs : List Block) (s : Summary) → flat_map (cycle_text t) bs ++ summary_text s ≡ lines_text (report_lines bs s)
  report_text_is [] s = summary_is s
  report_text_is (b ∷ bs) s =
      append_assoc (cycle_text t b) (flat_map (cycle_text t) bs) (summary_text s)
      ∙ glue (cycle_text t b) (flat_map (cycle_text t) bs ++ summary_text s) (block_lines b) (report_lines bs s) (cycle_text_is b) (report_text_is bs s)

module _ (t : Scenario) (sound : IsSound t) where
  pub certificate_good : (c : Certificate) → IsPrintableCertificate c → IsCertificateInRange c → All (IsPrintableLine t) (certificate_lines c)
  certificate_good (Tops columns rows) fits small = All-cons (IsPrintableLine t) (lines.Tops columns rows) [] small (All-nil (IsPrintableLine t))
  certificate_good (Tree marks) fits small = All-map (IsPrintableLine t) lines.Node marks fits.1

  inner_printable : (b : Block) → IsPrintable t b → IsInRange b → All (IsPrintableLine t) (inner_lines b)
  inner_printable b good range =
      let P = IsPrintableLine t in
      All-append P (map lines.End b.ended) _ (All-map P lines.End b.ended (λ k d lt. (good.ended k d lt, range.ended k d lt)))
      (All-append P (map lines.Cancel b.cancelled) _ (All-map P lines.Cancel b.cancelled good.cancelled)
      (All-append P (map lines.Fail b.failed) _ (All-map P lines.Fail b.failed good.failed)
      (All-append P (map lines.Over b.over) _ (All-map P lines.Over b.over (λ k d lt. (good.over k d lt, range.over k d lt)))
      (All-append P (map lines.Expire b.expired) _ (All-map P lines.Expire b.expired good.expired)
      (All-cons P (lines.Plan (plan_of b)) _ (range.value, range.bound, range.nodes)
      (All-append P (map read.grant_line (granted b.grants b.starts)) _
      (All-map P read.grant_line (granted b.grants b.starts) (grants_good t b.grants b.starts good.starts good.grants range.grants range.starts))
      (All-append P (certificate_lines b.certificate) _ (certificate_good b.certificate good.certificate range.certificate) (All-map P lines.Launch b.launched good.launched))))))))

  summary_good : (s : Summary) → IsSummaryInRange s → IsPrintableLine t (lines.Summary s)
  summary_good s range = (range.cycles, range.launched, range.ended, range.cancelled, range.expired, range.worth, range.optimal)

  pub lines_printable : (bs : List Block) (s : Summary) → All (IsPrintable t) bs → All IsInRange bs → IsSummaryInRange s → All (IsPrintableLine t) (report_lines bs s)
  lines_printable [] s good range small = All-cons (IsPrintableLine t) (lines.Summary s) [] (summary_good s small) (All-nil (IsPrintableLine t))
  lines_printable (b ∷ bs) s good range small =
      All-cons (IsPrintableLine t) (lines.Cycle b.number) _ (All-head IsInRange b bs range).number
      (All-append (IsPrintableLine t) (inner_lines b) (report_lines bs s) (inner_printable b (All-head (IsPrintable t) b bs good) (All-head IsInRange b bs range))
      (lines_printable bs s (All-tail (IsPrintable t) b bs good) (All-tail IsInRange b bs range) small))

  lines_avoid : (ls : List ReportLine) → All (IsPrintableLine t) ls → AllAvoid 10 (map (line_of t) ls)
  lines_avoid [] all = tt
  lines_avoid (l ∷ ls) all = (line_avoids t sound l (All-head (IsPrintableLine t) l ls all), lines_avoid ls (All-tail (IsPrintableLine t) l ls all))

  -- the block before a reading at which a block may begin, if there is one
  abbrev before : Reading → Option Block
  before r = if is_certified r.stage then Some r.block else None

  lines_read : (bs : List Block) (s : Summary) → All (IsPrintable t) bs → All IsInRange bs → IsSummaryInRange s → (r : Reading) → r.fault ≡ None → is_between r.stage ≡ true →
      report_from t r (map (line_of t) (report_lines bs s)) ≡ Ok (with_first (before r) bs, s)
  lines_read [] s good range small r sane here = step t r (line_of t (lines.Summary s)) (lines.Summary s) [] sane (line_back t sound (lines.Summary s) (summary_good s small)) here
  lines_read (b ∷ bs) s good range small r sane here =
      let first = lines.Cycle b.number in
      let rest = map (line_of t) (report_lines bs s) in
      let numbered = (All-head IsInRange b bs range).number in
      let inner = reads_block t sound b (All-head (IsPrintable t) b bs good) (All-head IsInRange b bs range) (with_read r first) refl refl refl in
      let more = lines_read bs s (All-tail (IsPrintable t) b bs good) (All-tail IsInRange b bs range) small inner.behind inner.sane (certified_between inner.behind.stage inner.stage) in
      let ended : before inner.behind ≡ Some b = ap (λ (x : Bool). if x then Some inner.behind.block else None) inner.stage ∙ ap Some inner.is in
      step t r (line_of t first) first (map (line_of t) (inner_lines b ++ report_lines bs s)) sane (line_back t sound first numbered) here
      ∙ ap (λ ls. onto_report (before r) (report_from t (with_read r first) ls)) (map-append (line_of t) (inner_lines b) (report_lines bs s))
      ∙ ap (onto_report (before r)) (inner.same rest ∙ more ∙ ap (λ (o : Option Block). Ok (with_first o bs, s)) ended)

  -- the lines of a printed report
  pub lines_printed : (bs : List Block) (s : Summary) → All (IsPrintable t) bs → All IsInRange bs → IsSummaryInRange s →
      map (λ l. l.0) (lines_from 0 (flat_map (cycle_text t) bs ++ summary_text s)) ≡ map (line_of t) (report_lines bs s)
  lines_printed bs s good range small =
      ap (λ bytes. map (λ l. l.0) (lines_from 0 bytes)) (report_text_is t bs s)
      ∙ lines_of_text 0 (map (line_of t) (report_lines bs s)) (lines_avoid (report_lines bs s) (lines_printable bs s good range small))

  pub report_back : (bs : List Block) (s : Summary) → All (IsPrintable t) bs → All IsInRange bs → IsSummaryInRange s → report_in t (flat_map (cycle_text t) bs ++ summary_text s) ≡ Ok (bs, s)
  report_back bs s good range small = ap (report_from t opened) (lines_printed bs s good range small) ∙ lines_read bs s good range small opened refl refl
