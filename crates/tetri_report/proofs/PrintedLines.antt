-- The words of the lines of a report, and that they read back.
use Rattle.std.proofs.Common.{◌≡◌, ℕ, ◌<◌, ◌≤◌, ◌^◌, refl, ap, ◌∙◌, arith, inl, List, [], ◌∷◌, ◌++◌, length, map, take, drop, cond, true, false, Bool, Option, Some, None, codes, decimal, bytes_eq, lit<, lit≤, All, eqb, nat_le}
use Rattle.std.specs.Prelude.{option_and_then, option_map}
use Rattle.std.specs.List.{join_with_byte, list_all}
use Rattle.std.proofs.lemmas.List.{length-map}
use Rattle.std.proofs.lemmas.List.Elements.{All-append, All-head, All-map, All-tail, All-weaker}
use Rattle.std.proofs.lemmas.Slice.Eq.{bytes_eq-Decides}
use Rattle.tetri_strl.specs.declared.grants.Grant.{Grant}
use Rattle.tetri_cert.specs.Text.{mark_text}
use Rattle.tetri_cert.specs.declared.plan_mark.PlanMark.{PlanMark}
use Rattle.tetri_cert.specs.declared.marks.Mark.{Mark}
use Rattle.tetri_cert.specs.declared.marks.Mark.TheVariants.{Split, Close, Whole, Rest}
use Rattle.tetri_cert.specs.declared.plan_mark.PlanMark.TheVariants.{Optimal, Spent, Wide}
use Rattle.tetri_cert.specs.NodeText.{node_tag, node_words}
use Rattle.tetri_cert.proofs.MarkLaws as marks
use Rattle.tetri_cluster.specs.Cluster.{name_at, names_of}
use Rattle.tetri_cluster.specs.Names.{is_name}
use Rattle.tetri_cluster.proofs.ClusterLaws.{name_avoids, number_back}
use Rattle.tetri_io.specs.Numbers.{number_below}
use Rattle.tetri_io.specs.Words.{parts_at}
use Rattle.tetri_io.proofs.TextLaws.{AllAvoid, Avoids, IsCodec, IsOwnWord, among_laws, decimal_avoids, high_avoids, joined_avoids, number_below-decimal, number_laws, parts_of_joined}
use Rattle.tetri_state.specs.declared.happened.PieceId.{PieceId}
use Rattle.tetri_trace.specs.Scenario.{Scenario, Submission, job_names}
use Rattle.tetri_trace.specs.Sound.{IsSound, IsSoundSubmission}
use Rattle.tetri_report.specs.Line.{entry_in, grant_in, job_in, kind_in, large_numbers, line_by_tag, line_in, line_of_kind, line_of_words, node_in, nodes_in, piece_in, plan_in, plan_marks, summary_of_entries}
use Rattle.tetri_report.specs.Printable.{IsPrintableNode}
use Rattle.tetri_report.specs.Text.{job_name}
use Rattle.tetri_report.specs.declared.cycle.Summary.{Summary}
use Rattle.tetri_report.specs.declared.line.Kind.{Kind}
use Rattle.tetri_report.specs.declared.line.PlanLine.{PlanLine}
use Rattle.tetri_report.specs.declared.line.ReportLine.{ReportLine}
use Rattle.tetri_report.specs.declared.line.ReportLine.TheVariants as lines
use Rattle.tetri_cert.specs.Numbers.{small_number, small_numbers}

pub smalls : IsCodec 44 (λ (n : ℕ). 39) small_numbers
smalls = number_laws 44 (2 ^ 32) (lit≤ tt) (lit≤ tt)

pub larges : IsCodec 44 (λ (n : ℕ). 39) large_numbers
larges = number_laws 44 (2 ^ 64) (lit≤ tt) (lit≤ tt)

pub marked : IsCodec 44 (λ (m : PlanMark). 7) plan_marks
marked = among_laws 44 7 mark_text (Optimal ∷ Spent ∷ Wide ∷ []) own
  where
    own : (m : PlanMark) → IsOwnWord 44 7 mark_text (Optimal ∷ Spent ∷ Wide ∷ []) m
    own Optimal = record { back = refl; high = refl; some = lit< tt; short = lit≤ tt }
    own Spent = record { back = refl; high = refl; some = lit< tt; short = lit≤ tt }
    own Wide = record { back = refl; high = refl; some = lit< tt; short = lit≤ tt }

-- the tag of a node is no kind of a report's own
node_kind : (m : Mark) → kind_in (node_tag m) ≡ None
unfolding kind_in
node_kind (Split column at licence) = refl
node_kind (Close q ws) = refl
node_kind (Whole q ws worth point) = refl
node_kind (Rest q ws) = refl

-- the words of a line
module _ (t : Scenario) where
  abbrev pub tag : ReportLine → List ℕ
  tag (lines.Cycle number) = codes "cycle"
  tag (lines.End piece) = codes "end"
  tag (lines.Cancel job) = codes "cancel"
  tag (lines.Fail job) = codes "fail"
  tag (lines.Over piece) = codes "over"
  tag (lines.Expire job) = codes "expire"
  tag (lines.Plan p) = codes "plan"
  tag (lines.Grant g start) = codes "grant"
  tag (lines.Tops columns rows) = codes "tops"
  tag (lines.Node m) = node_tag m
  tag (lines.Launch job) = codes "launch"
  tag (lines.Summary s) = codes "summary"

  abbrev pub others : ReportLine → List (List ℕ)
  others (lines.Cycle number) = decimal number ∷ []
  others (lines.End piece) = job_name t piece.job ∷ decimal piece.leaf ∷ []
  others (lines.Cancel job) = job_name t job ∷ []
  others (lines.Fail job) = job_name t job ∷ []
  others (lines.Over piece) = job_name t piece.job ∷ decimal piece.leaf ∷ []
  others (lines.Expire job) = job_name t job ∷ []
  others (lines.Plan p) = decimal p.value ∷ decimal p.bound ∷ mark_text p.mark ∷ decimal p.nodes ∷ []
  others (lines.Grant g start) = job_name t g.job ∷ decimal g.leaf ∷ decimal start ∷ join_with_byte 44 (map (name_at t.nodes) g.nodes) ∷ []
  others (lines.Tops columns rows) = decimal columns ∷ decimal rows ∷ []
  others (lines.Node m) = node_words m
  others (lines.Launch job) = job_name t job ∷ []
  others (lines.Summary s) = (codes "cycles=" ++ decimal s.cycles) ∷ (codes "launched=" ++ decimal s.launched) ∷ (codes "ended=" ++ decimal s.ended)
      ∷ (codes "cancelled=" ++ decimal s.cancelled) ∷ (codes "expired=" ++ decimal s.expired) ∷ (codes "worth=" ++ decimal s.worth) ∷ (codes "optimal=" ++ decimal s.optimal) ∷ []

  abbrev pub words : ReportLine → List (List ℕ)
  words l = tag l ∷ others l

  -- its numbers are within their ranges, and its jobs and nodes are there
  abbrev pub IsPrintableLine : ReportLine → Type 0
  IsPrintableLine (lines.Cycle number) = number < 2 ^ 32
  IsPrintableLine (lines.End piece) = (piece.job < length t.submissions) × (piece.leaf < 2 ^ 32)
  IsPrintableLine (lines.Cancel job) = job < length t.submissions
  IsPrintableLine (lines.Fail job) = job < length t.submissions
  IsPrintableLine (lines.Over piece) = (piece.job < length t.submissions) × (piece.leaf < 2 ^ 32)
  IsPrintableLine (lines.Expire job) = job < length t.submissions
  IsPrintableLine (lines.Plan p) = (p.value < 2 ^ 64) × (p.bound < 2 ^ 64) × (p.nodes < 2 ^ 32)
  IsPrintableLine (lines.Grant g start) = (g.job < length t.submissions) × (g.leaf < 2 ^ 32) × (start < 2 ^ 32) × (1 ≤ length g.nodes) × All (λ n. n < length t.nodes) g.nodes × (length g.nodes ≤ 4096)
  IsPrintableLine (lines.Tops columns rows) = (columns < 2 ^ 64) × (rows < 2 ^ 64)
  IsPrintableLine (lines.Node m) = IsPrintableNode m
  IsPrintableLine (lines.Launch job) = job < length t.submissions
  IsPrintableLine (lines.Summary s) = (s.cycles < 2 ^ 64) × (s.launched < 2 ^ 64) × (s.ended < 2 ^ 64) × (s.cancelled < 2 ^ 64) × (s.expired < 2 ^ 64) × (s.worth < 2 ^ 127) × (s.optimal < 2 ^ 64)

-- an entry of the summary reads back
entry_back : (key : List ℕ) (limit n : ℕ) → limit ≤ 2 ^ 127 → n < limit → entry_in key limit (key ++ decimal n) ≡ Some n
unfolding entry_in
entry_back key limit n small h =
    let front : take (length key) (key ++ decimal n) ≡ key = take_front key (decimal n) in
    let back : drop (length key) (key ++ decimal n) ≡ decimal n = drop_front key (decimal n) in
    let test : bytes_eq (take (length key) (key ++ decimal n)) key ≡ true = (bytes_eq-Decides _ _).1 front in
    ap (λ (b : Bool). cond b (number_below limit (drop (length key) (key ++ decimal n))) None) test
    ∙ ap (number_below limit) back ∙ number_below-decimal limit n small h
  where
    take_front : (xs ys : List ℕ) → take (length xs) (xs ++ ys) ≡ xs
    take_front [] ys = refl
    take_front (x ∷ xs) ys = ap (λ l. x ∷ l) (take_front xs ys)

    drop_front : (xs ys : List ℕ) → drop (length xs) (xs ++ ys) ≡ ys
    drop_front [] ys = refl
    drop_front (x ∷ xs) ys = drop_front xs ys

-- a line without its line feed
abbrev pub line_of : Scenario → ReportLine → List ℕ
line_of t l = join_with_byte 32 (words t l)

module _ (t : Scenario) (sound : IsSound t) where
  job_back : (job : ℕ) → job < length t.submissions → job_in t (job_name t job) ≡ Some job
  unfolding job_in
  job_back job h = number_back (job_names t.submissions) job sound.jobs_differ (omega (arith, length-map t.submissions (λ j. j.name)))

  node_back : (node : ℕ) → node < length t.nodes → node_in t (name_at t.nodes node) ≡ Some node
  unfolding node_in
  node_back node h = number_back (names_of t.nodes) node sound.nodes_differ (omega (arith, length-map t.nodes (λ n. n.name)))

  piece_back : (p : PieceId) → p.job < length t.submissions → p.leaf < 2 ^ 32 → piece_in t (job_name t p.job ∷ decimal p.leaf ∷ []) ≡ Some p
  piece_back p h l =
      ap (λ o. option_and_then (λ job. option_and_then (λ leaf. Some (record { job = job; leaf = leaf })) (small_number (decimal p.leaf))) o) (job_back p.job h)
      ∙ ap (λ o. option_and_then (λ leaf. Some (record { job = p.job; leaf = leaf })) o) (smalls.back p.leaf l)

  nodes_back : (ns : List ℕ) → All (λ n. n < length t.nodes) ns → nodes_in t (map (name_at t.nodes) ns) ≡ Some ns
  nodes_back [] all = refl
  nodes_back (n ∷ ns) all =
      ap (λ o. option_and_then (λ m. option_and_then (λ ms. Some (m ∷ ms)) (nodes_in t (map (name_at t.nodes) ns))) o) (node_back n (All-head (λ m. m < length t.nodes) n ns all))
      ∙ ap (λ o. option_and_then (λ ms. Some (n ∷ ms)) o) (nodes_back ns (All-tail (λ m. m < length t.nodes) n ns all))

  pub job_named : (job : ℕ) → job < length t.submissions → is_name (job_name t job) ≡ true
  job_named job h = named job [] (omega (arith, length-map t.submissions (λ j. j.name)))
    where
      named : All (λ name. is_name name ≡ true) (job_names t.submissions)
      named = All-map (λ name. is_name name ≡ true) (λ (j : Submission). j.name) t.submissions (All-weaker (IsSoundSubmission t) (λ j. is_name j.name ≡ true) (λ j h. h.named) t.submissions sound.jobs)

  pub node_named : (node : ℕ) → node < length t.nodes → is_name (name_at t.nodes node) ≡ true
  node_named node h = sound.node_names node [] (omega (arith, length-map t.nodes (λ n. n.name)))

  -- a name has none of the marks between words and nodes
  job_avoids : (mark job : ℕ) → mark < 45 → job < length t.submissions → Avoids mark (job_name t job)
  job_avoids mark job low h = name_avoids mark (job_name t job) low (job_named job h)

  node_avoids : (mark node : ℕ) → mark < 45 → node < length t.nodes → Avoids mark (name_at t.nodes node)
  node_avoids mark node low h = name_avoids mark (name_at t.nodes node) low (node_named node h)

  names_avoid : (mark : ℕ) (ns : List ℕ) → mark < 45 → All (λ n. n < length t.nodes) ns → AllAvoid mark (map (name_at t.nodes) ns)
  names_avoid mark [] low all = tt
  names_avoid mark (n ∷ ns) low all =
      (node_avoids mark n low (All-head (λ m. m < length t.nodes) n ns all), names_avoid mark ns low (All-tail (λ m. m < length t.nodes) n ns all))

  parts_back : (ns : List ℕ) → 1 ≤ length ns → All (λ n. n < length t.nodes) ns → parts_at 44 (join_with_byte 44 (map (name_at t.nodes) ns)) ≡ map (name_at t.nodes) ns
  parts_back [] some all = absurd (omega (arith, some))
  parts_back (n ∷ ns) some all = parts_of_joined 44 (name_at t.nodes n) (map (name_at t.nodes) ns) (names_avoid 44 (n ∷ ns) (lit< tt) all)

  grant_back : (g : Grant) (start : ℕ) → IsPrintableLine t (lines.Grant g start) →
      grant_in t (job_name t g.job ∷ decimal g.leaf ∷ decimal start ∷ join_with_byte 44 (map (name_at t.nodes) g.nodes) ∷ []) ≡ Some (lines.Grant g start)
  unfolding grant_in
  grant_back g start h =
      let nodes : nodes_in t (parts_at 44 (join_with_byte 44 (map (name_at t.nodes) g.nodes))) ≡ Some g.nodes = ap (nodes_in t) (parts_back g.nodes h.3 h.4) ∙ nodes_back g.nodes h.4 in
      rw (job_back g.job h.0, smalls.back g.leaf h.1, smalls.back start h.2, nodes) refl

  plan_back : (p : PlanLine) → IsPrintableLine t (lines.Plan p) → plan_in (decimal p.value ∷ decimal p.bound ∷ mark_text p.mark ∷ decimal p.nodes ∷ []) ≡ Some (lines.Plan p)
  unfolding plan_in
  plan_back p h = rw (larges.back p.value h.0, larges.back p.bound h.1, marked.back p.mark tt, smalls.back p.nodes h.2) refl

  summary_back : (s : Summary) → IsPrintableLine t (lines.Summary s) →
      summary_of_entries (codes "cycles=" ++ decimal s.cycles) (codes "launched=" ++ decimal s.launched) (codes "ended=" ++ decimal s.ended) (codes "cancelled=" ++ decimal s.cancelled) (codes "expired=" ++ decimal s.expired) (codes "worth=" ++ decimal s.worth) (codes "optimal=" ++ decimal s.optimal)
      ≡ Some (lines.Summary s)
  unfolding summary_of_entries
  summary_back s h =
      rw (
        entry_back (codes "cycles=") (2 ^ 64) s.cycles (lit≤ tt) h.0,
        entry_back (codes "launched=") (2 ^ 64) s.launched (lit≤ tt) h.1,
        entry_back (codes "ended=") (2 ^ 64) s.ended (lit≤ tt) h.2,
        entry_back (codes "cancelled=") (2 ^ 64) s.cancelled (lit≤ tt) h.3,
        entry_back (codes "expired=") (2 ^ 64) s.expired (lit≤ tt) h.4,
        entry_back (codes "worth=") (2 ^ 127) s.worth (lit≤ tt) h.5,
        entry_back (codes "optimal=") (2 ^ 64) s.optimal (lit≤ tt) h.6,
      ) refl

  node_line_back : (m : Mark) → IsPrintableNode m → line_of_words t (node_tag m ∷ node_words m) ≡ Some (lines.Node m)
  node_line_back m h = ap (λ (k : Option Kind). line_by_tag t k (node_tag m) (node_words m)) (node_kind m) ∙ ap (option_map lines.Node) (marks.words_back m h.plain)

  -- the words of a line read as the line
  words_back : (l : ReportLine) → IsPrintableLine t l → line_of_words t (words t l) ≡ Some l
  unfolding kind_in line_of_kind
  words_back (lines.Cycle number) h = ap (λ o. option_and_then (λ n. Some (lines.Cycle n)) o) (smalls.back number h)
  words_back (lines.End piece) h = ap (option_map lines.End) (piece_back piece h.0 h.1)
  words_back (lines.Cancel job) h = ap (option_map lines.Cancel) (job_back job h)
  words_back (lines.Fail job) h = ap (option_map lines.Fail) (job_back job h)
  words_back (lines.Over piece) h = ap (option_map lines.Over) (piece_back piece h.0 h.1)
  words_back (lines.Expire job) h = ap (option_map lines.Expire) (job_back job h)
  words_back (lines.Plan p) h = plan_back p h
  words_back (lines.Grant g start) h = grant_back g start h
  words_back (lines.Tops columns rows) h = rw (larges.back columns h.0, larges.back rows h.1) refl
  words_back (lines.Node m) h = node_line_back m h
  words_back (lines.Launch job) h = ap (option_map lines.Launch) (job_back job h)
  words_back (lines.Summary s) h = summary_back s h

  -- each word avoids what stands between words and behind lines
  module _ (mark : ℕ) (low : mark < 44) where
    job_word : (job : ℕ) → job < length t.submissions → Avoids mark (job_name t job)
    job_word job h = job_avoids mark job (omega arith) h

    entry_word : (key : List ℕ) (n : ℕ) → list_all (nat_le 44) key ≡ true → n < 2 ^ 127 → Avoids mark (key ++ decimal n)
    entry_word key n high h = All-append (λ b. eqb b mark ≡ false) key (decimal n) (high_avoids 44 mark key low high) (decimal_avoids mark n (inl (omega arith)) h)

    nodes_word : (ns : List ℕ) → All (λ n. n < length t.nodes) ns → Avoids mark (join_with_byte 44 (map (name_at t.nodes) ns))
    nodes_word ns all = joined_avoids mark 44 (map (name_at t.nodes) ns) (λ (e : 44 ≡ mark). omega arith) (names_avoid mark ns (omega arith) all)

    words_avoid : (l : ReportLine) → IsPrintableLine t l → AllAvoid mark (words t l)
    words_avoid (lines.Cycle number) h =
        (high_avoids 44 mark (codes "cycle") low refl, (smalls.avoids mark number low h, tt))
    words_avoid (lines.End piece) h =
        (high_avoids 44 mark (codes "end") low refl, (job_word piece.job h.0, (smalls.avoids mark piece.leaf low h.1, tt)))
    words_avoid (lines.Cancel job) h =
        (high_avoids 44 mark (codes "cancel") low refl, (job_word job h, tt))
    words_avoid (lines.Fail job) h =
        (high_avoids 44 mark (codes "fail") low refl, (job_word job h, tt))
    words_avoid (lines.Over piece) h =
        (high_avoids 44 mark (codes "over") low refl, (job_word piece.job h.0, (smalls.avoids mark piece.leaf low h.1, tt)))
    words_avoid (lines.Expire job) h =
        (high_avoids 44 mark (codes "expire") low refl, (job_word job h, tt))
    words_avoid (lines.Plan p) h =
        (high_avoids 44 mark (codes "plan") low refl, (larges.avoids mark p.value low h.0, (larges.avoids mark p.bound low h.1, (marked.avoids mark p.mark low tt, (smalls.avoids mark p.nodes low h.2, tt)))))
    words_avoid (lines.Grant g start) h =
        (high_avoids 44 mark (codes "grant") low refl, (job_word g.job h.0, (smalls.avoids mark g.leaf low h.1, (smalls.avoids mark start low h.2, (nodes_word g.nodes h.4, tt)))))
    words_avoid (lines.Tops columns rows) h =
        (high_avoids 44 mark (codes "tops") low refl, (larges.avoids mark columns low h.0, (larges.avoids mark rows low h.1, tt)))
    words_avoid (lines.Node m) h = marks.node_avoids mark low m h.plain
    words_avoid (lines.Launch job) h =
        (high_avoids 44 mark (codes "launch") low refl, (job_word job h, tt))
    words_avoid (lines.Summary s) h =
        (high_avoids 44 mark (codes "summary") low refl, (entry_word (codes "cycles=") s.cycles refl (omega (arith, h.0)), (entry_word (codes "launched=") s.launched refl (omega (arith, h.1)), (entry_word (codes "ended=") s.ended refl (omega (arith, h.2)), (entry_word (codes "cancelled=") s.cancelled refl (omega (arith, h.3)), (entry_word (codes "expired=") s.expired refl (omega (arith, h.4)), (entry_word (codes "worth=") s.worth refl h.5, (entry_word (codes "optimal=") s.optimal refl (omega (arith, h.6)), tt))))))))

  -- a printed line avoids the line feed
  pub line_avoids : (l : ReportLine) → IsPrintableLine t l → Avoids 10 (line_of t l)
  line_avoids l h = joined_avoids 10 32 (words t l) (λ (e : 32 ≡ 10). omega arith) (words_avoid 10 (omega arith) l h)

  -- a printed line reads as the line
  pub line_back : (l : ReportLine) → IsPrintableLine t l → line_in t (line_of t l) ≡ Some l
  line_back l h = ap (line_of_words t) (parts_of_joined 32 (tag t l) (others t l) (words_avoid 32 (omega arith) l h)) ∙ words_back l h
