-- Reading the printed lines of a block.
use Rattle.std.proofs.Common.{◌≡◌, ℕ, ◌<◌, ◌^◌, refl, sym, ap, ◌∙◌, arith, List, [], ◌∷◌, ◌++◌, length, map, true, All}
use Rattle.std.specs.Prelude.{None}
use Rattle.std.proofs.lemmas.List.{append-nil, append_assoc}
use Rattle.std.proofs.lemmas.List.Elements.{All-cons, All-head, All-nil, All-tail}
use Rattle.tetri_strl.specs.declared.grants.Grant.{Grant}
use Rattle.tetri_cert.specs.declared.plan_mark.PlanMark.TheVariants.{Wide}
use Rattle.tetri_cert.specs.declared.certificate.Certificate.{Certificate}
use Rattle.tetri_cert.specs.declared.certificate.Certificate.TheVariants.{Tops, Tree}
use Rattle.tetri_cert.specs.declared.marks.Mark.{Mark}
use Rattle.tetri_state.specs.declared.happened.PieceId.{PieceId}
use Rattle.tetri_trace.specs.Scenario.{Scenario}
use Rattle.tetri_trace.specs.Sound.{IsSound}
use Rattle.tetri_report.specs.Block.{Block}
use Rattle.tetri_report.specs.BlockLines.{certificate_lines, grant_line, granted, inner_lines, plan_of}
use Rattle.tetri_report.specs.Printable.{IsCertificateInRange, IsInRange, IsPrintable, IsPrintableCertificate, IsPrintableGrant, IsPrintableNode}
use Rattle.tetri_report.specs.Reading.{Reading, block_of, is_certified, is_from_to, with_line}
use Rattle.tetri_report.specs.declared.line.ReportLine.{ReportLine}
use Rattle.tetri_report.specs.declared.line.ReportLine.TheVariants as lines
use Rattle.tetri_report.specs.declared.line.Stage.TheVariants as stages
use Rattle.tetri_report.proofs.PrintedLines.{IsPrintableLine}
use Rattle.tetri_report.proofs.StageLemmas.{wider}
use Rattle.tetri_report.proofs.ReadSteps.{ReadsTo, and_then, lines_of_kind, one_line, with_lines}

-- what lines of one kind add to a block
module _ (t : Scenario) where
  private_append : {X : Type 0} (xs : List X) (x : X) (ys : List X) → (xs ++ x ∷ []) ++ ys ≡ xs ++ x ∷ ys
  private_append xs x ys = append_assoc xs (x ∷ []) ys

  adds_ended : (b : Block) (xs : List PieceId) → with_lines t lines.End b xs ≡ record b { ended = b.ended ++ xs }
  adds_ended b [] = ap (λ (l : List PieceId). record b { ended = l }) (sym (append-nil b.ended))
  adds_ended b (x ∷ xs) = adds_ended (record b { ended = b.ended ++ x ∷ [] }) xs ∙ ap (λ (l : List PieceId). record b { ended = l }) (private_append b.ended x xs)

  adds_cancelled : (b : Block) (xs : List ℕ) → with_lines t lines.Cancel b xs ≡ record b { cancelled = b.cancelled ++ xs }
  adds_cancelled b [] = ap (λ (l : List ℕ). record b { cancelled = l }) (sym (append-nil b.cancelled))
  adds_cancelled b (x ∷ xs) = adds_cancelled (record b { cancelled = b.cancelled ++ x ∷ [] }) xs ∙ ap (λ (l : List ℕ). record b { cancelled = l }) (private_append b.cancelled x xs)

  adds_failed : (b : Block) (xs : List ℕ) → with_lines t lines.Fail b xs ≡ record b { failed = b.failed ++ xs }
  adds_failed b [] = ap (λ (l : List ℕ). record b { failed = l }) (sym (append-nil b.failed))
  adds_failed b (x ∷ xs) = adds_failed (record b { failed = b.failed ++ x ∷ [] }) xs ∙ ap (λ (l : List ℕ). record b { failed = l }) (private_append b.failed x xs)

  adds_over : (b : Block) (xs : List PieceId) → with_lines t lines.Over b xs ≡ record b { over = b.over ++ xs }
  adds_over b [] = ap (λ (l : List PieceId). record b { over = l }) (sym (append-nil b.over))
  adds_over b (x ∷ xs) = adds_over (record b { over = b.over ++ x ∷ [] }) xs ∙ ap (λ (l : List PieceId). record b { over = l }) (private_append b.over x xs)

  adds_expired : (b : Block) (xs : List ℕ) → with_lines t lines.Expire b xs ≡ record b { expired = b.expired ++ xs }
  adds_expired b [] = ap (λ (l : List ℕ). record b { expired = l }) (sym (append-nil b.expired))
  adds_expired b (x ∷ xs) = adds_expired (record b { expired = b.expired ++ x ∷ [] }) xs ∙ ap (λ (l : List ℕ). record b { expired = l }) (private_append b.expired x xs)

  adds_launched : (b : Block) (xs : List ℕ) → with_lines t lines.Launch b xs ≡ record b { launched = b.launched ++ xs }
  adds_launched b [] = ap (λ (l : List ℕ). record b { launched = l }) (sym (append-nil b.launched))
  adds_launched b (x ∷ xs) = adds_launched (record b { launched = b.launched ++ x ∷ [] }) xs ∙ ap (λ (l : List ℕ). record b { launched = l }) (private_append b.launched x xs)

  adds_nodes : (b : Block) (ms ns : List Mark) → with_lines t lines.Node (record b { certificate = Tree ms }) ns ≡ record b { certificate = Tree (ms ++ ns) }
  adds_nodes b ms [] = ap (λ (l : List Mark). record b { certificate = Tree l }) (sym (append-nil ms))
  adds_nodes b ms (n ∷ ns) = adds_nodes b (ms ++ n ∷ []) ns ∙ ap (λ (l : List Mark). record b { certificate = Tree l }) (private_append ms n ns)

  adds_granted : (b : Block) (gs : List Grant) (ss : List ℕ) → length ss ≡ length gs →
      with_lines t grant_line b (granted gs ss) ≡ record b { grants = b.grants ++ gs; starts = b.starts ++ ss }
  adds_granted b [] [] e = ap (λ (l : List Grant × List ℕ). record b { grants = l.0; starts = l.1 }) (pair (sym (append-nil b.grants)) (sym (append-nil b.starts)))
    where
      pair : {X Y : Type 0} {x u : X} {y v : Y} → x ≡ u → y ≡ v → ◌≡◌ {A = X × Y} (x, y) (u, v)
      pair p q = cc
  adds_granted b [] (s ∷ ss) e = absurd (omega (arith, e))
  adds_granted b (g ∷ gs) [] e = absurd (omega (arith, e))
  adds_granted b (g ∷ gs) (s ∷ ss) e =
      adds_granted (record b { grants = b.grants ++ g ∷ []; starts = b.starts ++ s ∷ [] }) gs ss (omega (arith, e))
      ∙ ap (λ (l : List Grant). record b { grants = l; starts = (b.starts ++ s ∷ []) ++ ss }) (private_append b.grants g gs)
      ∙ ap (λ (l : List ℕ). record b { grants = b.grants ++ g ∷ gs; starts = l }) (private_append b.starts s ss)

  -- the facts of each grant's line
  pub grants_good : (gs : List Grant) (ss : List ℕ) → length ss ≡ length gs → All (IsPrintableGrant t) gs → All (λ g. g.leaf < 2 ^ 32) gs → All (λ n. n < 2 ^ 32) ss →
      All (λ p. IsPrintableLine t (grant_line p)) (granted gs ss)
  grants_good [] ss e good small starts = All-nil (λ p. IsPrintableLine t (grant_line p))
  grants_good (g ∷ gs) [] e good small starts = All-nil (λ p. IsPrintableLine t (grant_line p))
  grants_good (g ∷ gs) (s ∷ ss) e good small starts =
      let here = All-head (IsPrintableGrant t) g gs good in
      All-cons (λ p. IsPrintableLine t (grant_line p)) (g, s) (granted gs ss)
      (here.job, All-head (λ h. h.leaf < 2 ^ 32) g gs small, All-head (λ n. n < 2 ^ 32) s ss starts, here.some, here.nodes, here.few)
      (grants_good gs ss (omega (arith, e)) (All-tail (IsPrintableGrant t) g gs good) (All-tail (λ h. h.leaf < 2 ^ 32) g gs small) (All-tail (λ n. n < 2 ^ 32) s ss starts))

-- the block without what its later lines say
abbrev before_launches : Block → Block
before_launches b = record b { launched = [] }

abbrev before_certificate : Block → Block
before_certificate b = record (before_launches b) { certificate = Tops 0 0 }

abbrev before_grants : Block → Block
before_grants b = record (before_certificate b) { grants = []; starts = [] }

abbrev without_plan : Block → Block
without_plan b = record (before_grants b) { value = 0; bound = 0; mark = Wide; nodes = 0 }

abbrev before_expired : Block → Block
before_expired b = record (without_plan b) { expired = [] }

abbrev before_over : Block → Block
before_over b = record (before_expired b) { over = [] }

abbrev before_failed : Block → Block
before_failed b = record (before_over b) { failed = [] }

abbrev before_cancelled : Block → Block
before_cancelled b = record (before_failed b) { cancelled = [] }

module _ (t : Scenario) (sound : IsSound t) (b : Block) (good : IsPrintable t b) (range : IsInRange b) where
  launches_read : (r : Reading) → r.fault ≡ None → is_certified r.stage ≡ true → r.block ≡ before_launches b → ReadsTo t is_certified r (map lines.Launch b.launched) b
  launches_read r sane here is =
      let s = lines_of_kind t lines.Launch is_certified (λ stage x h. h) (λ x. refl) (λ x. refl) sound r b.launched sane here good.launched in
      record {
        behind = s.behind;
        sane = s.sane;
        stage = s.stage;
        is = s.is ∙ ap (λ (c : Block). with_lines t lines.Launch c b.launched) is ∙ adds_launched t (before_launches b) b.launched;
        same = s.same;
      }

  -- the block up to its certificate, which is this one
  abbrev certified : Certificate → Block
  certified c = record (before_certificate b) { certificate = c }

  tops_read : (r : Reading) (columns rows : ℕ) → r.fault ≡ None → is_from_to stages.Planned stages.Planned r.stage ≡ true → r.block ≡ before_certificate b → IsCertificateInRange (Tops columns rows) →
      ReadsTo t is_certified r (lines.Tops columns rows ∷ []) (certified (Tops columns rows))
  tops_read r columns rows sane here is small =
      let s = one_line t is_certified sound r (lines.Tops columns rows) sane here refl refl small in
      record { behind = s.behind; sane = s.sane; stage = s.stage; is = s.is ∙ ap (λ (c : Block). record c { certificate = Tops columns rows }) is; same = s.same }

  -- the first node begins a tree, and the others are added to it
  tree_read : (r : Reading) (m : Mark) (ms : List Mark) → r.fault ≡ None → is_from_to stages.Planned stages.Planned r.stage ≡ true → r.block ≡ before_certificate b → IsPrintableNode m → All IsPrintableNode ms →
      ReadsTo t is_certified r (lines.Node m ∷ map lines.Node ms) (certified (Tree (m ∷ ms)))
  tree_read r m ms sane here is first others =
      let one = one_line t (is_from_to stages.Tree stages.Tree) sound r (lines.Node m) sane (wider stages.Planned stages.Planned stages.Planned stages.Tree r.stage (omega arith) (omega arith) here) refl refl first in
      let more = lines_of_kind t lines.Node (is_from_to stages.Tree stages.Tree) (λ stage x h. wider stages.Tree stages.Tree stages.Planned stages.Tree stage (omega arith) (omega arith) h) (λ x. refl) (λ x. refl) sound one.behind ms one.sane one.stage others in
      let begun : one.behind.block ≡ certified (Tree (m ∷ [])) = one.is ∙ ap (λ (c : Block). with_line c (lines.Node m)) is in
      let s = and_then t (is_from_to stages.Tree stages.Tree) (is_from_to stages.Tree stages.Tree) r (lines.Node m ∷ []) (map lines.Node ms) _ _ one more in
      record {
        behind = s.behind;
        sane = s.sane;
        stage = wider stages.Tree stages.Tree stages.Tree stages.Certified s.behind.stage (omega arith) (omega arith) s.stage;
        is = s.is ∙ ap (λ (c : Block). with_lines t lines.Node c ms) begun ∙ adds_nodes t (before_certificate b) (m ∷ []) ms;
        same = s.same;
      }

  certificate_read : (r : Reading) (c : Certificate) → r.fault ≡ None → is_from_to stages.Planned stages.Planned r.stage ≡ true → r.block ≡ before_certificate b → IsPrintableCertificate c → IsCertificateInRange c →
      ReadsTo t is_certified r (certificate_lines c) (certified c)
  certificate_read r (Tops columns rows) sane here is fits small = tops_read r columns rows sane here is small
  certificate_read r (Tree []) sane here is fits small = absurd (omega (arith, fits.0))
  certificate_read r (Tree (m ∷ ms)) sane here is fits small = tree_read r m ms sane here is (All-head IsPrintableNode m ms fits.1) (All-tail IsPrintableNode m ms fits.1)

  abbrev from_certificate : List ReportLine
  from_certificate = certificate_lines b.certificate ++ map lines.Launch b.launched

  rest_from_certificate : (r : Reading) → r.fault ≡ None → is_from_to stages.Planned stages.Planned r.stage ≡ true → r.block ≡ before_certificate b → ReadsTo t is_certified r from_certificate b
  rest_from_certificate r sane here is =
      let s = certificate_read r b.certificate sane here is good.certificate range.certificate in
      and_then t is_certified is_certified r (certificate_lines b.certificate) (map lines.Launch b.launched) _ b s (launches_read s.behind s.sane s.stage s.is)

  abbrev from_grants : List ReportLine
  from_grants = map grant_line (granted b.grants b.starts) ++ from_certificate

  rest_from_grants : (r : Reading) → r.fault ≡ None → is_from_to stages.Planned stages.Planned r.stage ≡ true → r.block ≡ before_grants b → ReadsTo t is_certified r from_grants b
  rest_from_grants r sane here is =
      let s = lines_of_kind t grant_line (is_from_to stages.Planned stages.Planned) (λ stage x h. h) (λ x. refl) (λ x. refl) sound r (granted b.grants b.starts) sane here (grants_good t b.grants b.starts good.starts good.grants range.grants range.starts) in
      and_then t (is_from_to stages.Planned stages.Planned) is_certified r (map grant_line (granted b.grants b.starts)) from_certificate _ b s
      (rest_from_certificate s.behind s.sane s.stage (s.is ∙ ap (λ (c : Block). with_lines t grant_line c (granted b.grants b.starts)) is ∙ adds_granted t (before_grants b) b.grants b.starts good.starts))

  abbrev from_plan : List ReportLine
  from_plan = lines.Plan (plan_of b) ∷ [] ++ from_grants

  rest_from_plan : (r : Reading) → r.fault ≡ None → is_from_to stages.Begun stages.Expires r.stage ≡ true → r.block ≡ without_plan b → ReadsTo t is_certified r from_plan b
  rest_from_plan r sane here is =
      let s = one_line t (is_from_to stages.Planned stages.Planned) sound r (lines.Plan (plan_of b)) sane here refl refl (range.value, range.bound, range.nodes) in
      and_then t (is_from_to stages.Planned stages.Planned) is_certified r (lines.Plan (plan_of b) ∷ []) from_grants _ b s
      (rest_from_grants s.behind s.sane s.stage (s.is ∙ ap (λ (c : Block). with_line c (lines.Plan (plan_of b))) is))

  abbrev from_expired : List ReportLine
  from_expired = map lines.Expire b.expired ++ from_plan

  rest_from_expired : (r : Reading) → r.fault ≡ None → is_from_to stages.Begun stages.Expires r.stage ≡ true → r.block ≡ before_expired b → ReadsTo t is_certified r from_expired b
  rest_from_expired r sane here is =
      let s = lines_of_kind t lines.Expire (is_from_to stages.Begun stages.Expires) (λ stage x h. h) (λ x. refl) (λ x. refl) sound r b.expired sane here good.expired in
      and_then t (is_from_to stages.Begun stages.Expires) is_certified r (map lines.Expire b.expired) from_plan _ b s
      (rest_from_plan s.behind s.sane s.stage (s.is ∙ ap (λ (c : Block). with_lines t lines.Expire c b.expired) is ∙ adds_expired t (before_expired b) b.expired))

  abbrev from_over : List ReportLine
  from_over = map lines.Over b.over ++ from_expired

  rest_from_over : (r : Reading) → r.fault ≡ None → is_from_to stages.Begun stages.Overs r.stage ≡ true → r.block ≡ before_over b → ReadsTo t is_certified r from_over b
  rest_from_over r sane here is =
      let s = lines_of_kind t lines.Over (is_from_to stages.Begun stages.Overs) (λ stage x h. h) (λ x. refl) (λ x. refl) sound r b.over sane here (λ k d lt. (good.over k d lt, range.over k d lt)) in
      and_then t (is_from_to stages.Begun stages.Overs) is_certified r (map lines.Over b.over) from_expired _ b s
      (rest_from_expired s.behind s.sane (wider stages.Begun stages.Overs stages.Begun stages.Expires s.behind.stage (omega arith) (omega arith) s.stage) (s.is ∙ ap (λ (c : Block). with_lines t lines.Over c b.over) is ∙ adds_over t (before_over b) b.over))

  abbrev from_failed : List ReportLine
  from_failed = map lines.Fail b.failed ++ from_over

  rest_from_failed : (r : Reading) → r.fault ≡ None → is_from_to stages.Begun stages.Fails r.stage ≡ true → r.block ≡ before_failed b → ReadsTo t is_certified r from_failed b
  rest_from_failed r sane here is =
      let s = lines_of_kind t lines.Fail (is_from_to stages.Begun stages.Fails) (λ stage x h. h) (λ x. refl) (λ x. refl) sound r b.failed sane here good.failed in
      and_then t (is_from_to stages.Begun stages.Fails) is_certified r (map lines.Fail b.failed) from_over _ b s
      (rest_from_over s.behind s.sane (wider stages.Begun stages.Fails stages.Begun stages.Overs s.behind.stage (omega arith) (omega arith) s.stage) (s.is ∙ ap (λ (c : Block). with_lines t lines.Fail c b.failed) is ∙ adds_failed t (before_failed b) b.failed))

  abbrev from_cancelled : List ReportLine
  from_cancelled = map lines.Cancel b.cancelled ++ from_failed

  rest_from_cancelled : (r : Reading) → r.fault ≡ None → is_from_to stages.Begun stages.Cancels r.stage ≡ true → r.block ≡ before_cancelled b → ReadsTo t is_certified r from_cancelled b
  rest_from_cancelled r sane here is =
      let s = lines_of_kind t lines.Cancel (is_from_to stages.Begun stages.Cancels) (λ stage x h. h) (λ x. refl) (λ x. refl) sound r b.cancelled sane here good.cancelled in
      and_then t (is_from_to stages.Begun stages.Cancels) is_certified r (map lines.Cancel b.cancelled) from_failed _ b s
      (rest_from_failed s.behind s.sane (wider stages.Begun stages.Cancels stages.Begun stages.Fails s.behind.stage (omega arith) (omega arith) s.stage) (s.is ∙ ap (λ (c : Block). with_lines t lines.Cancel c b.cancelled) is ∙ adds_cancelled t (before_cancelled b) b.cancelled))

  -- all lines of a block behind its first one are read
  pub reads_block : (r : Reading) → r.fault ≡ None → is_from_to stages.Begun stages.Ends r.stage ≡ true → r.block ≡ block_of b.number → ReadsTo t is_certified r (inner_lines b) b
  reads_block r sane here is =
      let s = lines_of_kind t lines.End (is_from_to stages.Begun stages.Ends) (λ stage x h. h) (λ x. refl) (λ x. refl) sound r b.ended sane here (λ k d lt. (good.ended k d lt, range.ended k d lt)) in
      and_then t (is_from_to stages.Begun stages.Ends) is_certified r (map lines.End b.ended) from_cancelled _ b s
      (rest_from_cancelled s.behind s.sane (wider stages.Begun stages.Ends stages.Begun stages.Cancels s.behind.stage (omega arith) (omega arith) s.stage) (s.is ∙ ap (λ (c : Block). with_lines t lines.End c b.ended) is ∙ adds_ended t (block_of b.number) b.ended))
