use Rattle.std.proofs.Common.{◌≡◌, ◌+◌, ◌++◌, ◌∷◌, [], ℕ, List, length, drop, map, refl, ap, ◌∙◌, subst, arith}
use Rattle.std.proofs.lemmas.List.{length-append, map-append}
use Rattle.tetri_strl.specs.Aligned.{EachLeaf}
use Rattle.tetri_strl.specs.Tree.{tree}
use Rattle.tetri_strl.specs.WellMade.{IsSound}
use Rattle.tetri_base.specs.Lists.{Each}
use Rattle.tetri_space.specs.Partitions.{parts_of}
use Rattle.tetri_space.specs.Space.{Bid, bid, space}
use Rattle.tetri_space.proofs.InstanceLaws.{next_bid}
use Rattle.tetri_compile.specs.Draft.{bid_uppers}
use Rattle.tetri_compile.specs.Walk.{uppers}
use Rattle.tetri_compile.specs.steps.Walked.{IsReady, inside, usable}
use Rattle.tetri_wide.specs.declared.outline.Multiple.{Multiple}
use Rattle.tetri_wide.specs.declared.outline.Outline.{Outline}
use Rattle.tetri_wide.specs.Sketch.{IsWalked, form_of, next_column, share_of, sketch}
use Rattle.tetri_wide.proofs.WalkedLemmas.{bid_next}
use Rattle.tetri_wide.proofs.program.walk_bids.Goals as goal

pub walk-requires-clause-tree_sound : goal.walk-requires-clause-tree_sound
walk-requires-clause-tree_sound c =
    let os = c.offers-offer-items.result.now in
    let cut = next_bid os c.loop-offer.offer-index c.offer-item.result c.loop-offer-test.true c.offer-item.is in
    (subst (Each (λ (b : Bid). IsSound b.expr × EachLeaf (IsReady (space c.args.inst.now) (parts_of c.args.parts.now)) b.expr)) cut c.loop-offer.invariant.ready).0.0

pub walk-requires-clause-ready : goal.walk-requires-clause-ready
walk-requires-clause-ready c =
    let os = c.offers-offer-items.result.now in
    let cut = next_bid os c.loop-offer.offer-index c.offer-item.result c.loop-offer-test.true c.offer-item.is in
    (subst (Each (λ (b : Bid). IsSound b.expr × EachLeaf (IsReady (space c.args.inst.now) (parts_of c.args.parts.now)) b.expr)) cut c.loop-offer.invariant.ready).0.1

pub walk-requires-clause-fits : goal.walk-requires-clause-fits
walk-requires-clause-fits c =
    let s = space c.args.inst.now in
    let os = c.offers-offer-items.result.now in
    let i = c.loop-offer.offer-index in
    let e = tree c.offer-item.result.expr in
    let rest : List Bid = drop (i + 1) (map bid os) in
    let cut = next_bid os i c.offer-item.result c.loop-offer-test.true c.offer-item.is in
    let size = ap (λ (bs : List Bid). length (bid_uppers (inside s) (usable s) bs)) cut in
    let put = ap (λ (us : List ℕ). length us) c.in_ok-push.ensures.items ∙ length-append c.loop-offer.out.uppers.items (1 ∷ []) in
    omega (arith, c.loop-offer.invariant.fits, size, put, length-append (uppers (inside s) (usable s) e) (bid_uppers (inside s) (usable s) rest))

pub loop-offer-preserved : goal.loop-offer-preserved
loop-offer-preserved c =
    let s = space c.args.inst.now in
    let os = c.offers-offer-items.result.now in
    let i = c.loop-offer.offer-index in
    let o = c.offer-item.result in
    let h = c.loop-offer.invariant in
    let old = c.loop-offer.out in
    let cut = next_bid os i o c.loop-offer-test.true c.offer-item.is in
    let mid : Outline = record { uppers = c.push.new.self; rows = c.loop-offer.out.rows; holdings = c.loop-offer.out.holdings } in
    let at : c.len-indicator.result ≡ next_column (sketch c.loop-offer.out) = omega (arith, c.len-indicator.ensures, c.loop-offer.out.uppers.ok.0) in
    let said : IsWalked s o.job (tree o.expr) c.len-indicator.result (sketch mid) (sketch c.walk.new.out) (form_of c.in_ok-part.part.items) = c.in_ok-part.ensures in
    let next = bid_next s (bid o) (drop (i + 1) (map bid os)) (drop i (map bid os)) (map bid os) c.len-indicator.result (sketch c.args.out.now) (sketch c.loop-offer.out) (sketch mid) (sketch c.walk.new.out) (form_of c.loop-offer.form.items) (form_of c.extend_from_slice.new.self.items) (form_of c.in_ok-part.part.items)
    cut at c.in_ok-push.ensures.items refl refl said
    (ap (λ (ms : List Multiple). form_of ms) (c.in_ok-extend_from_slice.ensures.items ∙ ap (λ (ys : List Multiple). c.loop-offer.form.items ++ ys) c.deref.ensures.value)
    ∙ map-append share_of c.loop-offer.form.items c.in_ok-part.part.items) h.fits h.form h.uppers h.rows h.tallies in
    record {
      ready = (subst (Each (λ (b : Bid). IsSound b.expr × EachLeaf (IsReady s (parts_of c.args.parts.now)) b.expr)) cut h.ready).1;
      fits = next.0;
      form = next.1;
      uppers = next.2;
      rows = next.3;
      tallies = next.4;
    }
