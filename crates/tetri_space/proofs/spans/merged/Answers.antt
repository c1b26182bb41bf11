use Rattle.std.proofs.Common.{◌+◌, ◌∷◌, ◌∙◌, ℕ, List, Vec, Global, drop, get_or, sym, ap, subst}
use Rattle.std.proofs.lemmas.List.{drop_more, drop_all}
use Rattle.tetri_space.specs.Spans.{AreSpansOf}
use Rattle.tetri_space.specs.declared.closure.Closure.{Closure}
use Rattle.tetri_space.proofs.SpanLemmas.{IsMerging, merging_begun, merging_more, merging_next, merging_over, not_touching}
use Rattle.tetri_space.proofs.spans.merged.Goals as goal
use Rattle.tetri_space.proofs.spans.merged.Goals.{then-touches, else-touches+in_ok-push}

pub loop-closure-init : goal.loop-closure-init
loop-closure-init c =
    subst (λ (xs : List Closure). IsMerging c.args.closures.now xs c.in-Some.first.now c.in-Some.rest.now) (sym c.new-spans.ensures.items)
    (merging_begun c.args.closures.now c.in-Some.first.now c.in-Some.rest.now c.in-Some.ensures.cases.0 c.requires.some_slots c.requires.fit c.requires.ascending)

pub loop-closure-preserved : goal.loop-closure-preserved
loop-closure-preserved c =
    let cs = c.args.closures.now in
    let rest = c.in-Some.rest.now in
    let i = c.loop-closure.closure-index in
    let spans = c.loop-closure.spans.items in
    let last = c.loop-closure.last in
    let x : Closure = get_or rest i (record { node = 0; from = 0; to = 0 }) in
    let left = drop (i + 1) rest in
    let h : IsMerging cs spans last (x ∷ left) = subst (IsMerging cs spans last) (drop_more rest i (record { node = 0; from = 0; to = 0 }) c.loop-closure-test.true) c.loop-closure.invariant in
    elim c.if-touches.branch [
      | then-touches w ↦
          let touch = c.touches.ensures.0 w.if-touches.true in
          subst (λ (v : Vec Closure Global). IsMerging cs v.items c.if-touches.last left) (sym w.spans-is)
          (subst (λ (l : Closure). IsMerging cs spans l left) (sym (w.last-is ∙ ap (λ (m : ℕ). record last { to = m }) w.max.ensures))
          (merging_more cs spans last x left h touch.0 touch.1))
      | else-touches+in_ok-push w ↦
          subst (λ (v : Vec Closure Global). IsMerging cs v.items c.if-touches.last left) (sym w.spans-is)
          (subst (λ (l : Closure). IsMerging cs w.push.new.self.items l left) (sym w.last-is)
          (subst (λ (ss : List Closure). IsMerging cs ss x left) (sym w.in_ok-push.ensures.items) (merging_next cs spans last x left h (not_touching last x c.touches.result c.touches.ensures.1 w.if-touches.false))))
    ]

pub returns : goal.returns
returns c =
    subst (AreSpansOf c.args.closures.now) (sym c.in_ok-push-2.ensures.items)
    (merging_over c.args.closures.now c.loop-closure.spans.items c.loop-closure.last (drop c.loop-closure.closure-index c.in-Some.rest.now)
    (drop_all c.loop-closure.closure-index c.in-Some.rest.now c.loop-closure-test.false) c.loop-closure.invariant)
