use Rattle.std.proofs.Common.{◌<◌, ◌^◌, ◌++◌, ◌∙◌, List, All, drop, sym, ap, subst}
use Rattle.std.proofs.lemmas.List.Elements.{All-drop}
use Rattle.tetri_space.specs.Spans.{AreSpansOf, ends_in}
use Rattle.tetri_space.specs.declared.closure.Closure.{Closure}
use Rattle.tetri_space.proofs.SpanLemmas.{are_turns, spans_within, to_end}
use Rattle.tetri_space.proofs.closures.Closures.push_turns.Goals as goal

pub push_ends-requires-clause-within : goal.push_ends-requires-clause-within
push_ends-requires-clause-within c =
    let ss = c.as_slice-spans.result.now in
    let place = c.first_reaching-place.result in
    let h : AreSpansOf c.args.self.now ss = subst (AreSpansOf c.args.self.now) (sym c.as_slice-spans.ensures.value) (subst (λ cs. AreSpansOf cs c.self.inside.spans.items) c.self.view_is c.self.invariant) in
    subst (All (λ (d : Closure). d.to < 2 ^ 31)) (sym (to_end ss place))
    (All-drop (λ (d : Closure). d.to < 2 ^ 31) place ss (spans_within c.args.self.now ss (2 ^ 31) h c.requires.within))

pub returns : goal.returns
returns c =
    let ss = c.as_slice-spans.result.now in
    let place = c.first_reaching-place.result in
    let h : AreSpansOf c.args.self.now ss = subst (AreSpansOf c.args.self.now) (sym c.as_slice-spans.ensures.value) (subst (λ cs. AreSpansOf cs c.self.inside.spans.items) c.self.view_is c.self.invariant) in (
      ends_in c.args.node c.args.now c.args.base (drop place ss),
      c.in_ok-push_ends.ensures ∙ ap (λ (xs : List Closure). c.args.turns.now.items ++ ends_in c.args.node c.args.now c.args.base xs) (to_end ss place),
      are_turns c.args.self.now ss h c.args.node c.args.now place c.first_reaching-place.ensures.passed c.first_reaching-place.ensures.reaching c.args.base,
    )
