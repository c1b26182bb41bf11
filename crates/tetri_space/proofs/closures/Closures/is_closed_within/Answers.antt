use Rattle.std.proofs.Common.{◌≡◌, ◌≤◌, ◌∙◌, ℕ, false, length, sym, subst, arith}
use Rattle.std.specs.Prelude.{nat_lt}
use Rattle.std.proofs.lemmas.Bool.Decides.{nat_tests}
use Rattle.tetri_space.specs.Spans.{AreSpansOf}
use Rattle.tetri_space.proofs.SpanLemmas.{none_within, within_by_span}
use Rattle.tetri_space.proofs.closures.Closures.is_closed_within.Goals as goal

pub returns-then-place-spans : goal.returns-then-place-spans
returns-then-place-spans c =
    let ss = c.as_slice-spans.result.now in
    let h : AreSpansOf c.args.self.now ss = subst (AreSpansOf c.args.self.now) (sym c.as_slice-spans.ensures.value) (subst (λ cs. AreSpansOf cs c.self.inside.spans.items) c.self.view_is c.self.invariant) in
    c.meets.ensures
    ∙ within_by_span c.args.self.now ss c.args.node c.args.from c.args.count c.first_reaching-place.result (record { node = 0; from = 0; to = 0 }) h
    c.first_reaching-place.ensures.passed c.first_reaching-place.ensures.reaching c.if-place-spans.true

pub returns-else-place-spans : goal.returns-else-place-spans
returns-else-place-spans c =
    let ss = c.as_slice-spans.result.now in
    let place = c.first_reaching-place.result in
    let h : AreSpansOf c.args.self.now ss = subst (AreSpansOf c.args.self.now) (sym c.as_slice-spans.ensures.value) (subst (λ cs. AreSpansOf cs c.self.inside.spans.items) c.self.view_is c.self.invariant) in
    not_below place (length ss) c.if-place-spans.false
    ∙ none_within c.args.self.now ss h c.args.node c.args.from c.args.count place c.first_reaching-place.ensures.passed c.first_reaching-place.ensures.reaching c.if-place-spans.false
  where
    not_below : (x y : ℕ) → y ≤ x → nat_lt x y ≡ false
    not_below x y le = grind (arith, nat_tests)
