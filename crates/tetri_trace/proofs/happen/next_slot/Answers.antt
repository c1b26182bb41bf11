use Rattle.std.proofs.Common.{◌∙◌, sym, ap, arith}
use Rattle.std.specs.Prelude.{nat_lt}
use Rattle.std.specs.List.{list_any}
use Rattle.tetri_trace.specs.declared.trace.Event.{Event}
use Rattle.tetri_trace.proofs.Later.{not_before_from_test}
use Rattle.tetri_trace.proofs.happen.next_slot.Goals as goal

pub returns-clause-next : goal.returns-clause-next
returns-clause-next c = record {
  in_run = omega (arith, c.if-at-from.false, c.from.ensures);
  not_before = not_before_from_test c.args.at c.args.draft.now.events.items (ap (list_any (λ (e : Event). nat_lt c.args.at e.at)) (sym c.deref.ensures.value) ∙ sym c.if-is_before_one.ensures);
}
