use Rattle.std.proofs.Common.{◌≡◌, ◌++◌, ◌∷◌, [], List, length, map, sym, ap, ◌∙◌}
use Rattle.std.specs.List.{filter}
use Rattle.std.proofs.lemmas.List.{append-nil}
use Rattle.tetri_space.specs.Space.{space}
use Rattle.tetri_compile.specs.declared.outline.Inequality.{Inequality}
use Rattle.tetri_compile.specs.Draft.{is_held, tally_form}
use Rattle.tetri_compile.specs.Forms.{Form, Limit, plain_limit}
use Rattle.tetri_compile.specs.steps.Walked.{room}
use Rattle.tetri_compile.proofs.OutlineLemmas.{row_last}
use Rattle.tetri_compile.proofs.ProgramLemmas.{is_none, is_some}
use Rattle.tetri_compile.proofs.ProgramLemmas.{held_are, nothing_grown, supply_none, supply_some}
use Rattle.tetri_compile.proofs.supply.add_slot.Goals as goal

pub returns-then-is_empty : goal.returns-then-is_empty
returns-then-is_empty c = λ cs e.
    let held = filter (is_held c.args.part c.args.slot) cs in
    let form : c.in_ok-form.form.items ≡ tally_form held = c.in_ok-form.ensures ∙ held_are c.args.part c.args.slot c.args.tallies.now cs e in
    nothing_grown c.args.out.now _ (supply_none held (room (space c.args.inst.now) c.args.part c.args.slot) (sym (ap length form) ∙ is_none (sym c.in_ok-form.form.ok.0) c.if-is_empty.ensures))

pub returns : goal.returns
returns c = λ cs e.
    let held = filter (is_held c.args.part c.args.slot) cs in
    let m = room (space c.args.inst.now) c.args.part c.args.slot in
    let form : c.in_ok-form.form.items ≡ tally_form held = c.in_ok-form.ensures ∙ held_are c.args.part c.args.slot c.args.tallies.now cs e in
    let some = supply_some held m (λ z. is_some (sym c.in_ok-form.form.ok.0) (sym c.if-is_empty.false ∙ c.is_empty.ensures) (ap length form ∙ z)) in
    let row : Inequality = record { most = c.in_ok-form.form; under = c.new.result; plus = c.room_at.result } in
    let said : plain_limit row ≡ record { most = tally_form held; under = []; plus = m } =
    ap (λ (f : Form). record { most = f; under = c.new.result.items; plus = c.room_at.result }) form
    ∙ ap (λ (f : Form). record { most = tally_form held; under = f; plus = c.room_at.result }) c.new.ensures.items
    ∙ ap (λ n. record { most = tally_form held; under = []; plus = n }) c.room_at.ensures in
    record {
      uppers = sym (append-nil c.args.out.now.uppers.items);
      rows = row_last c.args.out.now.rows.items c.push.new.self.items row c.in_ok-push.ensures.items
          ∙ ap (λ (r : Limit). map plain_limit c.args.out.now.rows.items ++ r ∷ []) said
          ∙ ap (λ (rs : List Limit). map plain_limit c.args.out.now.rows.items ++ rs) (sym some);
      tallies = sym (append-nil c.args.out.now.tallies.items);
    }
