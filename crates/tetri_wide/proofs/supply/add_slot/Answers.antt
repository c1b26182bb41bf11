use Rattle.std.proofs.Common.{◌≡◌, ◌++◌, ◌∷◌, [], List, length, map, sym, ap, ◌∙◌}
use Rattle.std.specs.List.{filter}
use Rattle.std.proofs.lemmas.List.{append-nil, length-map}
use Rattle.tetri_space.specs.Space.{space}
use Rattle.tetri_compile.specs.Draft.{is_held, tally_form}
use Rattle.tetri_compile.specs.Forms.{Form, Limit}
use Rattle.tetri_compile.specs.steps.Walked.{room}
use Rattle.tetri_compile.proofs.ProgramLemmas.{held_are, is_none, is_some, supply_none, supply_some}
use Rattle.tetri_wide.specs.declared.outline.Inequality.{Inequality}
use Rattle.tetri_wide.specs.declared.outline.Multiple.{Multiple}
use Rattle.tetri_wide.specs.Sketch.{form_of, limit_of, share_of, sketch, tally_of}
use Rattle.tetri_wide.proofs.SketchLemmas.{rows_pushed, sides_are}
use Rattle.tetri_wide.proofs.SupplyLemmas.{nothing_grown}
use Rattle.tetri_wide.proofs.supply.add_slot.Goals as goal

pub returns-then-is_empty : goal.returns-then-is_empty
returns-then-is_empty c = λ cs e.
    let held = filter (is_held c.args.part c.args.slot) cs in
    let form : form_of c.in_ok-form.form.items ≡ tally_form held =
    c.in_ok-form.ensures ∙ held_are c.args.part c.args.slot (map tally_of c.args.holdings.now) cs e in
    let long : length (tally_form held) ≡ length c.in_ok-form.form.items = sym (ap length form) ∙ length-map c.in_ok-form.form.items share_of in
    nothing_grown (sketch c.args.out.now) _ (supply_none held (room (space c.args.inst.now) c.args.part c.args.slot)
    (long ∙ is_none (sym c.in_ok-form.form.ok.0) c.if-is_empty.ensures))

pub returns : goal.returns
returns c = λ cs e.
    let held = filter (is_held c.args.part c.args.slot) cs in
    let m = room (space c.args.inst.now) c.args.part c.args.slot in
    let form : form_of c.in_ok-form.form.items ≡ tally_form held =
    c.in_ok-form.ensures ∙ held_are c.args.part c.args.slot (map tally_of c.args.holdings.now) cs e in
    let long : length c.in_ok-form.form.items ≡ length (tally_form held) = sym (length-map c.in_ok-form.form.items share_of) ∙ ap length form in
    let some = supply_some held m (λ z. is_some (sym c.in_ok-form.form.ok.0) (sym c.if-is_empty.false ∙ c.is_empty.ensures) (long ∙ z)) in
    let row : Inequality = record { most = c.in_ok-form.form; under = c.new.result; plus = c.from.result } in
    let said : limit_of row ≡ record { most = tally_form held; under = []; plus = m } =
    sides_are row (tally_form held) [] m form (ap (λ (ms : List Multiple). form_of ms) c.new.ensures.items) (c.from.ensures ∙ c.available.ensures) in
    record {
      uppers = sym (append-nil c.args.out.now.uppers.items);
      rows = rows_pushed (map limit_of c.args.out.now.rows.items) c.args.out.now.rows.items c.push.new.self.items [] row _
          (sym (append-nil (map limit_of c.args.out.now.rows.items))) c.in_ok-push.ensures.items said
          ∙ ap (λ (rs : List Limit). map limit_of c.args.out.now.rows.items ++ rs) (sym some);
      tallies = sym (append-nil (map tally_of c.args.out.now.holdings.items));
    }
