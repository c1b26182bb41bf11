use Rattle.std.proofs.Common.{◌≡◌, ◌<◌, ◌^◌, List, length, map, sym, ap, ◌∙◌, subst}
use Rattle.tetri_base.specs.Lists.{Each}
use Rattle.tetri_space.specs.Partitions.{parts_of}
use Rattle.tetri_space.specs.Space.{space}
use Rattle.tetri_compile.specs.Draft.{Draft}
use Rattle.tetri_compile.specs.Flat.{flat, plain, program_of}
use Rattle.tetri_compile.specs.Small.{IsSmallForm, IsSmallLimit}
use Rattle.tetri_compile.proofs.LawLemmas.{allotment_has_point}
use Rattle.tetri_wide.specs.declared.outline.Multiple.{Multiple}
use Rattle.tetri_wide.specs.Sketch.{form_of, sketch, sketch_draft}
use Rattle.tetri_wide.proofs.DraftLemmas.{boxes_long, draft_small}
use Rattle.tetri_wide.proofs.program.program_of.Goals as goal

pub flatten-requires-clause-few : goal.flatten-requires-clause-few
flatten-requires-clause-few c = subst (λ (d : Draft). length d.uppers < 2 ^ 31) (sym c.in_ok-written.ensures) c.requires.columns

pub flatten-requires-clause-form : goal.flatten-requires-clause-form
flatten-requires-clause-form c =
    let small = draft_small (space c.args.inst.now) c.requires.sound (parts_of c.args.parts.now) c.requires.partitions c.requires.columns in
    subst (λ (ms : List Multiple). IsSmallForm (length c.in_ok-written.written.outline.uppers.items) (form_of ms)) (sym c.deref.ensures.value)
    (subst (λ (d : Draft). IsSmallForm (length d.uppers) d.objective) (sym c.in_ok-written.ensures) small.0)

pub flatten-requires-clause-rows : goal.flatten-requires-clause-rows
flatten-requires-clause-rows c =
    let small = draft_small (space c.args.inst.now) c.requires.sound (parts_of c.args.parts.now) c.requires.partitions c.requires.columns in
    subst (λ (d : Draft). Each (IsSmallLimit (length d.uppers)) d.rows) (sym c.in_ok-written.ensures) small.1

pub returns-clause-program : goal.returns-clause-program
returns-clause-program c =
    c.in_ok-program.ensures ∙ ap (λ (ms : List Multiple). flat (sketch_draft (sketch c.in_ok-written.written.outline) (form_of ms))) c.deref.ensures.value
    ∙ ap flat c.in_ok-written.ensures

pub returns-clause-boxes : goal.returns-clause-boxes
returns-clause-boxes c =
    let s = space c.args.inst.now in
    let program : plain c.in_ok-program.program ≡ program_of s =
    c.in_ok-program.ensures ∙ ap (λ (ms : List Multiple). flat (sketch_draft (sketch c.in_ok-written.written.outline) (form_of ms))) c.deref.ensures.value
    ∙ ap flat c.in_ok-written.ensures in
    boxes_long s c.in_ok-program.program program

pub returns-clause-allotments : goal.returns-clause-allotments
returns-clause-allotments c = λ a lawful.
    let s = space c.args.inst.now in
    let program : plain c.in_ok-program.program ≡ program_of s =
    c.in_ok-program.ensures ∙ ap (λ (ms : List Multiple). flat (sketch_draft (sketch c.in_ok-written.written.outline) (form_of ms))) c.deref.ensures.value
    ∙ ap flat c.in_ok-written.ensures in
    allotment_has_point s c.requires.sound a lawful c.in_ok-program.program program
