use Rattle.std.proofs.Common.{◌≡◌, ◌++◌, ◌∙◌, List, ℕ, ap, map, string_bytes}
use Rattle.tetri_compile.specs.Flat.{FlatProgram, program_of}
use Rattle.tetri_export.specs.Format.{text_in}
use Rattle.tetri_space.specs.Space.{space}
use Rattle.tetri_programs.proofs.text.program_text.Goals as goal

pub returns : goal.returns
returns c =
    let head = string_bytes c.in_ok-out.out in
    let columns = map string_bytes c.deref.result.now in
    let rows = map string_bytes c.deref-2.result.now in
    let text = λ (p : FlatProgram). text_in c.args.format columns rows p in
    record {
      columns = columns;
      rows = rows;
      is =
          c.in_ok-add_program.ensures ∙ ap (λ (p : FlatProgram). head ++ text p) c.in_ok-program.ensures.program
          ∙ ap (λ (h : List ℕ). h ++ text (program_of (space c.args.inst.now))) c.in_ok-out.ensures;
    }
