use Rattle.std.proofs.Common.{[], ap, List, arith}
use Rattle.std.proofs.lemmas.List.{drop_all}
use Rattle.tetri_strl.specs.Worth.{greatest_of, added_of}
use Rattle.tetri_parse.specs.declared.syntax.Syntax.{Syntax}
use Rattle.tetri_parse.specs.Phrase.{phrases, line_up}
use Rattle.tetri_parse.specs.Settling.{peaks_of}
use Rattle.tetri_parse.proofs.peak.+peak.Goals as goal

pub returns-after-loop-part : goal.returns-after-loop-part
returns-after-loop-part t c =
    let none = ap (λ (ps : List Syntax). added_of (peaks_of c.args.unit (line_up (phrases [] ps)))) (drop_all c.loop-part.part-index _ c.loop-part-test.false) in
    omega (arith, none, c.loop-part.invariant.so_far, c.loop-part.invariant.fits)

pub returns-after-loop-part-2 : goal.returns-after-loop-part-2
returns-after-loop-part-2 t c =
    let none = ap (λ (ps : List Syntax). greatest_of (peaks_of c.args.unit (line_up (phrases [] ps)))) (drop_all c.loop-part-2.part-index _ c.loop-part-2-test.false) in
    omega (arith, none, c.loop-part-2.invariant.so_far, c.loop-part-2.invariant.fits)
