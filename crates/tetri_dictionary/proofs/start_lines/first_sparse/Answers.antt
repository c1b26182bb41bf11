use Rattle.std.proofs.Common.{◌≡◌, ◌+◌, List, ◌∙◌, arith, length, map, ap, subst, sym}
use Rattle.std.proofs.lemmas.List.Elements.{All-push}
use lib.IntN.{ℤ}
use Rattle.tetri_algebra.specs.Rational.{whole_ℚ}
use Rattle.tetri_ip.specs.Points.{bounds_of}
use Rattle.tetri_dictionary.specs.declared.lines.Line.{Line}
use Rattle.tetri_dictionary.specs.declared.sparse.Sparse.{Sparse}
use Rattle.tetri_dictionary.specs.Sparse.{AreEntries, AreLines, lines_of}
use Rattle.tetri_dictionary.specs.Start.{first_rows, objective_row}
use Rattle.tetri_dictionary.proofs.FirstTable.{wholes}
use Rattle.tetri_dictionary.proofs.SparseStart.{lines_are, sparse_is, sparse_sound}
use Rattle.tetri_dictionary.proofs.start_lines.first_sparse.Goals as goal

pub returns-clause-table : goal.returns-clause-table
returns-clause-table c =
    let p = c.args.p.now in
    let b = bounds_of c.args.r.now in
    let t : Sparse = record { nonbasic = c.in_ok-nonbasic.nonbasic; basic = c.in_ok-basic.basic; lines = c.push.new.self; scratch = c.new.result } in
    let n = c.len-columns.result in
    let ne : n ≡ length p.costs.items = c.len-columns.ensures ∙ p.costs.ok.0 in
    let ke : c.len.result + n ≡ length p.rows.items + length p.costs.items = omega (arith, c.len.ensures, p.rows.ok.0) in
    let g : lines_of (length p.costs.items) c.push.new.self.items ≡ wholes (first_rows p b) =
    lines_are p b c.deref.result.now c.in_ok-slacks.slacks.items c.in_ok-lines.lines.items c.push.new.self.items c.in_ok-objective_line.field-0 (c.deref.ensures.value ∙ c.in_ok-start.ensures.corner) c.in_ok-slacks.ensures.numbers c.in_ok-lines.ensures.numbers
    (c.in_ok-objective_line.ensures.numbers ∙ ap (λ (s : List ℤ). map whole_ℚ (objective_row p.costs.items s)) (c.deref-2.ensures.value ∙ sym c.deref.ensures.value)) c.in_ok-push.ensures.items in
    sparse_is p b t n (c.len.result + n) ne ke c.in_ok-nonbasic.ensures c.in_ok-basic.ensures g

pub returns-clause-sound : goal.returns-clause-sound
returns-clause-sound c =
    let p = c.args.p.now in
    let b = bounds_of c.args.r.now in
    let t : Sparse = record { nonbasic = c.in_ok-nonbasic.nonbasic; basic = c.in_ok-basic.basic; lines = c.push.new.self; scratch = c.new.result } in
    let n = c.len-columns.result in
    let ne : n ≡ length p.costs.items = c.len-columns.ensures ∙ p.costs.ok.0 in
    let ke : c.len.result + n ≡ length p.rows.items + length p.costs.items = omega (arith, c.len.ensures, p.rows.ok.0) in
    let g : lines_of (length p.costs.items) c.push.new.self.items ≡ wholes (first_rows p b) =
    lines_are p b c.deref.result.now c.in_ok-slacks.slacks.items c.in_ok-lines.lines.items c.push.new.self.items c.in_ok-objective_line.field-0 (c.deref.ensures.value ∙ c.in_ok-start.ensures.corner) c.in_ok-slacks.ensures.numbers c.in_ok-lines.ensures.numbers
    (c.in_ok-objective_line.ensures.numbers ∙ ap (λ (s : List ℤ). map whole_ℚ (objective_row p.costs.items s)) (c.deref-2.ensures.value ∙ sym c.deref.ensures.value)) c.in_ok-push.ensures.items in
    let h : AreLines (length p.costs.items) c.push.new.self.items =
    subst (λ (ls : List Line). AreLines (length p.costs.items) ls) (sym c.in_ok-push.ensures.items) (All-push (λ (l : Line). AreEntries (length p.costs.items) l.entries.items) c.in_ok-lines.lines.items _ c.in_ok-lines.ensures.sound c.in_ok-objective_line.ensures.sound) in
    sparse_sound p b t n (c.len.result + n) c.requires.fit c.requires.in_box ne ke c.in_ok-nonbasic.ensures c.in_ok-basic.ensures g h
