use Rattle.std.proofs.Common.{◌≡◌, ◌+◌, List, ◌∙◌, arith, length, map, ap, sym}
use lib.IntN.{ℤ}
use Rattle.tetri_algebra.specs.Rational.{whole_ℚ}
use Rattle.tetri_ip.specs.Points.{bounds_of}
use Rattle.tetri_dictionary.specs.declared.full.Full.{Full}
use Rattle.tetri_dictionary.specs.Fractions.{rows_of}
use Rattle.tetri_dictionary.specs.Start.{first_rows, objective_row}
use Rattle.tetri_dictionary.proofs.FirstTable.{wholes, rows_are, first_is, first_shape}
use Rattle.tetri_dictionary.proofs.start.first_table.Goals as goal

pub returns-clause-table : goal.returns-clause-table
returns-clause-table c =
    let p = c.args.p.now in
    let b = bounds_of c.args.r.now in
    let t : Full = record { nonbasic = c.in_ok-nonbasic.nonbasic; basic = c.in_ok-basic.basic; rows = c.push.new.self } in
    let n = c.len-columns.result in
    let ne : n ≡ length p.costs.items = c.len-columns.ensures ∙ p.costs.ok.0 in
    let ke : c.len.result + n ≡ length p.rows.items + length p.costs.items = omega (arith, c.len.ensures, p.rows.ok.0) in
    let g : rows_of c.push.new.self.items ≡ wholes (first_rows p b) =
    rows_are p b c.deref.result.now c.in_ok-slacks.slacks.items c.in_ok-rows.rows.items c.push.new.self.items c.in_ok-objective_row.field-0 (c.deref.ensures.value ∙ c.in_ok-start.ensures.corner) c.in_ok-slacks.ensures c.in_ok-rows.ensures
    (c.in_ok-objective_row.ensures ∙ ap (λ (s : List ℤ). map whole_ℚ (objective_row p.costs.items s)) (c.deref-2.ensures.value ∙ sym c.deref.ensures.value)) c.in_ok-push.ensures.items in
    first_is p b t n (c.len.result + n) ne ke c.in_ok-nonbasic.ensures c.in_ok-basic.ensures g

pub returns-clause-shape : goal.returns-clause-shape
returns-clause-shape c =
    let p = c.args.p.now in
    let b = bounds_of c.args.r.now in
    let t : Full = record { nonbasic = c.in_ok-nonbasic.nonbasic; basic = c.in_ok-basic.basic; rows = c.push.new.self } in
    let n = c.len-columns.result in
    let ne : n ≡ length p.costs.items = c.len-columns.ensures ∙ p.costs.ok.0 in
    let ke : c.len.result + n ≡ length p.rows.items + length p.costs.items = omega (arith, c.len.ensures, p.rows.ok.0) in
    let g : rows_of c.push.new.self.items ≡ wholes (first_rows p b) =
    rows_are p b c.deref.result.now c.in_ok-slacks.slacks.items c.in_ok-rows.rows.items c.push.new.self.items c.in_ok-objective_row.field-0 (c.deref.ensures.value ∙ c.in_ok-start.ensures.corner) c.in_ok-slacks.ensures c.in_ok-rows.ensures
    (c.in_ok-objective_row.ensures ∙ ap (λ (s : List ℤ). map whole_ℚ (objective_row p.costs.items s)) (c.deref-2.ensures.value ∙ sym c.deref.ensures.value)) c.in_ok-push.ensures.items in
    first_shape p b t n (c.len.result + n) c.requires.fit c.requires.in_box ne ke c.in_ok-nonbasic.ensures c.in_ok-basic.ensures g
