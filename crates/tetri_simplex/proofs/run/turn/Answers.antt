use Rattle.std.proofs.Common.{sym, subst, ◌≡◌, ◌∙◌, IfOk}
use Rattle.tetri_ip.specs.Points.{bounds_of}
use Rattle.tetri_simplex.specs.Ends.{cut_end, best_end, empty_end}
use Rattle.tetri_simplex.specs.Machine.{Turn}
use Rattle.tetri_dictionary.specs.Tables.{Table}
use Rattle.tetri_simplex.specs.Turns.{turn_of}
use Rattle.tetri_simplex.proofs.Running.{turn_cut, turn_best, turn_leaves, turn_empty}
use Rattle.tetri_simplex.proofs.run.turn.Goals as goal

pub returns-then-is_cut-clause-formed : goal.returns-then-is_cut-clause-formed
returns-then-is_cut-clause-formed g c =
    let t : Table = g.D.Dictionary.table c.args.d.now in
    let b = bounds_of c.args.r.now in
    subst (λ (z : Turn). IfOk c.ended.result (λ u. turn_of u ≡ z)) (turn_cut c.args.p.now b c.args.known t (sym c.is_cut.ensures ∙ c.if-is_cut.true)) (c.ended.ensures.formed (cut_end c.args.p.now b t) c.cut_end.ensures)

pub returns-in_default-clause-formed : goal.returns-in_default-clause-formed
returns-in_default-clause-formed g c =
    let t : Table = g.D.Dictionary.table c.args.d.now in
    let b = bounds_of c.args.r.now in
    subst (λ (z : Turn). IfOk c.ended-in_default.result (λ u. turn_of u ≡ z)) (turn_best c.args.p.now b c.args.known t (sym c.is_cut.ensures ∙ c.if-is_cut.false) c.in_default.ensures.place) (c.ended-in_default.ensures.formed (best_end c.args.p.now b t) c.best_end.ensures)

pub returns-then-rises-clause-formed : goal.returns-then-rises-clause-formed
returns-then-rises-clause-formed g c =
    let t : Table = g.D.Dictionary.table c.args.d.now in
    turn_leaves c.args.p.now (bounds_of c.args.r.now) c.args.known t c.in-Some.i (sym c.is_cut.ensures ∙ c.if-is_cut.false) c.in-Some.ensures.place (sym c.rises.ensures ∙ c.if-rises.true)

pub returns-else-rises-clause-formed : goal.returns-else-rises-clause-formed
returns-else-rises-clause-formed g c =
    let t : Table = g.D.Dictionary.table c.args.d.now in
    let b = bounds_of c.args.r.now in
    subst (λ (z : Turn). IfOk c.ended-else-rises.result (λ u. turn_of u ≡ z))
    (turn_empty c.args.p.now b c.args.known t c.in-Some.i (sym c.is_cut.ensures ∙ c.if-is_cut.false) c.in-Some.ensures.place (sym c.rises.ensures ∙ c.if-rises.false))
    (c.ended-else-rises.ensures.formed (empty_end c.args.p.now b t c.in-Some.i) c.empty_end.ensures)
