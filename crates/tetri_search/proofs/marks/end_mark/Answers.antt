use Rattle.std.proofs.Common.{subst}
use Rattle.tetri_ip.specs.Points.{bounds_of}
use Rattle.tetri_simplex.specs.declared.outcome.Outcome.{Outcome}
use Rattle.tetri_simplex.specs.Certificates.{Certifies}
use Rattle.tetri_simplex.specs.Outcomes.{end_of}
use Rattle.tetri_search.proofs.PlainLemmas.{best_in_box}
use Rattle.tetri_search.proofs.marks.end_mark.Goals as goal

pub best_mark-requires-clause-in_box : goal.best_mark-requires-clause-in_box
best_mark-requires-clause-in_box c = λ e.
    let z = subst (λ (o : Outcome). Certifies c.args.p.now (bounds_of c.args.r.now) c.args.best (end_of o)) c.in-Best.is c.requires.certified in
    best_in_box c.args.p.now (bounds_of c.args.r.now) c.args.best c.in-Best.point.items c.deref.result.now c.in-Best.q c.in-Best.weights.items c.requires.in_box z c.deref.ensures.value e
