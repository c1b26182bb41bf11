use Rattle.std.specs.Prelude.{IfSome}
use Rattle.std.proofs.lemmas.Result.{IfOk-weaker}
use Rattle.tetri_claims.proofs.ClaimLaws.{programs_earn_little}
use Rattle.tetri_cuts.specs.Tightening.{Bounds, IsTightening}
use Rattle.tetri_cuts.specs.declared.tightening.Tight.{Tight}
use Rattle.tetri_space.specs.Space.{space}
use Rattle.tetri_commands.proofs.BoundLemmas.{roots_bound}
use Rattle.tetri_commands.proofs.tightening.tightened_program.Goals as goal

pub returns-clause-tightened : goal.returns-clause-tightened
returns-clause-tightened c =
    let p = c.in_ok-compiled.compiled.program in
    IfOk-weaker c.tighten.result (IsTightening p) _ (λ t is. (p, c.in_ok-compiled.ensures.compiled.program, is)) c.tighten.ensures.tightened

pub returns-clause-bounded : goal.returns-clause-bounded
returns-clause-bounded c =
    let p = c.in_ok-compiled.compiled.program in
    let e = c.in_ok-compiled.ensures in
    IfOk-weaker c.tighten.result (λ (t : Tight). IfSome t.root (λ r. Bounds p r.bound)) _
    (λ t bounds. roots_bound (space c.args.inst.now) p c.requires.sound e.compiled.program programs_earn_little e.allotments t.root bounds) c.tighten.ensures.bound
