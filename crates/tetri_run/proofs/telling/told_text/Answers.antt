use Rattle.std.proofs.Common.{subst, sym}
use Rattle.tetri_report.specs.Block.{block}
use Rattle.tetri_space.specs.Space.{space}
use Rattle.tetri_trace.specs.Scenario.{scenario}
use Rattle.tetri_run.specs.Telling.{IsTold, IsToldTight}
use Rattle.tetri_run.specs.declared.telling.Telling.{Telling}
use Rattle.tetri_run.proofs.telling.told_text.Goals as goal

pub returns-in_ok-lines-in-Tight : goal.returns-in_ok-lines-in-Tight
returns-in_ok-lines-in-Tight c =
    let t = scenario c.args.trace.now in
    let i = space c.args.inst.now in
    let b = block c.args.cycle.now in
    let text = c.in_ok-lines-in-Tight.lines.items in
    let told : IsToldTight i b text = record { lines = c.in_ok-lines-in-Tight.ensures; lawful = c.requires.lawful; attained = c.requires.attained } in
    subst (λ (k : Telling). IsTold k t i b text) (sym c.in-Tight.is) told
