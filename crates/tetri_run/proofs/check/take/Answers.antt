use Rattle.std.proofs.Common.{refl, subst}
use Rattle.tetri_report.specs.Strips.{telling}
use Rattle.tetri_report.specs.Strips as told
use Rattle.tetri_trace.specs.Scenario.{scenario}
use Rattle.tetri_run.specs.Checked.{IsFed}
use Rattle.tetri_run.specs.declared.sight.Sight.TheVariants as sights
use Rattle.tetri_run.proofs.StepLemmas.{fed_sees, taken_on, tops_told}
use Rattle.tetri_run.proofs.check.take.Goals as goal

pub returns-in-More-clause-answer : goal.returns-in-More-clause-answer
returns-in-More-clause-answer g c = λ d line is.
    let t = scenario c.args.trace.now in
    let p = c.args.progress.now in
    let fed : IsFed t d p line told.more = subst (λ x. IsFed t d p line (telling x)) c.in-More.is is in
    taken_on t d p line told.more fed p refl refl refl refl fed.sight

pub returns-in-Tops-clause-answer : goal.returns-in-Tops-clause-answer
returns-in-Tops-clause-answer g c = λ d line is.
    let t = scenario c.args.trace.now in
    let p = c.args.progress.now in
    let columns = c.in-Tops.columns in
    let rows = c.in-Tops.rows in
    let fed : IsFed t d p line (told.tops columns rows) = subst (λ x. IsFed t d p line (telling x)) c.in-Tops.is is in
    taken_on t d p line (told.tops columns rows) fed (record p { sight = sights.Tops columns rows }) refl refl refl refl (tops_told t d p line columns rows fed, refl)

pub see_node-requires-clause-sees : goal.see_node-requires-clause-sees
see_node-requires-clause-sees g c =
    let t = scenario c.args.trace.now in
    let fed = c.requires.fed in
    fed_sees t fed.0 c.args.progress.now fed.1 (telling c.args.told) fed.2 c.args.number c.requires.number c.requires.few

pub returns-in_ok-see_node-in-Node-clause-answer : goal.returns-in_ok-see_node-in-Node-clause-answer
returns-in_ok-see_node-in-Node-clause-answer g c = λ d line is.
    let t = scenario c.args.trace.now in
    let p = c.args.progress.now in
    let mark = c.in-Node.mark in
    let fed : IsFed t d p line (told.node mark) = subst (λ x. IsFed t d p line (telling x)) c.in-Node.is is in
    taken_on t d p line (told.node mark) fed (record p { state = c.see_node.new.state; sight = c.see_node.new.sight }) refl refl refl refl
    (c.in_ok-see_node-in-Node.ensures _ d.reading.block.certificate fed.sight)

pub end_cycle-requires-clause-fed : goal.end_cycle-requires-clause-fed
end_cycle-requires-clause-fed g c =
    let t = scenario c.args.trace.now in
    let fed = c.requires.fed in
    (fed.0, fed.1, subst (λ x. IsFed t fed.0 c.args.progress.now fed.1 (telling x)) c.in-Block.is fed.2)
