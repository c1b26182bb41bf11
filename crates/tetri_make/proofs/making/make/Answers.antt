use Rattle.std.proofs.Common.{◌∙◌, map}
use Rattle.tetri_trace.specs.Scenario.{submission}
use Rattle.tetri_make.proofs.MadeLemmas.{whole_is, whole_sound}
use Rattle.tetri_make.proofs.making.make.Goals as goal

pub returns-clause-trace : goal.returns-clause-trace
returns-clause-trace c =
    let added = c.in_ok-sets.ensures in
    whole_is c.args.number c.in_ok-cluster.cluster c.in_ok-sets.sets.value c.in_ok-closures.closures.value (map submission c.add_arrivals.new.jobs) c.add_arrivals.new.events.items
    c.in_ok-cluster.ensures added.sets (c.in_ok-closures.ensures.ok ∙ c.new.ensures) added.jobs added.events

pub returns-clause-sound : goal.returns-clause-sound
returns-clause-sound c =
    let added = c.in_ok-sets.ensures in
    whole_sound c.args.number c.in_ok-cluster.cluster c.in_ok-sets.sets.value c.in_ok-closures.closures.value (map submission c.add_arrivals.new.jobs) c.add_arrivals.new.events.items
    c.in_ok-cluster.ensures added.sets (c.in_ok-closures.ensures.ok ∙ c.new.ensures) added.jobs added.events added.sound
