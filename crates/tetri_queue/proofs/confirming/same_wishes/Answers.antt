use Rattle.std.proofs.Common.{◌∙◌}
use Rattle.std.proofs.lemmas.Simd.{map-map}
use Rattle.tetri_queue.specs.Queues.{wanted_of}
use Rattle.tetri_trace.specs.Scenario.{submission}
use Rattle.tetri_queue.proofs.confirming.same_wishes.Goals as goal

pub returns : goal.returns
returns c = λ t. map-map (wanted_of c.args.sets.now) submission c.args.read.now ∙ c.same_jobs.ensures t
