use Rattle.std.proofs.Common.{◌≡◌, ◌+◌, ◌<◌, ◌^◌, List, cond, false}
use Rattle.tetri_logs.specs.declared.entry.Entry.{Entry}
use Rattle.tetri_logs.specs.declared.options.Options.{Options}
use Rattle.tetri_workload.specs.Known.{AreKnown}
use Rattle.tetri_workload.specs.Reading.{IsReadOf, behind}
use Rattle.tetri_workload.specs.Taking.{IsNoted}
use Rattle.tetri_workload.proofs.reading.Reading.finish.Given as goal

abbrev pub invariant-loop-done : goal.invariant-loop-done
invariant-loop-done l = record {
  known : AreKnown l.nodes l.kinds;
  noted : IsNoted l.self.intake.taken;
  facts : l.self.facts ≡ l.fn.self.facts;
  early : l.self.early ≡ l.fn.self.early;
  few : l.done ≡ false → l.self.comments + l.walk.bytes < 2 ^ 64;
  read : (o : Options) → (es : List Entry) → IsReadOf l.settings o l.nodes es (behind l.fn.ended l.fn.walk.entries) l.fn.self → IsReadOf l.settings o l.nodes es (behind l.done l.walk.entries) l.self;
}

abbrev pub decreases-loop-done : goal.decreases-loop-done
decreases-loop-done l = cond l.done 0 (l.walk.bytes + 1)
