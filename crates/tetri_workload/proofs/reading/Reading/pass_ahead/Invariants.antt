use Rattle.std.proofs.Common.{◌≡◌, ◌≤◌, List}
use Rattle.tetri_logs.specs.declared.entry.Entry.{Entry}
use Rattle.tetri_logs.specs.declared.options.Options.{Options}
use Rattle.tetri_logs.specs.declared.options.Settings.{Settings}
use Rattle.tetri_workload.specs.Reading.{IsReadOf}
use Rattle.tetri_workload.proofs.reading.Reading.pass_ahead.Given as goal

abbrev pub invariant-loop : goal.invariant-loop
invariant-loop l =
    let first = l.fn.self in
    let lines = l.fn.walk in
    record {
      early : l.self.early ≡ first.early;
      intake : l.self.intake ≡ first.intake;
      facts : l.self.facts ≡ first.facts;
      comments : l.self.comments ≡ first.comments;
      within : l.walk.bytes ≤ lines.bytes;
      read : (s : Settings) → (o : Options) → (es : List Entry) → IsReadOf s o l.nodes es lines.entries first → IsReadOf s o l.nodes es l.walk.entries l.self;
    }

abbrev pub decreases-loop : goal.decreases-loop
decreases-loop l = l.walk.bytes
