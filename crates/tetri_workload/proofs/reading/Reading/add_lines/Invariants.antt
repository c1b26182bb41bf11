use Rattle.std.proofs.Common.{◌≡◌, ◌+◌, ◌<◌, ◌≤◌, ℕ, List, length, true}
use Rattle.tetri_logs.specs.Origin.{begun_at}
use Rattle.tetri_logs.specs.declared.entry.Entry.{Entry}
use Rattle.tetri_logs.specs.declared.options.Options.{Options}
use Rattle.tetri_workload.specs.Known.{AreKnown}
use Rattle.tetri_workload.specs.Reading.{IsReadOf}
use Rattle.tetri_workload.specs.Taking.{IsNoted}
use Rattle.tetri_workload.proofs.reading.Reading.add_lines.Given as goal

abbrev pub invariant-loop-alloc : goal.invariant-loop-alloc
invariant-loop-alloc l =
    let first = l.fn.self in
    let lines = l.fn.walk in
    record {
      known : AreKnown l.nodes l.kinds;
      noted : IsNoted l.self.intake.taken;
      facts : l.self.facts ≡ first.facts;
      early : l.self.early ≡ first.early;
      few : l.self.comments + l.walk.bytes ≤ first.comments + lines.bytes;
      within : l.walk.bytes ≤ lines.bytes;
      shorter : l.most ≤ length l.self.intake.waiting.held.items → length first.intake.waiting.held.items < l.most → l.walk.bytes < lines.bytes;
      read : (x : ℕ) → (l.known ≡ true → x ≡ l.settings.origin) → (o : Options) → (es : List Entry)
          → IsReadOf (begun_at l.settings x) o l.nodes es lines.entries first → IsReadOf (begun_at l.settings x) o l.nodes es l.walk.entries l.self;
    }

abbrev pub decreases-loop-alloc : goal.decreases-loop-alloc
decreases-loop-alloc l = l.walk.bytes
