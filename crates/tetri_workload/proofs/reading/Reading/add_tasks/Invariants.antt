use Rattle.std.proofs.Common.{◌≡◌, ◌++◌, ℕ, List, true}
use Rattle.tetri_base.specs.Lists.{count}
use Rattle.tetri_logs.specs.Origin.{begun_at}
use Rattle.tetri_logs.specs.Reading.{is_comment}
use Rattle.tetri_logs.specs.declared.entry.Entry.{Entry}
use Rattle.tetri_logs.specs.declared.options.Options.{Options}
use Rattle.tetri_workload.specs.Known.{AreKnown}
use Rattle.tetri_workload.specs.Reading.{IsRead}
use Rattle.tetri_workload.specs.Taking.{IsNoted}
use Rattle.tetri_workload.proofs.reading.Reading.add_tasks.Given as goal

abbrev pub invariant-loop-entry : goal.invariant-loop-entry
invariant-loop-entry l =
    let first = l.fn.self in
    record {
      known : AreKnown l.nodes l.kinds;
      noted : IsNoted l.self.intake.taken;
      facts : l.self.facts ≡ first.facts;
      early : l.self.early ≡ first.early;
      comments : l.self.comments ≡ first.comments;
      jobs : count is_comment l.yielded ≡ 0;
      read : (x : ℕ) → (l.known ≡ true → x ≡ l.settings.origin) → (o : Options) → (es : List Entry)
          → IsRead (begun_at l.settings x) o l.nodes es first → IsRead (begun_at l.settings x) o l.nodes (es ++ l.yielded) l.self;
    }
