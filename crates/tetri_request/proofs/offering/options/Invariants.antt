use Rattle.std.proofs.Common.{◌≡◌, ◌+◌, ◌-◌, ◌++◌, map}
use Rattle.tetri_strl.specs.Tree.{one, tree}
use Rattle.tetri_request.specs.Options.{options_between}
use Rattle.tetri_request.proofs.offering.options.Given as goal

abbrev pub invariant-loop-start : goal.invariant-loop-start
invariant-loop-start l =
    map tree l.parts.items ++ map one (options_between l.ask l.arrival l.start (l.now + l.window - l.start))
    ≡ map one (options_between l.ask l.arrival l.now l.window)
