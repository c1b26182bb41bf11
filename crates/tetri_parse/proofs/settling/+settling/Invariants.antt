use Rattle.std.proofs.Common.{◌≡◌, ◌++◌, map, drop, take, length, Ok}
use Rattle.tetri_strl.specs.Tree.{tree}
use Rattle.tetri_base.specs.ResultSteps.{◌>>=◌}
use Rattle.tetri_parse.specs.Phrase.{phrases, line_up}
use Rattle.tetri_parse.specs.Reader.{IsTrueIndex}
use Rattle.tetri_parse.specs.Settling.{settled_all}
use Rattle.tetri_parse.specs.Written.{AreWritten}
use Rattle.tetri_parse.proofs.settling.+settling.Given as goal

abbrev pub invariant-settle_parts-loop-part : goal.invariant-settle_parts-loop-part
invariant-settle_parts-loop-part l = record {
  so_far :
      (settled_all l.terms.unit l.terms.arrival l.wanted (line_up (phrases l.cluster (drop l.part-index l.parts))) l.sets >>= λ x. Ok (map tree l.made.items ++ x.0, x.1))
      ≡ settled_all l.terms.unit l.terms.arrival l.wanted (line_up (phrases l.cluster l.parts)) l.initial.sets;
  written : AreWritten (line_up (phrases l.cluster (drop l.part-index l.parts)));
  kept : take (length l.initial.sets) l.sets ≡ l.initial.sets;
  noted : IsTrueIndex l.cluster l.sets l.noted.entries;
}
