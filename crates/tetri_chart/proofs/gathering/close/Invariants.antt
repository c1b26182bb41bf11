use Rattle.std.proofs.Common.{◌≡◌, ◌++◌, length, map}
use Rattle.std.specs.Vec.Iter.{into_iter_items, into_iter_len}
use Rattle.tetri_chart.specs.Pieces.{span_of}
use Rattle.tetri_svg.specs.declared.fate.Fate.TheVariants.{RunsOn}
use Rattle.tetri_chart.proofs.gathering.close.Given as goal

abbrev pub invariant-loop-piece : goal.invariant-loop-piece
invariant-loop-piece l = record {
  spans : l.spans.items ++ map (span_of l.until RunsOn) (into_iter_items l.piece-iterator)
      ≡ l.initial.spans.items ++ map (span_of l.until RunsOn) (into_iter_items l.initial.piece-iterator);
  counted : into_iter_len l.piece-iterator ≡ length (into_iter_items l.piece-iterator);
}
