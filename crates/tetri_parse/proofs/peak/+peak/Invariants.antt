use Rattle.std.proofs.Common.{[], ◌≡◌, ◌+◌, ◌-◌, ◌^◌, ◌<◌, max, min, drop}
use Rattle.tetri_strl.specs.Worth.{greatest_of, added_of}
use Rattle.tetri_parse.specs.Phrase.{phrase, phrases, line_up}
use Rattle.tetri_parse.specs.Settling.{peak_of, peaks_of}
use Rattle.tetri_parse.proofs.peak.+peak.Given as goal

abbrev pub invariant-loop-part : goal.invariant-loop-part
invariant-loop-part l = record {
  fits : l.sum < 2 ^ 64;
  so_far : min (2 ^ 64 - 1) (l.sum + added_of (peaks_of l.unit (line_up (phrases [] (drop l.part-index l.part-items))))) ≡ min (2 ^ 64 - 1) (peak_of l.unit (phrase [] l.syntax));
}

abbrev pub invariant-loop-part-2 : goal.invariant-loop-part-2
invariant-loop-part-2 l = record {
  fits : l.best < 2 ^ 64;
  so_far : min (2 ^ 64 - 1) (max l.best (greatest_of (peaks_of l.unit (line_up (phrases [] (drop l.part-index l.part-items)))))) ≡ min (2 ^ 64 - 1) (peak_of l.unit (phrase [] l.syntax));
}
