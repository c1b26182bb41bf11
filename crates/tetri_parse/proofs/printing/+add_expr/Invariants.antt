use Rattle.std.proofs.Common.{◌≡◌, ◌++◌, ◌<◌, drop, length, string_bytes}
use Rattle.std.specs.Prelude.{flat_map}
use Rattle.tetri_strl.specs.Aligned.{EachLeafOf}
use Rattle.tetri_strl.specs.Tree.{trees}
use Rattle.tetri_parse.specs.Printing.{after_comma, with_commas, texts_of, IsNamed}
use Rattle.tetri_parse.proofs.printing.+add_expr.Given as goal

abbrev pub invariant-add_join-loop-part : goal.invariant-add_join-loop-part
invariant-add_join-loop-part l = record {
  so_far :
      string_bytes l.out ++ flat_map after_comma (texts_of l.arrival l.cluster l.sets (trees (drop l.part-index l.others)))
      ≡ string_bytes l.fn.out ++ l.word ++ with_commas (texts_of l.arrival l.cluster l.sets (trees l.parts));
  known : EachLeafOf (λ x. x.set < length l.sets) (trees (drop l.part-index l.others));
  named : EachLeafOf (IsNamed l.cluster l.sets) (trees (drop l.part-index l.others)) → EachLeafOf (IsNamed l.cluster l.sets) (trees l.parts);
}
