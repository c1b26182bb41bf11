use Rattle.std.proofs.Common.{◌≡◌, ◌++◌, map, drop}
use Rattle.tetri_delay.specs.Charge.{charged}
use Rattle.tetri_strl.specs.Tree.{tree, trees}
use Rattle.tetri_strl.specs.WellMade.{AreSound}
use Rattle.tetri_delay.proofs.charge.+charged_expr.Given as goal

abbrev pub invariant-charged_parts-loop-part : goal.invariant-charged_parts-loop-part
invariant-charged_parts-loop-part l = record {
  sound : AreSound (trees (drop l.part-index l.parts));
  so_far : map tree l.made.items ++ map (λ e. charged l.charge l.by (tree e)) (drop l.part-index l.parts) ≡ map (λ e. charged l.charge l.by (tree e)) l.parts;
}
