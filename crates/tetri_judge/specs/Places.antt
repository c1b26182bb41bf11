-- The line of a cycle that a verdict refuses.
use Rattle.std.specs.Prelude.{ℕ, ◌+◌}
use Rattle.tetri_report.specs.Block.{Block}
use Rattle.tetri_report.specs.BlockLines.{certificate_place, grant_place, plan_place}
use Rattle.tetri_judge.specs.declared.verdict.Verdict.{Verdict}
use Rattle.tetri_judge.specs.declared.verdict.Verdict.TheVariants.{Unlawful, WrongValue, WasteGrant, BelowCarry, BadTree, Past, WrongBound, WrongMark, NoMemory}

-- the place of the line, counted from the cycle's first one, at which a verdict refuses its plan; want of memory refuses none
abbrev pub place_of : Block → Verdict → ℕ
place_of b (Unlawful u) = grant_place b u.grant
place_of b (WrongValue printed found) = plan_place b
place_of b (WasteGrant place) = grant_place b place
place_of b (BelowCarry printed carry) = plan_place b
place_of b (BadTree node why) = certificate_place b + node
place_of b (Past node column) = certificate_place b + node
place_of b (WrongBound printed found) = plan_place b
place_of b WrongMark = plan_place b
place_of b NoMemory = plan_place b
