-- Which notices are good.
use Rattle.std.specs.Prelude.{◌≡◌, ◌≤ℤ◌, pos, negsuc, true}
use Rattle.tetri_cluster.specs.Names.{is_name}
use Rattle.tetri_notice.specs.Asks.{IsSoundAskText}
use Rattle.tetri_notice.specs.Objects.{DemandText, written, asked, Notice, arrives, cancels, drains, undrains, fails}

-- an ask keeps its limits
abbrev pub IsGoodDemand : DemandText → Type 0
IsGoodDemand (written text) = Unit {0}
IsGoodDemand (asked a) = IsSoundAskText a

-- a job that arrives has a name, and is not too late
abbrev pub IsGoodNotice : Notice → Type 0
IsGoodNotice (arrives name late demand) = (is_name name ≡ true) × (negsuc 9999 ≤ℤ late) × (late ≤ℤ pos 10000) × IsGoodDemand demand
IsGoodNotice (cancels name) = Unit {0}
IsGoodNotice (drains name) = Unit {0}
IsGoodNotice (undrains name) = Unit {0}
IsGoodNotice (fails name) = Unit {0}
