-- What the code keeps of open nodes, as the definitions speak of it.
use Rattle.std.specs.Prelude.{◌<◌, ◌^◌, List, ◌∷◌, length, map, reverse, All, Option, Some, None, ◌≤ℤ◌, ◌<ℤ◌, pos}
use Rattle.std.specs.declared.rc.Rc.{Rc}
use Rattle.std.specs.Global.{Global}
use Rattle.tetri_ip.specs.declared.programs.Program.{Program}
use Rattle.tetri_ip.specs.declared.programs.Region.{Region}
use Rattle.tetri_ip.specs.Points.{IsInBox, bounds_of}
use Rattle.tetri_cert.specs.declared.turns.Turn.{Turn}
use Rattle.tetri_cert.specs.declared.marks.Mark.{Mark}
use Rattle.tetri_cert.specs.declared.marks.Mark.TheVariants.{Split, Close, Whole, Rest}
use Rattle.tetri_search.specs.declared.duals.Dual.{Dual}

abbrev pub dual_of_rc : Option (Rc Dual Global) → Option Dual
dual_of_rc None = None
dual_of_rc (Some d) = Some d.value

-- the weights above each open node, the next one's first
abbrev pub duals_of : List (Option (Rc Dual Global)) → List (Option Dual)
duals_of ds = map dual_of_rc (reverse ds)

-- the weights above the nodes below one, before those of other open nodes
abbrev pub duals_before : Option Dual → Mark → List (Option Dual) → List (Option Dual)
duals_before d (Split j at licence) others = d ∷ d ∷ others
duals_before d (Close q ws) others = others
duals_before d (Whole q ws worth cells) others = others
duals_before d (Rest q ws) others = others

-- a fact of a split alone
abbrev pub IfSplit : Mark → Type 0 → Type 0
IfSplit (Split j at licence) P = P
IfSplit (Close q ws) P = Unit {0}
IfSplit (Whole q ws worth cells) P = Unit {0}
IfSplit (Rest q ws) P = Unit {0}

-- a region in the box, and a way back over its columns
pub record IsOnRegion (p : Program) (r : Region) (trail : List Turn) : Type 0 where
  pub in_box : IsInBox p (bounds_of r)
  pub columns : All (λ t. t.column < length r.lower.items) trail

-- a whole point's objective is below 2^64
abbrev pub IsNatural : Mark → Type 0
IsNatural (Split j at licence) = Unit {0}
IsNatural (Close q ws) = Unit {0}
IsNatural (Whole q ws worth cells) = (pos 0 ≤ℤ worth) × (worth <ℤ pos (2 ^ 64))
IsNatural (Rest q ws) = Unit {0}
