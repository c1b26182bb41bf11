-- What a walk tells of the nodes that are still to come.
use Rattle.std.specs.Prelude.{◌≡◌, ℕ, ◌+◌, ◌<◌, ◌≤◌, List, [], ◌∷◌, length, reverse, cond, not, ◌&&◌, Option, Some, None, Result, Err, All}
use Rattle.tetri_ip.specs.declared.programs.Program.{Program}
use Rattle.tetri_ip.specs.Points.{Bounds, IsInBox, bounds_of}
use Rattle.tetri_cert.specs.declared.faults.TreeFault.{TreeFault}
use Rattle.tetri_cert.specs.declared.walk.Walk.{Walk}
use Rattle.tetri_cert.specs.declared.marks.Mark.{Mark}
use Rattle.tetri_cert.specs.Trees.{fills, if_fills, tree_from}
use Rattle.tetri_cert.specs.Turns.{pending}

-- the open regions, the next one first
abbrev pub regions_of : Walk → List Bounds
regions_of w = cond w.live (bounds_of w.region ∷ pending (bounds_of w.region) (reverse w.trail.items)) []

abbrev pub or_found : Option TreeFault → Result ℕ TreeFault → Result ℕ TreeFault
or_found None answer = answer
or_found (Some f) answer = Err f

-- what the nodes tell, the shape aside
unfoldable pub tells_nodes : Walk → Program → List Mark → Result ℕ TreeFault
tells_nodes w p ms = or_found w.fault (tree_from p (regions_of w) w.node w.most ms)

-- the answer, where these are the nodes to come
unfoldable pub tells : Walk → Program → List Mark → Result ℕ TreeFault
tells w p ms = if_fills (not w.extra && fills w.places ms) (tells_nodes w p ms)

-- each region lies in the program's box
abbrev pub AreInBox : Program → List Bounds → Type 0
AreInBox p [] = Unit {0}
AreInBox p (b ∷ bs) = IsInBox p b × AreInBox p bs

-- the walk goes over this program
pub record IsOver (p : Program) (w : Walk) : Type 0 where
  pub lower : length w.region.lower.items ≡ length p.costs.items
  pub upper : length w.region.upper.items ≡ length p.costs.items
  pub factors : length w.factors.items ≡ length p.costs.items
  pub in_box : AreInBox p (regions_of w)
  pub columns : All (λ t. t.column < length p.costs.items) w.trail.items
  pub places : w.places ≤ w.node + 1
  pub counted : w.counted ≤ w.node
