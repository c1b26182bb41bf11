-- The open regions of a search.
use Rattle.std.specs.Prelude.{◌≡◌, ◌<◌, List, [], ◌∷◌, length, reverse, cond, All}
use Rattle.tetri_ip.specs.declared.programs.Program.{Program}
use Rattle.tetri_ip.specs.Points.{Bounds, bounds_of}
use Rattle.tetri_cert.specs.Turns.{pending}
use Rattle.tetri_cert.specs.Walks.{AreInBox}
use Rattle.tetri_swift.specs.declared.searching.Front.{Front}

-- the open regions, the next one first
abbrev pub regions_of : Front → List Bounds
regions_of f = cond f.live (bounds_of f.region
    ∷ pending (bounds_of f.region) (reverse f.trail.items)) []

-- the open regions lie in the program's box
pub record IsOver (p : Program) (f : Front) : Type 0 where
  pub in_box : AreInBox p (regions_of f)
  pub lower : length f.region.lower.items ≡ length p.costs.items
  pub upper : length f.region.upper.items ≡ length p.costs.items
  pub columns : All (λ t. t.column < length f.region.lower.items) f.trail.items
