-- Creeds: orders in which a greedy planner serves the jobs of an instance, and the grants that it makes.
use Rattle.std.specs.Prelude.{◌≡◌, ℕ, ◌+◌, nat_lt, if◌then◌else◌, List, [], ◌∷◌, ◌++◌, map, filter, Bool}
use Rattle.std.specs.List.{list_any}
use Rattle.tetri_base.specs.Order.{in_order}
use Rattle.tetri_strl.specs.declared.grants.Grant.{Grant}
use Rattle.tetri_strl.specs.Tree.{leaves}
use Rattle.tetri_strl.specs.Worth.{greatest_of}
use Rattle.tetri_space.specs.Lawful.{IsLawful}
use Rattle.tetri_space.specs.Space.{Bid, Space, is_live}
use Rattle.tetri_space.specs.Total.{bid_top}
use Rattle.tetri_advice.specs.Fit.{Placement, fit, grants_of}
use Rattle.tetri_advice.specs.declared.creed.Creed.{Creed}
use Rattle.tetri_advice.specs.declared.creed.Creed.TheVariants.{Deadline, Worth}

-- the greatest start of a job's live leaves; where none is live, the first slot past the window, which comes after all of these
abbrev pub deadline : Space → Bid → ℕ
deadline s b =
    if list_any (is_live s) (leaves b.expr) then greatest_of (map (λ l. l.start) (filter (is_live s) (leaves b.expr))) else s.now + s.window

-- the greatest worth of a job's expression in the window
abbrev pub window_top : Space → Bid → ℕ
window_top s b = bid_top s.now (s.now + s.window) b

-- the first job is served before the second: the one whose deadline is earlier, or whose top is greater
abbrev pub is_served_first : Creed → Space → Bid → Bid → Bool
is_served_first Deadline s a b = nat_lt (deadline s a) (deadline s b)
is_served_first Worth s a b = nat_lt (window_top s b) (window_top s a)

-- the jobs in the order of a creed; those that it does not tell apart stay as they stand in the instance
abbrev pub creed_order : Creed → Space → List Bid
creed_order c s = in_order (is_served_first c s) s.bids

-- the grants of these jobs, each the fit of its expression beside what is held and what earlier ones got
abbrev pub served : Space → List Placement → List Bid → List Grant
served s held [] = []
served s held (b ∷ bs) = grants_of b.job (fit s b.job held b.expr) ++ served s (held ++ fit s b.job held b.expr) bs

-- the grants of a greedy planner of this creed
abbrev pub greedy_list : Creed → Space → List Grant
greedy_list c s = served s [] (creed_order c s)

-- what is said of an instance is the list of the creed, which is lawful
pub record IsListed (s : Space) (said : List Grant) (c : Creed) : Type 0 where
  pub list : said ≡ greedy_list c s
  pub is_lawful : IsLawful s (greedy_list c s)
