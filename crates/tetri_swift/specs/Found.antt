-- What a search promises, whatever its engine proposes.
use Rattle.std.specs.Prelude.{◌≡◌, ℕ, ◌≤◌, length, All, true, false, IfSome, MatchOption, Ok, option_map, pos}
use Rattle.tetri_ip.specs.declared.programs.Program.{Program}
use Rattle.tetri_ip.specs.Points.{IsPoint, box_of, objective}
use Rattle.tetri_cert.specs.Cells.{point_of}
use Rattle.tetri_cert.specs.NodeText.{HasShortLists, IsPlain}
use Rattle.tetri_cert.specs.Trees.{nodes_in, tree_bound}
use Rattle.tetri_search.specs.declared.searching.Found.{Found}
use Rattle.tetri_search.specs.Follow.{best_behind, last_whole}
use Rattle.tetri_search.specs.Laws.{enough, has_rest}

-- The marks are a proper tree over the program with this bound. A tree that is cut short has as
-- many other marks as the budget, and no tree has more; one that is not cut short has a bound of at
-- most the best objective, and a budget that is enough leaves no tree cut short. The best objective
-- is the one known at first, or that of the last whole point, which is more. The marks can be
-- printed.
pub record IsFound (p : Program) (low budget : ℕ) (f : Found) : Type 0 where
  pub bound : tree_bound p f.marks ≡ Ok f.bound
  pub nodes : f.nodes ≡ nodes_in f.marks
  pub within : f.nodes ≤ budget
  pub spent : has_rest f.marks ≡ true → f.nodes ≡ budget
  pub settled : has_rest f.marks ≡ false → f.bound ≤ f.best
  pub no_rest : enough p ≤ budget → has_rest f.marks ≡ false
  pub best : f.best ≡ best_behind low f.marks
  pub least : low ≤ f.best
  pub last : option_map (λ v. v.items) f.last
      ≡ option_map (point_of (length p.costs.items)) (last_whole f.marks)
  pub point : IfSome f.last (λ v. IsPoint p (box_of p) v.items)
  pub worth : MatchOption f.last (f.best ≡ low) (λ v. pos f.best ≡ objective p v.items)
  pub plain : All IsPlain f.marks
  pub short : (most : ℕ) → length p.costs.items ≤ most → length p.rows.items ≤ most
      → All (HasShortLists most) f.marks
