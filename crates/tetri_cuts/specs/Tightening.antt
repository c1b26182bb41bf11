-- Tightening: cuts are added to a program one by one, each broken by the best point of the relaxation before it.
use Rattle.std.specs.Prelude.{◌≡◌, ◌⊎◌, ℕ, ◌+◌, ◌-◌, ◌^◌, ◌<◌, ◌≤◌, List, [], ◌∷◌, ◌++◌, length, All, Option, Some, None, option_map, ◌*ℤ◌, ◌≤ℤ◌, pos}
use Rattle.std.specs.Int.{int_div_euclid, saturate_unsigned, w64}
use Rattle.std.specs.Option.{option_or}
use lib.IntN.{ℤ}
use Rattle.tetri_algebra.specs.Rational.{ℚ}
use Rattle.tetri_ip.specs.declared.programs.Program.{Program}
use Rattle.tetri_ip.specs.declared.programs.Row.{Row}
use Rattle.tetri_ip.specs.declared.programs.Weight.{Weight}
use Rattle.tetri_ip.specs.Points.{IsFitRow, IsPoint, box_of, objective}
use Rattle.tetri_algebra.specs.Range.{IsWithin}
use Rattle.tetri_ip.specs.SamePrograms.{SaysSame}
use Rattle.tetri_ip.specs.Weighed.{weighed}
use Rattle.tetri_simplex.specs.Ends.{End, best, cut, empty, past, long}
use Rattle.tetri_simplex.specs.Machine.{machine}
use Rattle.tetri_simplex.specs.Relaxation.{IsWhole}
use Rattle.tetri_cuts.specs.declared.tightening.Added.{Added}
use Rattle.tetri_cuts.specs.declared.tightening.Root.{Root}
use Rattle.tetri_cuts.specs.declared.tightening.Tight.{Tight}
use Rattle.tetri_cuts.specs.Cuts.{IsCut, cut_right, cut_terms, past_column}
use Rattle.tetri_cuts.specs.Breaking.{IsBroken}

-- the run over the box of a program, with 0 for the best objective known
abbrev pub root_run : Program → End
root_run p = machine p (box_of p) 0

-- ---- the root
-- a multiplier and weights of rows, and the bound that they give
pub record PlainRoot : Type 0 where
  pub q : ℤ
  pub weights : List Weight
  pub bound : ℕ

abbrev pub plain_root : Root → PlainRoot
plain_root r = record { q = r.q; weights = r.weights.items; bound = r.bound }

-- the floor of the weighed number over the multiplier, but 0 where that is less, and 2^64 - 1 where it is more
abbrev pub bound_by : Program → ℤ → List Weight → ℕ
bound_by p q ws = saturate_unsigned w64 (int_div_euclid (weighed p (box_of p) q ws) q)

abbrev pub root_by : Program → ℤ → List Weight → PlainRoot
root_by p q ws = record { q = q; weights = ws; bound = bound_by p q ws }

-- the root that an end of the run gives, which is a best point or a cut
abbrev pub own_root : Program → End → Option PlainRoot
own_root p (best point q ws) = Some (root_by p q ws)
own_root p (cut q ws) = Some (root_by p q ws)
own_root p (empty ws) = None
own_root p (past place) = None
own_root p long = None

-- the root behind the run over a program: its own, else the one before
abbrev pub root_behind : Program → Option PlainRoot → Option PlainRoot
root_behind p before = option_or (own_root p (root_run p)) before

-- ---- one more cut
-- with c cuts made: the run over the program ends at a best point that is not whole, and there is room for one more cut
pub record GoesOn (p : Program) (c : ℕ) (point : List ℚ) (q : ℤ) (ws : List Weight) : Type 0 where
  pub run : root_run p ≡ best point q ws
  pub not_whole : All IsWhole point → ⊥
  pub few_cuts : c < 16
  pub few_rows : length p.rows.items < 2000

-- the divisor q * d is in range, its cut is formed, leaves the program fit, and is broken by the point
pub record Passes (p : Program) (point : List ℚ) (q : ℤ) (ws : List Weight) (d : ℕ) : Type 0 where
  pub in_range : IsWithin (q *ℤ pos d)
  pub formed : past_column p ws ≡ None
  pub fit : IsFitRow p (cut_terms p (q *ℤ pos d) ws) (cut_right p (q *ℤ pos d) ws)
  pub broken : IsBroken (cut_terms p (q *ℤ pos d) ws) (cut_right p (q *ℤ pos d) ws) point

-- the divisor q * d passes, and the cut is the one that it gives
pub record IsCutBy (p : Program) (point : List ℚ) (q : ℤ) (ws : List Weight) (d : ℕ) (a : Added) : Type 0 where
  pub passes : Passes p point q ws d
  pub divisor : a.divisor ≡ q *ℤ pos d
  pub weights : a.weights.items ≡ ws
  pub row : IsCut p a.divisor ws a.row

-- of the divisors from 2 q to 64 q, the first that passes gives the cut
pub record IsTaken (p : Program) (point : List ℚ) (q : ℤ) (ws : List Weight) (a : Added) : Type 0 where
  pub d : ℕ
  pub least : 2 ≤ d
  pub most : d ≤ 64
  pub cut : IsCutBy p point q ws d a
  pub first : (k : ℕ) → 2 ≤ k → k < d → Passes p point q ws k → ⊥

-- none of the divisors passes
abbrev pub NonePasses : Program → List ℚ → ℤ → List Weight → Type 0
NonePasses p point q ws = (d : ℕ) → 2 ≤ d → d ≤ 64 → Passes p point q ws d → ⊥

-- with c cuts made, the tightening goes on and takes the cut
abbrev pub Takes : Program → ℕ → Added → Type 0
Takes p c a = (point : List ℚ) × ((q : ℤ) × ((ws : List Weight) × (GoesOn p c point q ws × IsTaken p point q ws a)))

-- with c cuts made, it does not go on, or no divisor passes
abbrev pub Stops : Program → ℕ → Type 0
Stops p c = (point : List ℚ) (q : ℤ) (ws : List Weight) → GoesOn p c point q ws → NonePasses p point q ws

-- the other program is the first one, with the row last
pub record HasRowLast (p : Program) (r : Row) (other : Program) : Type 0 where
  pub costs : other.costs.items ≡ p.costs.items
  pub lower : other.lower.items ≡ p.lower.items
  pub upper : other.upper.items ≡ p.upper.items
  pub last : Row
  pub rows : other.rows.items ≡ p.rows.items ++ last ∷ []
  pub terms : last.terms.items ≡ r.terms.items
  pub right : last.right ≡ r.right

-- ---- the whole of it
-- from a program with c cuts made and a root before: the cuts that follow, and the root at the end
abbrev pub Tightens : Program → ℕ → Option PlainRoot → List Added → Option PlainRoot → Type 0
Tightens p c before [] root = Stops p c × (root ≡ root_behind p before)
Tightens p c before (a ∷ more) root =
    Takes p c a × ((next : Program) × (HasRowLast p a.row next × Tightens next (c + 1) (root_behind p before) more root))

-- the cuts and the root are those of the tightening of a program
abbrev pub IsTightening : Program → Tight → Type 0
IsTightening p t = (first : Program) × (SaysSame p first × Tightens first 0 None t.cuts.items (option_map plain_root t.root))

-- ---- the bound
-- no point of the program has an objective above the number
abbrev pub IsUpperBound : Program → ℕ → Type 0
IsUpperBound p bound = (point : List ℤ) → IsPoint p (box_of p) point → objective p point ≤ℤ pos bound

-- The same, where the number was not lowered to 2^64 - 1, or no point has an objective above that.
abbrev pub Bounds : Program → ℕ → Type 0
Bounds p bound = (bound < 2 ^ 64 - 1) ⊎ IsUpperBound p (2 ^ 64 - 1) → IsUpperBound p bound
