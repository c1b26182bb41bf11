-- No lawful allotment is worth more than the bound of a root.
use Rattle.std.proofs.Common.{◌≡◌, ℕ, inr, List, arith}
use Rattle.std.specs.Prelude.{Option, Some, None, IfSome, pos, ◌≤ℤ◌}
use Rattle.std.proofs.lemmas.Int.{ints}
use Rattle.tetri_strl.specs.declared.grants.Grant.{Grant}
use Rattle.tetri_claims.specs.Good.{BoundsEveryLawful}
use Rattle.tetri_claims.specs.Laws.{ProgramsEarnLittle}
use Rattle.tetri_compile.specs.Allotted.{point_of}
use Rattle.tetri_compile.specs.Flat.{plain, program_of}
use Rattle.tetri_cuts.specs.Tightening.{Bounds, IsUpperBound}
use Rattle.tetri_cuts.specs.declared.tightening.Root.{Root}
use Rattle.tetri_ip.specs.declared.programs.Program.{Program}
use Rattle.tetri_ip.specs.Points.{IsPoint, box_of, objective}
use Rattle.tetri_space.specs.Lawful.{IsLawful}
use Rattle.tetri_space.specs.Sound.{IsSound}
use Rattle.tetri_space.specs.Space.{Space}
use Rattle.tetri_space.specs.Total.{total_in}
use Rattle.tetri_commands.specs.TightText.{tight_bound}

-- each lawful allotment has a point of the program, which is worth no less
abbrev pub HasPoints : Space → Program → Type 0
HasPoints s p = (a : List Grant) → IsLawful s a → IsPoint p (box_of p) (point_of s a) × (pos (total_in s a) ≤ℤ objective p (point_of s a))

root_bounds : (s : Space) (p : Program) (bound : ℕ) → IsSound s → plain p ≡ program_of s → ProgramsEarnLittle → HasPoints s p → Bounds p bound → BoundsEveryLawful s bound
root_bounds s p bound sound is little points holds a lawful =
    let at = points a lawful in
    let most : IsUpperBound p bound = holds (inr (little s p sound is)) in
    omega (arith, ints, at.1, most (point_of s a) at.0)

pub roots_bound : (s : Space) (p : Program) → IsSound s → plain p ≡ program_of s → ProgramsEarnLittle → HasPoints s p → (root : Option Root) → IfSome root (λ r. Bounds p r.bound) →
    IfSome root (λ r. BoundsEveryLawful s r.bound)
roots_bound s p sound is little points None holds = tt
roots_bound s p sound is little points (Some r) holds = root_bounds s p r.bound sound is little points holds

-- the lesser of two bounds is one
pub tight_bounds : (s : Space) (bound : ℕ) (root : Option Root) → BoundsEveryLawful s bound → IfSome root (λ r. BoundsEveryLawful s r.bound) → BoundsEveryLawful s (tight_bound bound root)
tight_bounds s bound None holds own = holds
tight_bounds s bound (Some r) holds own = λ a lawful. omega (arith, holds a lawful, own a lawful)
