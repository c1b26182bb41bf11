-- What the ends of the run of a program over a region in its box say.
use Rattle.std.proofs.Common.{◌≡◌, ℕ, arith, List, [], ◌∷◌, length}
use Prim.Native.Nat.{suc}
use lib.IntN.{ℤ}
use Rattle.tetri_ip.specs.Points.{Bounds, IsInBox, IsBelow}
use Rattle.tetri_ip.specs.declared.programs.Program.{Program}
use Rattle.tetri_simplex.proofs.Placed.{IsBox}
use Rattle.tetri_simplex.proofs.RunHolds.{machine_holds}
use Rattle.tetri_simplex.specs.Certificates.{Certifies}
use Rattle.tetri_simplex.specs.Machine.{machine}

-- a region in a program's box is a box
box_of : (cs ls us : List ℤ) → length ls ≡ length cs → length us ≡ length cs → IsBelow (length cs) ls us → IsBox cs ls us
box_of [] [] [] l u h = tt
box_of [] [] (y ∷ us) l u h = absurd (omega arith)
box_of [] (x ∷ ls) us l u h = absurd (omega arith)
box_of (c ∷ cs) [] us l u h = absurd (omega arith)
box_of (c ∷ cs) (x ∷ ls) [] l u h = absurd (omega arith)
box_of (c ∷ cs) (x ∷ ls) (y ∷ us) l u h = (h 0 (omega arith), box_of cs ls us (omega arith) (omega arith) (λ k m. h (suc k) (omega arith)))

pub machine_certified : (p : Program) (b : Bounds) (known : ℕ) → IsInBox p b → Certifies p b known (machine p b known)
machine_certified p b known i = machine_holds p b known (box_of p.costs.items b.lower b.upper i.lower_count i.upper_count i.ordered)
