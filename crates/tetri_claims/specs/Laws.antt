-- What certificates say of allotments.
use Rattle.std.specs.Prelude.{◌≡◌, ◌↔◌, ◌-◌, ◌^◌, ℕ, List, Result, Ok}
use Rattle.tetri_ip.specs.declared.programs.Program.{Program}
use Rattle.tetri_ip.specs.Points.{box_of}
use Rattle.tetri_cert.specs.declared.faults.TreeFault.{TreeFault}
use Rattle.tetri_cert.specs.declared.marks.Mark.{Mark}
use Rattle.tetri_cert.specs.ProperTrees.{IsProper, Tree, greatest, preorder}
use Rattle.tetri_cert.specs.TreeLaws.{BoundsPoints}
use Rattle.tetri_compile.specs.Flat.{plain, program_of}
use Rattle.tetri_space.specs.Sound.{IsSound}
use Rattle.tetri_space.specs.Space.{Space}
use Rattle.tetri_claims.specs.Certified.{IsCertified, MayHaveTree, TreeAnswers}
use Rattle.tetri_claims.specs.Good.{BoundsEveryLawful}
use Rattle.tetri_claims.specs.Planned.{Planned}

-- no lawful allotment is worth more than a certified bound
abbrev pub CertificatesBound : Type 0
CertificatesBound = (s : Space) (budget : ℕ) (p : Planned) → IsSound s → IsCertified s budget p → BoundsEveryLawful s p.bound

-- no point of an instance's program has an objective above 2^64 - 1
abbrev pub ProgramsEarnLittle : Type 0
ProgramsEarnLittle = (s : Space) (p : Program) → IsSound s → plain p ≡ program_of s → BoundsPoints p (2 ^ 64 - 1)

-- marks have a bound over an instance's program exactly where they are one proper tree over it, and it is the greatest of the tree's floors
abbrev pub BoundsAreOfProperTrees : Type 0
BoundsAreOfProperTrees = (s : Space) (marks : List Mark) (bound : ℕ) → IsSound s → MayHaveTree s → TreeAnswers s marks (Ok bound)
    ↔ ((p : Program) × (plain p ≡ program_of s) × ((tree : Tree) × (preorder tree ≡ marks) × IsProper p (box_of p) tree × (greatest p (box_of p) tree ≡ bound)))

-- marks have one answer over an instance's program
abbrev pub TreesHaveOneAnswer : Type 0
TreesHaveOneAnswer = (s : Space) (marks : List Mark) (answer other : Result ℕ TreeFault) → TreeAnswers s marks answer → TreeAnswers s marks other
    → answer ≡ other
