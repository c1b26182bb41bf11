-- Trees over programs that say the same, and where a tree's fault stands.
use Rattle.std.specs.Prelude.{◌≡◌, ℕ, ◌<◌, ◌⊎◌, List, length, Err}
use Rattle.tetri_ip.specs.declared.programs.Program.{Program}
use Rattle.tetri_ip.specs.SamePrograms.{SaysSame}
use Rattle.tetri_cert.specs.declared.faults.TreeFault.TheVariants.{Bad, Past}
use Rattle.tetri_cert.specs.declared.faults.TreeWhy.{TreeWhy}
use Rattle.tetri_cert.specs.declared.marks.Mark.{Mark}
use Rattle.tetri_cert.specs.Trees.{tree_bound}

-- marks have the same bound, or the same first fault, over programs that say the same
abbrev pub SameProgramsAnswerSame : Type 0
SameProgramsAnswerSame = (p q : Program) (ms : List Mark) → SaysSame p q → tree_bound p ms ≡ tree_bound q ms

-- a fault names a node of the list, or the first node
abbrev pub FaultsNameNodes : Type 0
FaultsNameNodes = (p : Program) (ms : List Mark) (node : ℕ) →
    ((why : TreeWhy) → tree_bound p ms ≡ Err (Bad node why) → (node < length ms) ⊎ (node ≡ 0))
    × ((column : ℕ) → tree_bound p ms ≡ Err (Past node column) → node < length ms)
