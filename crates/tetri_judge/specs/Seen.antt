-- What was seen of a certificate, in place of all its marks.
use Rattle.std.specs.Prelude.{◌≡◌, ◌⊎◌, ◌↔◌, ℕ, List, ◌++◌, length, Option, Some, None, Result}
use Rattle.tetri_cert.specs.Trees.{IsTreeAnswer, nodes_in, tree_bound}
use Rattle.tetri_cert.specs.Walks.{IsOver, tells}
use Rattle.tetri_cert.specs.declared.certificate.Certificate.{Certificate}
use Rattle.tetri_cert.specs.declared.certificate.Certificate.TheVariants.{Tops, Tree}
use Rattle.tetri_cert.specs.declared.faults.TreeFault.{TreeFault}
use Rattle.tetri_cert.specs.declared.marks.Mark.{Mark}
use Rattle.tetri_cert.specs.declared.plan_mark.PlanMark.TheVariants.{Optimal, Spent, Wide}
use Rattle.tetri_claims.specs.Certified.{MayHaveTree}
use Rattle.tetri_compile.specs.Flat.{plain, program_of}
use Rattle.tetri_ip.specs.Points.{IsFit}
use Rattle.tetri_ip.specs.declared.programs.Program.{Program}
use Rattle.tetri_report.specs.declared.line.PlanLine.{PlanLine}
use Rattle.tetri_space.specs.Space.{Space}
use Rattle.tetri_judge.specs.declared.seen.Seen.{Seen}
use Rattle.tetri_judge.specs.declared.seen.Seen.TheVariants as seen
use Rattle.tetri_judge.specs.declared.tree_walk.ProgramWalk.{ProgramWalk}
use Rattle.tetri_judge.specs.declared.tree_walk.TreeWalk.{TreeWalk}

-- What marks have over the integer program of the instance: the bound of a proper tree or the first fault, unless memory ran out.
abbrev pub TreeGives : Space → List Mark → Result ℕ TreeFault → Type 0
TreeGives s marks answer = (p : Program) × (plain p ≡ program_of s) × IsTreeAnswer answer (tree_bound p marks)

-- What was seen tells this certificate of a plan in the instance: tops are told by their numbers, and a tree, where one may stand
-- in the instance, by how many of its nodes are counted and by what it gives. Where none may stand, all trees are told alike.
abbrev pub Tells : Space → Certificate → Seen → Type 0
Tells s (Tops columns rows) (seen.Tops told_columns told_rows) = (told_columns ≡ columns) × (told_rows ≡ rows)
Tells s (Tops columns rows) (seen.Tree answer nodes) = ⊥
Tells s (Tree marks) (seen.Tops columns rows) = ⊥
Tells s (Tree marks) (seen.Tree answer nodes) = MayHaveTree s → (nodes ≡ nodes_in marks) × TreeGives s marks answer

-- A walk over the integer program of the instance was fed these marks.
pub record WalksProgram (s : Space) (marks : List Mark) (w : ProgramWalk) : Type 0 where
  pub program : plain w.program ≡ program_of s
  pub fit : IsFit w.program
  pub over : IsOver w.program w.walk
  pub fed : w.walk.node ≡ length marks
  pub tells : (rest : List Mark) → tells w.walk w.program rest ≡ tree_bound w.program (marks ++ rest)

-- there is a walk where a tree may stand
abbrev pub WalksWhereOneMay : Space → List Mark → Option ProgramWalk → Type 0
WalksWhereOneMay s marks None = MayHaveTree s → ⊥
WalksWhereOneMay s marks (Some w) = WalksProgram s marks w

-- A walk over a tree for the instance was fed these marks.
pub record WalksTree (s : Space) (marks : List Mark) (w : TreeWalk) : Type 0 where
  pub fed : w.fed ≡ length marks
  pub nodes : w.nodes ≡ nodes_in marks
  pub walk : WalksWhereOneMay s marks w.walk

-- how many nodes were counted
abbrev pub counted_in : Seen → ℕ
counted_in (seen.Tops columns rows) = 0
counted_in (seen.Tree answer nodes) = nodes

-- the mark where the value is below the bound: `wide` with tops, `spent` with a tree beside as many nodes as the budget
abbrev pub IsCutShortBeside : ℕ → Seen → PlanLine → Type 0
IsCutShortBeside budget (seen.Tops columns rows) p = p.mark ≡ Wide
IsCutShortBeside budget (seen.Tree answer nodes) p = (p.mark ≡ Spent) × (p.nodes ≡ budget)

-- the mark and the number of nodes go with what was seen
pub record IsMarkedBeside (budget : ℕ) (p : PlanLine) (s : Seen) : Type 0 where
  pub optimal : (p.mark ≡ Optimal) ↔ (p.value ≡ p.bound)
  pub either : (p.mark ≡ Optimal) ⊎ IsCutShortBeside budget s p
  pub nodes : p.nodes ≡ counted_in s
