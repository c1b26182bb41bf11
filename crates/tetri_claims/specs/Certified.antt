-- Which certificate stands with a plan.
use Rattle.std.specs.Prelude.{◌≡◌, ◌⊎◌, ◌≤◌, ℕ, List, length, Result, Ok}
use Rattle.tetri_ip.specs.declared.programs.Program.{Program}
use Rattle.tetri_cert.specs.declared.certificate.Certificate.{Certificate}
use Rattle.tetri_cert.specs.declared.certificate.Certificate.TheVariants.{Tops, Tree}
use Rattle.tetri_cert.specs.declared.faults.TreeFault.{TreeFault}
use Rattle.tetri_cert.specs.declared.marks.Mark.{Mark}
use Rattle.tetri_cert.specs.declared.plan_mark.PlanMark.TheVariants.{Optimal, Spent, Wide}
use Rattle.tetri_cert.specs.Trees.{nodes_in, tree_bound}
use Rattle.tetri_compile.specs.Flat.{column_count, plain, program_of, row_count}
use Rattle.tetri_space.specs.Space.{Space}
use Rattle.tetri_space.specs.Total.{tops_in}
use Rattle.tetri_claims.specs.Planned.{Planned}

-- A tree may stand with a plan where a job is pending and the instance's integer program has at most 2,000 columns and at most
-- 2,000 rows.
pub record MayHaveTree (s : Space) : Type 0 where
  pub jobs : 1 ≤ length s.bids
  pub columns : column_count s ≤ 2000
  pub rows : row_count s ≤ 2000

-- the certificate is of the kind of the instance: a tree where one may stand, else `tops` with the numbers of columns and rows of the
-- instance's program
abbrev pub IsOfKind : Space → Certificate → Type 0
IsOfKind s (Tops columns rows) = (MayHaveTree s → ⊥) × (columns ≡ column_count s) × (rows ≡ row_count s)
IsOfKind s (Tree marks) = MayHaveTree s

-- what marks have over the integer program of the instance: a bound where they are a proper tree, else the first fault
abbrev pub TreeAnswers : Space → List Mark → Result ℕ TreeFault → Type 0
TreeAnswers s marks answer = (p : Program) × (plain p ≡ program_of s) × (tree_bound p marks ≡ answer)

-- the bound that a certificate gives: the sum of the tops over the window, or that of a proper tree
abbrev pub IsBoundOf : Space → Certificate → ℕ → Type 0
IsBoundOf s (Tops columns rows) bound = bound ≡ tops_in s
IsBoundOf s (Tree marks) bound = TreeAnswers s marks (Ok bound)

-- how many nodes are counted beside a certificate: those of a tree other than rests
abbrev pub counted_nodes : Certificate → ℕ
counted_nodes (Tops columns rows) = 0
counted_nodes (Tree marks) = nodes_in marks

-- the mark where the value is below the bound: `wide` with tops; `spent` with a tree that counts as many nodes as the budget
abbrev pub IsCutShort : ℕ → Certificate → Planned → Type 0
IsCutShort budget (Tops columns rows) p = p.mark ≡ Wide
IsCutShort budget (Tree marks) p = (p.mark ≡ Spent) × (p.nodes ≡ budget)

-- The certificate is of the kind of the instance, the bound is the one that it gives, its nodes are counted, and the mark
-- goes with it.
pub record IsCertified (s : Space) (budget : ℕ) (p : Planned) : Type 0 where
  pub kind : IsOfKind s p.certificate
  pub bound : IsBoundOf s p.certificate p.bound
  pub nodes : p.nodes ≡ counted_nodes p.certificate
  pub mark : (p.mark ≡ Optimal) ⊎ IsCutShort budget p.certificate p
