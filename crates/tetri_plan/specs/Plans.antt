-- What a plan says, and when a search proves it optimal.
use Rattle.std.specs.Prelude.{◌≡◌, ℕ, ◌*◌, ◌^◌, ◌<◌, ◌≤◌, All, length, Bool, false, None}
use Rattle.tetri_cert.specs.NodeText.{HasShortLists, IsPlain}
use Rattle.tetri_cert.specs.declared.certificate.Certificate.{Certificate}
use Rattle.tetri_cert.specs.declared.certificate.Certificate.TheVariants.{Tops, Tree}
use Rattle.tetri_space.specs.Space.{Space}
use Rattle.tetri_compile.specs.Flat.{program_of}
use Rattle.tetri_search.specs.Follow.{last_whole}
use Rattle.tetri_search.specs.Laws.{has_rest, points_in}
use Rattle.tetri_claims.specs.Planned.{Planned}
use Rattle.tetri_plan.specs.declared.planning.Plan.{Plan}

-- a plan as plain data
abbrev pub planned_of : Plan → Planned
planned_of p = record {
  value = p.value;
  bound = p.bound;
  mark = p.mark;
  nodes = p.nodes;
  grants = p.grants;
  certificate = p.certificate;
}

-- the certificate is a tree
abbrev pub HasTree : Certificate → Type 0
HasTree (Tops columns rows) = ⊥
HasTree (Tree marks) = Unit {0}

-- a tree has some node that is left open
abbrev pub leaves_open : Certificate → Bool
leaves_open (Tops columns rows) = false
leaves_open (Tree marks) = has_rest marks

-- a tree has no mark of a whole point
abbrev pub HasNoWhole : Certificate → Type 0
HasNoWhole (Tops columns rows) = Unit {0}
HasNoWhole (Tree marks) = last_whole marks ≡ None

-- the numbers of tops have 64 bits; a tree has a mark, and each is plain, with lists of at most
-- 2,000 entries
abbrev pub IsPrintableTree : Certificate → Type 0
IsPrintableTree (Tops columns rows) = (columns < 2 ^ 64) × (rows < 2 ^ 64)
IsPrintableTree (Tree marks) = (1 ≤ length marks) × All IsPlain marks
    × All (HasShortLists 2000) marks

-- twice as many nodes as the box of the instance's program has points: a search with this budget
-- ends with no node left open
abbrev pub enough_in : Space → ℕ
enough_in s = 2 * points_in (program_of s).lower (program_of s).upper
