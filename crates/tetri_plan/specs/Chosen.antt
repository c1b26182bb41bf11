-- Which plan is chosen for an instance.
use Rattle.std.specs.Prelude.{◌≡◌, ℕ, nat_lt, if◌then◌else◌, List, [], ◌∷◌, map, Option, Some, None}
use Rattle.tetri_base.specs.Order.{in_order}
use Rattle.tetri_ip.specs.declared.programs.Program.{Program}
use Rattle.tetri_strl.specs.declared.grants.Grant.{Grant}
use Rattle.tetri_cert.specs.Cells.{point_of}
use Rattle.tetri_cert.specs.declared.certificate.Certificate.{Certificate}
use Rattle.tetri_cert.specs.declared.certificate.Certificate.TheVariants.{Tops, Tree}
use Rattle.tetri_cert.specs.declared.marks.Cell.{Cell}
use Rattle.tetri_space.specs.GrantOrder.{comes_first}
use Rattle.tetri_space.specs.Space.{Space}
use Rattle.tetri_space.specs.Total.{total_in}
use Rattle.tetri_space.specs.Trimmed.{all_trimmed}
use Rattle.tetri_compile.specs.Flat.{column_count, plain, program_of}
use Rattle.tetri_assign.specs.Assigned.{assigned}
use Rattle.tetri_search.specs.Follow.{IsEarned, last_whole}
use Rattle.tetri_claims.specs.Certified.{IsCertified}
use Rattle.tetri_claims.specs.Planned.{Planned}

-- the better of an allotment and a later one, which has to be worth more
abbrev pub better : Space → List Grant → List Grant → List Grant
better s earlier later = if nat_lt (total_in s earlier) (total_in s later) then later else earlier

-- of an allotment and later ones, the first that is worth most
abbrev pub first_best : Space → List Grant → List (List Grant) → List Grant
first_best s best [] = best
first_best s best (a ∷ later) = first_best s (better s best a) later

-- of no grant, what is carried over, and what of each given allotment earns something, in this
-- order, the first that is worth most
abbrev pub kept : Space → List Grant → List (List Grant) → List Grant
kept s carry given = first_best s [] (carry ∷ map (all_trimmed s) given)

-- what of the nodes assigned to the point of these cells earns something
abbrev pub found_at : Space → List Cell → List Grant
found_at s cells = all_trimmed s (assigned s (point_of (column_count s) cells))

abbrev pub better_found : Space → List Grant → Option (List Cell) → List Grant
better_found s best None = best
better_found s best (Some cells) = better s best (found_at s cells)

-- the better of what was kept and what the last whole point of a search gives
abbrev pub searched : Space → List Grant → Certificate → List Grant
searched s best (Tops columns rows) = best
searched s best (Tree marks) = better_found s best (last_whole marks)

-- a tree is that of a search over the program of the instance, with the worth of the best allotment
-- known at first and the budget
abbrev pub IsEarnedFor : Space → ℕ → ℕ → Certificate → Type 0
IsEarnedFor s low budget (Tops columns rows) = Unit {0}
IsEarnedFor s low budget (Tree marks) = (p : Program) × (plain p ≡ program_of s)
    × IsEarned p low budget marks

-- The plan is the chosen one for what is carried over, the given allotments and the budget: its
-- certificate is that of the instance, a tree is that of a search which knew the worth of the kept
-- allotment, and its grants are the kept ones or those of the search's last whole point, where
-- these are worth more, by job and leaf.
pub record IsChosen (s : Space) (carry : List Grant) (given : List (List Grant)) (budget : ℕ)
    (p : Planned) : Type 0 where
  pub certified : IsCertified s budget p
  pub earned : IsEarnedFor s (total_in s (kept s carry given)) budget p.certificate
  pub grants : p.grants ≡ in_order comes_first (searched s (kept s carry given) p.certificate)
