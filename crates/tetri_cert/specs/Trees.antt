-- Trees of marks: binary trees in preorder, the high side first.
use Rattle.std.specs.Prelude.{◌≡◌, ℕ, ◌+◌, List, [], ◌∷◌, Bool, true, false, max, Result, Ok, Err}
use Prim.Native.Nat.{zero, suc}
use Rattle.tetri_ip.specs.declared.programs.Program.{Program}
use Rattle.tetri_ip.specs.Points.{Bounds, box_of}
use Rattle.tetri_cert.specs.declared.faults.TreeWhy.TheVariants as why
use Rattle.tetri_cert.specs.declared.faults.TreeFault.{TreeFault}
use Rattle.tetri_cert.specs.declared.faults.TreeFault.TheVariants.{Bad, Past, NoMemory}
use Rattle.tetri_cert.specs.declared.marks.Mark.{Mark}
use Rattle.tetri_cert.specs.declared.marks.Mark.TheVariants.{Split, Close, Whole, Rest}
use Rattle.tetri_cert.specs.NodeBounds.{node_bound, sides_before}
use Rattle.tetri_base.specs.ResultSteps.{◌>>=◌}

-- how many subtrees are still to come behind a node, where k others were to come
abbrev pub places_behind : Mark → ℕ → ℕ
places_behind (Split j at licence) k = suc (suc k)
places_behind (Close q ws) k = k
places_behind (Whole q ws worth point) k = k
places_behind (Rest q ws) k = k

-- how many nodes there are other than rests
abbrev pub nodes_in : List Mark → ℕ
nodes_in [] = 0
nodes_in (Split j at licence ∷ ms) = suc (nodes_in ms)
nodes_in (Close q ws ∷ ms) = suc (nodes_in ms)
nodes_in (Whole q ws worth point ∷ ms) = suc (nodes_in ms)
nodes_in (Rest q ws ∷ ms) = nodes_in ms

-- whether the nodes fill so many open places, each with one tree in preorder
abbrev pub fills : ℕ → List Mark → Bool
fills zero [] = true
fills zero (m ∷ ms) = false
fills (suc k) [] = false
fills (suc k) (m ∷ ms) = fills (places_behind m k) ms

-- the greatest of a number and of what the nodes bound over the open regions in order, or the first fault
abbrev pub tree_from : Program → List Bounds → ℕ → ℕ → List Mark → Result ℕ TreeFault
tree_from p regions node most [] = Ok most
tree_from p [] node most (m ∷ ms) = Ok most
tree_from p (b ∷ bs) node most (m ∷ ms) = node_bound p b node m >>= λ n. tree_from p (sides_before b m bs) (node + 1) (max most n) ms

abbrev pub if_fills : Bool → Result ℕ TreeFault → Result ℕ TreeFault
if_fills true answer = answer
if_fills false answer = Err (Bad 0 why.Shape)

-- the bound of a tree over a program, or the first fault; the tree is proper where it has a bound
unfoldable pub tree_bound : Program → List Mark → Result ℕ TreeFault
tree_bound p ms = if_fills (fills 1 ms) (tree_from p (box_of p ∷ []) 0 0 ms)

-- the bound or the first fault, unless memory ran out
abbrev pub IsTreeAnswer : Result ℕ TreeFault → Result ℕ TreeFault → Type 0
IsTreeAnswer (Ok n) told = told ≡ Ok n
IsTreeAnswer (Err NoMemory) told = Unit {0}
IsTreeAnswer (Err (Bad node w)) told = told ≡ Err (Bad node w)
IsTreeAnswer (Err (Past node j)) told = told ≡ Err (Past node j)
