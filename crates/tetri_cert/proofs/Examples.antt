-- The definition of a tree's bound computes: worked examples.
use Rattle.std.proofs.Common.{◌≡◌, ℕ, ◌^◌, ◌<◌, ◌≤◌, refl, arith, List, [], ◌∷◌, length, Ok, Err}
use Rattle.std.specs.Global.{Vec, Global}
use denote.RawPtr.{Ptr}
use lib.IntN.{ℤ, pos, negsuc}
use Rattle.tetri_ip.specs.declared.programs.Program.{Program}
use Rattle.tetri_ip.specs.declared.programs.Row.{Row}
use Rattle.tetri_ip.specs.declared.programs.Term.{Term}
use Rattle.tetri_ip.specs.declared.programs.Weight.{Weight}
use Rattle.tetri_cert.specs.declared.marks.Cell.{Cell}
use Rattle.tetri_cert.specs.declared.faults.TreeWhy.TheVariants as why
use Rattle.tetri_cert.specs.declared.faults.TreeFault.TheVariants.{Bad}
use Rattle.tetri_cert.specs.declared.marks.Mark.TheVariants.{Split, Close, Whole, Rest}
use Rattle.tetri_cert.specs.declared.marks.Licence.TheVariants as licences
use Rattle.tetri_cert.specs.Cells.{is_whole_point}
use Rattle.tetri_cert.specs.NodeBounds.{node_bound, split_bound, weights_bound}
use Rattle.tetri_cert.specs.Trees.{tree_bound}

abbrev vec_of : {X : Type 0} → Ptr → Global → (xs : List X) → length xs < 2 ^ 63 → Vec X
vec_of at g xs h = record { ptr = at; len = length xs; cap = length xs; alloc = g; items = xs; ok = (refl, le_self (length xs)); small = h }
  where
    le_self : (n : ℕ) → n ≤ n
    le_self n = omega arith

abbrev row_of : Ptr → Global → (ts : List Term) → length ts < 2 ^ 63 → ℤ → Row
row_of at g ts h right = record { terms = vec_of at g ts h; right = right }

abbrev plus : ℕ → Term
plus j = record { column = j; by = pos 1 }

abbrev times : ℕ → ℤ → Term
times j z = record { column = j; by = z }

abbrev weight : ℕ → ℤ → Weight
weight i z = record { row = i; by = z }

abbrev cell : ℕ → ℕ → Cell
cell j n = record { column = j; value = pos n }

-- a job worth 2 a node, with up to four of three nodes: its indicator and its count
abbrev linear : Ptr → Global → Program
linear at g =
    record {
      costs = vec_of at g (pos 0 ∷ pos 2 ∷ []) (omega arith);
      lower = vec_of at g (pos 0 ∷ pos 0 ∷ []) (omega arith);
      upper = vec_of at g (pos 1 ∷ pos 3 ∷ []) (omega arith);
      rows = vec_of at g (row_of at g (times 0 (negsuc 3) ∷ plus 1 ∷ []) (omega arith) (pos 0) ∷ row_of at g (plus 1 ∷ []) (omega arith) (pos 3) ∷ []) (omega arith);
    }

bound_of_linear : (at : Ptr) (g : Global) → tree_bound (linear at g) (Split 0 (pos 0) licences.Long ∷ Whole (pos 1) [] (pos 6) (cell 0 1 ∷ cell 1 3 ∷ []) ∷ Close (pos 1) [] ∷ []) ≡ Ok 6
unfolding tree_bound node_bound split_bound weights_bound is_whole_point
bound_of_linear at g = refl

-- two columns at 0 are a point too, but not of the high side
point_of_the_other_side : (at : Ptr) (g : Global) → tree_bound (linear at g) (Split 0 (pos 0) licences.Long ∷ Whole (pos 1) [] (pos 0) [] ∷ Close (pos 1) [] ∷ []) ≡ Err (Bad 1 why.Point)
unfolding tree_bound node_bound split_bound weights_bound is_whole_point
point_of_the_other_side at g = refl

-- a job that wants two tagged nodes, or any two for longer: three indicators and three counts
abbrev usual : Ptr → Global → Program
usual at g =
    record {
      costs = vec_of at g (pos 0 ∷ pos 4 ∷ pos 3 ∷ pos 0 ∷ pos 0 ∷ pos 0 ∷ []) (omega arith);
      lower = vec_of at g (pos 0 ∷ pos 0 ∷ pos 0 ∷ pos 0 ∷ pos 0 ∷ pos 0 ∷ []) (omega arith);
      upper = vec_of at g (pos 1 ∷ pos 1 ∷ pos 1 ∷ pos 2 ∷ pos 2 ∷ pos 2 ∷ []) (omega arith);
      rows = vec_of at g
          (row_of at g (times 0 (negsuc 0) ∷ plus 1 ∷ plus 2 ∷ []) (omega arith) (pos 0)
          ∷ row_of at g (times 1 (negsuc 1) ∷ plus 3 ∷ []) (omega arith) (pos 0)
          ∷ row_of at g (times 1 (pos 2) ∷ times 3 (negsuc 0) ∷ []) (omega arith) (pos 0)
          ∷ row_of at g (times 2 (negsuc 1) ∷ plus 4 ∷ plus 5 ∷ []) (omega arith) (pos 0)
          ∷ row_of at g (times 2 (pos 2) ∷ times 4 (negsuc 0) ∷ times 5 (negsuc 0) ∷ []) (omega arith) (pos 0)
          ∷ row_of at g (plus 3 ∷ plus 4 ∷ []) (omega arith) (pos 2)
          ∷ row_of at g (plus 3 ∷ plus 4 ∷ []) (omega arith) (pos 2)
          ∷ row_of at g (plus 4 ∷ []) (omega arith) (pos 2)
          ∷ row_of at g (plus 5 ∷ []) (omega arith) (pos 2)
          ∷ row_of at g (plus 5 ∷ []) (omega arith) (pos 2)
          ∷ row_of at g (plus 5 ∷ []) (omega arith) (pos 2)
          ∷ [])
          (omega arith);
    }

bound_of_usual : (at : Ptr) (g : Global) → tree_bound (usual at g) (Whole (pos 1) (weight 0 (pos 3) ∷ []) (pos 4) (cell 0 1 ∷ cell 1 1 ∷ cell 3 2 ∷ []) ∷ []) ≡ Ok 4
unfolding tree_bound node_bound split_bound weights_bound is_whole_point
bound_of_usual at g = refl

closed_usual : (at : Ptr) (g : Global) → tree_bound (usual at g) (Close (pos 1) (weight 0 (pos 3) ∷ []) ∷ []) ≡ Ok 4
unfolding tree_bound node_bound split_bound weights_bound is_whole_point
closed_usual at g = refl

-- a weight below 0 is refused
forged_usual : (at : Ptr) (g : Global) → tree_bound (usual at g) (Close (pos 1) (weight 0 (negsuc 2) ∷ []) ∷ []) ≡ Err (Bad 0 why.Negative)
unfolding tree_bound node_bound split_bound weights_bound is_whole_point
forged_usual at g = refl

-- three jobs, each worth 2 on two of three nodes: for each an indicator and a count
abbrev three_jobs : Ptr → Global → Program
three_jobs at g =
    record {
      costs = vec_of at g (pos 2 ∷ pos 0 ∷ pos 2 ∷ pos 0 ∷ pos 2 ∷ pos 0 ∷ []) (omega arith);
      lower = vec_of at g (pos 0 ∷ pos 0 ∷ pos 0 ∷ pos 0 ∷ pos 0 ∷ pos 0 ∷ []) (omega arith);
      upper = vec_of at g (pos 1 ∷ pos 2 ∷ pos 1 ∷ pos 2 ∷ pos 1 ∷ pos 2 ∷ []) (omega arith);
      rows = vec_of at g
          (row_of at g (times 0 (negsuc 1) ∷ plus 1 ∷ []) (omega arith) (pos 0)
          ∷ row_of at g (times 0 (pos 2) ∷ times 1 (negsuc 0) ∷ []) (omega arith) (pos 0)
          ∷ row_of at g (times 2 (negsuc 1) ∷ plus 3 ∷ []) (omega arith) (pos 0)
          ∷ row_of at g (times 2 (pos 2) ∷ times 3 (negsuc 0) ∷ []) (omega arith) (pos 0)
          ∷ row_of at g (times 4 (negsuc 1) ∷ plus 5 ∷ []) (omega arith) (pos 0)
          ∷ row_of at g (times 4 (pos 2) ∷ times 5 (negsuc 0) ∷ []) (omega arith) (pos 0)
          ∷ row_of at g (plus 1 ∷ plus 3 ∷ plus 5 ∷ []) (omega arith) (pos 3)
          ∷ [])
          (omega arith);
    }

abbrev once_each : List Weight
once_each = weight 1 (pos 1) ∷ weight 3 (pos 1) ∷ weight 5 (pos 1) ∷ weight 6 (pos 1) ∷ []

bound_of_three_jobs : (at : Ptr) (g : Global) → tree_bound (three_jobs at g) (Split 2 (pos 0) licences.Long ∷ Rest (pos 1) once_each ∷ Rest (pos 1) once_each ∷ []) ≡ Ok 3
unfolding tree_bound node_bound split_bound weights_bound is_whole_point
bound_of_three_jobs at g = refl

-- one mark too few, and one too many
too_few : (at : Ptr) (g : Global) → tree_bound (three_jobs at g) (Split 2 (pos 0) licences.Long ∷ Rest (pos 1) once_each ∷ []) ≡ Err (Bad 0 why.Shape)
unfolding tree_bound node_bound split_bound weights_bound is_whole_point
too_few at g = refl

too_many : (at : Ptr) (g : Global) → tree_bound (three_jobs at g) (Rest (pos 1) once_each ∷ Rest (pos 1) once_each ∷ []) ≡ Err (Bad 0 why.Shape)
unfolding tree_bound node_bound split_bound weights_bound is_whole_point
too_many at g = refl
