-- What one node of a tree bounds over its region, and its first fault.
use Rattle.std.specs.Prelude.{ℕ, ◌-◌, ◌^◌, ◌<◌, ◌<ℤ◌, ◌≤ℤ◌, List, ◌∷◌, length, if◌then◌else◌, Bool, true, false, nat_lt, min, Result, Ok, Err, ◌+ℤ◌, pos, negsuc, not, slice_set}
use Rattle.std.specs.List.{list_any}
use Rattle.std.specs.Int.{int_div_euclid}
use lib.IntN.{ℤ}
use lib.Signed.{lt_z}
use Rattle.tetri_ip.specs.declared.programs.Program.{Program}
use Rattle.tetri_ip.specs.declared.programs.Weight.{Weight}
use Rattle.tetri_ip.specs.declared.programs.WeighFault.{WeighFault}
use Rattle.tetri_ip.specs.declared.programs.WeighFault.TheVariants as weighing
use Rattle.tetri_ip.specs.Forming.{weigh_answer}
use Rattle.tetri_ip.specs.Points.{Bounds, number_at}
use Rattle.tetri_cert.specs.declared.faults.TreeWhy.TheVariants as why
use Rattle.tetri_cert.specs.declared.faults.TreeFault.{TreeFault}
use Rattle.tetri_cert.specs.declared.faults.TreeFault.TheVariants.{Bad, Past}
use Rattle.tetri_cert.specs.Cells.{is_whole_point}
use Rattle.tetri_cert.specs.declared.marks.Mark.{Mark}
use Rattle.tetri_cert.specs.declared.marks.Mark.TheVariants.{Split, Close, Whole, Rest}
use Rattle.tetri_base.specs.ResultSteps.{◌>>=◌}

-- the fault where the test is true, else the answer
abbrev pub refuse : Bool → TreeFault → Result ℕ TreeFault → Result ℕ TreeFault
refuse true e answer = Err e
refuse false e answer = answer

abbrev pub is_unknown_row : ℕ → Weight → Bool
is_unknown_row rows w = not (nat_lt w.row rows)

abbrev pub is_negative : ℤ → Bool
is_negative z = lt_z z (pos 0)

-- the number, but 0 where it is less, and 2^64 - 1 where it is more
abbrev pub capped : ℤ → ℕ
capped (pos n) = min n (2 ^ 64 - 1)
capped (negsuc n) = 0

-- the floor of the quotient; for q 0 the weighed number is below 0, and the region has no point
abbrev pub quotient_at : ℕ → ℤ → ℤ → Result ℕ TreeFault
quotient_at node q w = if lt_z (pos 0) q then Ok (capped (int_div_euclid w q)) else refuse (not (is_negative w)) (Bad node why.Denominator) (Ok 0)

abbrev pub where_weighed : ℕ → ℤ → Result ℤ WeighFault → Result ℕ TreeFault
where_weighed node q (Ok w) = quotient_at node q w
where_weighed node q (Err (weighing.Past column)) = Err (Past node column)
where_weighed node q (Err (weighing.Negative row)) = Err (Bad node why.Negative)

-- what weights over q bound
unfoldable pub weights_bound : Program → Bounds → ℕ → ℤ → List Weight → Result ℕ TreeFault
weights_bound p b node q ws =
    refuse (list_any (is_unknown_row (length p.rows.items)) ws) (Bad node why.Row)
    (refuse (list_any (λ w. is_negative w.by) ws) (Bad node why.Negative)
    (refuse (is_negative q) (Bad node why.Denominator)
    (where_weighed node q (weigh_answer p b q ws))))

-- an answer, unless the multiplier is below 0
abbrev pub multiplied : ℕ → ℤ → Result ℕ TreeFault → Result ℕ TreeFault
multiplied node q answer = refuse (is_negative q) (Bad node why.Denominator) answer

-- the same, once the rows are known to be the program's, by what weighing answers: it tells a weight below 0 before all else
abbrev pub bound_by : ℕ → ℤ → Result ℤ WeighFault → Result ℕ TreeFault
bound_by node q (Ok w) = multiplied node q (quotient_at node q w)
bound_by node q (Err (weighing.Past column)) = multiplied node q (Err (Past node column))
bound_by node q (Err (weighing.Negative row)) = Err (Bad node why.Negative)

-- a split bounds nothing by itself; it has a column of the program, and whole numbers on both sides
unfoldable pub split_bound : Program → Bounds → ℕ → ℕ → ℤ → Result ℕ TreeFault
split_bound p b node j at =
    refuse (not (nat_lt j (length p.costs.items))) (Bad node why.Column)
    (refuse (lt_z at (number_at b.lower j)) (Bad node why.At)
    (refuse (not (lt_z at (number_at b.upper j))) (Bad node why.At) (Ok 0)))

unfoldable pub node_bound : Program → Bounds → ℕ → Mark → Result ℕ TreeFault
node_bound p b node (Split j at licence) = split_bound p b node j at
node_bound p b node (Close q ws) = weights_bound p b node q ws
node_bound p b node (Whole q ws worth point) = weights_bound p b node q ws >>= λ n. refuse (not (is_whole_point p b worth point)) (Bad node why.Point) (Ok n)
node_bound p b node (Rest q ws) = weights_bound p b node q ws

-- where a split can be made: whole numbers of the column on both sides
abbrev pub HasSides : Bounds → Mark → Type 0
HasSides b (Split j at licence) = (j < length b.lower) × (number_at b.lower j ≤ℤ at) × (at <ℤ number_at b.upper j)
HasSides b (Close q ws) = Unit {0}
HasSides b (Whole q ws worth point) = Unit {0}
HasSides b (Rest q ws) = Unit {0}

-- the two sides of a split
abbrev pub high_side : Bounds → ℕ → ℤ → Bounds
high_side b j at = record { lower = slice_set b.lower j (at +ℤ pos 1); upper = b.upper }

abbrev pub low_side : Bounds → ℕ → ℤ → Bounds
low_side b j at = record { lower = b.lower; upper = slice_set b.upper j at }

-- the regions below a node, the high side first, before other regions
abbrev pub sides_before : Bounds → Mark → List Bounds → List Bounds
sides_before b (Split j at licence) others = high_side b j at ∷ low_side b j at ∷ others
sides_before b (Close q ws) others = others
sides_before b (Whole q ws worth point) others = others
sides_before b (Rest q ws) others = others
