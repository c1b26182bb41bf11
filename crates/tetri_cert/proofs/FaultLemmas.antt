-- Where the first fault of a tree stands.
use Rattle.std.proofs.Common.{◌≡◌, ℕ, ◌+◌, ◌<◌, ◌⊎◌, Bool, true, false, not, List, [], ◌∷◌, length, max, refl, subst, arith, Result, Ok, Err, if◌then◌else◌, inl, inr, nat_lt}
use Rattle.std.specs.List.{list_any}
use Rattle.std.specs.Int.{int_div_euclid}
use lib.Signed.{lt_z}
use lib.IntN.{ℤ, pos}
use Rattle.tetri_ip.specs.declared.programs.Program.{Program}
use Rattle.tetri_ip.specs.declared.programs.WeighFault.{WeighFault}
use Rattle.tetri_ip.specs.declared.programs.WeighFault.TheVariants as weighing
use Rattle.tetri_ip.specs.declared.programs.Weight.{Weight}
use Rattle.tetri_ip.specs.Forming.{weigh_answer}
use Rattle.tetri_ip.specs.Points.{Bounds, box_of, number_at}
use Rattle.tetri_cert.specs.Cells.{is_whole_point}
use Rattle.tetri_cert.specs.declared.faults.TreeFault.{TreeFault}
use Rattle.tetri_cert.specs.declared.faults.TreeFault.TheVariants.{Bad, Past, NoMemory}
use Rattle.tetri_cert.specs.declared.faults.TreeWhy.{TreeWhy}
use Rattle.tetri_cert.specs.declared.faults.TreeWhy.TheVariants as why
use Rattle.tetri_cert.specs.declared.marks.Mark.{Mark}
use Rattle.tetri_cert.specs.declared.marks.Mark.TheVariants.{Split, Close, Whole, Rest}
use Rattle.tetri_cert.specs.NodeBounds.{capped, is_negative, is_unknown_row, node_bound, quotient_at, refuse, sides_before, split_bound, weights_bound, where_weighed}
use Rattle.tetri_base.specs.ResultSteps.{◌>>=◌}
use Rattle.tetri_cert.specs.SamePrograms.{FaultsNameNodes}
use Rattle.tetri_cert.specs.Trees.{fills, if_fills, tree_bound, tree_from}

-- the node that a fault names is this one, if it is no want of memory
abbrev Names : ℕ → Result ℕ TreeFault → Type 0
Names node (Ok n) = Unit {0}
Names node (Err (Bad k w)) = k ≡ node
Names node (Err (Past k j)) = k ≡ node
Names node (Err NoMemory) = Unit {0}

refused_names : (node : ℕ) (t : Bool) (f : TreeFault) (answer : Result ℕ TreeFault) → Names node (Err f) → Names node answer → Names node (refuse t f answer)
refused_names node true f answer h rest = h
refused_names node false f answer h rest = rest

-- three tests in a row
refused_in_turn : (node : ℕ) (t u v : Bool) (w x y : TreeWhy) (answer : Result ℕ TreeFault) → Names node answer →
    Names node (refuse t (Bad node w) (refuse u (Bad node x) (refuse v (Bad node y) answer)))
refused_in_turn node true u v w x y answer h = refl
refused_in_turn node false true v w x y answer h = refl
refused_in_turn node false false v w x y answer h = refused_names node v (Bad node y) answer refl h

quotient_names : (node : ℕ) (q w : ℤ) → Names node (quotient_at node q w)
quotient_names node q w = by_test (lt_z (pos 0) q)
  where
    by_test : (t : Bool) → Names node (if t then Ok (capped (int_div_euclid w q)) else refuse (not (is_negative w)) (Bad node why.Denominator) (Ok 0))
    by_test true = tt
    by_test false = refused_names node (not (is_negative w)) (Bad node why.Denominator) (Ok 0) refl tt

weighed_names : (node : ℕ) (q : ℤ) (answer : Result ℤ WeighFault) → Names node (where_weighed node q answer)
weighed_names node q (Ok w) = quotient_names node q w
weighed_names node q (Err (weighing.Past column)) = refl
weighed_names node q (Err (weighing.Negative row)) = refl

weights_names : (p : Program) (b : Bounds) (node : ℕ) (q : ℤ) (ws : List Weight) → Names node (weights_bound p b node q ws)
unfolding weights_bound
weights_names p b node q ws =
    refused_in_turn node (list_any (is_unknown_row (length p.rows.items)) ws) (list_any (λ w. is_negative w.by) ws) (is_negative q) why.Row why.Negative why.Denominator
    (where_weighed node q (weigh_answer p b q ws)) (weighed_names node q (weigh_answer p b q ws))

then_names : (node : ℕ) (o : Result ℕ TreeFault) (f : ℕ → Result ℕ TreeFault) → Names node o → ((n : ℕ) → Names node (f n)) → Names node (o >>= f)
then_names node (Ok n) f h rest = rest n
then_names node (Err (Bad k w)) f h rest = h
then_names node (Err (Past k j)) f h rest = h
then_names node (Err NoMemory) f h rest = tt

node_names : (p : Program) (b : Bounds) (node : ℕ) (m : Mark) → Names node (node_bound p b node m)
unfolding node_bound split_bound
node_names p b node (Split j at licence) =
    refused_in_turn node (not (nat_lt j (length p.costs.items))) (lt_z at (number_at b.lower j)) (not (lt_z at (number_at b.upper j))) why.Column why.At why.At (Ok 0) tt
node_names p b node (Close q ws) = weights_names p b node q ws
node_names p b node (Whole q ws worth point) =
    then_names node (weights_bound p b node q ws) (λ n. refuse (not (is_whole_point p b worth point)) (Bad node why.Point) (Ok n)) (weights_names p b node q ws)
    (λ n. refused_names node (not (is_whole_point p b worth point)) (Bad node why.Point) (Ok n) refl tt)
node_names p b node (Rest q ws) = weights_names p b node q ws

-- the node that a fault names is below this one
abbrev NamesBelow : ℕ → Result ℕ TreeFault → Type 0
NamesBelow most (Ok n) = Unit {0}
NamesBelow most (Err (Bad k w)) = k < most
NamesBelow most (Err (Past k j)) = k < most
NamesBelow most (Err NoMemory) = Unit {0}

step_below : (node most : ℕ) (o : Result ℕ TreeFault) (f : ℕ → Result ℕ TreeFault) → node < most → Names node o → ((n : ℕ) → NamesBelow most (f n)) → NamesBelow most (o >>= f)
step_below node most (Ok n) f lt h rest = rest n
step_below node most (Err (Bad k w)) f lt h rest = omega (arith, lt, h)
step_below node most (Err (Past k j)) f lt h rest = omega (arith, lt, h)
step_below node most (Err NoMemory) f lt h rest = tt

from_below : (p : Program) (bs : List Bounds) (node best most : ℕ) (ms : List Mark) → node + length ms ≡ most → NamesBelow most (tree_from p bs node best ms)
from_below p bs node best most [] e = tt
from_below p [] node best most (m ∷ ms) e = tt
from_below p (b ∷ bs) node best most (m ∷ ms) e =
    step_below node most (node_bound p b node m) (λ n. tree_from p (sides_before b m bs) (node + 1) (max best n) ms) (omega (arith, e)) (node_names p b node m)
    (λ n. from_below p (sides_before b m bs) (node + 1) (max best n) most ms (omega (arith, e)))

pub faults_name_nodes : FaultsNameNodes
unfolding tree_bound
faults_name_nodes p ms node = (bad (fills 1 ms), past (fills 1 ms))
  where
    answer : Result ℕ TreeFault
    answer = tree_from p (box_of p ∷ []) 0 0 ms

    below : NamesBelow (length ms) answer
    below = from_below p (box_of p ∷ []) 0 0 (length ms) ms (omega arith)

    bad : (t : Bool) (w : TreeWhy) → if_fills t answer ≡ Err (Bad node w) → (node < length ms) ⊎ (node ≡ 0)
    bad true w e = inl (subst (NamesBelow (length ms)) e below)
    bad false w e = inr cc

    past : (t : Bool) (j : ℕ) → if_fills t answer ≡ Err (Past node j) → node < length ms
    past true j e = subst (NamesBelow (length ms)) e below
    past false j e = absurd cc
