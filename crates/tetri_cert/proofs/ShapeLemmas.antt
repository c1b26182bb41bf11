-- The fault of shape stands exactly where the nodes are no tree in preorder.
use Rattle.std.proofs.Common.{◌≡◌, ℕ, ◌+◌, max, refl, sym, ap, ◌∙◌, ◌⊎◌, inl, inr, ⊎_elim, arith, List, [], ◌∷◌, ◌++◌, append_assoc, length, cond, Bool, true, false, Result, Ok, Err}
use Prim.Native.Nat.{zero, suc}
use Rattle.std.specs.Prelude.{not, nat_lt}
use Rattle.std.specs.List.{list_any}
use Rattle.std.specs.Int.{int_div_euclid}
use Rattle.std.proofs.lemmas.Bool.{false≢true}
use lib.IntN.{ℤ, pos}
use lib.Signed.{lt_z}
use Rattle.tetri_ip.specs.declared.programs.Program.{Program}
use Rattle.tetri_ip.specs.declared.programs.Weight.{Weight}
use Rattle.tetri_ip.specs.declared.programs.WeighFault.{WeighFault}
use Rattle.tetri_ip.specs.declared.programs.WeighFault.TheVariants as weighing
use Rattle.tetri_ip.specs.Forming.{weigh_answer}
use Rattle.tetri_ip.specs.Points.{Bounds, box_of, number_at}
use Rattle.tetri_cert.specs.declared.faults.TreeFault.{TreeFault}
use Rattle.tetri_cert.specs.declared.faults.TreeFault.TheVariants.{Bad}
use Rattle.tetri_cert.specs.declared.faults.TreeWhy.TheVariants as why
use Rattle.tetri_cert.specs.Cells.{is_whole_point}
use Rattle.tetri_cert.specs.declared.marks.Mark.{Mark}
use Rattle.tetri_cert.specs.declared.marks.Mark.TheVariants.{Split, Close, Whole, Rest}
use Rattle.tetri_cert.specs.NodeBounds.{capped, is_negative, is_unknown_row, node_bound, quotient_at, refuse, sides_before, split_bound, weights_bound, where_weighed}
use Rattle.tetri_base.specs.ResultSteps.{◌>>=◌}
use Rattle.tetri_cert.specs.ProperTrees.{IsLeaf, IsShaped, ShapeIsOfTrees, Tree, ends, preorder, splits}
use Rattle.tetri_cert.specs.Trees.{fills, if_fills, places_behind, tree_bound, tree_from}
use Rattle.tetri_cert.proofs.ProperTreeLemmas.{append_nil, preorders}

-- ---- no node has the fault of shape
passed_on : (t : Bool) (e f : TreeFault) (r : Result ℕ TreeFault) → refuse t e r ≡ Err f → (e ≡ f) ⊎ (r ≡ Err f)
passed_on true e f r h = inl cc
passed_on false e f r h = inr h

bind_fault : (r : Result ℕ TreeFault) (g : ℕ → Result ℕ TreeFault) (f : TreeFault) → (r >>= g) ≡ Err f → (r ≡ Err f) ⊎ ((x : ℕ) × (g x ≡ Err f))
bind_fault (Ok x) g f h = inr (x, h)
bind_fault (Err e) g f h = inl h

quotient_never : (node : ℕ) (q w : ℤ) (k : ℕ) → quotient_at node q w ≡ Err (Bad k why.Shape) → ⊥
quotient_never node q w k h = by_sign (lt_z (pos 0) q) h
  where
    by_sign : (t : Bool) → cond t (Ok (capped (int_div_euclid w q))) (refuse (not (is_negative w)) (Bad node why.Denominator) (Ok 0)) ≡ Err (Bad k why.Shape) → ⊥
    by_sign true f = cc
    by_sign false f = ⊎_elim (λ e. cc) (λ e. cc) (passed_on (not (is_negative w)) (Bad node why.Denominator) (Bad k why.Shape) (Ok 0) f)

weighed_never : (node : ℕ) (q : ℤ) (o : Result ℤ WeighFault) (k : ℕ) → where_weighed node q o ≡ Err (Bad k why.Shape) → ⊥
weighed_never node q (Ok w) k h = quotient_never node q w k h
weighed_never node q (Err (weighing.Past j)) k h = cc
weighed_never node q (Err (weighing.Negative row)) k h = cc

weights_never : (p : Program) (b : Bounds) (node : ℕ) (q : ℤ) (ws : List Weight) (k : ℕ) → weights_bound p b node q ws ≡ Err (Bad k why.Shape) → ⊥
unfolding weights_bound
weights_never p b node q ws k h =
    ⊎_elim (λ e. cc)
    (λ r. ⊎_elim (λ e. cc)
    (λ s. ⊎_elim (λ e. cc)
    (λ t. weighed_never node q (weigh_answer p b q ws) k t)
    (passed_on (is_negative q) (Bad node why.Denominator) (Bad k why.Shape) (where_weighed node q (weigh_answer p b q ws)) s))
    (passed_on (list_any (λ w. is_negative w.by) ws) (Bad node why.Negative) (Bad k why.Shape) (refuse (is_negative q) (Bad node why.Denominator) (where_weighed node q (weigh_answer p b q ws))) r))
    (passed_on (list_any (is_unknown_row (length p.rows.items)) ws) (Bad node why.Row) (Bad k why.Shape) (refuse (list_any (λ w. is_negative w.by) ws) (Bad node why.Negative) (refuse (is_negative q) (Bad node why.Denominator) (where_weighed node q (weigh_answer p b q ws)))) h)

three_never : (t u v : Bool) (node k : ℕ) → refuse t (Bad node why.Column) (refuse u (Bad node why.At) (refuse v (Bad node why.At) (Ok 0))) ≡ Err (Bad k why.Shape) → ⊥
three_never true u v node k h = cc
three_never false true v node k h = cc
three_never false false true node k h = cc
three_never false false false node k h = cc

split_never : (p : Program) (b : Bounds) (node j : ℕ) (at : ℤ) (k : ℕ) → split_bound p b node j at ≡ Err (Bad k why.Shape) → ⊥
unfolding split_bound
split_never p b node j at k h = three_never (not (nat_lt j (length p.costs.items))) (lt_z at (number_at b.lower j)) (not (lt_z at (number_at b.upper j))) node k h

node_never : (p : Program) (b : Bounds) (node : ℕ) (m : Mark) (k : ℕ) → node_bound p b node m ≡ Err (Bad k why.Shape) → ⊥
unfolding node_bound
node_never p b node (Split j at licence) k h = split_never p b node j at k h
node_never p b node (Close q ws) k h = weights_never p b node q ws k h
node_never p b node (Whole q ws worth cells) k h =
    ⊎_elim (λ e. weights_never p b node q ws k e)
    (λ x. ⊎_elim (λ e. cc) (λ e. cc) (passed_on (not (is_whole_point p b worth cells)) (Bad node why.Point) (Bad k why.Shape) (Ok x.0) x.1))
    (bind_fault (weights_bound p b node q ws) (λ n. refuse (not (is_whole_point p b worth cells)) (Bad node why.Point) (Ok n)) (Bad k why.Shape) h)
node_never p b node (Rest q ws) k h = weights_never p b node q ws k h

tree_never : (p : Program) (ms : List Mark) (bs : List Bounds) (node most k : ℕ) → tree_from p bs node most ms ≡ Err (Bad k why.Shape) → ⊥
tree_never p [] bs node most k h = cc
tree_never p (m ∷ ms) [] node most k h = cc
tree_never p (m ∷ ms) (b ∷ bs) node most k h =
    ⊎_elim (λ e. node_never p b node m k e) (λ x. tree_never p ms (sides_before b m bs) (node + 1) (max most x.0) k x.1)
    (bind_fault (node_bound p b node m) (λ n. tree_from p (sides_before b m bs) (node + 1) (max most n) ms) (Bad k why.Shape) h)

-- ---- nodes that fill places are trees
abbrev AreShaped : List Tree → Type 0
AreShaped [] = Unit {0}
AreShaped (t ∷ ts) = IsShaped t × AreShaped ts

record Shapes (k : ℕ) (ms : List Mark) : Type 0 where
  trees : List Tree
  nodes : preorders trees ≡ ms
  shaped : AreShaped trees
  count : length trees ≡ k

leaf_more : (m : Mark) (k : ℕ) (ms : List Mark) → IsLeaf m → Shapes k ms → Shapes (suc k) (m ∷ ms)
leaf_more m k ms l f = record { trees = ends m ∷ f.trees; nodes = ap (λ ns. m ∷ ns) f.nodes; shaped = (l, f.shaped); count = ap suc f.count }

one_shape : (m : Mark) (k : ℕ) (ms : List Mark) → Shapes (places_behind m k) ms → Shapes (suc k) (m ∷ ms)
one_shape (Split j at licence) k ms f = with_sides f.trees f.nodes f.shaped f.count
  where
    with_sides : (ts : List Tree) → preorders ts ≡ ms → AreShaped ts → length ts ≡ suc (suc k) → Shapes (suc k) (Split j at licence ∷ ms)
    with_sides [] i h g = absurd (omega arith)
    with_sides (high ∷ []) i h g = absurd (omega arith)
    with_sides (high ∷ low ∷ ts) i h g = record {
      trees = splits j at licence high low ∷ ts;
      nodes = ap (λ ns. Split j at licence ∷ ns) (append_assoc (preorder high) (preorder low) (preorders ts) ∙ i);
      shaped = ((h.0, h.1.0), h.1.1);
      count = omega arith;
    }
one_shape (Close q ws) k ms f = leaf_more (Close q ws) k ms tt f
one_shape (Whole q ws worth cells) k ms f = leaf_more (Whole q ws worth cells) k ms tt f
one_shape (Rest q ws) k ms f = leaf_more (Rest q ws) k ms tt f

shapes_of : (ms : List Mark) (k : ℕ) → fills k ms ≡ true → Shapes k ms
shapes_of [] zero h = record { trees = []; nodes = refl; shaped = tt; count = refl }
shapes_of [] (suc k) h = absurd (false≢true h)
shapes_of (m ∷ ms) zero h = absurd (false≢true h)
shapes_of (m ∷ ms) (suc k) h = one_shape m k ms (shapes_of ms (places_behind m k) h)

single_shape : (ms : List Mark) (ts : List Tree) → preorders ts ≡ ms → AreShaped ts → length ts ≡ 1 → (tree : Tree) × (preorder tree ≡ ms) × IsShaped tree
single_shape ms [] i h g = absurd (omega arith)
single_shape ms (t ∷ []) i h g = (t, sym (append_nil (preorder t)) ∙ i, h.0)
single_shape ms (t ∷ u ∷ ts) i h g = absurd (omega arith)

fills_leaf : (m : Mark) (k : ℕ) (ms : List Mark) → IsLeaf m → fills (suc k) (m ∷ ms) ≡ fills k ms
fills_leaf (Split j at licence) k ms h = absurd h
fills_leaf (Close q ws) k ms h = refl
fills_leaf (Whole q ws worth cells) k ms h = refl
fills_leaf (Rest q ws) k ms h = refl

fills_shaped : (tree : Tree) (k : ℕ) (ms : List Mark) → IsShaped tree → fills (suc k) (preorder tree ++ ms) ≡ fills k ms
fills_shaped (ends m) k ms h = fills_leaf m k ms h
fills_shaped (splits j at licence high low) k ms h =
    ap (λ ns. fills (suc (suc k)) ns) (append_assoc (preorder high) (preorder low) ms)
    ∙ fills_shaped high (suc k) (preorder low ++ ms) h.0
    ∙ fills_shaped low k ms h.1

-- ---- both
pub shape_is_of_trees : ShapeIsOfTrees
unfolding tree_bound
shape_is_of_trees p ms = (there, back)
  where
    there : if_fills (fills 1 ms) (tree_from p (box_of p ∷ []) 0 0 ms) ≡ Err (Bad 0 why.Shape) → ((tree : Tree) × (preorder tree ≡ ms) × IsShaped tree) → ⊥
    there h t =
        let e : fills 1 ms ≡ true = sym (ap (fills 1) (append_nil (preorder t.0) ∙ t.1)) ∙ fills_shaped t.0 0 [] t.2 in
        tree_never p ms (box_of p ∷ []) 0 0 0 (sym (ap (λ b. if_fills b (tree_from p (box_of p ∷ []) 0 0 ms)) e) ∙ h)

    back : (((tree : Tree) × (preorder tree ≡ ms) × IsShaped tree) → ⊥) → if_fills (fills 1 ms) (tree_from p (box_of p ∷ []) 0 0 ms) ≡ Err (Bad 0 why.Shape)
    back h = by_test (fills 1 ms) refl
      where
        by_test : (b : Bool) → fills 1 ms ≡ b → if_fills b (tree_from p (box_of p ∷ []) 0 0 ms) ≡ Err (Bad 0 why.Shape)
        by_test true e = let f = shapes_of ms 1 e in absurd (h (single_shape ms f.trees f.nodes f.shaped f.count))
        by_test false e = refl
