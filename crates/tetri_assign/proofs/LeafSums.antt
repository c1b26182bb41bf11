-- The counts of one leaf, among all counts.
use Rattle.std.proofs.Common.{◌≡◌, ℕ, ◌+◌, ◌≤◌, ◌==◌, cond, List, [], ◌∷◌, ◌++◌, length, Contains, refl, ap, ◌∙◌, subst, arith}
use Rattle.std.proofs.Math.Nat.{mul-le-mul_left}
use Rattle.std.proofs.lemmas.List.Elements.{Contains-append_left, Contains-append_right}
use Rattle.tetri_strl.specs.declared.expr.Leaf.{Leaf}
use Rattle.tetri_strl.specs.Tree.{greatest, least, added, Tree, one, join, scale, barrier, Trees, none, more, leaves, leaves_of, numbers, numbers_of}
use Rattle.tetri_strl.proofs.ExprLaws.{AreApart, AreApartOf}
use Rattle.tetri_base.specs.Lists.{sum_of, Each}
use Rattle.tetri_base.proofs.ListLaws.{test_from_eq, test_from_ne, sum_of-eq, sum_of-zero, sum_of-append, Each-map}
use Rattle.tetri_compile.specs.declared.outline.Tally.{Tally}
use Rattle.tetri_compile.specs.Draft.{leaf_tallies, tallies, tallies_of}
use Rattle.tetri_compile.specs.Forms.{share, at_point, run, limit, AreMet, Within}
use Rattle.tetri_compile.specs.Walk.{ones, own_uppers, uppers, uppers_of, width, form, rows, rows_of, rows_under}
use Rattle.tetri_compile.proofs.ProgramLaws.{AreMet-split, IsOf, Within-split, number_of, number_of_all, tallies_leaf, tallies_leaf_of}
use Rattle.tetri_assign.proofs.Counted.{AtLeaves, AtLeavesOf}

module _ (inside : ℕ → List ℕ) (usable : ℕ → Leaf → ℕ) where
  module _ (P Q : Leaf → ℕ → Type 0) where
    mutual
      pub AtLeaves-map : (t : Tree) (n : ℕ) → ((l : Leaf) (m : ℕ) → Contains (leaves t) l → P l m → Q l m) → AtLeaves inside usable P t n → AtLeaves inside usable Q t n
      AtLeaves-map (one l) n f h = f l n (0, omega arith, refl) h
      AtLeaves-map (join op ts) n f h = AtLeavesOf-map ts (n + length (own_uppers inside usable op ts)) f h
      AtLeaves-map (scale t s) n f h = AtLeaves-map t n f h
      AtLeaves-map (barrier t v) n f h = AtLeaves-map t n f h

      AtLeavesOf-map : (ts : Trees) (n : ℕ) → ((l : Leaf) (m : ℕ) → Contains (leaves_of ts) l → P l m → Q l m) → AtLeavesOf inside usable P ts n → AtLeavesOf inside usable Q ts n
      AtLeavesOf-map none n f h = tt
      AtLeavesOf-map (more t ts) n f h = (
        AtLeaves-map t n (λ l m at. f l m (Contains-append_left (leaves t) (leaves_of ts) l at)) h.0,
        AtLeavesOf-map ts (n + width inside usable t) (λ l m at. f l m (Contains-append_right (leaves t) (leaves_of ts) l at)) h.1,
      )

  module _ (x : ℕ → ℕ) where
    -- the counts of the leaf of this number
    abbrev pub number_sum : ℕ → List Tally → ℕ
    number_sum num cs = sum_of (λ d. cond (d.leaf.num == num) (x d.column) 0) cs

    abbrev IsSum : List Tally → Leaf → ℕ → Type 0
    IsSum cs l m = number_sum l.num cs ≡ at_point x (run 1 m (inside l.set))

    leaf_sum : (job : ℕ) (l : Leaf) (ps : List ℕ) (n : ℕ) → number_sum l.num (leaf_tallies job l ps n) ≡ at_point x (run 1 n ps)
    leaf_sum job l [] n = refl
    leaf_sum job l (p ∷ ps) n =
        let here : cond (l.num == l.num) (x n) 0 ≡ x n = ap (λ b. cond b (x n) 0) (test_from_eq l.num l.num refl) in
        omega (arith, here, leaf_sum job l ps (n + 1))

    no_sum : (num : ℕ) (cs : List Tally) → Each (λ d. d.leaf.num ≡ num → ⊥) cs → number_sum num cs ≡ 0
    no_sum num cs h =
        sum_of-eq (λ d. cond (d.leaf.num == num) (x d.column) 0) (λ d. 0) cs
        (Each-map (λ d. d.leaf.num ≡ num → ⊥) (λ d. cond (d.leaf.num == num) (x d.column) 0 ≡ 0) (λ d ne. ap (λ b. cond b (x d.column) 0) (test_from_ne d.leaf.num num ne)) cs h)
        ∙ sum_of-zero cs

    mutual
      pub tree_sum : (job : ℕ) (t : Tree) (n : ℕ) → AreApart t → AtLeaves inside usable (IsSum (tallies inside usable job t n)) t n
      tree_sum job (one l) n apart = leaf_sum job l (inside l.set) n
      tree_sum job (join op ts) n apart = trees_sum job ts (n + length (own_uppers inside usable op ts)) apart
      tree_sum job (scale t s) n apart = tree_sum job t n apart
      tree_sum job (barrier t v) n apart = tree_sum job t n apart

      trees_sum : (job : ℕ) (ts : Trees) (n : ℕ) → AreApartOf ts → AtLeavesOf inside usable (IsSum (tallies_of inside usable job ts n)) ts n
      trees_sum job none n apart = tt
      trees_sum job (more t ts) n apart =
          let here = tallies inside usable job t n in
          let rest = tallies_of inside usable job ts (n + width inside usable t) in (
            AtLeaves-map (IsSum here) (IsSum (here ++ rest)) t n
                (λ l m at e. omega (
                  arith,
                  sum_of-append (λ d. cond (d.leaf.num == l.num) (x d.column) 0) here rest,
                  e,
                  no_sum l.num rest (Each-map (IsOf inside usable job (leaves_of ts)) (λ d. d.leaf.num ≡ l.num → ⊥)
                      (λ d o same. apart.2 l.num (number_of t l at) (subst (Contains (numbers_of ts)) same (number_of_all ts d.leaf o.leaf))) rest (tallies_leaf_of inside usable job ts (n + width inside usable t))),
                ))
                (tree_sum job t n apart.0),
            AtLeavesOf-map (IsSum rest) (IsSum (here ++ rest)) ts (n + width inside usable t)
                (λ l m at e. omega (
                  arith,
                  sum_of-append (λ d. cond (d.leaf.num == l.num) (x d.column) 0) here rest,
                  e,
                  no_sum l.num here (Each-map (IsOf inside usable job (leaves t)) (λ d. d.leaf.num ≡ l.num → ⊥)
                      (λ d o same. apart.2 l.num (subst (Contains (numbers t)) same (number_of t d.leaf o.leaf)) (number_of_all ts l at)) here (tallies_leaf inside usable job t n)),
                ))
                (trees_sum job ts (n + width inside usable t) apart.1),
          )

    -- no leaf has more than it wants
    abbrev pub IsFew : Leaf → ℕ → Type 0
    IsFew l m = at_point x (run 1 m (inside l.set)) ≤ l.k

    mutual
      pub few : (t : Tree) (i n : ℕ) → x i ≤ 1 → Within x n (uppers inside usable t) → AreMet x (rows inside usable t i n) → AtLeaves inside usable IsFew t n
      few (one l) i n unit box met = omega (arith, met.0, mul-le-mul_left l.k unit)
      few (join greatest ts) i n unit box met =
          let parts = Within-split x n (ones ts) (uppers_of inside usable ts) box in
          few_of ts n (n + length (ones ts)) parts.0 parts.1 met.1
      few (join least ts) i n unit box met = few_under ts i n (n + 1) unit box.1 met
      few (join added ts) i n unit box met =
          let parts = Within-split x n (ones ts) (uppers_of inside usable ts) box in
          few_of ts n (n + length (ones ts)) parts.0 parts.1 met.1
      few (scale t s) i n unit box met = few t i n unit box met
      few (barrier t v) i n unit box met = few t i n unit box (AreMet-split x (rows inside usable t i n) (limit (share i v ∷ []) (form inside usable t i n) ∷ []) met).0

      few_of : (ts : Trees) (j n : ℕ) → Within x j (ones ts) → Within x n (uppers_of inside usable ts) → AreMet x (rows_of inside usable ts j n) → AtLeavesOf inside usable IsFew ts n
      few_of none j n marks box met = tt
      few_of (more t ts) j n marks box met =
          let boxes = Within-split x n (uppers inside usable t) (uppers_of inside usable ts) box in
          let parts = AreMet-split x (rows inside usable t j n) (rows_of inside usable ts (j + 1) (n + width inside usable t)) met in
          (few t j n marks.0 boxes.0 parts.0, few_of ts (j + 1) (n + width inside usable t) marks.1 boxes.1 parts.1)

      few_under : (ts : Trees) (i c n : ℕ) → x i ≤ 1 → Within x n (uppers_of inside usable ts) → AreMet x (rows_under inside usable ts i c n) → AtLeavesOf inside usable IsFew ts n
      few_under none i c n unit box met = tt
      few_under (more t ts) i c n unit box met =
          let boxes = Within-split x n (uppers inside usable t) (uppers_of inside usable ts) box in
          let parts = AreMet-split x (rows inside usable t i n) (limit (share c 1 ∷ []) (form inside usable t i n) ∷ rows_under inside usable ts i c (n + width inside usable t)) met in
          (few t i n unit boxes.0 parts.0, few_under ts i c (n + width inside usable t) unit boxes.1 parts.1.1)
