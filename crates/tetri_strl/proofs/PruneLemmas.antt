-- What is left of an expression, and what it is worth.
use Rattle.std.proofs.Common.{true≢false, ◌≡◌, ℕ, ◌*◌, ◌<◌, ◌≤◌, min, max, Bool, true, false, cond, nat_le, List, [], ◌∷◌, map, length, Option, Some, None, is_none, refl, sym, ap, ◌∙◌, arith}
use Rattle.std.proofs.Math.Nat.{mul-zero}
use Rattle.std.proofs.lemmas.Bool.Decides.{nat_tests}
use Rattle.std.specs.List.{list_any}
use Rattle.std.proofs.lemmas.List.{length-map}
use Rattle.tetri_strl.specs.declared.expr.Expr.{Expr}
use Rattle.tetri_strl.specs.declared.expr.Leaf.{Leaf}
use Rattle.tetri_strl.specs.Aligned.{EachLeaf, EachLeafOf}
use Rattle.tetri_strl.specs.Prune.{GrantsOnlyIn, starts_in, kept, join_kept, pruned_join, pruned_scale, pruned_barrier, pruned, pruned_of, worth_kept}
use Rattle.tetri_strl.specs.Tree.{Operator, greatest, least, added, Tree, one, join, scale, barrier, Trees, none, more, row, tree, trees}
use Rattle.tetri_strl.specs.declared.grants.Grant.{Grant}
use Rattle.tetri_strl.specs.WellMade.{IsSound, AreSound}
use Rattle.tetri_strl.proofs.GrantLemmas.{leaf_worth-none}
use Rattle.tetri_strl.specs.Worth.{granted, leaf_worth, worth_of, greatest_of, least_from, least_of, added_of, joined, worth_by, worths_by}

length-pruned_of : (from to : ℕ) (es : List Expr) → length (pruned_of from to (trees es)) ≡ length es
length-pruned_of from to [] = refl
length-pruned_of from to (e ∷ es) = omega (arith, length-pruned_of from to es)

length-kept-le : (os : List (Option Tree)) → length (kept os) ≤ length os
length-kept-le [] = omega arith
length-kept-le (None ∷ os) = omega (arith, length-kept-le os)
length-kept-le (Some t ∷ os) = omega (arith, length-kept-le os)

lost-from_fewer : (os : List (Option Tree)) → length (kept os) < length os → list_any is_none os ≡ true
lost-from_fewer [] fewer = absurd (omega arith)
lost-from_fewer (None ∷ os) fewer = refl
lost-from_fewer (Some t ∷ os) fewer = lost-from_fewer os (omega arith)

whole-from_all : (os : List (Option Tree)) → length os ≤ length (kept os) → list_any is_none os ≡ false
whole-from_all [] all = refl
whole-from_all (None ∷ os) all = absurd (omega (arith, length-kept-le os))
whole-from_all (Some t ∷ os) all = whole-from_all os (omega arith)

module _ (from to : ℕ) (es left : List Expr) (made : map tree left ≡ kept (pruned_of from to (trees es))) where
  lengths : length left ≡ length (kept (pruned_of from to (trees es)))
  lengths = sym (length-map left tree) ∙ ap length made

  pub least_lost : length left < length es → pruned_join least (pruned_of from to (trees es)) ≡ None
  least_lost fewer =
      ap (λ b. cond b None (join_kept least (kept (pruned_of from to (trees es)))))
      (lost-from_fewer (pruned_of from to (trees es)) (omega (arith, lengths, length-pruned_of from to es)))

  pub least_left : length es ≤ length left → join_kept least (map tree left) ≡ pruned_join least (pruned_of from to (trees es))
  least_left all =
      ap (join_kept least) made
      ∙ sym (ap (λ b. cond b None (join_kept least (kept (pruned_of from to (trees es)))))
      (whole-from_all (pruned_of from to (trees es)) (omega (arith, lengths, length-pruned_of from to es))))

least_from_zero : (xs : List ℕ) → least_from 0 xs ≡ 0
least_from_zero [] = refl
least_from_zero (x ∷ xs) = let e : min 0 x ≡ 0 = omega arith in rw e (least_from_zero xs)

module _ (value : Leaf → ℕ) where
  least_from_lost : (m : ℕ) (os : List (Option Tree)) → list_any is_none os ≡ true → least_from m (map (worth_kept value) os) ≡ 0
  least_from_lost m [] lost = absurd (true≢false (sym lost))
  least_from_lost m (None ∷ os) lost =
      let zero_left : min m 0 ≡ 0 = omega arith in
      ap (λ n. least_from n (map (worth_kept value) os)) zero_left ∙ least_from_zero (map (worth_kept value) os)
  least_from_lost m (Some t ∷ os) lost = least_from_lost (min m (worth_by value t)) os lost

  least_of_lost : (os : List (Option Tree)) → list_any is_none os ≡ true → least_of (map (worth_kept value) os) ≡ 0
  least_of_lost [] lost = refl
  least_of_lost (None ∷ os) lost = least_from_zero (map (worth_kept value) os)
  least_of_lost (Some t ∷ os) lost = least_from_lost (worth_by value t) os lost

  whole_worths : (os : List (Option Tree)) → list_any is_none os ≡ false → worths_by value (row (kept os)) ≡ map (worth_kept value) os
  whole_worths [] whole = refl
  whole_worths (None ∷ os) whole = absurd (true≢false whole)
  whole_worths (Some t ∷ os) whole = ap (λ xs. worth_by value t ∷ xs) (whole_worths os whole)

  greatest_left : (os : List (Option Tree)) → greatest_of (worths_by value (row (kept os))) ≡ greatest_of (map (worth_kept value) os)
  greatest_left [] = refl
  greatest_left (None ∷ os) = omega (arith, greatest_left os)
  greatest_left (Some t ∷ os) = ap (max (worth_by value t)) (greatest_left os)

  added_left : (os : List (Option Tree)) → added_of (worths_by value (row (kept os))) ≡ added_of (map (worth_kept value) os)
  added_left [] = refl
  added_left (None ∷ os) = omega (arith, added_left os)
  added_left (Some t ∷ os) = omega (arith, added_left os)

  join_kept_worth : (op : Operator) (ts : List Tree) → worth_kept value (join_kept op ts) ≡ joined op (worths_by value (row ts))
  join_kept_worth greatest [] = refl
  join_kept_worth least [] = refl
  join_kept_worth added [] = refl
  join_kept_worth op (t ∷ ts) = refl

  pruned_join_worth : (op : Operator) (os : List (Option Tree)) → worth_kept value (pruned_join op os) ≡ joined op (map (worth_kept value) os)
  pruned_join_worth greatest os = join_kept_worth greatest (kept os) ∙ greatest_left os
  pruned_join_worth added os = join_kept_worth added (kept os) ∙ added_left os
  pruned_join_worth least os = by_lost (list_any is_none os) (least_of_lost os) (λ whole. ap least_of (whole_worths os whole))
    where
      by_lost : (b : Bool) → (b ≡ true → least_of (map (worth_kept value) os) ≡ 0) →
          (b ≡ false → least_of (worths_by value (row (kept os))) ≡ least_of (map (worth_kept value) os)) →
          worth_kept value (cond b None (join_kept least (kept os))) ≡ least_of (map (worth_kept value) os)
      by_lost true lost whole = sym (lost refl)
      by_lost false lost whole = join_kept_worth least (kept os) ∙ whole refl

  pruned_scale_worth : (o : Option Tree) (s : ℕ) → worth_kept value (pruned_scale o s) ≡ s * worth_kept value o
  pruned_scale_worth None s = sym (mul-zero s)
  pruned_scale_worth (Some t) s = refl

  pruned_barrier_worth : (o : Option Tree) (v : ℕ) → worth_kept value (pruned_barrier o v) ≡ cond (nat_le v (worth_kept value o)) v 0
  pruned_barrier_worth None v = grind (arith, nat_tests)
  pruned_barrier_worth (Some t) v = refl

  module _ (from to : ℕ) where
    abbrev pub IsNothing : Leaf → Type 0
    IsNothing l = starts_in from to l ≡ false → value l ≡ 0

    leaf_left : (l : Leaf) (b : Bool) → (b ≡ false → value l ≡ 0) → worth_kept value (cond b (Some (one l)) None) ≡ value l
    leaf_left l true nothing = refl
    leaf_left l false nothing = sym (nothing refl)

    mutual
      pub pruned_worth : (t : Tree) → EachLeaf IsNothing t → worth_kept value (pruned from to t) ≡ worth_by value t
      pruned_worth (one l) h = leaf_left l (starts_in from to l) h
      pruned_worth (join op ts) h = pruned_join_worth op (pruned_of from to ts) ∙ ap (joined op) (pruned_worths ts h)
      pruned_worth (scale t s) h = pruned_scale_worth (pruned from to t) s ∙ ap (λ n. s * n) (pruned_worth t h)
      pruned_worth (barrier t v) h = pruned_barrier_worth (pruned from to t) v ∙ ap (λ n. cond (nat_le v n) v 0) (pruned_worth t h)

      pruned_worths : (ts : Trees) → EachLeafOf IsNothing ts → map (worth_kept value) (pruned_of from to ts) ≡ worths_by value ts
      pruned_worths none h = refl
      pruned_worths (more t ts) h = cc (pruned_worth t h.0, pruned_worths ts h.1)

module _ (from to : ℕ) (a : List Grant) (job : ℕ) where
  mutual
    -- a leaf that is granted nothing is worth nothing
    pub each_nothing : (t : Tree) → IsSound t → GrantsOnlyIn from to a job t → EachLeaf (IsNothing (leaf_worth a job) from to) t
    each_nothing (one l) sound only = λ out. leaf_worth-none a job l sound.0 (only out)
    each_nothing (join op ts) sound only = each_nothing_of ts sound.1 only
    each_nothing (scale t s) sound only = each_nothing t sound.0 only
    each_nothing (barrier t v) sound only = each_nothing t sound.0 only

    each_nothing_of : (ts : Trees) → AreSound ts → EachLeafOf (λ l. starts_in from to l ≡ false → granted a job l.num ≡ 0) ts →
        EachLeafOf (IsNothing (leaf_worth a job) from to) ts
    each_nothing_of none sound only = tt
    each_nothing_of (more t ts) sound only = (each_nothing t sound.0 only.0, each_nothing_of ts sound.1 only.1)

pub pruned_keeps_worth : (from to : ℕ) (a : List Grant) (job : ℕ) (t : Tree) → IsSound t → GrantsOnlyIn from to a job t →
    worth_kept (leaf_worth a job) (pruned from to t) ≡ worth_of a job t
pruned_keeps_worth from to a job t sound only =
    pruned_worth (leaf_worth a job) from to t (each_nothing from to a job t sound only)
