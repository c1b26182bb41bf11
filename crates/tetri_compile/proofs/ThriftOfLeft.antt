-- What is left of an expression in a range of slots is thrifty where the whole is.
use Rattle.std.proofs.Common.{◌≡◌, ℕ, Bool, true, false, cond, List, ◌∷◌, Option, Some, None, inl, inr, sym, ◌∙◌}
use Rattle.tetri_strl.specs.declared.expr.Leaf.{Leaf}
use Rattle.tetri_strl.specs.Aligned.{EachLeaf, EachLeafOf}
use Rattle.tetri_strl.specs.Prune.{starts_in, kept, pruned, pruned_of, worth_kept}
use Rattle.tetri_strl.specs.Thrifty.{IsBare, AtMostOne, MeetsOne, IsThrifty, AreThrifty}
use Rattle.tetri_strl.specs.Tree.{Operator, greatest, least, added, Tree, one, join, scale, barrier, Trees, none, more, row, numbers, numbers_of}
use Rattle.tetri_strl.specs.Worth.{worth_by}
use Rattle.tetri_strl.proofs.ExprLaws.{IsNothing, pruned_worth, right_bare}
use Rattle.tetri_space.proofs.InstanceLaws.{OfLeft, of_join, of_scale, of_bar, AreIn, left_numbers, left_numbers_of}

of_worth : (value : Leaf → ℕ) (w : ℕ) (o : Option Tree) → worth_kept value o ≡ w → OfLeft (λ u. worth_by value u ≡ w) o
of_worth value w None e = tt
of_worth value w (Some u) e = e

of_three : (P Q R S : Tree → Type 0) (o : Option Tree) → ((u : Tree) → P u → Q u → R u → S u) → OfLeft P o → OfLeft Q o → OfLeft R o → OfLeft S o
of_three P Q R S None f p q r = tt
of_three P Q R S (Some u) f p q r = f u p q r

module _ (value : Leaf → ℕ) (held : List ℕ) (from to : ℕ) where
  -- what thrift asks of the parts of a tree
  abbrev Inner : Tree → Type 0
  Inner (one l) = Unit {0}
  Inner (join op ts) = MeetsOne value held op ts × AreThrifty value held ts
  Inner (scale t s) = IsThrifty value held t
  Inner (barrier t v) = IsThrifty value held t

  whole : (u : Tree) → (worth_by value u ≡ 0 → IsBare value held (numbers u)) → Inner u → IsThrifty value held u
  whole (one l) bare inner = bare
  whole (join op ts) bare inner = (bare, inner.0, inner.1)
  whole (scale t s) bare inner = (bare, inner)
  whole (barrier t v) bare inner = (bare, inner)

  -- a tree is bare where it is worth nothing
  bare_at : (t : Tree) → IsThrifty value held t → worth_by value t ≡ 0 → IsBare value held (numbers t)
  bare_at (one l) h = h
  bare_at (join op ts) h = h.0
  bare_at (scale t s) h = h.0
  bare_at (barrier t v) h = h.0

  most_of_bare : (ts : Trees) → IsBare value held (numbers_of ts) → AtMostOne value held ts
  most_of_bare none bare = tt
  most_of_bare (more t ts) bare = inr (right_bare value held (numbers t) (numbers_of ts) bare)

  left_most : (ts : Trees) → AtMostOne value held ts → AtMostOne value held (row (kept (pruned_of from to ts)))
  left_most none h = tt
  left_most (more t ts) (inl p) = by_left (pruned from to t) (left_numbers from to t) (left_most ts p.1)
    where
      by_left : (o : Option Tree) → OfLeft (λ u. AreIn from to (numbers t) (numbers u)) o → AtMostOne value held (row (kept (pruned_of from to ts))) →
          AtMostOne value held (row (kept (o ∷ pruned_of from to ts)))
      by_left None h rest = rest
      by_left (Some u) h rest = inl (λ n at. p.0 n (h n at), rest)
  left_most (more t ts) (inr p) = by_left (pruned from to t)
    where
      bare : IsBare value held (numbers_of (row (kept (pruned_of from to ts))))
      bare n at = p n (left_numbers_of from to ts n at)

      by_left : (o : Option Tree) → AtMostOne value held (row (kept (o ∷ pruned_of from to ts)))
      by_left None = most_of_bare (row (kept (pruned_of from to ts))) bare
      by_left (Some u) = inr bare

  left_meets : (op : Operator) (ts : Trees) → MeetsOne value held op ts → MeetsOne value held op (row (kept (pruned_of from to ts)))
  left_meets greatest ts h = left_most ts h
  left_meets least ts h = tt
  left_meets added ts h = tt

  cons_thrifty : (o : Option Tree) (os : List (Option Tree)) → OfLeft (IsThrifty value held) o → AreThrifty value held (row (kept os)) → AreThrifty value held (row (kept (o ∷ os)))
  cons_thrifty None os h k = k
  cons_thrifty (Some u) os h k = (h, k)

  from_inner : (t : Tree) → EachLeaf (IsNothing value from to) t → IsThrifty value held t → OfLeft Inner (pruned from to t) →
      OfLeft (IsThrifty value held) (pruned from to t)
  from_inner t nothing h inner =
      of_three (λ u. worth_by value u ≡ worth_by value t) (λ u. AreIn from to (numbers t) (numbers u)) Inner (IsThrifty value held) (pruned from to t)
      (λ u same within parts. whole u (λ zero n at. bare_at t h (sym same ∙ zero) n (within n at)) parts)
      (of_worth value (worth_by value t) (pruned from to t) (pruned_worth value from to t nothing)) (left_numbers from to t) inner

  mutual
    left_inner : (t : Tree) → EachLeaf (IsNothing value from to) t → IsThrifty value held t → OfLeft Inner (pruned from to t)
    left_inner (one l) nothing h = by_test (starts_in from to l)
      where
        by_test : (b : Bool) → OfLeft Inner (cond b (Some (one l)) None)
        by_test true = tt
        by_test false = tt
    left_inner (join op ts) nothing h = of_join Inner op (pruned_of from to ts) (λ some. (left_meets op ts h.1, left_are_thrifty ts nothing h.2))
    left_inner (scale t s) nothing h = of_scale Inner (IsThrifty value held) s (pruned from to t) (λ u k. k) (from_inner t nothing h.1 (left_inner t nothing h.1))
    left_inner (barrier t v) nothing h = of_bar Inner (IsThrifty value held) v (pruned from to t) (λ u k. k) (from_inner t nothing h.1 (left_inner t nothing h.1))

    left_are_thrifty : (ts : Trees) → EachLeafOf (IsNothing value from to) ts → AreThrifty value held ts → AreThrifty value held (row (kept (pruned_of from to ts)))
    left_are_thrifty none nothing h = tt
    left_are_thrifty (more t ts) nothing h =
        cons_thrifty (pruned from to t) (pruned_of from to ts) (from_inner t nothing.0 h.0 (left_inner t nothing.0 h.0)) (left_are_thrifty ts nothing.1 h.1)

  -- where leaves outside the range are worth nothing
  pub left_thrifty : (t : Tree) → EachLeaf (IsNothing value from to) t → IsThrifty value held t → OfLeft (IsThrifty value held) (pruned from to t)
  left_thrifty t nothing h = from_inner t nothing h (left_inner t nothing h)
