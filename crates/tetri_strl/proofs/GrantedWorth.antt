-- What is worth something has a grant.
use Rattle.std.proofs.Common.{◌≡◌, ◌⊎◌, ℕ, zero, suc, ◌==◌, true, false, cond, List, [], ◌∷◌, Contains, refl, sym, ap, ◌∙◌, subst, arith, true≢false, inl, inr, nat_le}
use Rattle.std.proofs.lemmas.Bool.{cases_Bool}
use Rattle.std.proofs.lemmas.Bool.Decides.{nat_tests}
use Rattle.std.proofs.lemmas.List.Elements.{Contains-append_left, Contains-append_right}
use Rattle.tetri_strl.specs.declared.expr.Leaf.{Leaf}
use Rattle.tetri_strl.specs.declared.grants.Grant.{Grant}
use Rattle.tetri_strl.specs.Thrifty.{HasGrant, held_leaves}
use Rattle.tetri_strl.specs.Tree.{Tree, one, join, scale, barrier, Trees, none, more, numbers, numbers_of}
use Rattle.tetri_strl.specs.WellMade.{AreSound, IsGoodLeaf, IsSound}
use Rattle.tetri_strl.specs.Worth.{leaf_worth, worth_by, worth_of, worths_by}
use Rattle.tetri_strl.proofs.GrantLemmas.{AreZero, barred-zero, joined-zero, leaf_worth-none, scaled-zero}
use Rattle.tetri_strl.proofs.TrimThrift.{ungranted}

-- leaves that nothing is held of are worth nothing together
module _ (value : Leaf → ℕ) (held : List ℕ) (zero_at : (l : Leaf) → IsGoodLeaf l → (Contains held l.num → ⊥) → value l ≡ 0) where
  mutual
    zero_of_bare : (t : Tree) → IsSound t → ((n : ℕ) → Contains (numbers t) n → Contains held n → ⊥) → worth_by value t ≡ 0
    zero_of_bare (one l) h bare = zero_at l h.0 (bare l.num (0, omega arith, refl))
    zero_of_bare (join op ts) h bare = joined-zero op (worths_by value ts) (zeros_of_bare ts h.1 bare)
    zero_of_bare (scale t s) h bare = scaled-zero s (worth_by value t) (zero_of_bare t h.0 bare)
    zero_of_bare (barrier t v) h bare = ap (λ n. cond (nat_le v n) v 0) (zero_of_bare t h.0 bare) ∙ barred-zero v

    zeros_of_bare : (ts : Trees) → AreSound ts → ((n : ℕ) → Contains (numbers_of ts) n → Contains held n → ⊥) → AreZero (worths_by value ts)
    zeros_of_bare none h bare = tt
    zeros_of_bare (more t ts) h bare = (
      zero_of_bare t h.0 (λ n at. bare n (Contains-append_left (numbers t) (numbers_of ts) n at)),
      zeros_of_bare ts h.1 (λ n at. bare n (Contains-append_right (numbers t) (numbers_of ts) n at)),
    )

eq_from_test : (m n : ℕ) → (m == n) ≡ true → m ≡ n
eq_from_test m n e = grind (arith, nat_tests)

test_from_eq : (m n : ℕ) → m ≡ n → (m == n) ≡ true
test_from_eq m n e = grind (arith, nat_tests)

-- whether a number is in a list
held_or_not : (held : List ℕ) (n : ℕ) → Contains held n ⊎ (Contains held n → ⊥)
held_or_not [] n = inr (λ at. omega (arith, at.1))
held_or_not (m ∷ ms) n = by_test (cases_Bool (m == n)) (held_or_not ms n)
  where
    by_test : ((m == n) ≡ true) ⊎ ((m == n) ≡ false) → Contains ms n ⊎ (Contains ms n → ⊥) → Contains (m ∷ ms) n ⊎ (Contains (m ∷ ms) n → ⊥)
    by_test (inl same) rest = inl (0, omega arith, eq_from_test m n same)
    by_test (inr other) (inl at) = inl (suc at.0, omega (arith, at.1), at.2)
    by_test (inr other) (inr away) = inr (away_from away)
      where
        away_from : (Contains ms n → ⊥) → Contains (m ∷ ms) n → ⊥
        away_from never (zero, lt, e) = true≢false (sym (test_from_eq m n e) ∙ other)
        away_from never (suc k, lt, e) = never (k, omega (arith, lt), e)

-- one of the numbers is held, or none is
some_held : (held ns : List ℕ) → ((n : ℕ) × Contains ns n × Contains held n) ⊎ ((n : ℕ) → Contains ns n → Contains held n → ⊥)
some_held held [] = inr (λ n at there. omega (arith, at.1))
some_held held (m ∷ ms) = by_first (held_or_not held m) (some_held held ms)
  where
    by_first : Contains held m ⊎ (Contains held m → ⊥) → ((n : ℕ) × Contains ms n × Contains held n) ⊎ ((n : ℕ) → Contains ms n → Contains held n → ⊥) →
        ((n : ℕ) × Contains (m ∷ ms) n × Contains held n) ⊎ ((n : ℕ) → Contains (m ∷ ms) n → Contains held n → ⊥)
    by_first (inl at) rest = inl (m, (0, omega arith, refl), at)
    by_first (inr away) (inl w) = inl (w.0, (suc w.1.0, omega (arith, w.1.1), w.1.2), w.2)
    by_first (inr away) (inr never) = inr (away_from away never)
      where
        away_from : (Contains held m → ⊥) → ((n : ℕ) → Contains ms n → Contains held n → ⊥) → (n : ℕ) → Contains (m ∷ ms) n → Contains held n → ⊥
        away_from first rest n (zero, lt, e) there = first (subst (Contains held) (sym e) there)
        away_from first rest n (suc k, lt, e) there = rest n (k, omega (arith, lt), e) there

-- an expression that is worth something has a grant
pub granted_worth : (t : Tree) → IsSound t → (a : List Grant) (job : ℕ) → (worth_of a job t ≡ 0 → ⊥) → HasGrant a job t
granted_worth t sound a job some = by_held (some_held (held_leaves a job) (numbers t))
  where
    by_held : HasGrant a job t ⊎ ((n : ℕ) → Contains (numbers t) n → Contains (held_leaves a job) n → ⊥) → HasGrant a job t
    by_held (inl w) = w
    by_held (inr bare) =
        absurd (some (zero_of_bare (leaf_worth a job) (held_leaves a job) (λ l good away. leaf_worth-none a job l good (ungranted a job l.num away)) t sound bare))
