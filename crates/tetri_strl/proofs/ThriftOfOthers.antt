-- A job's thrift depends on its own grants alone.
use Rattle.std.proofs.Common.{◌≡◌, ◌≢◌, ℕ, ◌+◌, ◌⊎◌, ◌==◌, Bool, true, List, [], ◌∷◌, ◌++◌, map, Contains, false, cond, refl, sym, ap, ◌∙◌, subst, inl, inr, ⊎_elim, arith, append-nil}
use Rattle.std.specs.List.{filter}
use Rattle.std.proofs.lemmas.Bool.Decides.{nat_tests}
use Rattle.std.proofs.lemmas.List.Elements.{All-head, All-tail}
use Rattle.tetri_strl.specs.declared.expr.Leaf.{Leaf}
use Rattle.tetri_strl.specs.declared.grants.Grant.{Grant}
use Rattle.tetri_strl.specs.Thrifty.{IsBare, AtMostOne, MeetsOne, IsThrifty, AreThrifty, held_leaves, IsThriftyFor}
use Rattle.tetri_strl.specs.Tree.{Operator, greatest, least, added, Tree, one, join, scale, barrier, Trees, none, more, numbers, numbers_of}
use Rattle.tetri_strl.specs.Worth.{granted, joined, leaf_worth, worth_at}
use Rattle.tetri_strl.proofs.GrantLemmas.{NamesNot, granted-append, granted-others, worth_by-same, worths_by-same}

module _ (value other : Leaf → ℕ) (held fewer : List ℕ) (same : (l : Leaf) → value l ≡ other l) (within : (n : ℕ) → Contains fewer n → Contains held n) where
  bare-same : (ns : List ℕ) → IsBare value held ns → IsBare other fewer ns
  bare-same ns h n at there = h n at (within n there)

  at_most_one-same : (ts : Trees) → AtMostOne value held ts → AtMostOne other fewer ts
  at_most_one-same none h = tt
  at_most_one-same (more t ts) h = ⊎_elim (λ k. inl (bare-same (numbers t) k.0, at_most_one-same ts k.1)) (λ k. inr (bare-same (numbers_of ts) k)) h

  meets-same : (op : Operator) (ts : Trees) → MeetsOne value held op ts → MeetsOne other fewer op ts
  meets-same greatest ts h = at_most_one-same ts h
  meets-same least ts h = tt
  meets-same added ts h = tt

  mutual
    thrifty-same : (t : Tree) → IsThrifty value held t → IsThrifty other fewer t
    thrifty-same (one l) h = λ z. bare-same (l.num ∷ []) (h (same l ∙ z))
    thrifty-same (join op ts) h =
        ((λ z. bare-same (numbers_of ts) (h.0 (ap (joined op) (worths_by-same value other same ts) ∙ z))), meets-same op ts h.1, are_thrifty-same ts h.2)
    thrifty-same (scale t s) h = ((λ z. bare-same (numbers t) (h.0 (worth_by-same value other same (scale t s) ∙ z))), thrifty-same t h.1)
    thrifty-same (barrier t v) h = ((λ z. bare-same (numbers t) (h.0 (worth_by-same value other same (barrier t v) ∙ z))), thrifty-same t h.1)

    are_thrifty-same : (ts : Trees) → AreThrifty value held ts → AreThrifty other fewer ts
    are_thrifty-same none h = tt
    are_thrifty-same (more t ts) h = (thrifty-same t h.0, are_thrifty-same ts h.1)

other_test : (x y : ℕ) → x ≢ y → (x == y) ≡ false
other_test x y ne = grind (arith, nat_tests)

held_leaves-append : (a b : List Grant) (job : ℕ) → held_leaves (a ++ b) job ≡ held_leaves a job ++ held_leaves b job
held_leaves-append [] b job = refl
held_leaves-append (g ∷ gs) b job = by_test (g.job == job) (held_leaves-append gs b job)
  where
    by_test : (t : Bool) → held_leaves (gs ++ b) job ≡ held_leaves gs job ++ held_leaves b job →
        map (λ h. h.leaf) (cond t (g ∷ filter (λ h. h.job == job) (gs ++ b)) (filter (λ h. h.job == job) (gs ++ b))) ≡
        map (λ h. h.leaf) (cond t (g ∷ filter (λ h. h.job == job) gs) (filter (λ h. h.job == job) gs)) ++ held_leaves b job
    by_test true e = ap (λ ns. g.leaf ∷ ns) e
    by_test false e = e

held_leaves-others : (a : List Grant) (job : ℕ) → NamesNot job a → held_leaves a job ≡ []
held_leaves-others [] job other = refl
held_leaves-others (g ∷ gs) job other =
    let here : (g.job == job) ≡ false = other_test g.job job (All-head (λ h. h.job ≢ job) g gs other) in
    ap (λ t. map (λ h. h.leaf) (cond t (g ∷ filter (λ h. h.job == job) gs) (filter (λ h. h.job == job) gs))) here
    ∙ held_leaves-others gs job (All-tail (λ h. h.job ≢ job) g gs other)

-- an allotment that gives the job the same, leaf by leaf, and holds no other leaf of it
pub thrifty_of-members : (a b : List Grant) (job : ℕ) (t : Tree) → ((leaf : ℕ) → granted a job leaf ≡ granted b job leaf) →
    ((n : ℕ) → Contains (held_leaves b job) n → Contains (held_leaves a job) n) → IsThriftyFor a job t → IsThriftyFor b job t
thrifty_of-members a b job t counts within h =
    thrifty-same (leaf_worth a job) (leaf_worth b job) (held_leaves a job) (held_leaves b job) (λ l. ap (worth_at l) (counts l.num)) within t h

pub thrifty_of-same : (a b : List Grant) (job : ℕ) (t : Tree) → ((leaf : ℕ) → granted a job leaf ≡ granted b job leaf) → held_leaves a job ≡ held_leaves b job →
    IsThriftyFor a job t → IsThriftyFor b job t
thrifty_of-same a b job t counts leaves_same h = thrifty_of-members a b job t counts (λ n at. subst (λ ns. Contains ns n) (sym leaves_same) at) h

-- grants of other jobs before and after a job's own waste nothing of it
pub thrifty-append_left : (a b : List Grant) (job : ℕ) (t : Tree) → NamesNot job b → IsThriftyFor a job t → IsThriftyFor (a ++ b) job t
thrifty-append_left a b job t other =
    thrifty_of-same a (a ++ b) job t (λ leaf. omega (arith, granted-append a b job leaf, granted-others b job leaf other))
    (sym (held_leaves-append a b job ∙ ap (λ ns. held_leaves a job ++ ns) (held_leaves-others b job other) ∙ append-nil (held_leaves a job)))

pub thrifty-append_right : (a b : List Grant) (job : ℕ) (t : Tree) → NamesNot job a → IsThriftyFor b job t → IsThriftyFor (a ++ b) job t
thrifty-append_right a b job t other =
    thrifty_of-same b (a ++ b) job t (λ leaf. omega (arith, granted-append a b job leaf, granted-others a job leaf other))
    (sym (held_leaves-append a b job ∙ ap (λ ns. ns ++ held_leaves b job) (held_leaves-others a job other)))
