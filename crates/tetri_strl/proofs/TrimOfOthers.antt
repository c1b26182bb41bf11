-- What of a job's grants earns something depends on its own grants alone.
use mathlib.Core.Path.{fun_ext}
use Rattle.std.proofs.Common.{◌≡◌, ◌≢◌, ℕ, ◌+◌, ◌==◌, ◌&&◌, not, Bool, true, false, cond, List, [], ◌∷◌, ◌++◌, All, refl, ap, ◌∙◌, arith}
use Rattle.std.specs.List.{filter, list_any}
use Rattle.std.proofs.lemmas.Bool.{and_parts, cond_both}
use Rattle.std.proofs.lemmas.Bool.Decides.{nat_tests}
use Rattle.std.proofs.lemmas.List.{append-nil}
use Rattle.std.proofs.lemmas.List.Elements.{All-cons, All-head, All-nil, All-tail, filter-append}
use Rattle.tetri_strl.specs.declared.expr.Leaf.{Leaf}
use Rattle.tetri_strl.specs.declared.grants.Grant.{Grant}
use Rattle.tetri_strl.specs.Tree.{Tree}
use Rattle.tetri_strl.specs.Trim.{earns, idle, trimmed}
use Rattle.tetri_strl.specs.Worth.{granted, leaf_worth, worth_at}
use Rattle.tetri_strl.proofs.GrantLemmas.{NamesNot, granted-append, granted-others}

idle_of-same : (a b : List Grant) (job : ℕ) (t : Tree) → ((leaf : ℕ) → granted a job leaf ≡ granted b job leaf) → idle (leaf_worth a job) t ≡ idle (leaf_worth b job) t
idle_of-same a b job t counts =
    let same : leaf_worth a job ≡ leaf_worth b job = fun_ext (λ (l : Leaf). ap (worth_at l) (counts l.num)) in
    ap (λ (v : Leaf → ℕ). idle v t) same

other_test : (x y : ℕ) → x ≢ y → (x == y) ≡ false
other_test x y ne = grind (arith, nat_tests)

-- no grant of another job earns something for this one
none_earn : (job : ℕ) (ns : List ℕ) (a : List Grant) → NamesNot job a → filter (earns job ns) a ≡ []
none_earn job ns [] other = refl
none_earn job ns (g ∷ gs) other =
    ap (λ b. cond (b && not (list_any (λ n. n == g.leaf) ns)) (g ∷ filter (earns job ns) gs) (filter (earns job ns) gs)) (other_test g.job job (All-head (λ h. h.job ≢ job) g gs other))
    ∙ none_earn job ns gs (All-tail (λ h. h.job ≢ job) g gs other)

pub trimmed-append_left : (a b : List Grant) (job : ℕ) (t : Tree) → NamesNot job b → trimmed (a ++ b) job t ≡ trimmed a job t
trimmed-append_left a b job t other =
    filter-append (earns job (idle (leaf_worth (a ++ b) job) t)) a b
    ∙ ap (λ xs. filter (earns job (idle (leaf_worth (a ++ b) job) t)) a ++ xs) (none_earn job (idle (leaf_worth (a ++ b) job) t) b other)
    ∙ append-nil (filter (earns job (idle (leaf_worth (a ++ b) job) t)) a)
    ∙ ap (λ ns. filter (earns job ns) a) (idle_of-same (a ++ b) a job t (λ leaf. omega (arith, granted-append a b job leaf, granted-others b job leaf other)))

pub trimmed-append_right : (a b : List Grant) (job : ℕ) (t : Tree) → NamesNot job a → trimmed (a ++ b) job t ≡ trimmed b job t
trimmed-append_right a b job t other =
    filter-append (earns job (idle (leaf_worth (a ++ b) job) t)) a b
    ∙ ap (λ xs. xs ++ filter (earns job (idle (leaf_worth (a ++ b) job) t)) b) (none_earn job (idle (leaf_worth (a ++ b) job) t) a other)
    ∙ ap (λ ns. filter (earns job ns) b) (idle_of-same (a ++ b) b job t (λ leaf. omega (arith, granted-append a b job leaf, granted-others a job leaf other)))

eq_from_test : (x y : ℕ) → (x == y) ≡ true → x ≡ y
eq_from_test x y e = grind (arith, nat_tests)

-- what is left are grants of the job
module _ (P : Grant → Type 0) (job : ℕ) (ns : List ℕ) where
  earning : (a : List Grant) → All P a → All (λ g. P g × (g.job ≡ job)) (filter (earns job ns) a)
  earning [] all = All-nil (λ g. P g × (g.job ≡ job))
  earning (g ∷ gs) all =
      let rest = earning gs (All-tail P g gs all) in
      cond_both (earns job ns g) (g ∷ filter (earns job ns) gs) (filter (earns job ns) gs) (λ xs. All (λ h. P h × (h.job ≡ job)) xs)
      (λ e. All-cons (λ h. P h × (h.job ≡ job)) g (filter (earns job ns) gs)
      (All-head P g gs all, eq_from_test g.job job (and_parts (g.job == job) (not (list_any (λ n. n == g.leaf) ns)) e).0) rest)
      (λ e. rest)

pub trimmed_of_job : (P : Grant → Type 0) (a : List Grant) (job : ℕ) (t : Tree) → All P a → All (λ g. P g × (g.job ≡ job)) (trimmed a job t)
trimmed_of_job P a job t all = earning P job (idle (leaf_worth a job) t) a all

-- a filter by both tests
pub filter-both : (p q : Grant → Bool) (a : List Grant) → filter (λ g. p g && q g) a ≡ filter q (filter p a)
filter-both p q [] = refl
filter-both p q (g ∷ gs) = by_tests (p g) (filter-both p q gs)
  where
    by_tests : (b : Bool) → filter (λ h. p h && q h) gs ≡ filter q (filter p gs) →
        cond (b && q g) (g ∷ filter (λ h. p h && q h) gs) (filter (λ h. p h && q h) gs) ≡ filter q (cond b (g ∷ filter p gs) (filter p gs))
    by_tests true e = ap (λ xs. cond (q g) (g ∷ xs) xs) e
    by_tests false e = e
