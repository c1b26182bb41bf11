-- What of an allotment earns something, in whatever order its jobs stand.
use mathlib.Core.Path.{fun_ext}
use Rattle.std.proofs.Common.{◌≡◌, ℕ, ◌+◌, ◌==◌, ◌&&◌, not, nat_lt, Bool, true, false, cond, List, [], ◌∷◌, length, refl, sym, ap, ◌∙◌, arith}
use Rattle.std.specs.List.{filter, flat_map, list_any}
use Rattle.std.specs.List.Sorted.{IsStableBy, ties}
use Rattle.std.proofs.lemmas.Bool.Decides.{nat_tests}
use Rattle.tetri_strl.specs.declared.expr.Leaf.{Leaf}
use Rattle.tetri_strl.specs.declared.grants.Grant.{Grant}
use Rattle.tetri_strl.specs.Tree.{Tree}
use Rattle.tetri_strl.specs.Trim.{earns, idle, trimmed}
use Rattle.tetri_strl.specs.Worth.{granted, leaf_worth, worth_at}
use Rattle.tetri_strl.proofs.ExprLaws.{filter-both}
use Rattle.tetri_space.specs.Space.{Bid, Space}
use Rattle.tetri_space.specs.Trimmed.{all_trimmed}

-- whether the first grant's job comes before the second's
abbrev pub job_first : Grant → Grant → Bool
job_first g h = nat_lt g.job h.job

abbrev is_of : ℕ → Grant → Bool
is_of job g = g.job == job

-- the grants of one job tie
tied : (m n : ℕ) → (not (nat_lt m n) && not (nat_lt n m)) ≡ (n == m)
tied m n = grind (arith, nat_tests)

ties_are : (job : ℕ) → ties job_first (record { job = job; leaf = 0; nodes = [] }) ≡ is_of job
ties_are job = fun_ext (λ (g : Grant). tied job g.job)

granted_own : (a : List Grant) (job leaf : ℕ) → granted (filter (is_of job) a) job leaf ≡ granted a job leaf
granted_own [] job leaf = refl
granted_own (g ∷ gs) job leaf = by_test (g.job == job) refl (granted_own gs job leaf)
  where
    by_test : (b : Bool) → (g.job == job) ≡ b → granted (filter (is_of job) gs) job leaf ≡ granted gs job leaf →
        granted (cond b (g ∷ filter (is_of job) gs) (filter (is_of job) gs)) job leaf ≡ cond (b && g.leaf == leaf) (length g.nodes) 0 + granted gs job leaf
    by_test true e rest =
        ap (λ t. cond (t && g.leaf == leaf) (length g.nodes) 0 + granted (filter (is_of job) gs) job leaf) e ∙ ap (λ n. cond (g.leaf == leaf) (length g.nodes) 0 + n) rest
    by_test false e rest = omega (arith, rest)

-- what of its own grants earns something for a job
abbrev of_own : ℕ → Tree → List Grant → List Grant
of_own job t own = filter (λ g. not (list_any (λ n. n == g.leaf) (idle (leaf_worth own job) t))) own

trimmed_own : (a : List Grant) (job : ℕ) (t : Tree) → trimmed a job t ≡ of_own job t (filter (is_of job) a)
trimmed_own a job t =
    let same : leaf_worth a job ≡ leaf_worth (filter (is_of job) a) job = fun_ext (λ (l : Leaf). ap (worth_at l) (sym (granted_own a job l.num))) in
    ap (λ (v : Leaf → ℕ). filter (earns job (idle v t)) a) same
    ∙ filter-both (is_of job) (λ g. not (list_any (λ n. n == g.leaf) (idle (leaf_worth (filter (is_of job) a) job) t))) a

-- grants that were sorted by job, each job's in the order that they had
pub trimmed_stably : (s : Space) (a sorted : List Grant) → IsStableBy job_first a sorted → all_trimmed s sorted ≡ all_trimmed s a
trimmed_stably s a sorted stable =
    let own : (job : ℕ) → filter (is_of job) sorted ≡ filter (is_of job) a =
    λ job. ap (λ (p : Grant → Bool). filter p sorted) (sym (ties_are job)) ∙ stable (record { job = job; leaf = 0; nodes = [] }) ∙ ap (λ (p : Grant → Bool). filter p a) (ties_are job) in
    ap (λ (f : Bid → List Grant). flat_map f s.bids)
    (fun_ext (λ (b : Bid). trimmed_own sorted b.job b.expr ∙ ap (of_own b.job b.expr) (own b.job) ∙ sym (trimmed_own a b.job b.expr)))
