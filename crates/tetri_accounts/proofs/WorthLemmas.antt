-- What a job's own grants are worth to it.
use Rattle.std.proofs.Common.{◌≡◌, ℕ, ◌+◌, ◌==◌, ◌&&◌, Bool, true, false, cond, List, [], ◌∷◌, length, filter, refl, ap, ◌∙◌, arith}
use Rattle.tetri_strl.specs.Tree.{Tree}
use Rattle.tetri_strl.specs.Worth.{granted, leaf_worth, worth_at, worth_of}
use Rattle.tetri_strl.specs.declared.grants.Grant.{Grant}
use Rattle.tetri_strl.proofs.ExprLaws.{worth_by-same}

-- the job's own grants give a leaf what all grants give it
granted-own : (a : List Grant) (job leaf : ℕ) → granted (filter (λ g. g.job == job) a) job leaf ≡ granted a job leaf
granted-own [] job leaf = refl
granted-own (g ∷ gs) job leaf = by_test (g.job == job) refl (granted-own gs job leaf)
  where
    rest : List Grant
    rest = filter (λ x. x.job == job) gs

    by_test : (b : Bool) → g.job == job ≡ b → granted rest job leaf ≡ granted gs job leaf →
        granted (cond b (g ∷ rest) rest) job leaf ≡ cond (b && g.leaf == leaf) (length g.nodes) 0 + granted gs job leaf
    by_test true is others = ap (λ c. cond (c && g.leaf == leaf) (length g.nodes) 0 + granted rest job leaf) is ∙ ap (λ n. cond (g.leaf == leaf) (length g.nodes) 0 + n) others
    by_test false is others = omega (arith, others)

-- and so they are worth as much to it
pub own_worth : (a : List Grant) (job : ℕ) (t : Tree) → worth_of (filter (λ g. g.job == job) a) job t ≡ worth_of a job t
own_worth a job t = worth_by-same (leaf_worth (filter (λ g. g.job == job) a) job) (leaf_worth a job) (λ l. ap (worth_at l) (granted-own a job l.num)) t
