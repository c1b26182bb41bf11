-- A job's worth depends on its own grants alone.
use Rattle.std.proofs.Common.{◌≡◌, ◌≢◌, ℕ, ◌+◌, ◌*◌, ◌≤◌, List, [], ◌∷◌, ◌++◌, length, All, false, cond, ◌&&◌, ◌==◌, nat_le, min, refl, ap, ◌∙◌, arith}
use Rattle.std.proofs.lemmas.Bool.Decides.{nat_tests}
use Rattle.std.proofs.lemmas.List.Elements.{All-head, All-tail}
use Rattle.tetri_strl.specs.declared.expr.Leaf.{Leaf}
use Rattle.tetri_strl.specs.declared.grants.Grant.{Grant}
use Rattle.tetri_strl.specs.Tree.{Operator, greatest, least, added, Tree, one, join, scale, barrier, Trees, none, more}
use Rattle.tetri_strl.specs.Worth.{granted, worth_at, leaf_worth, joined, greatest_of, least_from, added_of, worth_by, worths_by, worth_of}
use Rattle.tetri_strl.specs.WellMade.{IsGoodLeaf, IsSound, AreSound, peak}
use Rattle.tetri_strl.proofs.WorthLemmas.{worth_at-none, leaf_worth_le, worth_le_peak}

-- no grant of the list is for the job
abbrev pub NamesNot : ℕ → List Grant → Type 0
NamesNot job a = All (λ g. g.job ≢ job) a

pub granted-append : (a b : List Grant) (job leaf : ℕ) → granted (a ++ b) job leaf ≡ granted a job leaf + granted b job leaf
granted-append [] b job leaf = omega arith
granted-append (g ∷ gs) b job leaf = omega (arith, granted-append gs b job leaf)

different_test : (x y : ℕ) → x ≢ y → (x == y) ≡ false
different_test x y ne = grind (arith, nat_tests)

-- grants of other jobs give a leaf nothing
pub granted-others : (a : List Grant) (job leaf : ℕ) → NamesNot job a → granted a job leaf ≡ 0
granted-others [] job leaf other = refl
granted-others (g ∷ gs) job leaf other =
    let here : (g.job == job) ≡ false = different_test g.job job (All-head (λ h. h.job ≢ job) g gs other) in
    let rest = granted-others gs job leaf (All-tail (λ h. h.job ≢ job) g gs other) in
    ap (λ b. cond (b && g.leaf == leaf) (length g.nodes) 0 + granted gs job leaf) here ∙ omega (arith, rest)

module _ (value other : Leaf → ℕ) (same : (l : Leaf) → value l ≡ other l) where
  mutual
    -- a tree whose leaves are worth the same is worth the same
    pub worth_by-same : (t : Tree) → worth_by value t ≡ worth_by other t
    worth_by-same (one l) = same l
    worth_by-same (join op ts) = ap (joined op) (worths_by-same ts)
    worth_by-same (scale t s) = ap (λ n. s * n) (worth_by-same t)
    worth_by-same (barrier t v) = ap (λ n. cond (nat_le v n) v 0) (worth_by-same t)

    pub worths_by-same : (ts : Trees) → worths_by value ts ≡ worths_by other ts
    worths_by-same none = refl
    worths_by-same (more t ts) = ap (λ n. n ∷ worths_by value ts) (worth_by-same t) ∙ ap (λ ns. worth_by other t ∷ ns) (worths_by-same ts)

-- grants of other jobs before and after a job's own change no worth
pub worth_of-append_left : (a b : List Grant) (job : ℕ) (t : Tree) → NamesNot job b → worth_of (a ++ b) job t ≡ worth_of a job t
worth_of-append_left a b job t other = worth_by-same (leaf_worth (a ++ b) job) (leaf_worth a job) (λ l. ap (worth_at l) (same_count l.num)) t
  where
    same_count : (leaf : ℕ) → granted (a ++ b) job leaf ≡ granted a job leaf
    same_count leaf = omega (arith, granted-append a b job leaf, granted-others b job leaf other)

pub worth_of-append_right : (a b : List Grant) (job : ℕ) (t : Tree) → NamesNot job a → worth_of (a ++ b) job t ≡ worth_of b job t
worth_of-append_right a b job t other = worth_by-same (leaf_worth (a ++ b) job) (leaf_worth b job) (λ l. ap (worth_at l) (same_count l.num)) t
  where
    same_count : (leaf : ℕ) → granted (a ++ b) job leaf ≡ granted b job leaf
    same_count leaf = omega (arith, granted-append a b job leaf, granted-others a job leaf other)

-- a leaf with no granted node is worth nothing
pub leaf_worth-none : (a : List Grant) (job : ℕ) (l : Leaf) → IsGoodLeaf l → granted a job l.num ≡ 0 → leaf_worth a job l ≡ 0
leaf_worth-none a job l good nothing = ap (worth_at l) nothing ∙ worth_at-none l good

-- all are 0
abbrev pub AreZero : List ℕ → Type 0
AreZero [] = Unit {0}
AreZero (x ∷ xs) = (x ≡ 0) × AreZero xs

pub greatest_of-zero : (xs : List ℕ) → AreZero xs → greatest_of xs ≡ 0
greatest_of-zero [] h = refl
greatest_of-zero (x ∷ xs) h = omega (arith, h.0, greatest_of-zero xs h.1)

added_of-zero : (xs : List ℕ) → AreZero xs → added_of xs ≡ 0
added_of-zero [] h = refl
added_of-zero (x ∷ xs) h = omega (arith, h.0, added_of-zero xs h.1)

least_from-zero : (m : ℕ) (xs : List ℕ) → m ≡ 0 → AreZero xs → least_from m xs ≡ 0
least_from-zero m [] e h = e
least_from-zero m (x ∷ xs) e h = least_from-zero (min m x) xs (omega (arith, e)) h.1

pub joined-zero : (op : Operator) (xs : List ℕ) → AreZero xs → joined op xs ≡ 0
joined-zero greatest xs h = greatest_of-zero xs h
joined-zero added xs h = added_of-zero xs h
joined-zero least [] h = refl
joined-zero least (x ∷ xs) h = least_from-zero x xs h.0 h.1

pub barred-zero : (v : ℕ) → cond (nat_le v 0) v 0 ≡ 0
barred-zero v = grind (arith, nat_tests)

pub scaled-zero : (s n : ℕ) → n ≡ 0 → s * n ≡ 0
scaled-zero s n e = rw e (omega arith)

module _ (value : Leaf → ℕ) (zero_at : (l : Leaf) → IsGoodLeaf l → value l ≡ 0) where
  mutual
    -- a tree whose leaves are worth nothing is worth nothing
    pub worth_by-zero : (t : Tree) → IsSound t → worth_by value t ≡ 0
    worth_by-zero (one l) h = zero_at l h.0
    worth_by-zero (join op ts) h = joined-zero op (worths_by value ts) (worths_by-zero ts h.1)
    worth_by-zero (scale t s) h = scaled-zero s (worth_by value t) (worth_by-zero t h.0)
    worth_by-zero (barrier t v) h = ap (λ n. cond (nat_le v n) v 0) (worth_by-zero t h.0) ∙ barred-zero v

    worths_by-zero : (ts : Trees) → AreSound ts → AreZero (worths_by value ts)
    worths_by-zero none h = tt
    worths_by-zero (more t ts) h = (worth_by-zero t h.0, worths_by-zero ts h.1)

-- a job without grants has nothing
pub worth_of-none : (a : List Grant) (job : ℕ) (t : Tree) → IsSound t → NamesNot job a → worth_of a job t ≡ 0
worth_of-none a job t sound other =
    worth_by-zero (leaf_worth a job) (λ l good. leaf_worth-none a job l good (granted-others a job l.num other)) t sound

pub worth_of_le_peak : (a : List Grant) (job : ℕ) (t : Tree) → IsSound t → worth_of a job t ≤ peak t
worth_of_le_peak a job = worth_le_peak (leaf_worth a job) (leaf_worth_le a job)
