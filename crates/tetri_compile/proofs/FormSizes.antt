-- The numbers of a form stay small.
use Rattle.std.proofs.Common.{◌≡◌, ℕ, ◌+◌, ◌*◌, ◌/◌, ◌≤◌, ◌==◌, max, Bool, true, false, cond, List, [], ◌∷◌, length, refl, arith, le_trans}
use Rattle.std.specs.Prelude.{if◌then◌else◌}
use Rattle.std.proofs.Math.Nat.{mul-le-mul_left, div-mul-le_self}
use Rattle.std.proofs.lemmas.Bool.{cond_both}
use Rattle.std.proofs.lemmas.Bool.Decides.{nat_tests}
use Rattle.tetri_strl.specs.declared.expr.Leaf.{Leaf}
use Rattle.tetri_strl.specs.Tree.{greatest, least, added, Tree, one, join, scale, barrier, Trees, none, more}
use Rattle.tetri_strl.specs.WellMade.{peak, peaks, IsSound, AreSound}
use Rattle.tetri_strl.specs.Worth.{greatest_of, added_of}
use Rattle.tetri_strl.proofs.ExprLaws.{worth_le_peak}
use Rattle.tetri_base.specs.Lists.{Each}
use Rattle.tetri_compile.specs.Forms.{share, Form, times, run}
use Rattle.tetri_compile.specs.Walk.{ones, best, width, form, forms}
use Rattle.tetri_base.proofs.ListLaws.{Each-map, Each-append}

pub run_small : {X : Type 0} (b m n : ℕ) (xs : List X) → b ≤ m → Each (λ s. s.by ≤ m) (run b n xs)
run_small b m n [] le = tt
run_small b m n (x ∷ xs) le = (le, run_small b m (n + 1) xs le)

times_small : (s m : ℕ) (f : Form) → Each (λ p. p.by ≤ m) f → Each (λ p. p.by ≤ s * m) (times s f)
times_small s m [] h = tt
times_small s m (p ∷ ps) h = (mul-le-mul_left s h.0, times_small s m ps h.1)

abbrev pub AllBelow : ℕ → List ℕ → Type 0
AllBelow m [] = Unit {0}
AllBelow m (x ∷ xs) = (x ≤ m) × AllBelow m xs

below_up : (m n : ℕ) (xs : List ℕ) → m ≤ n → AllBelow m xs → AllBelow n xs
below_up m n [] le h = tt
below_up m n (x ∷ xs) le h = (le_trans h.0 le, below_up m n xs le h.1)

pub below_greatest : (xs : List ℕ) → AllBelow (greatest_of xs) xs
below_greatest [] = tt
below_greatest (x ∷ xs) = (omega arith, below_up (greatest_of xs) (max x (greatest_of xs)) xs (omega arith) (below_greatest xs))

pub below_added : (xs : List ℕ) → AllBelow (added_of xs) xs
below_added [] = tt
below_added (x ∷ xs) = (omega arith, below_up (added_of xs) (x + added_of xs) xs (omega arith) (below_added xs))

least_small : (n b m : ℕ) → b ≤ m → Each (λ s. s.by ≤ m) (if b == 0 then [] else (share n 1 ∷ []))
least_small n b m le = by_test (b == 0) (λ e. some b e)
  where
    some : (k : ℕ) → (k == 0) ≡ false → 1 ≤ k
    some k e = grind (arith, nat_tests)

    by_test : (t : Bool) → (t ≡ false → 1 ≤ b) → Each (λ s. s.by ≤ m) (cond t [] (share n 1 ∷ []))
    by_test true f = tt
    by_test false f = (omega (arith, f refl), tt)

module _ (inside : ℕ → List ℕ) (usable : ℕ → Leaf → ℕ) where
  mutual
    -- each coefficient of a form is at most the peak
    pub form_small : (t : Tree) → IsSound t → (i n : ℕ) → Each (λ s. s.by ≤ peak t) (form inside usable t i n)
    form_small (one l) sound i n =
        cond_both l.linear (run (l.v / l.k) n (inside l.set)) (share i l.v ∷ []) (λ f. Each (λ s. s.by ≤ l.v) f)
        (λ e. run_small (l.v / l.k) l.v n (inside l.set) (omega (arith, mul-le-mul_left (l.v / l.k) sound.0.some_nodes, div-mul-le_self l.v l.k)))
        (λ e. (omega arith, tt))
    form_small (join greatest ts) sound i n = forms_small ts sound.1 (greatest_of (peaks ts)) (below_greatest (peaks ts)) n (n + length (ones ts))
    form_small (join least ts) sound i n =
        least_small n (best (join least ts)) (greatest_of (peaks ts)) (worth_le_peak (λ l. l.v) (λ l g. omega arith) (join least ts) sound)
    form_small (join added ts) sound i n = forms_small ts sound.1 (added_of (peaks ts)) (below_added (peaks ts)) n (n + length (ones ts))
    form_small (scale t s) sound i n = times_small s (peak t) (form inside usable t i n) (form_small t sound.0 i n)
    form_small (barrier t v) sound i n = (omega arith, tt)

    forms_small : (ts : Trees) → AreSound ts → (m : ℕ) → AllBelow m (peaks ts) → (j n : ℕ) → Each (λ s. s.by ≤ m) (forms inside usable ts j n)
    forms_small none sound m h j n = tt
    forms_small (more t ts) sound m h j n =
        Each-append (λ s. s.by ≤ m) (form inside usable t j n) (forms inside usable ts (j + 1) (n + width inside usable t))
        (Each-map (λ s. s.by ≤ peak t) (λ s. s.by ≤ m) (λ s le. le_trans le h.0) (form inside usable t j n) (form_small t sound.0 j n))
        (forms_small ts sound.1 m h.1 (j + 1) (n + width inside usable t))
