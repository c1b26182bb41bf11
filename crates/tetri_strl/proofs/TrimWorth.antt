-- The trimmed grants are worth the same.
use Rattle.std.proofs.Common.{◌≡◌, ℕ, ◌+◌, Bool, true, false, cond, not, ◌&&◌, ◌||◌, ◌==◌, List, [], ◌∷◌, length, Contains, refl, sym, ap, ◌∙◌, arith, true≢false}
use Rattle.std.proofs.lemmas.List.Folds.{list_any_at}
use Rattle.std.specs.List.{filter, list_any}
use Rattle.std.proofs.lemmas.Bool.Decides.{nat_tests}
use Rattle.std.proofs.lemmas.List.Elements.{Contains-append_right}
use Rattle.tetri_strl.specs.declared.grants.Grant.{Grant}
use Rattle.tetri_strl.specs.Tree.{Tree}
use Rattle.tetri_strl.specs.Trim.{idle, earns, trimmed}
use Rattle.tetri_strl.specs.WellMade.{IsSound}
use Rattle.tetri_strl.specs.Worth.{granted, worth_at, leaf_worth, worth_of}
use Rattle.tetri_strl.proofs.PartsApart.{AreApart}
use Rattle.tetri_strl.proofs.TrimLemmas.{struck_worth}
use Rattle.tetri_strl.proofs.WorthLemmas.{worth_at-none}

-- the test finds a number exactly where it is
pub found_at : (ns : List ℕ) (n m : ℕ) → Contains ns n → (m == n) ≡ true → list_any (λ k. k == m) ns ≡ true
found_at ns n m at same = list_any_at (λ k. k == m) ns at.0 n at.1 (grind (arith, nat_tests, at.2, same))

both_eq : (k m n : ℕ) → (k == m) ≡ true → (m == n) ≡ true → k ≡ n
both_eq k m n p q = grind (arith, nat_tests)

pub there_if_found : (ns : List ℕ) (n m : ℕ) → list_any (λ k. k == m) ns ≡ true → (m == n) ≡ true → Contains ns n
there_if_found [] n m found same = absurd (true≢false (sym found))
there_if_found (k ∷ ns) n m found same =
    by_test (k == m) (λ e. both_eq k m n e same) (λ later. there_if_found ns n m later same) found
  where
    by_test : (b : Bool) → (b ≡ true → k ≡ n) → (list_any (λ j. j == m) ns ≡ true → Contains ns n) → (b || list_any (λ j. j == m) ns) ≡ true →
        Contains (k ∷ ns) n
    by_test true is later found = (0, omega arith, is refl)
    by_test false is later found = Contains-append_right (k ∷ []) ns n (later found)

no_part : (b d : Bool) (m : ℕ) → (d ≡ true → ⊥) → cond (b && d) m 0 ≡ 0
no_part true true m never = absurd (never refl)
no_part true false m never = refl
no_part false d m never = refl

abbrev part : Grant → ℕ → ℕ → ℕ
part g job n = cond (g.job == job && g.leaf == n) (length g.nodes) 0

module _ (job n : ℕ) (ns : List ℕ) where
  pub struck_granted : (a : List Grant) → Contains ns n → granted (filter (earns job ns) a) job n ≡ 0
  struck_granted [] at = refl
  struck_granted (g ∷ gs) at =
      by_test (g.job == job) (list_any (λ k. k == g.leaf) ns) (λ missing. no_part (g.job == job) (g.leaf == n) (length g.nodes) (λ same. true≢false (sym (found_at ns n g.leaf at same) ∙ missing)))
      (struck_granted gs at)
    where
      by_test : (b c : Bool) → (c ≡ false → part g job n ≡ 0) → granted (filter (earns job ns) gs) job n ≡ 0 →
          granted (cond (b && not c) (g ∷ filter (earns job ns) gs) (filter (earns job ns) gs)) job n ≡ 0
      by_test true true nothing rest = rest
      by_test true false nothing rest = omega (arith, nothing refl, rest)
      by_test false c nothing rest = rest

  pub kept_granted : (a : List Grant) → (Contains ns n → ⊥) → granted (filter (earns job ns) a) job n ≡ granted a job n
  kept_granted [] away = refl
  kept_granted (g ∷ gs) away =
      by_test (g.job == job) (list_any (λ k. k == g.leaf) ns)
      (λ other. ap (λ b. cond (b && g.leaf == n) (length g.nodes) 0) other)
      (λ found. no_part (g.job == job) (g.leaf == n) (length g.nodes) (λ same. away (there_if_found ns n g.leaf found same)))
      (kept_granted gs away)
    where
      by_test : (b c : Bool) → (b ≡ false → part g job n ≡ 0) → (c ≡ true → part g job n ≡ 0) →
          granted (filter (earns job ns) gs) job n ≡ granted gs job n →
          granted (cond (b && not c) (g ∷ filter (earns job ns) gs) (filter (earns job ns) gs)) job n ≡ part g job n + granted gs job n
      by_test true true other nothing rest = omega (arith, nothing refl, rest)
      by_test true false other nothing rest = omega (arith, rest)
      by_test false c other nothing rest = omega (arith, other refl, rest)

pub trimmed_worth : (a : List Grant) (job : ℕ) (t : Tree) → IsSound t → AreApart t → worth_of (trimmed a job t) job t ≡ worth_of a job t
trimmed_worth a job t sound apart =
    struck_worth (leaf_worth a job) (leaf_worth (trimmed a job t) job) (Contains (idle (leaf_worth a job) t))
    (λ l good struck. ap (worth_at l) (struck_granted job l.num (idle (leaf_worth a job) t) a struck) ∙ worth_at-none l good)
    (λ l away. ap (worth_at l) (kept_granted job l.num (idle (leaf_worth a job) t) a away))
    t sound apart (record { these = λ n at. at; no_others = λ n at struck. struck })
