-- Trimming keeps the worth.
use Rattle.std.proofs.Common.{◌≡◌, ℕ, ◌*◌, Bool, true, false, cond, ◌==◌, nat_le, List, [], ◌∷◌, ◌++◌, Contains, ⊎_elim, refl, sym, ap, ◌∙◌, arith}
use Rattle.std.proofs.Math.Nat.{mul-zero}
use Rattle.std.proofs.lemmas.Bool.Decides.{nat_tests}
use Rattle.std.proofs.lemmas.List.Elements.{Contains-append_left, Contains-append_right, Contains-append_cases}
use Rattle.tetri_strl.specs.declared.expr.Leaf.{Leaf}
use Rattle.tetri_strl.specs.Tree.{Operator, greatest, least, added, Tree, one, join, scale, barrier, Trees, none, more, numbers, numbers_of}
use Rattle.tetri_strl.specs.Trim.{idle, idle_each, idle_but_first}
use Rattle.tetri_strl.proofs.PartsApart.{AreApart, AreApartOf}
use Rattle.tetri_strl.proofs.GrantLemmas.{AreZero, greatest_of-zero, joined-zero}
use Rattle.tetri_strl.specs.WellMade.{IsGoodLeaf, IsSound, AreSound}
use Rattle.tetri_strl.specs.Worth.{greatest_of, least_of, added_of, joined, worth_by, worths_by}

barrier-zero : (v n : ℕ) → n ≡ 0 → cond (nat_le v n) v 0 ≡ 0
barrier-zero v n e = grind (arith, nat_tests)

pub zero_from_test : (n : ℕ) → (n == 0) ≡ true → n ≡ 0
zero_from_test n e = grind (arith, nat_tests)

pub eq_from_test : (m n : ℕ) → (m == n) ≡ true → m ≡ n
eq_from_test m n e = grind (arith, nat_tests)

pub ne_from_test : (m n : ℕ) → (m == n) ≡ false → m ≡ n → ⊥
ne_from_test m n e same = grind (arith, nat_tests)

pub nothing_in_nil : (n : ℕ) → Contains [] n → ⊥
nothing_in_nil n at = omega (arith, at.1)

within_cond : (b : Bool) (xs ys zs : List ℕ) (n : ℕ) → (Contains xs n → Contains zs n) → (Contains ys n → Contains zs n) →
    Contains (cond b xs ys) n → Contains zs n
within_cond true xs ys zs n p q = p
within_cond false xs ys zs n p q = q

within_append : (xs ys us vs : List ℕ) (n : ℕ) → (Contains xs n → Contains us n) → (Contains ys n → Contains vs n) →
    Contains (xs ++ ys) n → Contains (us ++ vs) n
within_append xs ys us vs n p q at =
    ⊎_elim (λ h. Contains-append_left us vs n (p h)) (λ h. Contains-append_right us vs n (q h)) (Contains-append_cases xs ys n at)

module _ (value : Leaf → ℕ) where
  mutual
    pub idle_below : (t : Tree) (n : ℕ) → Contains (idle value t) n → Contains (numbers t) n
    idle_below (one l) n =
        within_cond (value l == 0) (l.num ∷ []) [] (l.num ∷ []) n (λ at. at) (λ at. absurd (nothing_in_nil n at))
    idle_below (join greatest ts) n =
        within_cond (greatest_of (worths_by value ts) == 0) (numbers_of ts) (idle_but_first value (greatest_of (worths_by value ts)) ts) (numbers_of ts) n
        (λ at. at) (but_first_below (greatest_of (worths_by value ts)) ts n)
    idle_below (join least ts) n =
        within_cond (least_of (worths_by value ts) == 0) (numbers_of ts) (idle_each value ts) (numbers_of ts) n (λ at. at) (each_below ts n)
    idle_below (join added ts) n =
        within_cond (added_of (worths_by value ts) == 0) (numbers_of ts) (idle_each value ts) (numbers_of ts) n (λ at. at) (each_below ts n)
    idle_below (scale t s) n =
        within_cond (worth_by value (scale t s) == 0) (numbers t) (idle value t) (numbers t) n (λ at. at) (idle_below t n)
    idle_below (barrier t v) n =
        within_cond (worth_by value (barrier t v) == 0) (numbers t) (idle value t) (numbers t) n (λ at. at) (idle_below t n)

    pub each_below : (ts : Trees) (n : ℕ) → Contains (idle_each value ts) n → Contains (numbers_of ts) n
    each_below none n = λ at. at
    each_below (more t ts) n =
        within_append (idle value t) (idle_each value ts) (numbers t) (numbers_of ts) n (idle_below t n) (each_below ts n)

    pub but_first_below : (best : ℕ) (ts : Trees) (n : ℕ) → Contains (idle_but_first value best ts) n → Contains (numbers_of ts) n
    but_first_below best none n = λ at. at
    but_first_below best (more t ts) n =
        within_cond (worth_by value t == best) (idle value t ++ numbers_of ts) (numbers t ++ idle_but_first value best ts)
        (numbers t ++ numbers_of ts) n
        (within_append (idle value t) (numbers_of ts) (numbers t) (numbers_of ts) n (idle_below t n) (λ at. at))
        (within_append (numbers t) (idle_but_first value best ts) (numbers t) (numbers_of ts) n (λ at. at) (but_first_below best ts n))

-- `other` is `value` at the leaves whose number is not struck, and 0 at the others
module _ (value other : Leaf → ℕ) (Struck : ℕ → Type 0) (zero_at : (l : Leaf) → IsGoodLeaf l → Struck l.num → other l ≡ 0)
    (same_at : (l : Leaf) → (Struck l.num → ⊥) → other l ≡ value l) where
  -- at these numbers, those struck are the ones in the list
  pub record Strikes (ns struck : List ℕ) : Type 0 where
    pub these : (n : ℕ) → Contains struck n → Struck n
    pub no_others : (n : ℕ) → Contains ns n → Struck n → Contains struck n

  mutual
    pub all_struck : (t : Tree) → IsSound t → ((n : ℕ) → Contains (numbers t) n → Struck n) → worth_by other t ≡ 0
    all_struck (one l) sound h = zero_at l sound.0 (h l.num (0, omega arith, refl))
    all_struck (join op ts) sound h = joined-zero op (worths_by other ts) (all_struck_of ts sound.1 h)
    all_struck (scale t s) sound h = ap (λ n. s * n) (all_struck t sound.0 h) ∙ mul-zero s
    all_struck (barrier t v) sound h = barrier-zero v (worth_by other t) (all_struck t sound.0 h)

    pub all_struck_of : (ts : Trees) → AreSound ts → ((n : ℕ) → Contains (numbers_of ts) n → Struck n) → AreZero (worths_by other ts)
    all_struck_of none sound h = tt
    all_struck_of (more t ts) sound h = (
      all_struck t sound.0 (λ n at. h n (Contains-append_left (numbers t) (numbers_of ts) n at)),
      all_struck_of ts sound.1 (λ n at. h n (Contains-append_right (numbers t) (numbers_of ts) n at)),
    )

  -- a struck list in two parts, over numbers in two parts that share none
  pub left_strikes : (ms ns xs ys : List ℕ) → ((n : ℕ) → Contains ms n → Contains ns n → ⊥) → ((n : ℕ) → Contains ys n → Contains ns n) →
      Strikes (ms ++ ns) (xs ++ ys) → Strikes ms xs
  left_strikes ms ns xs ys apart within h = record {
    these = λ n at. h.these n (Contains-append_left xs ys n at);
    no_others = λ n at struck.
        ⊎_elim (λ p. p) (λ p. absurd (apart n at (within n p)))
        (Contains-append_cases xs ys n (h.no_others n (Contains-append_left ms ns n at) struck));
  }

  pub right_strikes : (ms ns xs ys : List ℕ) → ((n : ℕ) → Contains ms n → Contains ns n → ⊥) → ((n : ℕ) → Contains xs n → Contains ms n) →
      Strikes (ms ++ ns) (xs ++ ys) → Strikes ns ys
  right_strikes ms ns xs ys apart within h = record {
    these = λ n at. h.these n (Contains-append_right xs ys n at);
    no_others = λ n at struck.
        ⊎_elim (λ p. absurd (apart n (within n p) at)) (λ p. p)
        (Contains-append_cases xs ys n (h.no_others n (Contains-append_right ms ns n at) struck));
  }

  by_cond : (b : Bool) (ns xs ys : List ℕ) (m n : ℕ) → (b ≡ true → Strikes ns xs → m ≡ n) → (b ≡ false → Strikes ns ys → m ≡ n) →
      Strikes ns (cond b xs ys) → m ≡ n
  by_cond true ns xs ys m n p q = p refl
  by_cond false ns xs ys m n p q = q refl

  idle_join : (op : Operator) (ts : Trees) → AreSound ts → (joined op (worths_by value ts) == 0) ≡ true → Strikes (numbers_of ts) (numbers_of ts) →
      joined op (worths_by other ts) ≡ joined op (worths_by value ts)
  idle_join op ts sound e h =
      joined-zero op (worths_by other ts) (all_struck_of ts sound h.these) ∙ sym (zero_from_test (joined op (worths_by value ts)) e)

  mutual
    -- striking what is idle keeps the worth
    pub struck_worth : (t : Tree) → IsSound t → AreApart t → Strikes (numbers t) (idle value t) → worth_by other t ≡ worth_by value t
    struck_worth (one l) sound apart =
        by_cond (value l == 0) (l.num ∷ []) (l.num ∷ []) [] (other l) (value l)
        (λ e h. zero_at l sound.0 (h.these l.num (0, omega arith, refl)) ∙ sym (zero_from_test (value l) e))
        (λ e h. same_at l (λ struck. nothing_in_nil l.num (h.no_others l.num (0, omega arith, refl) struck)))
    struck_worth (join greatest ts) sound apart =
        by_cond (greatest_of (worths_by value ts) == 0) (numbers_of ts) (numbers_of ts) (idle_but_first value (greatest_of (worths_by value ts)) ts)
        (greatest_of (worths_by other ts)) (greatest_of (worths_by value ts)) (idle_join greatest ts sound.1)
        (λ e h. struck_but_first (greatest_of (worths_by value ts)) ts sound.1 apart refl h)
    struck_worth (join least ts) sound apart =
        by_cond (least_of (worths_by value ts) == 0) (numbers_of ts) (numbers_of ts) (idle_each value ts)
        (least_of (worths_by other ts)) (least_of (worths_by value ts)) (idle_join least ts sound.1)
        (λ e h. ap least_of (struck_each ts sound.1 apart h))
    struck_worth (join added ts) sound apart =
        by_cond (added_of (worths_by value ts) == 0) (numbers_of ts) (numbers_of ts) (idle_each value ts)
        (added_of (worths_by other ts)) (added_of (worths_by value ts)) (idle_join added ts sound.1)
        (λ e h. ap added_of (struck_each ts sound.1 apart h))
    struck_worth (scale t s) sound apart =
        by_cond (worth_by value (scale t s) == 0) (numbers t) (numbers t) (idle value t) (s * worth_by other t) (s * worth_by value t)
        (λ e h. ap (λ n. s * n) (all_struck t sound.0 h.these) ∙ mul-zero s ∙ sym (zero_from_test (s * worth_by value t) e))
        (λ e h. ap (λ n. s * n) (struck_worth t sound.0 apart h))
    struck_worth (barrier t v) sound apart =
        by_cond (worth_by value (barrier t v) == 0) (numbers t) (numbers t) (idle value t) (worth_by other (barrier t v)) (worth_by value (barrier t v))
        (λ e h. barrier-zero v (worth_by other t) (all_struck t sound.0 h.these) ∙ sym (zero_from_test (worth_by value (barrier t v)) e))
        (λ e h. ap (λ n. cond (nat_le v n) v 0) (struck_worth t sound.0 apart h))

    struck_each : (ts : Trees) → AreSound ts → AreApartOf ts → Strikes (numbers_of ts) (idle_each value ts) →
        worths_by other ts ≡ worths_by value ts
    struck_each none sound apart h = refl
    struck_each (more t ts) sound apart h =
        let first = struck_worth t sound.0 apart.0 (left_strikes (numbers t) (numbers_of ts) (idle value t) (idle_each value ts) apart.2 (each_below value ts) h) in
        let rest = struck_each ts sound.1 apart.1 (right_strikes (numbers t) (numbers_of ts) (idle value t) (idle_each value ts) apart.2 (idle_below value t) h) in
        cc

    struck_but_first : (best : ℕ) (ts : Trees) → AreSound ts → AreApartOf ts → best ≡ greatest_of (worths_by value ts) →
        Strikes (numbers_of ts) (idle_but_first value best ts) → greatest_of (worths_by other ts) ≡ greatest_of (worths_by value ts)
    struck_but_first best none sound apart is h = refl
    struck_but_first best (more t ts) sound apart is h =
        by_cond (worth_by value t == best) (numbers t ++ numbers_of ts) (idle value t ++ numbers_of ts) (numbers t ++ idle_but_first value best ts)
        (greatest_of (worths_by other (more t ts))) (greatest_of (worths_by value (more t ts)))
        (λ e h.
        let first = struck_worth t sound.0 apart.0 (left_strikes (numbers t) (numbers_of ts) (idle value t) (numbers_of ts) apart.2 (λ n at. at) h) in
        let rest = greatest_of-zero (worths_by other ts) (all_struck_of ts sound.1 (right_strikes (numbers t) (numbers_of ts) (idle value t) (numbers_of ts) apart.2 (idle_below value t) h).these) in
        omega (arith, first, rest, is, eq_from_test (worth_by value t) best e))
        (λ e h.
        let other_best : best ≡ greatest_of (worths_by value ts) = omega (arith, is, ne_from_test (worth_by value t) best e) in
        let first = all_struck t sound.0 (left_strikes (numbers t) (numbers_of ts) (numbers t) (idle_but_first value best ts) apart.2 (but_first_below value best ts) h).these in
        let rest = struck_but_first best ts sound.1 apart.1 other_best (right_strikes (numbers t) (numbers_of ts) (numbers t) (idle_but_first value best ts) apart.2 (λ n at. at) h) in
        omega (arith, first, rest, is, other_best))
        h
