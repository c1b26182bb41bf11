-- The slots in which nodes close and open.
use Rattle.std.proofs.Common.{◌≡◌, ◌⊎◌, ℕ, zero, suc, ◌+◌, ◌-◌, ◌<◌, ◌≤◌, max, ◌==◌, ◌&&◌, ◌||◌, not, Bool, true, false, List, [], ◌∷◌, refl, sym, ap, ◌∙◌, arith, true≢false, inl, inr}
use Rattle.std.specs.Prelude.{nat_le}
use Rattle.std.specs.List.{flat_map}
use Rattle.std.proofs.lemmas.Bool.{cases_Bool, cases_lt, cases_order}
use Rattle.std.proofs.lemmas.Bool.Decides.{nat_tests}
use Rattle.tetri_base.specs.Lists.{has, Each, Ascends}
use Rattle.tetri_base.proofs.ListLaws.{Each-map, test_from_eq, eq_from_test}
use Rattle.tetri_space.specs.Closed.{closes, is_closed_by, is_odd_at}
use Rattle.tetri_space.specs.declared.closure.Closure.{Closure}

pub le_true : (x y : ℕ) → x ≤ y → nat_le x y ≡ true
le_true x y h = grind (arith, nat_tests)

pub le_false : (x y : ℕ) → y < x → nat_le x y ≡ false
le_false x y h = grind (arith, nat_tests)

pub from_le : (x y : ℕ) → nat_le x y ≡ true → x ≤ y
from_le x y h = grind (arith, nat_tests)

or_parts : (b c : Bool) → (b || c) ≡ false → (b ≡ false) × (c ≡ false)
or_parts true c e = absurd (true≢false e)
or_parts false c e = (refl, e)

-- ---- between two turns no node closes or opens
module _ (now : ℕ) where
  abbrev pub turns_in : List Closure → List ℕ
  turns_in cs = flat_map (λ c. max now c.from ∷ max now (c.to + 1) ∷ []) cs

  from_step : (a t : ℕ) → now ≤ t → (max now a ≡ t + 1 → ⊥) → nat_le a (t + 1) ≡ nat_le a t
  from_step a t low none = elim (cases_lt t a) [
    | inl lt ↦ le_false a (t + 1) (omega arith) ∙ sym (le_false a t lt)
    | inr ge ↦ le_true a (t + 1) (omega arith) ∙ sym (le_true a t ge)
  ]

  to_step : (b t : ℕ) → now ≤ t → (max now (b + 1) ≡ t + 1 → ⊥) → nat_le (t + 1) b ≡ nat_le t b
  to_step b t low none = elim (cases_lt t b) [
    | inl lt ↦ le_true (t + 1) b (omega arith) ∙ sym (le_true t b (omega arith))
    | inr ge ↦ le_false (t + 1) b (omega arith) ∙ sym (le_false t b (omega arith))
  ]

  not_eq : (m n : ℕ) → (m == n) ≡ false → m ≡ n → ⊥
  not_eq m n e same = true≢false (sym (test_from_eq m n same) ∙ e)

  -- no closure begins or is over in a slot that is no turn
  record IsSteady (u : ℕ) (c : Closure) : Type 0 where
    begins : max now c.from ≡ u → ⊥
    ends : max now (c.to + 1) ≡ u → ⊥

  steady : (cs : List Closure) (u : ℕ) → has (turns_in cs) u ≡ false → Each (IsSteady u) cs
  steady [] u e = tt
  steady (c ∷ cs) u e =
      let one = or_parts (max now c.from == u) _ e in
      let two = or_parts (max now (c.to + 1) == u) (has (turns_in cs) u) one.1 in
      (record { begins = not_eq (max now c.from) u one.0; ends = not_eq (max now (c.to + 1)) u two.0 }, steady cs u two.1)

  closes_step : (n t : ℕ) (c : Closure) → now ≤ t → IsSteady (t + 1) c → closes n (t + 1) c ≡ closes n t c
  closes_step n t c low h =
      ap (λ b. c.node == n && b && nat_le (t + 1) c.to) (from_step c.from t low h.begins) ∙ ap (λ b. c.node == n && nat_le c.from t && b) (to_step c.to t low h.ends)

  closed_step : (cs : List Closure) (n t : ℕ) → now ≤ t → Each (IsSteady (t + 1)) cs → is_closed_by cs n (t + 1) ≡ is_closed_by cs n t
  closed_step [] n t low h = refl
  closed_step (c ∷ cs) n t low h = ap (λ b. b || is_closed_by cs n (t + 1)) (closes_step n t c low h.0) ∙ ap (λ b. closes n t c || b) (closed_step cs n t low h.1)

  closes_none : (n : ℕ) (c : Closure) → IsSteady now c → closes n now c ≡ false
  closes_none n c h =
      let late : now < c.from = not_early (cases_lt now c.from) in
      ap (λ b. c.node == n && b && nat_le now c.to) (le_false c.from now late) ∙ and_middle (c.node == n) (nat_le now c.to)
    where
      and_middle : (b d : Bool) → (b && false && d) ≡ false
      and_middle true d = refl
      and_middle false d = refl

      not_early : (now < c.from) ⊎ (c.from ≤ now) → now < c.from
      not_early (inl lt) = lt
      not_early (inr ge) = absurd (h.begins (omega arith))

  closed_first : (cs : List Closure) (n : ℕ) → Each (IsSteady now) cs → is_closed_by cs n now ≡ false
  closed_first [] n h = refl
  closed_first (c ∷ cs) n h = ap (λ b. b || is_closed_by cs n now) (closes_none n c h.0) ∙ closed_first cs n h.1

  module _ (cs : List Closure) (m n : ℕ) (alike : (u : ℕ) → has (turns_in cs) u ≡ true → is_closed_by cs m u ≡ is_closed_by cs n u) where
    after_now : (k : ℕ) → is_closed_by cs m (now + k) ≡ is_closed_by cs n (now + k)
    after_now zero = ap (is_closed_by cs m) (omega arith) ∙ first (cases_Bool (has (turns_in cs) now)) ∙ ap (is_closed_by cs n) (omega arith)
      where
        first : (has (turns_in cs) now ≡ true) ⊎ (has (turns_in cs) now ≡ false) → is_closed_by cs m now ≡ is_closed_by cs n now
        first (inl e) = alike now e
        first (inr e) = closed_first cs m (steady cs now e) ∙ sym (closed_first cs n (steady cs now e))
    after_now (suc k) = ap (is_closed_by cs m) (omega arith) ∙ next (cases_Bool (has (turns_in cs) (now + k + 1))) (after_now k) ∙ ap (is_closed_by cs n) (omega arith)
      where
        next : (has (turns_in cs) (now + k + 1) ≡ true) ⊎ (has (turns_in cs) (now + k + 1) ≡ false) → is_closed_by cs m (now + k) ≡ is_closed_by cs n (now + k) →
            is_closed_by cs m (now + k + 1) ≡ is_closed_by cs n (now + k + 1)
        next (inl e) rest = alike (now + k + 1) e
        next (inr e) rest =
            let h = steady cs (now + k + 1) e in
            closed_step cs m (now + k) (omega arith) h ∙ rest ∙ sym (closed_step cs n (now + k) (omega arith) h)

    -- nodes that are alike at the turns are alike in every slot from now on
    pub alike_from_now : (t : ℕ) → now ≤ t → is_closed_by cs m t ≡ is_closed_by cs n t
    alike_from_now t le = let e : now + (t - now) ≡ t = omega arith in ap (is_closed_by cs m) (sym e) ∙ after_now (t - now) ∙ ap (is_closed_by cs n) e

  pub turns_late : (cs : List Closure) (u : ℕ) → has (turns_in cs) u ≡ true → now ≤ u
  turns_late [] u e = absurd (true≢false (sym e))
  turns_late (c ∷ cs) u e = by_tests (turns_late cs u) (cases_Bool (max now c.from == u)) (cases_Bool (max now (c.to + 1) == u))
    where
      by_tests : (has (turns_in cs) u ≡ true → now ≤ u) → ((max now c.from == u) ≡ true) ⊎ ((max now c.from == u) ≡ false) →
          ((max now (c.to + 1) == u) ≡ true) ⊎ ((max now (c.to + 1) == u) ≡ false) → now ≤ u
      by_tests rest (inl a) b = omega (arith, eq_from_test (max now c.from) u a)
      by_tests rest (inr a) (inl b) = omega (arith, eq_from_test (max now (c.to + 1)) u b)
      by_tests rest (inr a) (inr b) = rest (sym (ap (λ x. x || ((max now (c.to + 1) == u) || has (turns_in cs) u)) a ∙ ap (λ x. x || has (turns_in cs) u) b) ∙ e)

-- ---- ascending numbers by how many of them are at most a number
pub odd_before : (xs : List ℕ) (t : ℕ) → Each (λ x. t < x) xs → is_odd_at xs t ≡ false
odd_before [] t h = refl
odd_before (x ∷ xs) t h = ap (λ b. b && not (is_odd_at xs t)) (le_false x t h.0)

odd_here : (x : ℕ) (xs : List ℕ) → Each (λ y. x < y) xs → is_odd_at (x ∷ xs) x ≡ true
odd_here x xs h = ap (λ b. b && not (is_odd_at xs x)) (le_true x x (omega arith)) ∙ ap not (odd_before xs x h)

-- they are the same where from some number on an odd number of them is at most it in the same places
pub same_turns : (low : ℕ) (xs ys : List ℕ) → Ascends xs → Ascends ys → Each (λ x. low ≤ x) xs → Each (λ y. low ≤ y) ys →
    ((t : ℕ) → low ≤ t → is_odd_at xs t ≡ is_odd_at ys t) → xs ≡ ys
same_turns low [] [] up others_up at other_at same = refl
same_turns low [] (y ∷ ys) up others_up at other_at same = absurd (true≢false (sym (odd_here y ys others_up.0) ∙ sym (same y other_at.0)))
same_turns low (x ∷ xs) [] up others_up at other_at same = absurd (true≢false (sym (odd_here x xs up.0) ∙ same x at.0))
same_turns low (x ∷ xs) (y ∷ ys) up others_up at other_at same =
    elim (cases_order x y) [
      | inl e ↦ ap (λ z. z ∷ xs) e ∙ ap (λ zs. y ∷ zs) (same_turns (x + 1) xs ys up.1 others_up.1
          (Each-map (λ z. x < z) (λ z. x + 1 ≤ z) (λ z lt. omega arith) xs up.0)
          (Each-map (λ z. y < z) (λ z. x + 1 ≤ z) (λ z lt. omega (arith, e, lt)) ys others_up.0) (later e))
      | inr (inl lt) ↦ absurd (true≢false (sym (odd_here x xs up.0) ∙ same x at.0 ∙ ap (λ b. b && not (is_odd_at ys x)) (le_false y x lt)))
      | inr (inr gt) ↦ absurd (true≢false (sym (odd_here y ys others_up.0) ∙ sym (same y other_at.0) ∙ ap (λ b. b && not (is_odd_at xs y)) (le_false x y gt)))
    ]
  where
    not_inj : (b c : Bool) → not b ≡ not c → b ≡ c
    not_inj true true e = refl
    not_inj false false e = refl
    not_inj true false e = sym e
    not_inj false true e = sym e

    later : x ≡ y → (t : ℕ) → x + 1 ≤ t → is_odd_at xs t ≡ is_odd_at ys t
    later e t le =
        not_inj (is_odd_at xs t) (is_odd_at ys t)
        (sym (ap (λ b. b && not (is_odd_at xs t)) (le_true x t (omega arith))) ∙ same t (omega (arith, at.0)) ∙ ap (λ b. b && not (is_odd_at ys t)) (le_true y t (omega (arith, e))))
