-- The trimmed grants are thrifty.
use Rattle.std.proofs.Common.{◌≡◌, ℕ, ◌⊎◌, Bool, true, false, cond, not, ◌&&◌, ◌==◌, List, [], ◌∷◌, ◌++◌, ◌+◌, length, Contains, map, subst, refl, sym, ap, ◌∙◌, inl, inr, ⊎_elim, arith, true≢false}
use Rattle.std.specs.List.{filter, list_any, position_from}
use Rattle.std.specs.Prelude.{Some, None, ◌↔◌}
use Rattle.std.proofs.lemmas.Bool.Decides.{nat_tests}
use Rattle.std.proofs.lemmas.List.Elements.{Contains-append_cases, Contains-append_right}
use Rattle.std.proofs.lemmas.Option.{none-some}
use Rattle.tetri_strl.specs.declared.expr.Leaf.{Leaf}
use Rattle.tetri_strl.specs.declared.grants.Grant.{Grant}
use Rattle.tetri_strl.specs.Thrifty.{IsBare, AtMostOne, IsThrifty, AreThrifty, held_leaves, IsThriftyFor}
use Rattle.tetri_strl.specs.Tree.{greatest, least, added, Tree, one, join, scale, barrier, Trees, none, more, numbers, numbers_of}
use Rattle.tetri_strl.specs.Trim.{idle, idle_each, idle_but_first, earns, wastes, trimmed, first_waste}
use Rattle.tetri_strl.specs.WellMade.{IsGoodLeaf, IsSound, AreSound}
use Rattle.tetri_strl.specs.Worth.{granted, worth_at, leaf_worth, greatest_of, least_of, added_of, worth_by, worths_by}
use Rattle.tetri_strl.proofs.GrantLemmas.{leaf_worth-none}
use Rattle.tetri_strl.proofs.PartsApart.{AreApart, AreApartOf, the_one}
use Rattle.tetri_strl.proofs.ThriftyLemmas.{are_thrifty_of_bare, idle_of_thrifty, thrifty_of_bare, thrifty_of_idle}
use Rattle.tetri_strl.proofs.TrimLemmas.{Strikes, each_below, but_first_below, eq_from_test, idle_below, left_strikes, ne_from_test, nothing_in_nil, right_strikes, struck_worth}
use Rattle.tetri_strl.proofs.TrimWorth.{found_at, kept_granted, struck_granted, there_if_found}
use Rattle.tetri_strl.proofs.WorthLemmas.{worth_at-none}

-- `other` is `value` at the leaves that are not struck, and 0 at the others, of which none has a grant
module _ (value other : Leaf → ℕ) (Struck : ℕ → Type 0) (zero_at : (l : Leaf) → IsGoodLeaf l → Struck l.num → other l ≡ 0)
    (same_at : (l : Leaf) → (Struck l.num → ⊥) → other l ≡ value l) (held : List ℕ) (bare : (n : ℕ) → Struck n → Contains held n → ⊥) where
  abbrev Hits : List ℕ → List ℕ → Type 0
  Hits = Strikes value other Struck zero_at same_at

  -- the laws of struck leaves, at these arguments
  keeps : (t : Tree) → IsSound t → AreApart t → Hits (numbers t) (idle value t) → worth_by other t ≡ worth_by value t
  keeps = struck_worth value other Struck zero_at same_at

  left_hits : (ms ns xs ys : List ℕ) → ((n : ℕ) → Contains ms n → Contains ns n → ⊥) → ((n : ℕ) → Contains ys n → Contains ns n) →
      Hits (ms ++ ns) (xs ++ ys) → Hits ms xs
  left_hits = left_strikes value other Struck zero_at same_at

  right_hits : (ms ns xs ys : List ℕ) → ((n : ℕ) → Contains ms n → Contains ns n → ⊥) → ((n : ℕ) → Contains xs n → Contains ms n) →
      Hits (ms ++ ns) (xs ++ ys) → Hits ns ys
  right_hits = right_strikes value other Struck zero_at same_at

  by_kind : (b : Bool) (ns xs ys : List ℕ) (Goal : Type 0) → (b ≡ true → Hits ns xs → Goal) → (b ≡ false → Hits ns ys → Goal) →
      Hits ns (cond b xs ys) → Goal
  by_kind true ns xs ys Goal p q = p refl
  by_kind false ns xs ys Goal p q = q refl

  hit_bare : (ns xs : List ℕ) → Hits ns xs → IsBare other held xs
  hit_bare ns xs h n at = bare n (h.these n at)

  -- what is worth something here was worth something before
  some_before : (t : Tree) (n : ℕ) → worth_by other t ≡ worth_by value t → n ≡ worth_by value t → (n == 0) ≡ false → worth_by other t ≡ 0 → ⊥
  some_before t n same is some zero = ne_from_test n 0 some (is ∙ sym same ∙ zero)

  mutual
    pub kept_thrifty : (t : Tree) → IsSound t → AreApart t → Hits (numbers t) (idle value t) → IsThrifty other held t
    kept_thrifty (one l) sound apart h0 =
        by_kind (value l == 0) (l.num ∷ []) (l.num ∷ []) [] (IsThrifty other held (one l))
        (λ e h z. hit_bare (l.num ∷ []) (l.num ∷ []) h)
        (λ e h z. absurd (ne_from_test (value l) 0 e
        (sym (same_at l (λ struck. nothing_in_nil l.num (h.no_others l.num (0, omega arith, refl) struck))) ∙ z)))
        h0
    kept_thrifty (join greatest ts) sound apart h0 =
        by_kind (greatest_of (worths_by value ts) == 0) (numbers_of ts) (numbers_of ts) (idle_but_first value (greatest_of (worths_by value ts)) ts)
        (IsThrifty other held (join greatest ts)) (λ e h. thrifty_of_bare other held (join greatest ts) (hit_bare (numbers_of ts) (numbers_of ts) h))
        (λ e h. let rest = but_first_kept (greatest_of (worths_by value ts)) ts sound.1 apart h in
        ((λ z. absurd (some_before (join greatest ts) (greatest_of (worths_by value ts)) (keeps (join greatest ts) sound apart h0) refl e z)), rest.0, rest.1)) h0
    kept_thrifty (join least ts) sound apart h0 =
        by_kind (least_of (worths_by value ts) == 0) (numbers_of ts) (numbers_of ts) (idle_each value ts)
        (IsThrifty other held (join least ts)) (λ e h. thrifty_of_bare other held (join least ts) (hit_bare (numbers_of ts) (numbers_of ts) h))
        (λ e h. (
          (λ z. absurd (some_before (join least ts) (least_of (worths_by value ts)) (keeps (join least ts) sound apart h0) refl e z)),
          tt,
          each_kept ts sound.1 apart h,
        )) h0
    kept_thrifty (join added ts) sound apart h0 =
        by_kind (added_of (worths_by value ts) == 0) (numbers_of ts) (numbers_of ts) (idle_each value ts)
        (IsThrifty other held (join added ts)) (λ e h. thrifty_of_bare other held (join added ts) (hit_bare (numbers_of ts) (numbers_of ts) h))
        (λ e h. (
          (λ z. absurd (some_before (join added ts) (added_of (worths_by value ts)) (keeps (join added ts) sound apart h0) refl e z)),
          tt,
          each_kept ts sound.1 apart h,
        )) h0
    kept_thrifty (scale t s) sound apart h0 =
        by_kind (worth_by value (scale t s) == 0) (numbers t) (numbers t) (idle value t) (IsThrifty other held (scale t s))
        (λ e h. thrifty_of_bare other held (scale t s) (hit_bare (numbers t) (numbers t) h))
        (λ e h. (
          (λ z. absurd (some_before (scale t s) (worth_by value (scale t s)) (keeps (scale t s) sound apart h0) refl e z)),
          kept_thrifty t sound.0 apart h,
        )) h0
    kept_thrifty (barrier t v) sound apart h0 =
        by_kind (worth_by value (barrier t v) == 0) (numbers t) (numbers t) (idle value t) (IsThrifty other held (barrier t v))
        (λ e h. thrifty_of_bare other held (barrier t v) (hit_bare (numbers t) (numbers t) h))
        (λ e h. (
          (λ z. absurd (some_before (barrier t v) (worth_by value (barrier t v)) (keeps (barrier t v) sound apart h0) refl e z)),
          kept_thrifty t sound.0 apart h,
        )) h0

    each_kept : (ts : Trees) → AreSound ts → AreApartOf ts → Hits (numbers_of ts) (idle_each value ts) → AreThrifty other held ts
    each_kept none sound apart h = tt
    each_kept (more t ts) sound apart h = (
      kept_thrifty t sound.0 apart.0 (left_hits (numbers t) (numbers_of ts) (idle value t) (idle_each value ts) apart.2 (each_below value ts) h),
      each_kept ts sound.1 apart.1 (right_hits (numbers t) (numbers_of ts) (idle value t) (idle_each value ts) apart.2 (idle_below value t) h),
    )

    but_first_kept : (best : ℕ) (ts : Trees) → AreSound ts → AreApartOf ts → Hits (numbers_of ts) (idle_but_first value best ts) →
        AtMostOne other held ts × AreThrifty other held ts
    but_first_kept best none sound apart h = (tt, tt)
    but_first_kept best (more t ts) sound apart h0 =
        by_kind (worth_by value t == best) (numbers t ++ numbers_of ts) (idle value t ++ numbers_of ts) (numbers t ++ idle_but_first value best ts)
        (AtMostOne other held (more t ts) × AreThrifty other held (more t ts))
        (λ e h.
        let first = kept_thrifty t sound.0 apart.0 (left_hits (numbers t) (numbers_of ts) (idle value t) (numbers_of ts) apart.2 (λ n at. at) h) in
        let others = hit_bare (numbers_of ts) (numbers_of ts) (right_hits (numbers t) (numbers_of ts) (idle value t) (numbers_of ts) apart.2 (idle_below value t) h) in
        (inr others, (first, are_thrifty_of_bare other held ts others)))
        (λ e h.
        let first = hit_bare (numbers t) (numbers t) (left_hits (numbers t) (numbers_of ts) (numbers t) (idle_but_first value best ts) apart.2 (but_first_below value best ts) h) in
        let rest = but_first_kept best ts sound.1 apart.1 (right_hits (numbers t) (numbers_of ts) (numbers t) (idle_but_first value best ts) apart.2 (λ n at. at) h) in
        (inl (first, rest.0), (thrifty_of_bare other held t first, rest.1)))
        h0

equal_test : (m n : ℕ) → m ≡ n → (m == n) ≡ true
equal_test m n e = grind (arith, nat_tests)

waste_test : (b c : Bool) → b ≡ true → c ≡ true → (b && c) ≡ true
waste_test b c p q = rw p (rw q refl)

-- the grants of a leaf of the job are the first's or a later one's
held_cases : (g : Grant) (gs : List Grant) (job n : ℕ) → Contains (held_leaves (g ∷ gs) job) n →
    (((g.job == job) ≡ true) × (g.leaf ≡ n)) ⊎ Contains (held_leaves gs job) n
held_cases g gs job n = by_test (g.job == job)
  where
    by_test : (b : Bool) → Contains (map (λ h. h.leaf) (cond b (g ∷ filter (λ h. h.job == job) gs) (filter (λ h. h.job == job) gs))) n →
        ((b ≡ true) × (g.leaf ≡ n)) ⊎ Contains (held_leaves gs job) n
    by_test false at = inr at
    by_test true at =
        ⊎_elim (λ h. inl (refl, the_one g.leaf n h)) inr (Contains-append_cases (g.leaf ∷ []) (held_leaves gs job) n at)

-- the other way about
held_first : (g : Grant) (gs : List Grant) (job : ℕ) → (g.job == job) ≡ true → Contains (held_leaves (g ∷ gs) job) g.leaf
held_first g gs job own =
    subst (λ b. Contains (map (λ h. h.leaf) (cond b (g ∷ filter (λ h. h.job == job) gs) (filter (λ h. h.job == job) gs))) g.leaf) (sym own) (0, omega arith, refl)

held_later : (g : Grant) (gs : List Grant) (job n : ℕ) → Contains (held_leaves gs job) n → Contains (held_leaves (g ∷ gs) job) n
held_later g gs job n at = by_test (g.job == job)
  where
    by_test : (b : Bool) → Contains (map (λ h. h.leaf) (cond b (g ∷ filter (λ h. h.job == job) gs) (filter (λ h. h.job == job) gs))) n
    by_test true = Contains-append_right (g.leaf ∷ []) (held_leaves gs job) n at
    by_test false = at

-- a leaf without a grant is granted no node
no_nodes : (b c : Bool) (m n : ℕ) → (b ≡ true → c ≡ true → ⊥) → n ≡ 0 → cond (b && c) m 0 + n ≡ 0
no_nodes true true m n never rest = absurd (never refl refl)
no_nodes true false m n never rest = omega (arith, rest)
no_nodes false c m n never rest = omega (arith, rest)

pub ungranted : (a : List Grant) (job leaf : ℕ) → (Contains (held_leaves a job) leaf → ⊥) → granted a job leaf ≡ 0
ungranted [] job leaf away = refl
ungranted (g ∷ gs) job leaf away =
    no_nodes (g.job == job) (g.leaf == leaf) (length g.nodes) (granted gs job leaf)
    (λ own same. away (subst (Contains (held_leaves (g ∷ gs) job)) (eq_from_test g.leaf leaf same) (held_first g gs job own)))
    (ungranted gs job leaf (λ at. away (held_later g gs job leaf at)))

module _ (job : ℕ) (ns : List ℕ) where
  -- no grant of these leaves is left
  kept_bare : (a : List Grant) (n : ℕ) → Contains ns n → Contains (held_leaves (filter (earns job ns) a) job) n → ⊥
  kept_bare [] n at there = nothing_in_nil n there
  kept_bare (g ∷ gs) n at there =
      by_test (g.job == job) (list_any (λ k. k == g.leaf) ns) (λ same. found_at ns n g.leaf at (equal_test g.leaf n same)) (kept_bare gs n at) there
    where
      by_test : (b c : Bool) → (g.leaf ≡ n → c ≡ true) → (Contains (held_leaves (filter (earns job ns) gs) job) n → ⊥) →
          Contains (held_leaves (cond (b && not c) (g ∷ filter (earns job ns) gs) (filter (earns job ns) gs)) job) n → ⊥
      by_test true true found rest there = rest there
      by_test true false found rest there = ⊎_elim (λ h. true≢false (sym (found h.1))) rest (held_cases g (filter (earns job ns) gs) job n there)
      by_test false c found rest there = rest there

  -- where no grant is wasted, none of the leaves has one
  bare_of_none : (a : List Grant) (i : ℕ) → position_from (wastes job ns) i a ≡ None → (n : ℕ) → Contains ns n → Contains (held_leaves a job) n → ⊥
  bare_of_none [] i h n at there = nothing_in_nil n there
  bare_of_none (g ∷ gs) i h n at there =
      by_test (wastes job ns g)
      (λ own same. waste_test (g.job == job) (list_any (λ k. k == g.leaf) ns) own (found_at ns n g.leaf at (equal_test g.leaf n same)))
      (λ none_later. bare_of_none gs (i + 1) none_later n at) h
    where
      by_test : (b : Bool) → ((g.job == job) ≡ true → g.leaf ≡ n → b ≡ true) →
          (position_from (wastes job ns) (i + 1) gs ≡ None → Contains (held_leaves gs job) n → ⊥) →
          cond b (Some i) (position_from (wastes job ns) (i + 1) gs) ≡ None → ⊥
      by_test true wasted rest h = none-some i (sym h)
      by_test false wasted rest h = ⊎_elim (λ w. true≢false (sym (wasted w.0 w.1))) (rest h) (held_cases g gs job n there)

  none_of_bare : (value : Leaf → ℕ) (a : List Grant) (i : ℕ) → IsBare value (held_leaves a job) ns → position_from (wastes job ns) i a ≡ None
  none_of_bare value [] i bare = refl
  none_of_bare value (g ∷ gs) i bare =
      by_test (g.job == job) (list_any (λ k. k == g.leaf) ns)
      (λ own found. bare g.leaf (there_if_found ns g.leaf g.leaf found (equal_test g.leaf g.leaf refl)) (held_first g gs job own))
      (none_of_bare value gs (i + 1) (λ n at there. bare n at (held_later g gs job n there)))
    where
      by_test : (b c : Bool) → (b ≡ true → c ≡ true → ⊥) → position_from (wastes job ns) (i + 1) gs ≡ None →
          cond (b && c) (Some i) (position_from (wastes job ns) (i + 1) gs) ≡ None
      by_test true true never rest = absurd (never refl refl)
      by_test true false never rest = rest
      by_test false c never rest = rest

pub trimmed_thrifty : (a : List Grant) (job : ℕ) (t : Tree) → IsSound t → AreApart t → IsThriftyFor (trimmed a job t) job t
trimmed_thrifty a job t sound apart =
    kept_thrifty (leaf_worth a job) (leaf_worth (trimmed a job t) job) (Contains (idle (leaf_worth a job) t))
    (λ l good struck. ap (worth_at l) (struck_granted job l.num (idle (leaf_worth a job) t) a struck) ∙ worth_at-none l good)
    (λ l away. ap (worth_at l) (kept_granted job l.num (idle (leaf_worth a job) t) a away))
    (held_leaves (trimmed a job t) job) (kept_bare job (idle (leaf_worth a job) t) a)
    t sound apart (record { these = λ n at. at; no_others = λ n at struck. struck })

-- an allotment wastes nothing exactly where it is thrifty
pub waste_is_exact : (a : List Grant) (job : ℕ) (t : Tree) → IsSound t → (first_waste a job t ≡ None) ↔ IsThriftyFor a job t
waste_is_exact a job t sound = (
  λ h. thrifty_of_idle (leaf_worth a job) (held_leaves a job) t (bare_of_none job (idle (leaf_worth a job) t) a 0 h),
  λ th. none_of_bare job (idle (leaf_worth a job) t) (leaf_worth a job) a 0
      (idle_of_thrifty (leaf_worth a job) (held_leaves a job) (λ l good away. leaf_worth-none a job l good (ungranted a job l.num away)) t sound th),
)
