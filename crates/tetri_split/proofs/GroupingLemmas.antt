-- A job that comes after all others, put into a group or into a new one.
use Rattle.std.proofs.Common.{◌≡◌, ◌⊎◌, ℕ, zero, suc, ◌+◌, ◌<◌, ◌≤◌, ◌==◌, Bool, true, false, List, [], ◌∷◌, ◌++◌, length, get_or, set, All, AllPairs, Contains, Option, Some, None, refl, sym, ap, ◌∙◌, subst, arith, true≢false, inl, inr}
use Rattle.std.specs.List.{Any}
use Rattle.std.specs.List.Sorted.{IsStrictlyIncreasing}
use Rattle.std.proofs.lemmas.Bool.{cases_lt}
use Rattle.std.proofs.lemmas.List.{get_or-set_other, get_or-set_same, get_or_append_left, get_or_default, get_or_push, length-append, length-set}
use Rattle.std.proofs.lemmas.List.Elements.{All-contains, All-push, All-set, All-weaker, Contains-append_left, Contains-get_or, Contains-push, Contains-push_cases}
use Rattle.std.proofs.lemmas.List.Quantifiers.{Any-push, all_pairs_push}
use Rattle.std.proofs.lemmas.Option.{same_Some}
use Rattle.tetri_base.proofs.ListLaws.{eq_from_test, test_from_eq}
use Rattle.tetri_split.specs.Grouped.{AreAlike, AreGroups, ArePlaces, AreUnlike}
use Rattle.tetri_split.specs.Parts.{first_job}

some_none : (x : ℕ) → Some x ≡ None → ⊥
some_none x e = cc

cases_same : (x y : ℕ) → (x ≡ y) ⊎ (x ≡ y → ⊥)
cases_same x y = by_test (x == y) (eq_from_test x y) (λ f same. true≢false (sym (test_from_eq x y same) ∙ f))
  where
    by_test : (t : Bool) → (t ≡ true → x ≡ y) → (t ≡ false → x ≡ y → ⊥) → (x ≡ y) ⊎ (x ≡ y → ⊥)
    by_test true p q = inl (p refl)
    by_test false p q = inr (q refl)

-- ---- lists of which one item is replaced
module _ {X : Type 0} (xs : List X) (k : ℕ) (new : X) (lt : k < length xs) where
  -- what holds of each two still holds, where it holds of the new item with each other
  pub pairs_set : (R : X → X → Type 0) → AllPairs R xs → ((q : X) → Contains xs q → R q (get_or xs k new) → R q new) →
      ((q : X) → Contains xs q → R (get_or xs k new) q → R new q) → AllPairs R (set xs k new)
  pairs_set R pairs below above i j d less within =
      let j_lt : j < length xs = omega (arith, length-set xs k new) in
      let i_lt : i < length xs = omega arith in
      by_cases j_lt i_lt (cases_same i k) (cases_same j k)
    where
      by_cases : j < length xs → i < length xs → (i ≡ k) ⊎ (i ≡ k → ⊥) → (j ≡ k) ⊎ (j ≡ k → ⊥) → R (get_or (set xs k new) i d) (get_or (set xs k new) j d)
      by_cases j_lt i_lt (inl e) (inl f) = absurd (omega arith)
      by_cases j_lt i_lt (inl e) (inr other) =
          let old : R (get_or xs k new) (get_or xs j d) =
          subst (λ y. R y (get_or xs j d)) (ap (λ a. get_or xs a d) e ∙ get_or_default xs k d new lt) (pairs i j d less j_lt) in
          subst (λ y. R y (get_or (set xs k new) j d)) (sym (ap (λ a. get_or (set xs k new) a d) e ∙ get_or-set_same xs k new d lt))
          (subst (R new) (sym (get_or-set_other xs k j new d other)) (above (get_or xs j d) (Contains-get_or xs j d j_lt) old))
      by_cases j_lt i_lt (inr other) (inl f) =
          let old : R (get_or xs i d) (get_or xs k new) =
          subst (R (get_or xs i d)) (ap (λ a. get_or xs a d) f ∙ get_or_default xs k d new lt) (pairs i j d less j_lt) in
          subst (R (get_or (set xs k new) i d)) (sym (ap (λ a. get_or (set xs k new) a d) f ∙ get_or-set_same xs k new d lt))
          (subst (λ y. R y new) (sym (get_or-set_other xs k i new d other)) (below (get_or xs i d) (Contains-get_or xs i d i_lt) old))
      by_cases j_lt i_lt (inr one) (inr other) =
          subst (λ y. R y (get_or (set xs k new) j d)) (sym (get_or-set_other xs k i new d one))
          (subst (R (get_or xs i d)) (sym (get_or-set_other xs k j new d other)) (pairs i j d less j_lt))

  pub any_set : (P : X → Type 0) → (P (get_or xs k new) → P new) → Any P xs → Any P (set xs k new)
  any_set P grows (m, x, m_lt, is, at) = by_cases (cases_same m k)
    where
      by_cases : (m ≡ k) ⊎ (m ≡ k → ⊥) → Any P (set xs k new)
      by_cases (inl e) = (
        k,
        new,
        omega (arith, length-set xs k new),
        get_or-set_same xs k new new lt,
        grows (subst P (sym is ∙ get_or_default xs m x new m_lt ∙ ap (λ a. get_or xs a new) e) at),
      )
      by_cases (inr other) = (m, x, omega (arith, length-set xs k new), get_or-set_other xs k m new x other ∙ is, at)

any_append : {X : Type 0} (P : X → Type 0) (xs : List X) (y : X) → Any P xs → Any P (xs ++ y ∷ [])
any_append P xs y (m, x, lt, is, at) = (m, x, omega (arith, length-append xs (y ∷ [])), get_or_append_left xs (y ∷ []) x m lt ∙ is, at)

-- a number that is greater than all goes last
increasing_push : (ns : List ℕ) (n : ℕ) → IsStrictlyIncreasing ns → All (λ m. m < n) ns → IsStrictlyIncreasing (ns ++ n ∷ [])
increasing_push ns n up below k lt = elim (cases_lt (k + 1) (length ns)) [
  | inl inside ↦
      let one = get_or_append_left ns (n ∷ []) 0 k (omega arith) in
      let other = get_or_append_left ns (n ∷ []) 0 (k + 1) inside in
      let before : get_or ns k 0 < get_or ns (k + 1) 0 = up k inside in
      omega (arith, one, other, before)
  | inr outside ↦
      let long : length ns ≡ k + 1 = omega (arith, length-append ns (n ∷ [])) in
      let one = get_or_append_left ns (n ∷ []) 0 k (omega arith) in
      let other = get_or_push ns n 0 (k + 1) long in
      let before : get_or ns k 0 < n = below k 0 (omega arith) in
      omega (arith, one, other, before)
]

single : (n k : ℕ) → Contains (n ∷ []) k → n ≡ k
single n k (zero, lt, is) = is
single n k (suc i, lt, is) = absurd (omega (arith, lt))

module _ (key : ℕ → Option ℕ) (jobs : List ℕ) (groups : List (List ℕ)) (job : ℕ) (later : All (λ j. j < job) jobs) (made : AreGroups key jobs groups) where
  -- members of groups come before the job
  member_before : (p : List ℕ) → Contains groups p → All (λ j. j < job) p
  member_before p at = All-weaker (Contains jobs) (λ j. j < job) (λ j has. All-contains (λ i. i < job) jobs j later has) p (All-contains (All (Contains jobs)) groups p made.pending at)

  first_member : (p : List ℕ) → Contains groups p → Contains p (first_job p)
  first_member p at = Contains-get_or p 0 0 (All-contains (λ q. 1 ≤ length q) groups p made.some_jobs at)

  pending_more : (p : List ℕ) → All (Contains jobs) p → All (Contains (jobs ++ job ∷ [])) p
  pending_more p h = All-weaker (Contains jobs) (Contains (jobs ++ job ∷ [])) (λ j at. Contains-append_left jobs (job ∷ []) j at) p h

  -- ---- a new group
  module _ (alone : (p : List ℕ) (i : ℕ) → Contains groups p → Contains p i → AreAlike key i job → ⊥) where
    pub new_group : AreGroups key (jobs ++ job ∷ []) (groups ++ (job ∷ []) ∷ [])
    new_group = record {
      covered = All-push (λ j. Any (λ p. Contains p j) (groups ++ (job ∷ []) ∷ [])) jobs job
          (All-weaker (λ j. Any (λ p. Contains p j) groups) (λ j. Any (λ p. Contains p j) (groups ++ (job ∷ []) ∷ [])) (λ j found. any_append (λ p. Contains p j) groups (job ∷ []) found) jobs made.covered)
          (Any-push (λ p. Contains p job) groups (job ∷ []) (0, omega arith, refl));
      pending = All-push (All (Contains (jobs ++ job ∷ []))) groups (job ∷ [])
          (All-weaker (All (Contains jobs)) (All (Contains (jobs ++ job ∷ []))) pending_more groups made.pending)
          (All-push (Contains (jobs ++ job ∷ [])) [] job (λ k d lt. absurd (omega (arith, lt))) (Contains-push jobs job));
      some_jobs = All-push (λ p. 1 ≤ length p) groups (job ∷ []) made.some_jobs (omega arith);
      ascending = All-push IsStrictlyIncreasing groups (job ∷ []) made.ascending (λ k lt. absurd (omega (arith, lt)));
      by_least = all_pairs_push (λ p q. first_job p < first_job q) groups (job ∷ []) made.by_least
          (λ k d lt.
          let p = get_or groups k d in
          let at = Contains-get_or groups k d lt in
          All-contains (λ j. j < job) p (first_job p) (member_before p at) (first_member p at));
      unlike = all_pairs_push (AreUnlike key) groups (job ∷ []) made.unlike
          (λ k d lt i j has_i has_j same. alone (get_or groups k d) i (Contains-get_or groups k d lt) has_i (subst (AreAlike key i) (sym (single job j has_j)) same));
      alike = All-push (λ p. (i j : ℕ) → Contains p i → Contains p j → AreAlike key i j) groups (job ∷ []) made.alike
          (λ i j has_i has_j. inl (sym (single job i has_i) ∙ single job j has_j));
    }

  alone_by_key : (places : List (Option ℕ)) (x : ℕ) → ArePlaces key places groups → get_or places x None ≡ None → key job ≡ Some x → (p : List ℕ) (i : ℕ) → Contains groups p → Contains p i →
      AreAlike key i job → ⊥
  alone_by_key places x at none own p i among has (inl e) = omega (arith, e, All-contains (λ j. j < job) p i (member_before p among) has)
  alone_by_key places x at none own p i among has (inr (y, of_i, of_job)) =
      All-contains (λ j. key j ≡ Some x → ⊥) p i (All-contains (All (λ j. key j ≡ Some x → ⊥)) groups p (at.nowhere x none) among) has
      (of_i ∙ ap Some (same_Some y x (sym of_job ∙ own)))

  alone_without : key job ≡ None → (p : List ℕ) (i : ℕ) → Contains groups p → Contains p i → AreAlike key i job → ⊥
  alone_without own p i among has (inl e) = omega (arith, e, All-contains (λ j. j < job) p i (member_before p among) has)
  alone_without own p i among has (inr (y, of_i, of_job)) = some_none y (sym of_job ∙ own)

  -- without a key
  pub put_alone : (places : List (Option ℕ)) → ArePlaces key places groups → key job ≡ None →
      AreGroups key (jobs ++ job ∷ []) (groups ++ (job ∷ []) ∷ []) × ArePlaces key places (groups ++ (job ∷ []) ∷ [])
  put_alone places at own = (
    new_group (alone_without own),
    record {
      there = λ x k e.
          let old = at.there x k e in (
            omega (arith, old.0, length-append groups ((job ∷ []) ∷ [])),
            subst (All (λ j. key j ≡ Some x)) (sym (get_or_append_left groups ((job ∷ []) ∷ []) [] k old.0)) old.1,
          );
      nowhere = λ x e. All-push (All (λ j. key j ≡ Some x → ⊥)) groups (job ∷ []) (at.nowhere x e)
          (λ k d lt has. some_none x (sym has ∙ ap key (sym (single job (get_or (job ∷ []) k d) (Contains-get_or (job ∷ []) k d lt))) ∙ own));
    },
  )

  -- with a key that no job has yet
  pub put_first : (places : List (Option ℕ)) (x : ℕ) → ArePlaces key places groups → get_or places x None ≡ None → x < length places → key job ≡ Some x →
      AreGroups key (jobs ++ job ∷ []) (groups ++ (job ∷ []) ∷ []) × ArePlaces key (set places x (Some (length groups))) (groups ++ (job ∷ []) ∷ [])
  put_first places x at none x_lt own = (
    new_group (alone_by_key places x at none own),
    record {
      there = λ y k e. there_by y k e (cases_same y x);
      nowhere = λ y e. nowhere_by y e (cases_same y x);
    },
  )
    where
      own_all : All (λ j. key j ≡ Some x) (job ∷ [])
      own_all k d lt = ap key (sym (single job (get_or (job ∷ []) k d) (Contains-get_or (job ∷ []) k d lt))) ∙ own

      there_by : (y k : ℕ) → get_or (set places x (Some (length groups))) y None ≡ Some k → (y ≡ x) ⊎ (y ≡ x → ⊥) →
          (k < length (groups ++ (job ∷ []) ∷ [])) × All (λ j. key j ≡ Some y) (get_or (groups ++ (job ∷ []) ∷ []) k [])
      there_by y k e (inl same) =
          let at_x : get_or (set places x (Some (length groups))) x None ≡ Some k = ap (λ z. get_or (set places x (Some (length groups))) z None) (sym same) ∙ e in
          let here : length groups ≡ k = same_Some (length groups) k (sym (get_or-set_same places x (Some (length groups)) None x_lt) ∙ at_x) in (
            omega (arith, here, length-append groups ((job ∷ []) ∷ [])),
            subst (All (λ j. key j ≡ Some y)) (sym (get_or_push groups (job ∷ []) [] k here)) (subst (λ z. All (λ j. key j ≡ Some z) (job ∷ [])) (sym same) own_all),
          )
      there_by y k e (inr other) =
          let old = at.there y k (sym (get_or-set_other places x y (Some (length groups)) None other) ∙ e) in (
            omega (arith, old.0, length-append groups ((job ∷ []) ∷ [])),
            subst (All (λ j. key j ≡ Some y)) (sym (get_or_append_left groups ((job ∷ []) ∷ []) [] k old.0)) old.1,
          )

      nowhere_by : (y : ℕ) → get_or (set places x (Some (length groups))) y None ≡ None → (y ≡ x) ⊎ (y ≡ x → ⊥) → All (All (λ j. key j ≡ Some y → ⊥)) (groups ++ (job ∷ []) ∷ [])
      nowhere_by y e (inl same) =
          absurd (some_none (length groups) (sym (get_or-set_same places x (Some (length groups)) None x_lt) ∙ ap (λ z. get_or (set places x (Some (length groups))) z None) (sym same) ∙ e))
      nowhere_by y e (inr other) =
          All-push (All (λ j. key j ≡ Some y → ⊥)) groups (job ∷ []) (at.nowhere y (sym (get_or-set_other places x y (Some (length groups)) None other) ∙ e))
          (λ k d lt has. other (same_Some y x (sym has ∙ own_all k d lt)))

  -- ---- with the key of a group
  module _ (places : List (Option ℕ)) (x k : ℕ) (at : ArePlaces key places groups) (found : get_or places x None ≡ Some k) (own : key job ≡ Some x) where
    lt : k < length groups
    lt = (at.there x k found).0

    abbrev group : List ℕ
    group = get_or groups k []

    have_key : All (λ j. key j ≡ Some x) group
    have_key = (at.there x k found).1

    among : Contains groups group
    among = Contains-get_or groups k [] lt

    -- a member of the group
    member : Contains group (first_job group)
    member = first_member group among

    grows_alike : (i j : ℕ) → Contains (group ++ job ∷ []) i → Contains (group ++ job ∷ []) j → AreAlike key i j
    grows_alike i j has_i has_j = by_cases (Contains-push_cases group job i has_i) (Contains-push_cases group job j has_j)
      where
        by_cases : Contains group i ⊎ (job ≡ i) → Contains group j ⊎ (job ≡ j) → AreAlike key i j
        by_cases (inl one) (inl other) = All-contains (λ p. (a b : ℕ) → Contains p a → Contains p b → AreAlike key a b) groups group made.alike among i j one other
        by_cases (inl one) (inr e) = inr (x, All-contains (λ a. key a ≡ Some x) group i have_key one, ap key (sym e) ∙ own)
        by_cases (inr e) (inl other) = inr (x, ap key (sym e) ∙ own, All-contains (λ a. key a ≡ Some x) group j have_key other)
        by_cases (inr e) (inr f) = inl (sym e ∙ f)

    -- a job that is alike the new one is alike a member of its group
    not_job : (q : List ℕ) (i : ℕ) → Contains groups q → Contains q i → AreAlike key i job → AreAlike key i (first_job group)
    not_job q i in_groups has (inl e) = absurd (omega (arith, e, All-contains (λ j. j < job) q i (member_before q in_groups) has))
    not_job q i in_groups has (inr (y, of_i, of_job)) =
        inr (x, of_i ∙ ap Some (same_Some y x (sym of_job ∙ own)), All-contains (λ a. key a ≡ Some x) group (first_job group) have_key member)

    turned : (i j : ℕ) → AreAlike key i j → AreAlike key j i
    turned i j (inl e) = inl (sym e)
    turned i j (inr (y, of_i, of_j)) = inr (y, of_j, of_i)

    unlike_below : (q : List ℕ) → Contains groups q → AreUnlike key q (get_or groups k (group ++ job ∷ [])) → AreUnlike key q (group ++ job ∷ [])
    unlike_below q in_groups unlike i j has_i has_j same = by_cases (Contains-push_cases group job j has_j)
      where
        unlike_group : AreUnlike key q group
        unlike_group = subst (AreUnlike key q) (get_or_default groups k (group ++ job ∷ []) [] lt) unlike

        by_cases : Contains group j ⊎ (job ≡ j) → ⊥
        by_cases (inl other) = unlike_group i j has_i other same
        by_cases (inr e) = unlike_group i (first_job group) has_i member (not_job q i in_groups has_i (subst (AreAlike key i) (sym e) same))

    unlike_above : (q : List ℕ) → Contains groups q → AreUnlike key (get_or groups k (group ++ job ∷ [])) q → AreUnlike key (group ++ job ∷ []) q
    unlike_above q in_groups unlike i j has_i has_j same = by_cases (Contains-push_cases group job i has_i)
      where
        unlike_group : AreUnlike key group q
        unlike_group = subst (λ p. AreUnlike key p q) (get_or_default groups k (group ++ job ∷ []) [] lt) unlike

        by_cases : Contains group i ⊎ (job ≡ i) → ⊥
        by_cases (inl one) = unlike_group i j one has_j same
        by_cases (inr e) =
            unlike_group (first_job group) j member has_j
            (turned j (first_job group) (not_job q j in_groups has_j (turned job j (subst (λ a. AreAlike key a j) (sym e) same))))

    same_first : first_job (group ++ job ∷ []) ≡ first_job group
    same_first = get_or_append_left group (job ∷ []) 0 0 (All-contains (λ q. 1 ≤ length q) groups group made.some_jobs among)

    old_group : get_or groups k (group ++ job ∷ []) ≡ group
    old_group = get_or_default groups k (group ++ job ∷ []) [] lt

    grown_groups : AreGroups key (jobs ++ job ∷ []) (set groups k (group ++ job ∷ []))
    grown_groups = record {
      covered = All-push (λ j. Any (λ p. Contains p j) (set groups k (group ++ job ∷ []))) jobs job
          (All-weaker (λ j. Any (λ p. Contains p j) groups) (λ j. Any (λ p. Contains p j) (set groups k (group ++ job ∷ [])))
          (λ j any. any_set groups k (group ++ job ∷ []) lt (λ p. Contains p j)
          (λ has. Contains-append_left group (job ∷ []) j (subst (λ p. Contains p j) old_group has)) any) jobs made.covered)
          (k, group ++ job ∷ [], omega (arith, lt, length-set groups k (group ++ job ∷ [])), get_or-set_same groups k (group ++ job ∷ []) (group ++ job ∷ []) lt, Contains-push group job);
      pending = All-set (All (Contains (jobs ++ job ∷ []))) groups k (group ++ job ∷ [])
          (All-push (Contains (jobs ++ job ∷ [])) group job (pending_more group (All-contains (All (Contains jobs)) groups group made.pending among)) (Contains-push jobs job))
          (All-weaker (All (Contains jobs)) (All (Contains (jobs ++ job ∷ []))) pending_more groups made.pending);
      some_jobs = All-set (λ p. 1 ≤ length p) groups k (group ++ job ∷ []) (omega (arith, length-append group (job ∷ []))) made.some_jobs;
      ascending = All-set IsStrictlyIncreasing groups k (group ++ job ∷ [])
          (increasing_push group job (All-contains IsStrictlyIncreasing groups group made.ascending among) (member_before group among)) made.ascending;
      by_least = pairs_set groups k (group ++ job ∷ []) lt (λ p q. first_job p < first_job q) made.by_least
          (λ q in_groups less. omega (arith, less, same_first, ap first_job old_group))
          (λ q in_groups less. omega (arith, less, same_first, ap first_job old_group));
      unlike = pairs_set groups k (group ++ job ∷ []) lt (AreUnlike key) made.unlike unlike_below unlike_above;
      alike = All-set (λ p. (i j : ℕ) → Contains p i → Contains p j → AreAlike key i j) groups k (group ++ job ∷ []) grows_alike made.alike;
    }

    grown_places : ArePlaces key places (set groups k (group ++ job ∷ []))
    grown_places = record {
      there = λ y m e. there_by y m e (cases_same m k);
      nowhere = λ y e. All-set (All (λ j. key j ≡ Some y → ⊥)) groups k (group ++ job ∷ [])
          (All-push (λ j. key j ≡ Some y → ⊥) group job (All-contains (All (λ j. key j ≡ Some y → ⊥)) groups group (at.nowhere y e) among)
          (λ has. some_none k (sym found ∙ ap (λ z. get_or places z None) (same_Some x y (sym own ∙ has)) ∙ e))) (at.nowhere y e);
    }
      where
        there_by : (y m : ℕ) → get_or places y None ≡ Some m → (m ≡ k) ⊎ (m ≡ k → ⊥) →
            (m < length (set groups k (group ++ job ∷ []))) × All (λ j. key j ≡ Some y) (get_or (set groups k (group ++ job ∷ [])) m [])
        there_by y m e (inl same) =
            let old = at.there y m e in
            let here : All (λ j. key j ≡ Some y) group = subst (λ a. All (λ j. key j ≡ Some y) (get_or groups a [])) same old.1 in
            let is : x ≡ y = same_Some x y (sym (All-contains (λ a. key a ≡ Some x) group (first_job group) have_key member) ∙ All-contains (λ a. key a ≡ Some y) group (first_job group) here member) in (
              omega (arith, old.0, length-set groups k (group ++ job ∷ [])),
              subst (λ a. All (λ j. key j ≡ Some y) (get_or (set groups k (group ++ job ∷ [])) a [])) (sym same)
                  (subst (All (λ j. key j ≡ Some y)) (sym (get_or-set_same groups k (group ++ job ∷ []) [] lt)) (All-push (λ j. key j ≡ Some y) group job here (own ∙ ap Some is))),
            )
        there_by y m e (inr other) =
            let old = at.there y m e in (
              omega (arith, old.0, length-set groups k (group ++ job ∷ [])),
              subst (All (λ j. key j ≡ Some y)) (sym (get_or-set_other groups k m (group ++ job ∷ []) [] other)) old.1,
            )

    pub put_grown : AreGroups key (jobs ++ job ∷ []) (set groups k (group ++ job ∷ [])) × ArePlaces key places (set groups k (group ++ job ∷ []))
    put_grown = (grown_groups, grown_places)
