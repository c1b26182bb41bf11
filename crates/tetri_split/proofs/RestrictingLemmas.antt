-- What binary searches find among jobs, and what is left of bids and grants, one after another.
use Rattle.std.proofs.Common.{◌≡◌, ℕ, ◌+◌, ◌<◌, ◌≤◌, ◌==◌, ◌||◌, Bool, true, false, cond, List, [], ◌∷◌, ◌++◌, length, get_or, take, drop, All, AllPairs, Option, Some, None, refl, sym, ap, ◌∙◌, subst, arith, true≢false, inl, inr}
use Rattle.std.specs.Prelude.{Result, Ok, Err, is_ok}
use Rattle.std.specs.List.{filter, find}
use Rattle.std.specs.List.Sorted.{IsStrictlyIncreasing, IsBinarySearchResult}
use Rattle.std.specs.Ordering.{nat_cmp}
use Rattle.std.proofs.lemmas.Bool.{cases_lt}
use Rattle.std.proofs.lemmas.List.{drop_more, get_or-take, get_or_default, length-take, take_more}
use Rattle.std.proofs.lemmas.List.Folds.{list_any-append}
use Rattle.std.proofs.lemmas.List.Kept.{AllPairs-from_increasing}
use Rattle.std.proofs.lemmas.List.Sorted.{searched}
use Rattle.tetri_base.specs.Lists.{has, Each, EachPair}
use Rattle.tetri_base.proofs.ListLaws.{Each-from, Each-map, EachPair-from, eq_from_test, test_from_eq, test_from_ne}
use Rattle.tetri_strl.specs.declared.grants.Grant.{Grant}
use Rattle.tetri_space.specs.Space.{Bid}
use Rattle.tetri_split.specs.Restricted.{grants_to}
use Rattle.tetri_split.proofs.Members.{contains_from, has_from}

-- ---- whether a job is one of these
never_falls : (ns : List ℕ) → IsStrictlyIncreasing ns → (i j : ℕ) → i ≤ j → j < length ns → get_or ns i 0 ≤ get_or ns j 0
never_falls ns up i j le lt = elim (cases_lt i j) [
  | inl less ↦ let order : get_or ns i 0 < get_or ns j 0 = AllPairs-from_increasing ns up i j 0 less lt in omega arith
  | inr more ↦ let same : i ≡ j = omega arith in let e = ap (λ k. get_or ns k 0) same in omega (arith, e)
]

false_from : (t : Bool) → (t ≡ true → ⊥) → t ≡ false
false_from true never = absurd (never refl)
false_from false never = refl

pub search_has : (ns : List ℕ) (n : ℕ) (r : Result ℕ ℕ) → IsStrictlyIncreasing ns → IsBinarySearchResult (λ y. nat_cmp y n) ns r → is_ok r ≡ has ns n
search_has ns n (Ok i) up found =
    let at = searched ns n (Ok i) found (never_falls ns up) in
    sym (has_from ns n (i, at.0, get_or_default ns i n 0 at.0 ∙ at.1))
search_has ns n (Err i) up found =
    let at = searched ns n (Err i) found (never_falls ns up) in
    sym (false_from (has ns n) (λ e. let held = contains_from ns n e in nowhere at held.0 held.1 held.2))
  where
    nowhere : (i ≤ length ns) × ((k : ℕ) → k < i → get_or ns k 0 < n) × ((k : ℕ) → i ≤ k → k < length ns → n < get_or ns k 0) → (x : ℕ) → x < length ns → get_or ns x n ≡ n → ⊥
    nowhere at x lt is =
        let value : get_or ns x 0 ≡ n = get_or_default ns x 0 n lt ∙ is in
        elim (cases_lt x i) [
          | inl before ↦ let less : get_or ns x 0 < n = at.1 x before in omega arith
          | inr behind ↦ let more : n < get_or ns x 0 = at.2 x behind lt in omega arith
        ]

-- ---- the grants that are kept, one after another
pub kept_more : (keeps : ℕ → Bool) (gs : List Grant) (i : ℕ) (g : Grant) (kept more : List Grant) → i < length gs → g ≡ get_or gs i g →
    more ≡ cond (keeps g.job) (kept ++ g ∷ []) kept → more ++ grants_to keeps (drop (i + 1) gs) ≡ kept ++ grants_to keeps (drop i gs)
kept_more keeps gs i g kept more lt is made =
    ap (λ hs. hs ++ grants_to keeps (drop (i + 1) gs)) made ∙ by_test (keeps g.job) refl
    ∙ ap (λ hs. kept ++ grants_to keeps hs) (sym (drop_more gs i g lt ∙ ap (λ h. h ∷ drop (i + 1) gs) (sym is)))
  where
    front : (a : List Grant) (h : Grant) (b : List Grant) → (a ++ h ∷ []) ++ b ≡ a ++ h ∷ b
    front [] h b = refl
    front (x ∷ a) h b = ap (λ hs. x ∷ hs) (front a h b)

    by_test : (t : Bool) → keeps g.job ≡ t → cond (keeps g.job) (kept ++ g ∷ []) kept ++ grants_to keeps (drop (i + 1) gs) ≡
        kept ++ cond (keeps g.job) (g ∷ grants_to keeps (drop (i + 1) gs)) (grants_to keeps (drop (i + 1) gs))
    by_test true e =
        ap (λ u. cond u (kept ++ g ∷ []) kept ++ grants_to keeps (drop (i + 1) gs)) e ∙ front kept g (grants_to keeps (drop (i + 1) gs))
        ∙ sym (ap (λ u. kept ++ cond u (g ∷ grants_to keeps (drop (i + 1) gs)) (grants_to keeps (drop (i + 1) gs))) e)
    by_test false e =
        ap (λ u. cond u (kept ++ g ∷ []) kept ++ grants_to keeps (drop (i + 1) gs)) e
        ∙ sym (ap (λ u. kept ++ cond u (g ∷ grants_to keeps (drop (i + 1) gs)) (grants_to keeps (drop (i + 1) gs))) e)

-- ---- the bids of jobs that ascend, one job after another
-- what is found
abbrev pub found_list : Option Bid → List Bid
found_list None = []
found_list (Some b) = b ∷ []

has_push : (ns : List ℕ) (n m : ℕ) → has (ns ++ n ∷ []) m ≡ (has ns m || (n == m))
has_push ns n m = list_any-append (λ k. k == m) ns (n ∷ []) ∙ ap (λ b. has ns m || b) (or_false (n == m))
  where
    or_false : (b : Bool) → (b || false) ≡ b
    or_false true = refl
    or_false false = refl

or_of_false : (b c : Bool) → c ≡ false → (b || c) ≡ b
or_of_false true c e = refl
or_of_false false c e = e

not_there : (ns : List ℕ) (n m : ℕ) → Each (λ k. k < n) ns → n ≤ m → has ns m ≡ false
not_there [] n m h le = refl
not_there (k ∷ ns) n m h le = ap (λ b. b || has ns m) (test_from_ne k m (λ e. omega (arith, e, h.0, le))) ∙ not_there ns n m h.1 le

module _ (ns : List ℕ) (n : ℕ) (below : Each (λ k. k < n) ns) where
  abbrev old : Bid → Bool
  old b = has ns b.job

  abbrev new : Bid → Bool
  new b = has (ns ++ n ∷ []) b.job

  none_later : (bs : List Bid) → Each (λ (b : Bid). n < b.job) bs → (filter old bs ≡ []) × (filter new bs ≡ []) × (find (λ b. b.job == n) bs ≡ None)
  none_later [] h = (refl, refl, refl)
  none_later (b ∷ bs) h =
      let rest = none_later bs h.1 in
      let no_old : old b ≡ false = not_there ns n b.job below (omega (arith, h.0)) in
      let other : (n == b.job) ≡ false = test_from_ne n b.job (λ e. omega (arith, e, h.0)) in
      let turned : (b.job == n) ≡ false = test_from_ne b.job n (λ e. omega (arith, e, h.0)) in
      let no_new : new b ≡ false = has_push ns n b.job ∙ or_of_false (has ns b.job) (n == b.job) other ∙ no_old in (
        ap (λ t. cond t (b ∷ filter old bs) (filter old bs)) no_old ∙ rest.0,
        ap (λ t. cond t (b ∷ filter new bs) (filter new bs)) no_new ∙ rest.1,
        ap (λ t. cond t (Some b) (find (λ c. c.job == n) bs)) turned ∙ rest.2,
      )

  pub job_more : (bs : List Bid) → EachPair (λ (b c : Bid). b.job < c.job) bs → filter new bs ≡ filter old bs ++ found_list (find (λ b. b.job == n) bs)
  job_more [] up = refl
  job_more (b ∷ bs) up = by_test (b.job == n) refl (job_more bs up.1)
    where
      same_job : b.job ≡ n → filter new (b ∷ bs) ≡ filter old (b ∷ bs) ++ b ∷ []
      same_job e =
          let rest = none_later bs (Each-map (λ (c : Bid). b.job < c.job) (λ (c : Bid). n < c.job) (λ c lt. omega (arith, lt, e)) bs up.0) in
          let no_old : old b ≡ false = not_there ns n b.job below (omega (arith, e)) in
          let is_new : new b ≡ true = has_push ns n b.job ∙ ap (λ t. t || (n == b.job)) no_old ∙ test_from_eq n b.job (sym e) in
          ap (λ t. cond t (b ∷ filter new bs) (filter new bs)) is_new ∙ ap (λ cs. b ∷ cs) rest.1
          ∙ sym (ap (λ cs. cs ++ b ∷ []) (ap (λ t. cond t (b ∷ filter old bs) (filter old bs)) no_old ∙ rest.0))

      other_job : (b.job == n) ≡ false → filter new bs ≡ filter old bs ++ found_list (find (λ c. c.job == n) bs) →
          filter new (b ∷ bs) ≡ filter old (b ∷ bs) ++ found_list (find (λ c. c.job == n) bs)
      other_job e rest =
          let other : (n == b.job) ≡ false = test_from_ne n b.job (λ same. true≢false (sym (test_from_eq b.job n (sym same)) ∙ e)) in
          let same : new b ≡ old b = has_push ns n b.job ∙ or_of_false (has ns b.job) (n == b.job) other in
          ap (λ t. cond t (b ∷ filter new bs) (filter new bs)) same ∙ by_old (old b) rest
        where
          by_old : (t : Bool) → filter new bs ≡ filter old bs ++ found_list (find (λ c. c.job == n) bs) →
              cond t (b ∷ filter new bs) (filter new bs) ≡ cond t (b ∷ filter old bs) (filter old bs) ++ found_list (find (λ c. c.job == n) bs)
          by_old true r = ap (λ cs. b ∷ cs) r
          by_old false r = r

      by_test : (t : Bool) → (b.job == n) ≡ t → filter new bs ≡ filter old bs ++ found_list (find (λ c. c.job == n) bs) →
          filter new (b ∷ bs) ≡ filter old (b ∷ bs) ++ found_list (cond (b.job == n) (Some b) (find (λ c. c.job == n) bs))
      by_test true e rest =
          same_job (eq_from_test b.job n e) ∙ sym (ap (λ t. filter old (b ∷ bs) ++ found_list (cond t (Some b) (find (λ c. c.job == n) bs))) e)
      by_test false e rest =
          other_job e rest ∙ sym (ap (λ t. filter old (b ∷ bs) ++ found_list (cond t (Some b) (find (λ c. c.job == n) bs))) e)

each_by : {X : Type 0} (P : X → Type 0) (xs : List X) → All P xs → Each P xs
each_by P xs h = Each-from P xs (λ x at. subst P at.2 (h at.0 x at.1))

pub none_first : (bs : List Bid) → filter (λ (b : Bid). has [] b.job) bs ≡ []
none_first [] = refl
none_first (b ∷ bs) = none_first bs

-- what of the bids is of the first jobs, one job further on
pub offers_more : (jobs : List ℕ) (i : ℕ) (bs made more : List Bid) → i < length jobs → IsStrictlyIncreasing jobs → AllPairs (λ (b c : Bid). b.job < c.job) bs →
    made ≡ filter (λ (b : Bid). has (take i jobs) b.job) bs → more ≡ made ++ found_list (find (λ b. b.job == get_or jobs i 0) bs) →
    more ≡ filter (λ (b : Bid). has (take (i + 1) jobs) b.job) bs
offers_more jobs i bs made more lt up rising old new =
    let n = get_or jobs i 0 in
    let below : Each (λ k. k < n) (take i jobs) =
    each_by (λ k. k < n) (take i jobs)
    (λ k d k_lt. let inside : k < i = omega (arith, k_lt, length-take i jobs) in
    let at = get_or-take i jobs k d inside in
    let first = get_or_default jobs k d 0 (omega arith) in
    let order : get_or jobs k 0 < n = AllPairs-from_increasing jobs up k i 0 inside lt in
    omega (arith, at, first, order)) in
    new ∙ ap (λ cs. cs ++ found_list (find (λ b. b.job == n) bs)) old ∙ sym (job_more (take i jobs) n below bs (EachPair-from (λ (b c : Bid). b.job < c.job) bs rising))
    ∙ ap (λ ns. filter (λ (b : Bid). has ns b.job) bs) (sym (take_more jobs i 0 lt))
