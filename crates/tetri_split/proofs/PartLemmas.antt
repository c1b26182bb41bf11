-- Laws of the parts of an instance: their totals add, and what is lawful for each is lawful together.
use Rattle.std.proofs.Common.{◌≡◌, ℕ, zero, suc, ◌+◌, ◌≤◌, ◌||◌, Bool, true, false, cond, List, [], ◌∷◌, ◌++◌, get_or, All, AllPairs, Contains, Some, refl, sym, ap, ◌∙◌, subst, arith, true≢false, sum}
use Rattle.std.specs.List.{list_any, Any, AllZip}
use Rattle.std.specs.Option.{IsSomeAnd}
use Rattle.std.proofs.lemmas.List.{append-nil}
use Rattle.std.proofs.lemmas.List.Elements.{All-append, All-contains, All-nil, All-weaker, Contains-get_or, filter-append}
use Rattle.std.proofs.lemmas.List.Sums.{sum_by-cons}
use Rattle.tetri_base.specs.Lists.{has, sum_of, Each, EachPair}
use Rattle.tetri_base.specs.Order.{in_order}
use Rattle.tetri_base.proofs.ListLaws.{any_from, Each-all, Each-at, Each-from, Each-map, EachPair-from, sum_of-eq, sum_of-filter, sum_of-swap}
use Rattle.tetri_base.proofs.OrderLaws.{sum_of-sum_by}
use Rattle.tetri_strl.specs.declared.expr.Leaf.{Leaf}
use Rattle.tetri_strl.specs.declared.grants.Grant.{Grant}
use Rattle.tetri_strl.specs.Thrifty.{IsThriftyFor}
use Rattle.tetri_space.specs.GrantOrder.{ComesBefore, comes_first}
use Rattle.tetri_space.specs.Lawful.{AreApart, IsLawful, IsLawfulGrant, MayBeGranted}
use Rattle.tetri_space.specs.Sound.{IsSound}
use Rattle.tetri_space.specs.Space.{Bid, Space, leaf_in, set_of}
use Rattle.tetri_space.specs.Total.{bid_worth, total_in}
use Rattle.tetri_space.specs.Trimmed.{IsThriftyForAll}
use Rattle.tetri_space.proofs.InstanceLaws.{IsLawful-append, lawful_in_order, ordered_in_order, thrifty_in_order, total_in_order}
use Rattle.tetri_split.specs.Parts.{AreIndependent, ArePartsOf, BoundsPart, IsLawfulForPart, IsThriftyForPart, MayUse, by_parts, in_a_row, total_by_parts}
use Rattle.tetri_split.specs.Restricted.{grants_to, restricted}
use Rattle.tetri_split.proofs.Members.{all_pass, contains_filter, contains_from, has_from, none_passes}
use Rattle.tetri_split.proofs.RestrictedLemmas.{grants_name_kept, lawful-kept, lawful-whole, thrifty-whole, total-kept}

-- ---- each job is in one part
none_zero : (x j : ℕ) (ps : List (List ℕ)) → Each (λ q. has q j ≡ false) ps → sum_of (λ p. cond (has p j) x 0) ps ≡ 0
none_zero x j [] h = refl
none_zero x j (p ∷ ps) h = omega (arith, ap (λ t. cond t x 0) h.0, none_zero x j ps h.1)

abbrev Others : List ℕ → List ℕ → Type 0
Others p q = (j : ℕ) → has p j ≡ true → has q j ≡ false

one_part : (x j : ℕ) (ps : List (List ℕ)) → list_any (λ p. has p j) ps ≡ true → EachPair Others ps → sum_of (λ p. cond (has p j) x 0) ps ≡ x
one_part x j [] some others = absurd (true≢false (sym some))
one_part x j (p ∷ ps) some others = by_test (has p j) (λ e. none_zero x j ps (Each-map (Others p) (λ q. has q j ≡ false) (λ q other. other j e) ps others.0)) (λ later. one_part x j ps later others.1) some
  where
    by_test : (t : Bool) → (t ≡ true → sum_of (λ q. cond (has q j) x 0) ps ≡ 0) → (list_any (λ q. has q j) ps ≡ true → sum_of (λ q. cond (has q j) x 0) ps ≡ x) →
        (t || list_any (λ q. has q j) ps) ≡ true → cond t x 0 + sum_of (λ q. cond (has q j) x 0) ps ≡ x
    by_test true none rest e = omega (arith, none refl)
    by_test false none rest e = omega (arith, rest e)

false_from : (t : Bool) → (t ≡ true → ⊥) → t ≡ false
false_from true never = absurd (never refl)
false_from false never = refl

others_from : (s : Space) (p q : List ℕ) → AreIndependent s p q → Others p q
others_from s p q apart j e = false_from (has q j) (λ f. apart.other_jobs j (contains_from p j e) (contains_from q j f))

some_from : (j : ℕ) (ps : List (List ℕ)) → Any (λ p. Contains p j) ps → list_any (λ p. has p j) ps ≡ true
some_from j ps (k, p, lt, is, at) = any_from (λ q. has q j) ps p (k, lt, is) (has_from p j at)

pairs_weaker : {X : Type 0} (R S : X → X → Type 0) → ((x y : X) → R x y → S x y) → (xs : List X) → EachPair R xs → EachPair S xs
pairs_weaker R S f [] h = tt
pairs_weaker R S f (x ∷ xs) h = (Each-map (R x) (S x) (f x) xs h.0, pairs_weaker R S f xs h.1)

-- ---- the totals add
by_parts_total : (s : Space) (a : List Grant) (ps : List (List ℕ)) → total_by_parts s ps (by_parts ps a) ≡ sum_of (λ p. total_in (restricted (has p) s) a) ps
by_parts_total s a [] = refl
by_parts_total s a (p ∷ ps) = omega (arith, total-kept (has p) s a, by_parts_total s a ps)

part_total : (s : Space) (a : List Grant) (p : List ℕ) → total_in (restricted (has p) s) a ≡ sum_of (λ b. cond (has p b.job) (bid_worth a b) 0) s.bids
part_total s a p = sym (sum_of-sum_by (bid_worth a) (restricted (has p) s).bids) ∙ sum_of-filter (bid_worth a) (λ (b : Bid). has p b.job) s.bids

module _ (s : Space) (parts : List (List ℕ)) (are : ArePartsOf s parts) where
  independent : EachPair (AreIndependent s) parts
  independent = EachPair-from (AreIndependent s) parts are.independent

  others : EachPair Others parts
  others = pairs_weaker (AreIndependent s) Others (others_from s) parts independent

  -- an allotment is worth what its grants to the parts are worth there, together
  pub totals_add : (a : List Grant) → total_in s a ≡ total_by_parts s parts (by_parts parts a)
  totals_add a =
      sym (by_parts_total s a parts
      ∙ sum_of-eq (λ p. total_in (restricted (has p) s) a) (λ p. sum_of (λ b. cond (has p b.job) (bid_worth a b) 0) s.bids) parts (Each-all _ (part_total s a) parts)
      ∙ sum_of-swap (λ p (b : Bid). cond (has p b.job) (bid_worth a b) 0) parts s.bids
      ∙ sum_of-eq (λ (b : Bid). sum_of (λ p. cond (has p b.job) (bid_worth a b) 0) parts) (bid_worth a) s.bids
      (Each-from _ s.bids (λ b at. one_part (bid_worth a b) b.job parts
      (some_from b.job parts (All-contains (λ (c : Bid). Any (λ p. Contains p c.job) parts) s.bids b are.covered at)) others))
      ∙ sum_of-sum_by (bid_worth a) s.bids)

  bounded : (a : List Grant) → IsLawful s a → (ps : List (List ℕ)) (bounds : List ℕ) →
      AllZip (BoundsPart s) ps bounds →
      total_by_parts s ps (by_parts ps a) ≤ sum bounds
  bounded a lawful [] [] h = omega arith
  bounded a lawful [] (n ∷ ns) h = absurd h
  bounded a lawful (p ∷ ps) [] h = absurd h
  bounded a lawful (p ∷ ps) (n ∷ ns) h =
      let here : total_in (restricted (has p) s) (grants_to (has p) a) ≤ n = h.0 (grants_to (has p) a) (lawful-kept (has p) s a lawful) in
      let rest : total_by_parts s ps (by_parts ps a) ≤ sum ns = bounded a lawful ps ns h.1 in
      omega (arith, here, rest, sum_by-cons (λ (m : ℕ). m) n ns)

  -- bounds for the parts are together a bound for the whole
  pub bounds_add : (bounds : List ℕ) →
      AllZip (BoundsPart s) parts bounds →
      (a : List Grant) → IsLawful s a → total_in s a ≤ sum bounds
  bounds_add bounds h a lawful = subst (λ n. n ≤ sum bounds) (sym (totals_add a)) (bounded a lawful parts bounds h)

-- ---- what is lawful for each part is lawful together
module _ (s : Space) where
  -- a lawful grant to a job of one of these parts
  record IsToOneOf (ps : List (List ℕ)) (g : Grant) : Type 0 where
    part : List ℕ
    among : Contains ps part
    job_of : has part g.job ≡ true
    lawful : IsLawfulGrant s g

  to_one : (p : List ℕ) (ps : List (List ℕ)) (a : List Grant) → IsLawfulForPart s p a → All (IsToOneOf (p ∷ ps)) a
  to_one p ps a h = λ k d lt. record {
    part = p;
    among = (0, omega arith, refl);
    job_of = grants_name_kept (has p) s (get_or a k d) (h.grants k d lt);
    lawful = (lawful-whole (has p) s a h).grants k d lt;
  }

  to_one_later : (p : List ℕ) (ps : List (List ℕ)) (g : Grant) → IsToOneOf ps g → IsToOneOf (p ∷ ps) g
  to_one_later p ps g h = record { part = h.part; among = (suc h.among.0, omega (arith, h.among.1), h.among.2); job_of = h.job_of; lawful = h.lawful }

  all_to_one : (ps : List (List ℕ)) (lists : List (List Grant)) → AllZip (IsLawfulForPart s) ps lists → All (IsToOneOf ps) (in_a_row lists)
  all_to_one [] [] h = All-nil (IsToOneOf [])
  all_to_one [] (a ∷ lists) h = absurd h
  all_to_one (p ∷ ps) [] h = absurd h
  all_to_one (p ∷ ps) (a ∷ lists) h =
      All-append (IsToOneOf (p ∷ ps)) a (in_a_row lists) (to_one p ps a h.0)
      (All-weaker (IsToOneOf ps) (IsToOneOf (p ∷ ps)) (to_one_later p ps) (in_a_row lists) (all_to_one ps lists h.1))

  may_use : (g : Grant) (n : ℕ) (l : Leaf) → leaf_in s.bids g.job g.leaf ≡ Some l → IsLawfulGrant s g → Contains g.nodes n → MayUse s g.job n
  may_use g n l found lawful at =
      let may : MayBeGranted s l g.nodes = subst (λ o. IsSomeAnd o (λ m. MayBeGranted s m g.nodes)) found lawful in
      record { number = g.leaf; leaf = l; offered = found; live = may.live; in_set = All-contains (Contains (set_of s l)) g.nodes n may.nodes_right.in_set at }

  -- grants to jobs of independent parts are apart
  parts_apart : (p q : List ℕ) → AreIndependent s p q → (g h : Grant) → has p g.job ≡ true → has q h.job ≡ true → IsLawfulGrant s g → IsLawfulGrant s h → AreApart s g h
  parts_apart p q apart g h of_p of_q one other = record {
    other_leaf = λ job leaf. apart.other_jobs h.job (contains_from p h.job (ap (has p) (sym job) ∙ of_p)) (contains_from q h.job of_q);
    other_slots = λ n held also l found m matched.
        absurd (apart.no_meeting g.job h.job (contains_from p g.job of_p) (contains_from q h.job of_q) (n, may_use g n l found one held, may_use h n m matched other also));
  }

  lawful_row : (ps : List (List ℕ)) (lists : List (List Grant)) → EachPair (AreIndependent s) ps → AllZip (IsLawfulForPart s) ps lists → IsLawful s (in_a_row lists)
  lawful_row [] [] pairs h = record { grants = All-nil (IsLawfulGrant s); apart = λ i j d lt within. absurd (omega (arith, within)) }
  lawful_row [] (a ∷ lists) pairs h = absurd h
  lawful_row (p ∷ ps) [] pairs h = absurd h
  lawful_row (p ∷ ps) (a ∷ lists) pairs h =
      IsLawful-append s a (in_a_row lists) (lawful-whole (has p) s a h.0) (lawful_row ps lists pairs.1 h.1)
      (λ g k at there.
      let mine = All-contains (IsToOneOf (p ∷ ps)) a g (to_one p ps a h.0) at in
      let other = All-contains (IsToOneOf ps) (in_a_row lists) k (all_to_one ps lists h.1) there in
      parts_apart p other.part (Each-at (AreIndependent s p) ps other.part pairs.0 other.among) g k
      (All-contains (λ (x : Grant). has p x.job ≡ true) a g (λ i d lt. grants_name_kept (has p) s (get_or a i d) (h.0.grants i d lt)) at)
      other.job_of mine.lawful other.lawful)

  -- ---- each part's grants are found again in the row
  own_all : (p : List ℕ) (a : List Grant) → IsLawfulForPart s p a → grants_to (has p) a ≡ a
  own_all p a h = all_pass (λ (g : Grant). has p g.job) a (λ k d lt. grants_name_kept (has p) s (get_or a k d) (h.grants k d lt))

  later_none : (p : List ℕ) (ps : List (List ℕ)) (lists : List (List Grant)) → Each (AreIndependent s p) ps → AllZip (IsLawfulForPart s) ps lists → grants_to (has p) (in_a_row lists) ≡ []
  later_none p ps lists apart h =
      none_passes (λ (g : Grant). has p g.job) (in_a_row lists)
      (λ k d lt.
      let g = get_or (in_a_row lists) k d in
      let to = all_to_one ps lists h k d lt in
      false_from (has p g.job) (λ e. (Each-at (AreIndependent s p) ps to.part apart to.among).other_jobs g.job (contains_from p g.job e) (contains_from to.part g.job to.job_of)))

  first_none : (p q : List ℕ) (a : List Grant) → AreIndependent s p q → IsLawfulForPart s p a → grants_to (has q) a ≡ []
  first_none p q a apart h =
      none_passes (λ (g : Grant). has q g.job) a
      (λ k d lt. others_from s p q apart (get_or a k d).job (grants_name_kept (has p) s (get_or a k d) (h.grants k d lt)))

  skip_first : (p : List ℕ) (a row : List Grant) (ps : List (List ℕ)) → Each (AreIndependent s p) ps → IsLawfulForPart s p a → by_parts ps (a ++ row) ≡ by_parts ps row
  skip_first p a row [] apart h = refl
  skip_first p a row (q ∷ ps) apart h =
      let here : grants_to (has q) (a ++ row) ≡ grants_to (has q) row =
      filter-append (λ (g : Grant). has q g.job) a row ∙ ap (λ gs. gs ++ grants_to (has q) row) (first_none p q a apart.0 h) in
      ap (λ gs. gs ∷ by_parts ps (a ++ row)) here ∙ ap (λ gs. grants_to (has q) row ∷ gs) (skip_first p a row ps apart.1 h)

  found_again : (ps : List (List ℕ)) (lists : List (List Grant)) → EachPair (AreIndependent s) ps → AllZip (IsLawfulForPart s) ps lists → by_parts ps (in_a_row lists) ≡ lists
  found_again [] [] pairs h = refl
  found_again [] (a ∷ lists) pairs h = absurd h
  found_again (p ∷ ps) [] pairs h = absurd h
  found_again (p ∷ ps) (a ∷ lists) pairs h =
      let here : grants_to (has p) (a ++ in_a_row lists) ≡ a =
      filter-append (λ (g : Grant). has p g.job) a (in_a_row lists) ∙ ap (λ gs. gs ++ grants_to (has p) (in_a_row lists)) (own_all p a h.0)
      ∙ ap (λ gs. a ++ gs) (later_none p ps lists pairs.0 h.1) ∙ append-nil a in
      ap (λ gs. gs ∷ by_parts ps (a ++ in_a_row lists)) here ∙ ap (λ gs. a ∷ gs) (skip_first p a (in_a_row lists) ps pairs.0 h.0 ∙ found_again ps lists pairs.1 h.1)

  thrifty_of : (row : List Grant) (b : Bid) (p : List ℕ) (ps : List (List ℕ)) (lists : List (List Grant)) → Contains s.bids b → Contains ps p → Contains p b.job →
      by_parts ps row ≡ lists → AllZip (IsThriftyForPart s) ps lists → IsThriftyFor row b.job b.expr
  thrifty_of row b p [] lists pending among at is h = absurd (omega (arith, among.1))
  thrifty_of row b p (q ∷ ps) [] pending among at is h = absurd h
  thrifty_of row b p (q ∷ ps) (a ∷ lists) pending (zero, lt, same) at is h =
      let in_p : has p b.job ≡ true = has_from p b.job at in
      let in_q : has q b.job ≡ true = ap (λ r. has r b.job) same ∙ in_p in
      thrifty-whole (has q) s row b in_q
      (subst (λ gs. IsThriftyFor gs b.job b.expr) (sym (heads is))
      (All-contains (λ (c : Bid). IsThriftyFor a c.job c.expr) (restricted (has q) s).bids b h.0 (kept_contains b in_q pending)))
    where
      heads : (grants_to (has q) row ∷ by_parts ps row) ≡ (a ∷ lists) → grants_to (has q) row ≡ a
      heads e = cc

      kept_contains : (c : Bid) → has q c.job ≡ true → Contains s.bids c → Contains (restricted (has q) s).bids c
      kept_contains c e there = contains_filter (λ (x : Bid). has q x.job) s.bids c e there
  thrifty_of row b p (q ∷ ps) (a ∷ lists) pending (suc k, lt, same) at is h =
      thrifty_of row b p ps lists pending (k, omega (arith, lt), same) at (tails is) h.1
    where
      tails : (grants_to (has q) row ∷ by_parts ps row) ≡ (a ∷ lists) → by_parts ps row ≡ lists
      tails e = cc

module _ (s : Space) (sound : IsSound s) (parts : List (List ℕ)) (are : ArePartsOf s parts) (lists : List (List Grant)) (lawful : AllZip (IsLawfulForPart s) parts lists) where
  row_lawful : IsLawful s (in_a_row lists)
  row_lawful = lawful_row s parts lists (independent s parts are) lawful

  pub joined_lawful : IsLawful s (in_order comes_first (in_a_row lists))
  joined_lawful = lawful_in_order s (in_a_row lists) row_lawful

  pub joined_ordered : AllPairs ComesBefore (in_order comes_first (in_a_row lists))
  joined_ordered = ordered_in_order s (in_a_row lists) row_lawful

  again : by_parts parts (in_a_row lists) ≡ lists
  again = found_again s parts lists (independent s parts are) lawful

  pub joined_total : total_in s (in_order comes_first (in_a_row lists)) ≡ total_by_parts s parts lists
  joined_total = total_in_order s (in_a_row lists) ∙ totals_add s parts are (in_a_row lists) ∙ ap (total_by_parts s parts) again

  pub joined_thrifty : AllZip (IsThriftyForPart s) parts lists → IsThriftyForAll s (in_order comes_first (in_a_row lists))
  joined_thrifty thrifty =
      thrifty_in_order s (in_a_row lists)
      (λ k d lt.
      let b : Bid = get_or s.bids k d in
      let part = are.covered k d lt in
      thrifty_of s (in_a_row lists) b part.1 parts lists (Contains-get_or s.bids k d lt) (part.0, part.2, part.3) part.4 again thrifty)
