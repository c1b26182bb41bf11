-- The rules, one after another.
use Rattle.std.proofs.Common.{◌≡◌, ◌≢◌, ℕ, ◌+◌, ◌<◌, ◌≤◌, List, [], ◌∷◌, ◌++◌, length, get_or, take, All, Contains, ◌==◌, Some, None, Result, Ok, Err, IfErr, IsErrAnd, ◌↔◌, IsSomeAnd, slice_get, refl, sym, subst, ap, ◌∙◌, arith, inl, inr}
use Rattle.std.specs.List.{find}
use Rattle.std.specs.List.Sorted.{IsStrictlyIncreasing}
use Rattle.std.proofs.lemmas.Bool.{cases_lt, cases_eq}
use Rattle.std.proofs.lemmas.List.{get_or-take, length-take, take-take, take_more}
use Rattle.std.proofs.lemmas.List.Elements.{All-contains, All-push, All-weaker}
use Rattle.std.proofs.lemmas.List.Quantifiers.{all_pairs_push}
use Rattle.std.proofs.lemmas.Option.{slice_get-get_or, slice_get_within, get_or_from_slice_get, same_Some}
use Rattle.tetri_strl.specs.declared.expr.Leaf.{Leaf}
use Rattle.tetri_strl.specs.declared.grants.Grant.{Grant}
use Rattle.tetri_strl.proofs.ExprLaws.{eq_from_test}
use Rattle.tetri_space.specs.declared.rules.Rule.{Rule}
use Rattle.tetri_space.specs.declared.rules.Rule.TheVariants.{NotPending, NotLive, Doubled, BadNodes, TooMany, Outside, NotFree, Clash}
use Rattle.tetri_space.specs.declared.rules.Unlawful.{Unlawful}
use Rattle.tetri_space.specs.Space.{Bid, Space, set_of, leaf_in, IsLive, Covers}
use Rattle.tetri_space.specs.Lawful.{MayBeGranted, IsLawfulGrant, AreApart, IsLawful}
use Rattle.tetri_space.specs.Free.{IsFreeThroughout}
use Rattle.tetri_space.specs.Broken.{IsLeast, HasCommonSlot, NamesSameLeaf, ClashesAt, IsFirstClash, OfLeaf, Breaks, rank, IsFirstRule, IsBroken, IsFirstBroken}
use Rattle.tetri_space.proofs.LeafLemmas.{find-within, leaf_in-within}
use Rattle.tetri_space.proofs.ClashLemmas.{value_in, of_value, at_value, all_at}

module _ (s : Space) (earlier : List Grant) (g : Grant) where
  -- each rule that is broken has this rank or a later one
  abbrev pub BreaksFrom : ℕ → Type 0
  BreaksFrom k = (q : Rule) → Breaks s earlier g q → k ≤ rank q

  pub from_one : BreaksFrom 1
  from_one NotPending broken = omega arith
  from_one NotLive broken = omega arith
  from_one (Doubled i) broken = omega arith
  from_one BadNodes broken = omega arith
  from_one TooMany broken = omega arith
  from_one (Outside n) broken = omega arith
  from_one (NotFree n) broken = omega arith
  from_one (Clash i n) broken = omega arith

  from_next : (k : ℕ) → BreaksFrom k → ((q : Rule) → rank q ≡ k → Breaks s earlier g q → ⊥) → BreaksFrom (k + 1)
  from_next k from never q broken = elim (cases_eq (rank q) k) [
    | inl same ↦ absurd (never q same broken)
    | inr other ↦ let le : k ≤ rank q = from q broken in omega arith
  ]

  pending : (b : Bid) → Contains s.bids b → b.job ≡ g.job → BreaksFrom 2
  pending b at same = from_next 1 from_one never
    where
      never : (q : Rule) → rank q ≡ 1 → Breaks s earlier g q → ⊥
      never NotPending e broken = All-contains (λ (c : Bid). c.job ≢ g.job) s.bids b broken at same
      never q e broken = absurd (omega (arith, e))

  -- the job is pending
  pub from_two : (b : Bid) → find (λ c. c.job == g.job) s.bids ≡ Some b → BreaksFrom 2
  from_two b found =
      let at = find-within (λ (c : Bid). c.job == g.job) s.bids b found in
      pending b at.0 (eq_from_test b.job g.job at.1)

  pub not_live_none : leaf_in s.bids g.job g.leaf ≡ None → Breaks s earlier g NotLive
  not_live_none none live = subst (λ o. IsSomeAnd o (IsLive s)) none live

  module _ (l : Leaf) (found : leaf_in s.bids g.job g.leaf ≡ Some l) where
    pub not_live : (IsLive s l → ⊥) → Breaks s earlier g NotLive
    not_live dead live = dead (at_value _ (IsLive s) l found live)

    -- the leaf is that of a pending job, and live
    pub from_three : IsLive s l → BreaksFrom 3
    from_three live =
        let offered = leaf_in-within s.bids g.job g.leaf l found in
        from_next 2 (pending offered.0 offered.1.pending offered.1.of_job) never
      where
        never : (q : Rule) → rank q ≡ 2 → Breaks s earlier g q → ⊥
        never NotLive e broken = broken (of_value _ (IsLive s) l found live)
        never q e broken = absurd (omega (arith, e))

    -- it is new
    pub from_four : IsLive s l → All (λ h. NamesSameLeaf g h → ⊥) earlier → BreaksFrom 4
    from_four live new = from_next 3 (from_three live) never
      where
        never : (q : Rule) → rank q ≡ 3 → Breaks s earlier g q → ⊥
        never (Doubled i) e broken =
            let first = value_in (slice_get earlier i) (NamesSameLeaf g) broken.holds in
            all_at (λ h. NamesSameLeaf g h → ⊥) earlier i first.0 new first.1 first.2
        never q e broken = absurd (omega (arith, e))

    module _ (nodes : List ℕ) (same : nodes ≡ g.nodes) where
      pub bad_nodes : ((1 ≤ length nodes) × IsStrictlyIncreasing nodes → ⊥) → Breaks s earlier g BadNodes
      bad_nodes bad some rising = bad (subst (λ xs. (1 ≤ length xs) × IsStrictlyIncreasing xs) (sym same) (some, rising))

      pub from_five : BreaksFrom 4 → (1 ≤ length nodes) × IsStrictlyIncreasing nodes → BreaksFrom 5
      from_five named ordered = from_next 4 named never
        where
          never : (q : Rule) → rank q ≡ 4 → Breaks s earlier g q → ⊥
          never BadNodes e broken =
              let here = subst (λ xs. (1 ≤ length xs) × IsStrictlyIncreasing xs) same ordered in broken here.0 here.1
          never q e broken = absurd (omega (arith, e))

      pub too_many : l.k < length nodes → Breaks s earlier g TooMany
      too_many lt = of_value _ (λ m. m.k < length g.nodes) l found (subst (λ xs. l.k < length xs) same lt)

      pub from_six : BreaksFrom 4 → (1 ≤ length nodes) × IsStrictlyIncreasing nodes → length nodes ≤ l.k → BreaksFrom 6
      from_six named ordered few = from_next 5 (from_five named ordered) never
        where
          never : (q : Rule) → rank q ≡ 5 → Breaks s earlier g q → ⊥
          never TooMany e broken =
              let past : l.k < length g.nodes = at_value _ (λ m. m.k < length g.nodes) l found broken in omega (arith, ap length same)
          never q e broken = absurd (omega (arith, e))

      pub outside : (n : ℕ) → IsLeast (λ m. Contains nodes m × (Contains (set_of s l) m → ⊥)) n → Breaks s earlier g (Outside n)
      outside n least =
          of_value _ (λ k. IsLeast (λ m. Contains g.nodes m × (Contains (set_of s k) m → ⊥)) n) l found
          (subst (λ xs. IsLeast (λ m. Contains xs m × (Contains (set_of s l) m → ⊥)) n) same least)

      pub from_seven : BreaksFrom 4 → (1 ≤ length nodes) × IsStrictlyIncreasing nodes → length nodes ≤ l.k → All (Contains (set_of s l)) nodes →
          BreaksFrom 7
      from_seven named ordered few inside = from_next 6 (from_six named ordered few) never
        where
          never : (q : Rule) → rank q ≡ 6 → Breaks s earlier g q → ⊥
          never (Outside n) e broken =
              let least = at_value _ (λ k. IsLeast (λ m. Contains g.nodes m × (Contains (set_of s k) m → ⊥)) n) l found broken in
              least.holds.1 (All-contains (Contains (set_of s l)) nodes n inside (subst (λ xs. Contains xs n) (sym same) least.holds.0))
          never q e broken = absurd (omega (arith, e))

      pub not_free : (n : ℕ) → IsLeast (λ m. Contains nodes m × (IsFreeThroughout s l m → ⊥)) n → Breaks s earlier g (NotFree n)
      not_free n least =
          of_value _ (λ k. IsLeast (λ m. Contains g.nodes m × (IsFreeThroughout s k m → ⊥)) n) l found
          (subst (λ xs. IsLeast (λ m. Contains xs m × (IsFreeThroughout s l m → ⊥)) n) same least)

      pub from_eight : BreaksFrom 4 → (1 ≤ length nodes) × IsStrictlyIncreasing nodes → length nodes ≤ l.k → All (Contains (set_of s l)) nodes →
          All (IsFreeThroughout s l) nodes → BreaksFrom 8
      from_eight named ordered few inside free = from_next 7 (from_seven named ordered few inside) never
        where
          never : (q : Rule) → rank q ≡ 7 → Breaks s earlier g q → ⊥
          never (NotFree n) e broken =
              let least = at_value _ (λ k. IsLeast (λ m. Contains g.nodes m × (IsFreeThroughout s k m → ⊥)) n) l found broken in
              least.holds.1 (All-contains (IsFreeThroughout s l) nodes n free (subst (λ xs. Contains xs n) (sym same) least.holds.0))
          never q e broken = absurd (omega (arith, e))

      pub clashes : (i n : ℕ) → IsFirstClash s l nodes earlier i n → Breaks s earlier g (Clash i n)
      clashes i n first =
          of_value _ (λ k. IsFirstClash s k g.nodes earlier i n) l found (subst (λ xs. IsFirstClash s l xs earlier i n) same first)

      pub lawful_grant : IsLive s l → (1 ≤ length nodes) × IsStrictlyIncreasing nodes → length nodes ≤ l.k → All (Contains (set_of s l)) nodes →
          All (IsFreeThroughout s l) nodes → IsLawfulGrant s g
      lawful_grant live ordered few inside free =
          of_value _ (λ m. MayBeGranted s m g.nodes) l found (subst (MayBeGranted s l) same (record {
            live = live;
            nodes_right = record {
              some = ordered.0;
              ascending = ordered.1;
              few = few;
              in_set = inside;
              free = free;
            };
          }))

      pub apart : All (λ h. NamesSameLeaf g h → ⊥) earlier → All (λ h. (m : ℕ) → ClashesAt s l nodes h m → ⊥) earlier → All (λ h. AreApart s h g) earlier
      apart new never k d lt = record {
        other_leaf = λ job leaf. new k d lt (sym job, sym leaf);
        other_slots = λ n held also m other own found_own slot covers covers_own.
            let is : own ≡ l = same_Some own l (sym found_own ∙ found) in
            never k d lt n (
              subst (λ xs. Contains xs n) (sym same) also,
              held,
              of_value _ (HasCommonSlot l) m other (slot, subst (λ o. Covers o slot) is covers_own, covers),
            );
      }

-- a grant that is lawful by itself, and apart from each earlier one, breaks no rule
module _ (s : Space) (earlier : List Grant) (g : Grant) (lawful : IsLawfulGrant s g) (apart : All (λ h. AreApart s h g) earlier) where
  abbrev named : (l : Leaf) × (leaf_in s.bids g.job g.leaf ≡ Some l) × MayBeGranted s l g.nodes
  named = value_in (leaf_in s.bids g.job g.leaf) (λ l. MayBeGranted s l g.nodes) lawful

  pub keeps_rules : (q : Rule) → Breaks s earlier g q → ⊥
  keeps_rules NotPending broken =
      let offered = leaf_in-within s.bids g.job g.leaf named.0 named.1 in
      All-contains (λ (c : Bid). c.job ≢ g.job) s.bids offered.0 broken offered.1.pending offered.1.of_job
  keeps_rules NotLive broken = broken (of_value _ (IsLive s) named.0 named.1 named.2.live)
  keeps_rules (Doubled i) broken =
      let first = value_in (slice_get earlier i) (NamesSameLeaf g) broken.holds in
      (all_at (λ h. AreApart s h g) earlier i first.0 apart first.1).other_leaf (sym first.2.0) (sym first.2.1)
  keeps_rules BadNodes broken = broken named.2.nodes_right.some named.2.nodes_right.ascending
  keeps_rules TooMany broken =
      let past : named.0.k < length g.nodes = at_value _ (λ l. l.k < length g.nodes) named.0 named.1 broken in
      omega (arith, named.2.nodes_right.few)
  keeps_rules (Outside n) broken =
      let least = at_value _ (λ l. IsLeast (λ m. Contains g.nodes m × (Contains (set_of s l) m → ⊥)) n) named.0 named.1 broken in
      least.holds.1 (All-contains (Contains (set_of s named.0)) g.nodes n named.2.nodes_right.in_set least.holds.0)
  keeps_rules (NotFree n) broken =
      let least = at_value _ (λ l. IsLeast (λ m. Contains g.nodes m × (IsFreeThroughout s l m → ⊥)) n) named.0 named.1 broken in
      least.holds.1 (All-contains (IsFreeThroughout s named.0) g.nodes n named.2.nodes_right.free least.holds.0)
  keeps_rules (Clash i n) broken =
      let first = at_value _ (λ l. IsFirstClash s l g.nodes earlier i n) named.0 named.1 broken in
      let other = value_in (slice_get earlier i) (λ h. ClashesAt s named.0 g.nodes h n) first.place.holds in
      let leaf = value_in (leaf_in s.bids other.0.job other.0.leaf) (HasCommonSlot named.0) other.2.2 in
      (all_at (λ h. AreApart s h g) earlier i other.0 apart other.1).other_slots n other.2.1 other.2.0 leaf.0 leaf.1 named.0 named.1
      leaf.2.0 leaf.2.2 leaf.2.1

module _ (s : Space) (a : List Grant) where
  -- a lawful allotment breaks no rule
  pub lawful_keeps : IsLawful s a → (u : Unlawful) → IsBroken s a u → ⊥
  lawful_keeps lawful u broken =
      let at = value_in (slice_get a u.grant) (λ g. Breaks s (take u.grant a) g u.rule) broken in
      let lt = slice_get_within a u.grant at.0 at.1 in
      keeps_rules s (take u.grant a) at.0 (all_at (IsLawfulGrant s) a u.grant at.0 lawful.grants at.1)
      (λ k d within.
      let before : k < u.grant = omega (arith, within, length-take u.grant a) in
      subst (λ h. AreApart s h at.0) (sym (get_or-take u.grant a k d before))
      (subst (AreApart s (get_or a k d)) (get_or_from_slice_get a u.grant at.0 d at.1) (lawful.apart k u.grant d before lt))) u.rule at.2

module _ (s : Space) (a : List Grant) where
  -- what a grant in front breaks is broken in the front alone
  broken_in_front : (n : ℕ) (v : Unlawful) → v.grant < n → IsBroken s a v → IsBroken s (take n a) v
  broken_in_front n v before broken =
      let at = value_in (slice_get a v.grant) (λ g. Breaks s (take v.grant a) g v.rule) broken in
      let lt = slice_get_within a v.grant at.0 at.1 in
      let within : v.grant < length (take n a) = omega (arith, length-take n a) in
      let same = get_or-take n a v.grant at.0 before ∙ get_or_from_slice_get a v.grant at.0 at.0 at.1 in
      let le : v.grant ≤ n = omega arith in
      of_value (slice_get (take n a) v.grant) (λ g. Breaks s (take v.grant (take n a)) g v.rule) at.0
      (slice_get-get_or (take n a) v.grant at.0 within ∙ ap Some same)
      (subst (λ xs. Breaks s xs at.0 v.rule) (sym (take-take v.grant n a le)) at.2)

  -- the first rule that a grant breaks, where those before it are lawful
  pub first_broken : (n : ℕ) (g : Grant) (r : Rule) → slice_get a n ≡ Some g → IsLawful s (take n a) → IsFirstRule s (take n a) g r →
      IsFirstBroken s a (record { grant = n; rule = r })
  first_broken n g r here lawful rule = record {
    rule = of_value (slice_get a n) (λ h. IsFirstRule s (take n a) h r) g here rule;
    first = λ v broken. elim (cases_lt v.grant n) [
      | inl before ↦ absurd (lawful_keeps s (take n a) lawful v (broken_in_front n v before broken))
      | inr behind ↦ behind
    ];
  }

  pub broken_first : (u : Unlawful) → IsFirstBroken s a u → IsBroken s a u
  broken_first u first =
      let at = value_in (slice_get a u.grant) (λ g. IsFirstRule s (take u.grant a) g u.rule) first.rule in
      of_value (slice_get a u.grant) (λ g. Breaks s (take u.grant a) g u.rule) at.0 at.1 at.2.broken

  -- a lawful front grows by a lawful grant that is apart from it
  pub lawful_more : (i : ℕ) (g : Grant) → i < length a → g ≡ get_or a i g → IsLawful s (take i a) → IsLawfulGrant s g → All (λ h. AreApart s h g) (take i a) →
      IsLawful s (take (i + 1) a)
  lawful_more i g lt is front lawful apart =
      subst (IsLawful s) (sym (take_more a i g lt ∙ ap (λ h. take i a ++ h ∷ []) (sym is))) (record {
        grants = All-push (IsLawfulGrant s) (take i a) g front.grants lawful;
        apart = all_pairs_push (AreApart s) (take i a) g front.apart apart;
      })

-- no two numbers are both the least
least_same : (P : ℕ → Type 0) (m n : ℕ) → IsLeast P m → IsLeast P n → m ≡ n
least_same P m n first second =
    let low : m ≤ n = first.least n second.holds in let high : n ≤ m = second.least m first.holds in omega arith

module _ (s : Space) (earlier : List Grant) (g : Grant) where
  -- what two rules of one leaf say together
  both_of : (P Q : Leaf → Type 0) → OfLeaf s earlier g P → OfLeaf s earlier g Q → (l : Leaf) × P l × Q l
  both_of P Q p q =
      let here = value_in (leaf_in s.bids g.job g.leaf) P p in (here.0, here.2, at_value (leaf_in s.bids g.job g.leaf) Q here.0 here.1 q)

  clash_same : (l : Leaf) (i j m n : ℕ) → IsFirstClash s l g.nodes earlier i m → IsFirstClash s l g.nodes earlier j n → (i ≡ j) × (m ≡ n)
  clash_same l i j m n first second =
      let node : m ≡ n = least_same _ m n first.node second.node in
      let place = subst (λ o. IsLeast (λ p. IsSomeAnd (slice_get earlier p) (λ h. ClashesAt s l g.nodes h o)) i) node first.place in
      (least_same _ i j place second.place, node)

  same_broken : (q r : Rule) → rank q ≡ rank r → Breaks s earlier g q → Breaks s earlier g r → q ≡ r
  same_broken NotPending NotPending e p b = refl
  same_broken NotLive NotLive e p b = refl
  same_broken (Doubled i) (Doubled j) e p b = ap Doubled (least_same _ i j p b)
  same_broken BadNodes BadNodes e p b = refl
  same_broken TooMany TooMany e p b = refl
  same_broken (Outside m) (Outside n) e p b = let both = both_of _ _ p b in ap Outside (least_same _ m n both.1 both.2)
  same_broken (NotFree m) (NotFree n) e p b = let both = both_of _ _ p b in ap NotFree (least_same _ m n both.1 both.2)
  same_broken (Clash i m) (Clash j n) e p b =
      let both = both_of _ _ p b in
      let same = clash_same both.0 i j m n both.1 both.2 in
      ap (λ k. Clash k m) same.0 ∙ ap (Clash j) same.1
  same_broken q r e p b = absurd (omega (arith, e))

  -- a grant has one first rule at most
  pub first_rule_same : (q r : Rule) → IsFirstRule s earlier g q → IsFirstRule s earlier g r → q ≡ r
  first_rule_same q r first second =
      let low : rank q ≤ rank r = first.first r second.broken in
      let high : rank r ≤ rank q = second.first q first.broken in
      same_broken q r (omega arith) first.broken second.broken

same_unlawful : (i j : ℕ) (q r : Rule) → i ≡ j → q ≡ r → ◌≡◌ {A = Unlawful} (record { grant = i; rule = q }) (record { grant = j; rule = r })
same_unlawful i j q r place rule = cc

-- an allotment has one first rule at most
pub first_broken_same : (s : Space) (a : List Grant) (u v : Unlawful) → IsFirstBroken s a u → IsFirstBroken s a v → u ≡ v
first_broken_same s a u v first second =
    let low : u.grant ≤ v.grant = first.first v (broken_first s a v second) in
    let high : v.grant ≤ u.grant = second.first u (broken_first s a u first) in
    let same : u.grant ≡ v.grant = omega arith in
    let at = value_in (slice_get a v.grant) (λ g. IsFirstRule s (take v.grant a) g v.rule) second.rule in
    let other = at_value (slice_get a v.grant) (λ g. IsFirstRule s (take v.grant a) g u.rule) at.0 at.1
    (subst (λ i. IsSomeAnd (slice_get a i) (λ g. IsFirstRule s (take i a) g u.rule)) same first.rule) in
    same_unlawful u.grant v.grant u.rule v.rule same (first_rule_same s (take v.grant a) at.0 u.rule v.rule other at.2)

-- the refusal at the first broken rule is the one that there can be
pub exact_err : (s : Space) (grants a : List Grant) (u : Unlawful) → grants ≡ a → IsFirstBroken s grants u → (v : Unlawful) →
    (◌≡◌ {A = Result (Unit {0}) Unlawful} (Err u) (Err v)) ↔ IsFirstBroken s a v
exact_err s grants a u same first v = (
  λ e. let is : u ≡ v = cc in subst (IsFirstBroken s a) is (subst (λ b. IsFirstBroken s b u) same first),
  λ other. ap Err (first_broken_same s a u v (subst (λ b. IsFirstBroken s b u) same first) other),
)

-- the nodes of lawful grants ascend
pub ascending_grants : (s : Space) (grants : List Grant) → All (IsLawfulGrant s) grants → All (λ g. IsStrictlyIncreasing g.nodes) grants
ascending_grants s grants lawful =
    All-weaker (IsLawfulGrant s) (λ (g : Grant). IsStrictlyIncreasing g.nodes)
    (λ g right. (value_in (leaf_in s.bids g.job g.leaf) (λ l. MayBeGranted s l g.nodes) right).2.nodes_right.ascending) grants lawful

-- an error that is handed on as it is
pub err_given : {T E : Type 0} (r : Result T E) (P : E → Type 0) (e : E) → IsErrAnd r (λ f. f ≡ e) → P e → IfErr r P
err_given (Ok x) P e given holds = absurd given
err_given (Err f) P e given holds = subst P (sym given) holds
