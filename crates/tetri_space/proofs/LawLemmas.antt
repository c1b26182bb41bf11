-- A lawful allotment is worth at most the tops.
use Rattle.std.proofs.Common.{◌≡◌, ℕ, ◌+◌, ◌<◌, ◌≤◌, List, [], ◌∷◌, length, All, Contains, Bool, true, false, cond, ◌&&◌, ◌==◌, nat_le, nat_lt, refl, ap, ◌∙◌, subst, arith}
use Rattle.std.specs.Option.{IsSomeAnd}
use Rattle.std.proofs.lemmas.Bool.Decides.{nat_tests}
use Rattle.std.specs.List.{sum_by}
use Rattle.std.proofs.lemmas.List.Elements.{All-head, All-tail, All-contains, Contains-get_or}
use Rattle.std.proofs.lemmas.List.Sums.{sum_by-cons}
use Rattle.tetri_strl.specs.declared.expr.Leaf.{Leaf}
use Rattle.tetri_strl.specs.declared.grants.Grant.{Grant}
use Rattle.tetri_strl.specs.Tree.{leaves}
use Rattle.tetri_strl.specs.Worth.{granted, leaf_worth, leaf_top}
use Rattle.tetri_strl.specs.WellMade.{IsGoodLeaf}
use Rattle.tetri_strl.proofs.ExprLaws.{each_good, EachLeaf-both, EachLeaf-from, eq_from_test, leaf_worth-none, leaf_worth_le, worth_by-le}
use Rattle.tetri_space.specs.Space.{Bid, Space, leaf_in, IsLive}
use Rattle.tetri_space.specs.Lawful.{MayBeGranted, IsLawfulGrant}
use Rattle.tetri_space.specs.Sound.{IsSoundBid, IsSound}
use Rattle.tetri_space.specs.Total.{bid_worth, bid_top, total_in, tops_in}
use Rattle.tetri_space.proofs.LeafLemmas.{leaf_in-found}

-- place by place no greater, no greater together
sum_below : (f g : Bid → ℕ) (bs : List Bid) → All (λ b. f b ≤ g b) bs → sum_by f bs ≤ sum_by g bs
sum_below f g [] below = omega arith
sum_below f g (b ∷ bs) below =
    let here : f b ≤ g b = All-head (λ c. f c ≤ g c) b bs below in
    let rest = sum_below f g bs (All-tail (λ c. f c ≤ g c) b bs below) in
    omega (arith, here, rest, sum_by-cons f b bs, sum_by-cons g b bs)

module _ (s : Space) (sound : IsSound s) where
  -- a lawful grant of a job's leaf may be granted to that leaf
  pub granted_right : (b : Bid) (l : Leaf) (g : Grant) → Contains s.bids b → Contains (leaves b.expr) l → g.job ≡ b.job → g.leaf ≡ l.num →
      IsLawfulGrant s g → MayBeGranted s l g.nodes
  granted_right b l g pending below job num lawful =
      let found = ap (λ j. leaf_in s.bids j g.leaf) job ∙ ap (leaf_in s.bids b.job) num ∙ leaf_in-found s b l sound pending below in
      subst (λ o. IsSomeAnd o (λ m. MayBeGranted s m g.nodes)) found lawful

  -- nothing is granted to a leaf that is not live
  pub dead_granted : (b : Bid) (l : Leaf) (a : List Grant) → Contains s.bids b → Contains (leaves b.expr) l → (IsLive s l → ⊥) →
      All (IsLawfulGrant s) a → granted a b.job l.num ≡ 0
  dead_granted b l [] pending below dead lawful = refl
  dead_granted b l (g ∷ gs) pending below dead lawful =
      let rest = dead_granted b l gs pending below dead (All-tail (IsLawfulGrant s) g gs lawful) in
      by_test (g.job == b.job) (g.leaf == l.num) rest
      (λ job num. dead (granted_right b l g pending below (eq_from_test _ _ job) (eq_from_test _ _ num) (All-head (IsLawfulGrant s) g gs lawful)).live)
    where
      by_test : (c d : Bool) → granted gs b.job l.num ≡ 0 → (c ≡ true → d ≡ true → ⊥) →
          cond (c && d) (length g.nodes) 0 + granted gs b.job l.num ≡ 0
      by_test true true rest never = absurd (never refl refl)
      by_test true false rest never = omega arith
      by_test false d rest never = omega arith

dead_from_test : (from to : ℕ) (l : Leaf) → (nat_le from l.start && nat_lt l.start to) ≡ false → from ≤ l.start → l.start < to → ⊥
dead_from_test from to l outside le lt = grind (arith, nat_tests)

module _ (s : Space) (sound : IsSound s) (a : List Grant) (lawful : All (IsLawfulGrant s) a) where
  leaf_bound : (b : Bid) → Contains s.bids b → (l : Leaf) → Contains (leaves b.expr) l → IsGoodLeaf l →
      leaf_worth a b.job l ≤ leaf_top s.now (s.now + s.window) l
  leaf_bound b pending l below good =
      by_test (nat_le s.now l.start && nat_lt l.start (s.now + s.window))
      (λ outside live. dead_from_test s.now (s.now + s.window) l outside live.not_early live.not_late)
    where
      by_test : (c : Bool) → (c ≡ false → IsLive s l → ⊥) → leaf_worth a b.job l ≤ cond c l.v 0
      by_test true never = leaf_worth_le a b.job l good
      by_test false never =
          let nothing = leaf_worth-none a b.job l good (dead_granted s sound b l a pending below (never refl) lawful) in omega (arith, nothing)

  bid_bound : (b : Bid) → Contains s.bids b → bid_worth a b ≤ bid_top s.now (s.now + s.window) b
  bid_bound b pending =
      let good : IsSoundBid s b = All-contains (IsSoundBid s) s.bids b sound.sound_bids pending in
      let top = leaf_top s.now (s.now + s.window) in
      worth_by-le (leaf_worth a b.job) top b.expr
      (EachLeaf-both (λ l. IsGoodLeaf l → leaf_worth a b.job l ≤ top l) IsGoodLeaf (λ l. leaf_worth a b.job l ≤ top l) (λ l p q. p q) b.expr
      (EachLeaf-from (λ l. IsGoodLeaf l → leaf_worth a b.job l ≤ top l) b.expr (leaf_bound b pending))
      (each_good b.expr good.well_made.sound))

  pub total_le_tops : total_in s a ≤ tops_in s
  total_le_tops = sum_below (bid_worth a) (bid_top s.now (s.now + s.window)) s.bids (λ k d at. bid_bound _ (Contains-get_or s.bids k d at))
