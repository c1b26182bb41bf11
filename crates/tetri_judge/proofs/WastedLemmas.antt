-- The first wasted grant of all jobs, by each job's own grants.
use Rattle.std.proofs.Common.{◌≡◌, ◌≢◌, ℕ, ◌+◌, ◌<◌, ◌≤◌, Bool, true, false, cond, ◌&&◌, ◌==◌, List, [], ◌∷◌, ◌++◌, length, take, drop, get_or, map, All, AllPairs, refl, sym, ap, ◌∙◌, subst, arith}
use Rattle.std.specs.Prelude.{◌↔◌, Option, Some, None}
use Rattle.std.specs.List.{list_any, position_from}
use Rattle.std.specs.Option.{option_map}
use Rattle.std.proofs.Math.Path.{fun_ext}
use Rattle.std.proofs.Math.Seq.{take-add}
use Rattle.std.proofs.lemmas.Bool.Decides.{nat_tests}
use Rattle.std.proofs.lemmas.List.{take-append-drop, length-take-le, length-drop, drop-drop}
use Rattle.std.proofs.lemmas.List.Elements.{All-cons, All-head, All-tail, All-nil, All-weaker, All-append}
use Rattle.tetri_claims.specs.Good.{IsThriftyForAll}
use Rattle.tetri_judge.specs.Wasted.{lesser, first_wasted}
use Rattle.tetri_space.specs.Sound.{IsSound, IsSoundBid}
use Rattle.tetri_space.specs.Space.{Bid, Space, bid}
use Rattle.tetri_space.specs.declared.instance.Offer.{Offer}
use Rattle.tetri_space.proofs.InstanceLaws.{next_bid, later_jobs}
use Rattle.tetri_strl.specs.declared.grants.Grant.{Grant}
use Rattle.tetri_strl.specs.Thrifty.{IsThriftyFor}
use Rattle.tetri_strl.specs.Tree.{Tree, tree}
use Rattle.tetri_strl.specs.Trim.{first_waste, idle, wastes}
use Rattle.tetri_strl.specs.Worth.{granted, worth_at, leaf_worth}
use Rattle.tetri_strl.proofs.ExprLaws.{granted-append, granted-others, NamesNot, waste_is_exact}

pub lesser-none : (o : Option ℕ) → lesser o None ≡ o
lesser-none None = refl
lesser-none (Some m) = refl

pub lesser-assoc : (a b c : Option ℕ) → lesser (lesser a b) c ≡ lesser a (lesser b c)
lesser-assoc None b c = refl
lesser-assoc (Some m) None c = refl
lesser-assoc (Some m) (Some n) None = refl
lesser-assoc (Some m) (Some n) (Some k) = ap Some (omega arith)

lesser_is_none : (a b : Option ℕ) → lesser a b ≡ None → (a ≡ None) × (b ≡ None)
lesser_is_none None b e = (refl, e)
lesser_is_none (Some m) None e = absurd cc
lesser_is_none (Some m) (Some n) e = absurd cc

-- nothing is wasted exactly where the grants are thrifty for each of these jobs
module _ (a : List Grant) where
  abbrev pub IsThriftyForBid : Bid → Type 0
  IsThriftyForBid b = IsThriftyFor a b.job b.expr

  pub thrifty_of_none : (bs : List Bid) → All (λ (b : Bid). (first_waste a b.job b.expr ≡ None) ↔ IsThriftyForBid b) bs → first_wasted bs a ≡ None → All IsThriftyForBid bs
  thrifty_of_none [] exact none = All-nil IsThriftyForBid
  thrifty_of_none (b ∷ bs) exact none =
      let Q = λ (c : Bid). (first_waste a c.job c.expr ≡ None) ↔ IsThriftyForBid c in
      let parts = lesser_is_none (first_waste a b.job b.expr) (first_wasted bs a) none in
      All-cons IsThriftyForBid b bs ((All-head Q b bs exact).0 parts.0) (thrifty_of_none bs (All-tail Q b bs exact) parts.1)

  pub none_of_thrifty : (bs : List Bid) → All (λ (b : Bid). (first_waste a b.job b.expr ≡ None) ↔ IsThriftyForBid b) bs → All IsThriftyForBid bs → first_wasted bs a ≡ None
  none_of_thrifty [] exact thrifty = refl
  none_of_thrifty (b ∷ bs) exact thrifty =
      let Q = λ (c : Bid). (first_waste a c.job c.expr ≡ None) ↔ IsThriftyForBid c in
      ap (λ o. lesser o (first_wasted bs a)) ((All-head Q b bs exact).1 (All-head IsThriftyForBid b bs thrifty))
      ∙ none_of_thrifty bs (All-tail Q b bs exact) (All-tail IsThriftyForBid b bs thrifty)

pub none_wasted : (s : Space) → IsSound s → (a : List Grant) → (first_wasted s.bids a ≡ None) ↔ IsThriftyForAll s a
none_wasted s sound a =
    let exact = All-weaker (IsSoundBid s) (λ (b : Bid). (first_waste a b.job b.expr ≡ None) ↔ IsThriftyForBid a b)
    (λ b good. waste_is_exact a b.job b.expr good.well_made.sound) s.bids sound.sound_bids in
    (thrifty_of_none a s.bids exact, none_of_thrifty a s.bids exact)

-- what is left of the jobs begins with the next offer's
pub next_wasted : (os : List Offer) (i : ℕ) (o : Offer) (a : List Grant) → i < length os → o ≡ get_or os i o →
    first_wasted (drop i (map bid os)) a ≡ lesser (first_waste a o.job (tree o.expr)) (first_wasted (drop (i + 1) (map bid os)) a)
next_wasted os i o a lt is = ap (λ bs. first_wasted bs a) (next_bid os i o lt is)

-- positions in a list of which only a middle part may pass the test
module _ (p : Grant → Bool) where
  abbrev pub Never : List Grant → Type 0
  Never = All (λ g. p g ≡ false)

  pub none_passes : (k : ℕ) (c : List Grant) → Never c → position_from p k c ≡ None
  none_passes k [] never = refl
  none_passes k (g ∷ gs) never =
      ap (λ t. cond t (Some k) (position_from p (k + 1) gs)) (All-head (λ h. p h ≡ false) g gs never) ∙ none_passes (k + 1) gs (All-tail (λ h. p h ≡ false) g gs never)

  skip_front : (k n : ℕ) (a b : List Grant) → n ≡ k + length a → Never a → position_from p k (a ++ b) ≡ position_from p n b
  skip_front k n [] b e never = ap (λ m. position_from p m b) (omega arith)
  skip_front k n (g ∷ gs) b e never =
      ap (λ t. cond t (Some k) (position_from p (k + 1) (gs ++ b))) (All-head (λ h. p h ≡ false) g gs never)
      ∙ skip_front (k + 1) n gs b (omega arith) (All-tail (λ h. p h ≡ false) g gs never)

  skip_back : (k : ℕ) (b c : List Grant) → Never c → position_from p k (b ++ c) ≡ position_from p k b
  skip_back k [] c never = none_passes k c never
  skip_back k (g ∷ gs) c never = ap (λ o. cond (p g) (Some k) o) (skip_back (k + 1) gs c never)

  shifted : (k j n : ℕ) (xs : List Grant) → n ≡ k + j → position_from p n xs ≡ option_map (λ m. k + m) (position_from p j xs)
  shifted k j n [] e = refl
  shifted k j n (g ∷ gs) e =
      by_test (p g) (shifted k (j + 1) (n + 1) gs (omega arith))
    where
      by_test : (t : Bool) → position_from p (n + 1) gs ≡ option_map (λ m. k + m) (position_from p (j + 1) gs) →
          cond t (Some n) (position_from p (n + 1) gs) ≡ option_map (λ m. k + m) (cond t (Some j) (position_from p (j + 1) gs))
      by_test true rest = ap Some e
      by_test false rest = rest

  pub position_within : (k m : ℕ) (xs : List Grant) → position_from p k xs ≡ Some m → (k ≤ m) × (m < k + length xs)
  position_within k m [] e = absurd cc
  position_within k m (g ∷ gs) e = by_test (p g) (position_within (k + 1) m gs) e
    where
      by_test : (t : Bool) → (position_from p (k + 1) gs ≡ Some m → (k + 1 ≤ m) × (m < k + 1 + length gs)) → cond t (Some k) (position_from p (k + 1) gs) ≡ Some m →
          (k ≤ m) × (m < k + length (g ∷ gs))
      by_test true rest e = let same : k ≡ m = cc in (omega arith, omega arith)
      by_test false rest e = let later = rest e in (omega arith, omega arith)

pub other_test : (x y : ℕ) → x ≢ y → (x == y) ≡ false
other_test x y ne = grind (arith, nat_tests)

-- grants of other jobs are not wasted for this one
others_never : (job : ℕ) (ns : List ℕ) (a : List Grant) → NamesNot job a → Never (wastes job ns) a
others_never job ns a others = All-weaker (λ g. g.job ≢ job) (λ g. wastes job ns g ≡ false)
    (λ g ne. ap (λ t. t && list_any (λ n. n == g.leaf) ns) (other_test g.job job ne)) a others

-- A job's first wasted grant stands in its own run of grants.
pub waste_in_run : (a b c : List Grant) (job : ℕ) (t : Tree) → NamesNot job a → NamesNot job c →
    first_waste (a ++ (b ++ c)) job t ≡ option_map (λ n. length a + n) (first_waste b job t)
waste_in_run a b c job t before after =
    let same : leaf_worth (a ++ (b ++ c)) job ≡ leaf_worth b job = fun_ext (λ l. ap (worth_at l) (same_count l.num)) in
    let p = wastes job (idle (leaf_worth b job) t) in
    ap (λ v. position_from (wastes job (idle v t)) 0 (a ++ (b ++ c))) same
    ∙ skip_front p 0 (length a) a (b ++ c) (omega arith) (others_never job (idle (leaf_worth b job) t) a before)
    ∙ skip_back p (length a) b c (others_never job (idle (leaf_worth b job) t) c after)
    ∙ shifted p (length a) 0 (length a) b (omega arith)
  where
    same_count : (leaf : ℕ) → granted (a ++ (b ++ c)) job leaf ≡ granted b job leaf
    same_count leaf = omega (arith, granted-append a (b ++ c) job leaf, granted-append b c job leaf, granted-others a job leaf before, granted-others c job leaf after)

-- the same, where the run is cut out of all grants
pub waste_in_slice : (grants run rest : List Grant) (seen n job : ℕ) (t : Tree) → seen ≤ length grants → rest ≡ drop seen grants → run ≡ take n rest →
    NamesNot job (take seen grants) → NamesNot job (drop n rest) → first_waste grants job t ≡ option_map (λ m. seen + m) (first_waste run job t)
waste_in_slice grants run rest seen n job t within is_rest is_run before after =
    let whole : grants ≡ take seen grants ++ (take n rest ++ drop n rest) =
    sym (take-append-drop seen grants) ∙ ap (λ gs. take seen grants ++ gs) (sym is_rest ∙ sym (take-append-drop n rest)) in
    ap (λ gs. first_waste gs job t) whole
    ∙ waste_in_run (take seen grants) (take n rest) (drop n rest) job t before after
    ∙ ap (λ k. option_map (λ m. k + m) (first_waste (take n rest) job t)) (length-take-le seen grants within)
    ∙ ap (λ gs. option_map (λ m. seen + m) (first_waste gs job t)) (sym is_run)

-- a job's first wasted grant comes behind the grants of others
pub waste_behind : (grants : List Grant) (n m job : ℕ) (t : Tree) → n ≤ length grants → NamesNot job (take n grants) → first_waste grants job t ≡ Some m → n ≤ m
waste_behind grants n m job t within others found =
    let p = wastes job (idle (leaf_worth grants job) t) in
    let there : position_from p n (drop n grants) ≡ Some m =
    sym (skip_front p 0 n (take n grants) (drop n grants) (omega (arith, length-take-le n grants within)) (others_never job (idle (leaf_worth grants job) t) (take n grants) others))
    ∙ ap (position_from p 0) (take-append-drop n grants) ∙ found in
    (position_within p n m (drop n grants) there).0

pub waste_within : (a : List Grant) (job m : ℕ) (t : Tree) → first_waste a job t ≡ Some m → m < length a
waste_within a job m t found =
    let there = position_within (wastes job (idle (leaf_worth a job) t)) 0 m a found in
    omega (arith, there)

-- what is wasted for the first job stands before what is wasted for the others
pub first_is : (bs : List Bid) (a : List Grant) (n : ℕ) → All (λ (b : Bid). (m : ℕ) → first_waste a b.job b.expr ≡ Some m → n ≤ m) bs →
    lesser (Some n) (first_wasted bs a) ≡ Some n
first_is [] a n behind = refl
first_is (b ∷ bs) a n behind =
    let Q = λ (c : Bid). (m : ℕ) → first_waste a c.job c.expr ≡ Some m → n ≤ m in
    sym (lesser-assoc (Some n) (first_waste a b.job b.expr) (first_wasted bs a))
    ∙ ap (λ o. lesser o (first_wasted bs a)) (keeps (first_waste a b.job b.expr) (All-head Q b bs behind))
    ∙ first_is bs a n (All-tail Q b bs behind)
  where
    keeps : (o : Option ℕ) → ((m : ℕ) → o ≡ Some m → n ≤ m) → lesser (Some n) o ≡ Some n
    keeps None after = refl
    keeps (Some m) after = let le = after m refl in ap Some (omega arith)

-- all grants in front of a place are of earlier jobs than each of these
abbrev pub ComeBefore : List Grant → List Bid → Type 0
ComeBefore gs bs = All (λ (b : Bid). All (λ (g : Grant). g.job < b.job) gs) bs

-- the loop over runs has come to this offer: what the grants of earlier jobs are, and its own run
pub record IsAtRun (os : List Offer) (i : ℕ) (o : Offer) (grants rest run : List Grant) (seen n : ℕ) : Type 0 where
  pub ascending : AllPairs (λ (b c : Bid). b.job < c.job) (map bid os)
  pub some_left : i < length os
  pub is : o ≡ get_or os i o
  pub within : seen ≤ length grants
  pub rest_is : rest ≡ drop seen grants
  pub run_is : run ≡ take n rest
  pub run_within : n ≤ length rest
  pub before : ComeBefore (take seen grants) (drop i (map bid os))
  pub own : All (λ (g : Grant). g.job ≤ o.job) (take n rest)
  pub past : All (λ (g : Grant). o.job < g.job) (drop n rest)

module _ (os : List Offer) (i : ℕ) (o : Offer) (grants rest run : List Grant) (seen n : ℕ) (at : IsAtRun os i o grants rest run seen n) where
  front_before : All (λ (g : Grant). g.job < o.job) (take seen grants)
  front_before = All-head (λ (b : Bid). All (λ (g : Grant). g.job < b.job) (take seen grants)) (bid o) (drop (i + 1) (map bid os))
      (subst (ComeBefore (take seen grants)) (next_bid os i o at.some_left at.is) at.before)

  run_long : length run ≡ n
  run_long = ap length at.run_is ∙ length-take-le n rest at.run_within

  -- the run's first wasted grant is the job's
  pub waste_here : first_waste grants o.job (tree o.expr) ≡ option_map (λ m. seen + m) (first_waste run o.job (tree o.expr))
  waste_here = waste_in_slice grants run rest seen n o.job (tree o.expr) at.within at.rest_is at.run_is
      (All-weaker (λ (g : Grant). g.job < o.job) (λ (g : Grant). g.job ≢ o.job) (λ g lt same. absurd (omega arith)) (take seen grants) front_before)
      (All-weaker (λ (g : Grant). o.job < g.job) (λ (g : Grant). g.job ≢ o.job) (λ g lt same. absurd (omega arith)) (drop n rest) at.past)

  pub seen_more : seen + length run ≤ length grants
  seen_more = omega (arith, run_long, at.run_within, ap length at.rest_is, length-drop seen grants, at.within)

  -- front and run together are the front of what comes next
  front_next : take (seen + length run) grants ≡ take seen grants ++ take n rest
  front_next =
      ap (λ k. take (seen + k) grants) run_long ∙ take-add seen n grants ∙ ap (λ gs. take seen grants ++ take n gs) (sym at.rest_is)

  pub before_next : ComeBefore (take (seen + length run) grants) (drop (i + 1) (map bid os))
  before_next = subst (λ gs. ComeBefore gs (drop (i + 1) (map bid os))) (sym front_next)
      (All-weaker (λ (b : Bid). o.job < b.job) (λ (b : Bid). All (λ (g : Grant). g.job < b.job) (take seen grants ++ take n rest))
      (λ b later. All-append (λ (g : Grant). g.job < b.job) (take seen grants) (take n rest)
      (All-weaker (λ (g : Grant). g.job < o.job) (λ (g : Grant). g.job < b.job) (λ g lt. omega arith) (take seen grants) front_before)
      (All-weaker (λ (g : Grant). g.job ≤ o.job) (λ (g : Grant). g.job < b.job) (λ g le. omega arith) (take n rest) at.own))
      (drop (i + 1) (map bid os)) (later_jobs os i o at.ascending at.some_left at.is))

  pub rest_next : drop n rest ≡ drop (seen + length run) grants
  rest_next = ap (drop n) at.rest_is ∙ drop-drop n seen grants ∙ ap (λ k. drop (seen + k) grants) (sym run_long)

  -- nothing is wasted for this job: the same is left over the later ones
  pub none_here : first_waste run o.job (tree o.expr) ≡ None → first_wasted (drop i (map bid os)) grants ≡ first_wasted (drop (i + 1) (map bid os)) grants
  none_here none =
      next_wasted os i o grants at.some_left at.is
      ∙ ap (λ w. lesser w (first_wasted (drop (i + 1) (map bid os)) grants)) (waste_here ∙ ap (option_map (λ m. seen + m)) none)

  -- what is wasted for this job is wasted before all that is wasted for later ones
  pub some_here : (place : ℕ) → first_waste run o.job (tree o.expr) ≡ Some place → first_wasted (drop i (map bid os)) grants ≡ Some (seen + place)
  some_here place found =
      next_wasted os i o grants at.some_left at.is
      ∙ ap (λ w. lesser w (first_wasted (drop (i + 1) (map bid os)) grants)) (waste_here ∙ ap (option_map (λ m. seen + m)) found)
      ∙ first_is (drop (i + 1) (map bid os)) grants (seen + place)
      (All-weaker (λ (b : Bid). All (λ (g : Grant). g.job < b.job) (take (seen + length run) grants)) (λ (b : Bid). (m : ℕ) → first_waste grants b.job b.expr ≡ Some m → seen + place ≤ m)
      (λ b earlier m e.
      let behind : seen + length run ≤ m = waste_behind grants (seen + length run) m b.job b.expr seen_more
      (All-weaker (λ (g : Grant). g.job < b.job) (λ (g : Grant). g.job ≢ b.job) (λ g lt same. absurd (omega arith)) (take (seen + length run) grants) earlier) e in
      let inside : place < length run = waste_within run o.job place (tree o.expr) found in
      omega arith)
      (drop (i + 1) (map bid os)) before_next)
