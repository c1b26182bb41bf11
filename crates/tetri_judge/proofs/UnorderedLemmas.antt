-- The first wasted grant of grants in any order, by the idle leaves of each job.
use Rattle.std.proofs.Common.{◌≡◌, ◌≢◌, ℕ, zero, suc, ◌+◌, ◌<◌, ◌≤◌, ◌==◌, ◌&&◌, ◌||◌, Bool, true, false, cond, List, [], ◌∷◌, ◌++◌, length, get_or, take, drop, map, All, AllPairs, refl, sym, ap, ◌∙◌, arith, eq-eqb, nat_lt}
use Rattle.std.specs.Prelude.{Option, Some, None}
use Rattle.std.specs.List.{find, list_any, position_from}
use Rattle.std.specs.List.Sorted.{IsNonDecreasingBy}
use Rattle.std.proofs.Math.Path.{fun_ext}
use Rattle.std.proofs.lemmas.Bool.{false≢true}
use Rattle.std.proofs.lemmas.Bool.Decides.{nat_tests}
use Rattle.std.proofs.lemmas.List.{append_assoc, get_or-map, length-map, take-append-drop}
use Rattle.std.proofs.lemmas.List.Elements.{All-head, All-tail, All-weaker}
use Rattle.tetri_base.specs.Lists.{Each, EachPair, sum_of}
use Rattle.tetri_base.specs.Order.{in_order}
use Rattle.tetri_base.proofs.ListLaws.{Each-get, Each-map}
use Rattle.tetri_base.proofs.OrderLaws.{in_order-rises, IsOrder, NotAfter, order_by, order_then, sum_of-in_order}
use Rattle.tetri_judge.specs.Wasted.{first_wasted, idle_of, is_idle_among, lesser}
use Rattle.tetri_judge.proofs.WastedLemmas.{none_passes, other_test, position_within}
use Rattle.tetri_space.specs.GrantOrder.{comes_first}
use Rattle.tetri_space.specs.Space.{Bid, bid}
use Rattle.tetri_space.specs.declared.instance.Offer.{Offer}
use Rattle.tetri_space.proofs.InstanceLaws.{later_jobs, next_bid}
use Rattle.tetri_strl.specs.declared.grants.Grant.{Grant}
use Rattle.tetri_strl.specs.Trim.{first_waste, idle, wastes}
use Rattle.tetri_strl.specs.Worth.{granted, leaf_worth, worth_at}
use Rattle.tetri_strl.proofs.ExprLaws.{granted-append, granted-others, NamesNot}

-- ---- a copy in order
grant_order : IsOrder comes_first
grant_order = order_then (λ (g : Grant). g.job) _ (order_by (λ (g : Grant). g.leaf))

not_less : (j k : ℕ) (b : Bool) → (nat_lt k j || b) ≡ false → j ≤ k
not_less j k b e = grind (arith, nat_tests)

jobs_rise : (gs : List Grant) → EachPair (NotAfter comes_first) gs → IsNonDecreasingBy (λ (g : Grant). g.job) gs
jobs_rise [] pairs i j d le lt = absurd (omega arith)
jobs_rise (g ∷ gs) pairs zero zero d le lt = omega arith
jobs_rise (g ∷ gs) pairs (suc i) zero d le lt = absurd (omega arith)
jobs_rise (g ∷ gs) pairs zero (suc j) d le lt = not_less g.job (get_or gs j d).job _ (Each-get (NotAfter comes_first g) gs j d pairs.0 (omega arith))
jobs_rise (g ∷ gs) pairs (suc i) (suc j) d le lt = jobs_rise gs pairs.1 i j d (omega arith) (omega arith)

pub ordered_rises : (gs : List Grant) → IsNonDecreasingBy (λ (g : Grant). g.job) (in_order comes_first gs)
ordered_rises gs = jobs_rise (in_order comes_first gs) (in_order-rises comes_first grant_order gs)

granted_is : (a : List Grant) (job leaf : ℕ) → granted a job leaf ≡ sum_of (λ g. cond (g.job == job && g.leaf == leaf) (length g.nodes) 0) a
granted_is [] job leaf = refl
granted_is (g ∷ gs) job leaf = ap (λ n. cond (g.job == job && g.leaf == leaf) (length g.nodes) 0 + n) (granted_is gs job leaf)

granted_in_order : (a : List Grant) (job leaf : ℕ) → granted (in_order comes_first a) job leaf ≡ granted a job leaf
granted_in_order a job leaf =
    granted_is (in_order comes_first a) job leaf ∙ sum_of-in_order comes_first (λ (g : Grant). cond (g.job == job && g.leaf == leaf) (length g.nodes) 0) a ∙ sym (granted_is a job leaf)

-- the same leaves are idle by the grants in order
idle_in_order : (a : List Grant) (b : Bid) → idle_of (in_order comes_first a) b ≡ idle_of a b
idle_in_order a b = ap (λ v. idle v b.expr) (fun_ext (λ l. ap (worth_at l) (granted_in_order a b.job l.num)))

pub idles_in_order : (a : List Grant) (bs : List Bid) → map (idle_of (in_order comes_first a)) bs ≡ map (idle_of a) bs
idles_in_order a [] = refl
idles_in_order a (b ∷ bs) = ap (λ ns. ns ∷ map (idle_of (in_order comes_first a)) bs) (idle_in_order a b) ∙ ap (λ ls. idle_of a b ∷ ls) (idles_in_order a bs)

-- ---- the idle leaves of one job after another
worth_left : (a b : List Grant) (job : ℕ) → NamesNot job b → leaf_worth (a ++ b) job ≡ leaf_worth a job
worth_left a b job others = fun_ext (λ l. ap (worth_at l) (same l.num))
  where
    same : (leaf : ℕ) → granted (a ++ b) job leaf ≡ granted a job leaf
    same leaf = omega (arith, granted-append a b job leaf, granted-others b job leaf others)

worth_right : (a b : List Grant) (job : ℕ) → NamesNot job a → leaf_worth (a ++ b) job ≡ leaf_worth b job
worth_right a b job others = fun_ext (λ l. ap (worth_at l) (same l.num))
  where
    same : (leaf : ℕ) → granted (a ++ b) job leaf ≡ granted b job leaf
    same leaf = omega (arith, granted-append a b job leaf, granted-others a job leaf others)

idles_right : (a b : List Grant) (bs : List Bid) → All (λ (d : Bid). NamesNot d.job a) bs → map (idle_of (a ++ b)) bs ≡ map (idle_of b) bs
idles_right a b [] others = refl
idles_right a b (c ∷ cs) others =
    let P = λ (d : Bid). NamesNot d.job a in
    ap (λ v. idle v c.expr ∷ map (idle_of (a ++ b)) cs) (worth_right a b c.job (All-head P c cs others)) ∙ ap (λ ls. idle_of b c ∷ ls) (idles_right a b cs (All-tail P c cs others))

-- a job's run of grants, and those of the later jobs behind it
idle_first : (a b : List Grant) (c : Bid) (cs : List Bid) → All (λ (d : Bid). c.job < d.job) cs → All (λ (g : Grant). g.job ≤ c.job) a → All (λ (g : Grant). c.job < g.job) b →
    map (idle_of (a ++ b)) (c ∷ cs) ≡ idle_of a c ∷ map (idle_of b) cs
idle_first a b c cs later within past =
    ap (λ v. idle v c.expr ∷ map (idle_of (a ++ b)) cs) (worth_left a b c.job (All-weaker (λ (g : Grant). c.job < g.job) (λ (g : Grant). g.job ≢ c.job) (λ g lt same. absurd (omega arith)) b past))
    ∙ ap (λ ls. idle_of a c ∷ ls) (idles_right a b cs
    (All-weaker (λ (d : Bid). c.job < d.job) (λ (d : Bid). NamesNot d.job a)
    (λ d lt. All-weaker (λ (g : Grant). g.job ≤ c.job) (λ (g : Grant). g.job ≢ d.job) (λ g le same. absurd (omega arith)) a within) cs later))

-- one job further
pub idle_turn : (made new : List (List ℕ)) (os : List Offer) (i : ℕ) (o : Offer) (rest run past : List Grant) (n : ℕ) → AllPairs (λ (b c : Bid). b.job < c.job) (map bid os) →
    i < length os → o ≡ get_or os i o → run ≡ take n rest → past ≡ drop n rest → All (λ (g : Grant). g.job ≤ o.job) (take n rest) →
    All (λ (g : Grant). o.job < g.job) (drop n rest) → new ≡ made ++ idle (leaf_worth run o.job) (bid o).expr ∷ [] →
    new ++ map (idle_of past) (drop (i + 1) (map bid os)) ≡ made ++ map (idle_of rest) (drop i (map bid os))
idle_turn made new os i o rest run past n ascending lt is is_run is_past within after grown =
    let left = drop (i + 1) (map bid os) in
    ap (λ ls. ls ++ map (idle_of past) left) grown
    ∙ append_assoc made (idle (leaf_worth run o.job) (bid o).expr ∷ []) (map (idle_of past) left)
    ∙ ap (λ gs. made ++ idle (leaf_worth gs o.job) (bid o).expr ∷ map (idle_of past) left) is_run
    ∙ ap (λ gs. made ++ idle (leaf_worth (take n rest) o.job) (bid o).expr ∷ map (idle_of gs) left) is_past
    ∙ ap (λ ls. made ++ ls) (sym (idle_first (take n rest) (drop n rest) (bid o) left (later_jobs os i o ascending lt is) within after))
    ∙ ap (λ gs. made ++ map (idle_of gs) (bid o ∷ left)) (take-append-drop n rest)
    ∙ ap (λ bs. made ++ map (idle_of rest) bs) (sym (next_bid os i o lt is))

-- ---- the first place of two
first_here : (k : ℕ) (o : Option ℕ) → ((m : ℕ) → o ≡ Some m → k ≤ m) → lesser (Some k) o ≡ Some k
first_here k None after = refl
first_here k (Some m) after = let le = after m refl in ap Some (omega arith)

second_here : (k : ℕ) (o : Option ℕ) → ((m : ℕ) → o ≡ Some m → k ≤ m) → lesser o (Some k) ≡ Some k
second_here k None after = refl
second_here k (Some m) after = let le = after m refl in ap Some (omega arith)

first_of_two : (p q : Grant → Bool) (k : ℕ) (gs : List Grant) → lesser (position_from p k gs) (position_from q k gs) ≡ position_from (λ g. p g || q g) k gs
first_of_two p q k [] = refl
first_of_two p q k (g ∷ gs) =
    by_tests (p g) (q g) (position_from p (k + 1) gs) (position_from q (k + 1) gs) (position_from (λ h. p h || q h) (k + 1) gs)
    (λ m e. let within = position_within p (k + 1) m gs e in omega (arith, within.0)) (λ m e. let within = position_within q (k + 1) m gs e in omega (arith, within.0)) (first_of_two p q (k + 1) gs)
  where
    by_tests : (s t : Bool) (x y z : Option ℕ) → ((m : ℕ) → x ≡ Some m → k ≤ m) → ((m : ℕ) → y ≡ Some m → k ≤ m) → lesser x y ≡ z →
        lesser (cond s (Some k) x) (cond t (Some k) y) ≡ cond (s || t) (Some k) z
    by_tests true true x y z low high rest = ap Some (omega arith)
    by_tests true false x y z low high rest = first_here k y high
    by_tests false true x y z low high rest = second_here k x low
    by_tests false false x y z low high rest = rest

-- the first wasted grant is the first of an idle leaf of its job
pub wasted_is_idle : (bs : List Bid) (a : List Grant) → first_wasted bs a ≡ position_from (is_idle_among bs (map (idle_of a) bs)) 0 a
wasted_is_idle [] a = sym (none_passes (is_idle_among [] []) 0 a (λ k d lt. refl))
wasted_is_idle (b ∷ bs) a =
    ap (lesser (first_waste a b.job b.expr)) (wasted_is_idle bs a) ∙ first_of_two (wastes b.job (idle_of a b)) (is_idle_among bs (map (idle_of a) bs)) 0 a

-- ---- the search for a grant's job
or_false : (b : Bool) → (b || false) ≡ b
or_false true = refl
or_false false = refl

others_idle : (bs : List Bid) (ls : List (List ℕ)) (g : Grant) → Each (λ b. b.job ≢ g.job) bs → is_idle_among bs ls g ≡ false
others_idle [] ls g others = refl
others_idle (b ∷ bs) [] g others = refl
others_idle (b ∷ bs) (ns ∷ ls) g others =
    ap (λ t. (t && list_any (λ n. n == g.leaf) ns) || is_idle_among bs ls g) (other_test g.job b.job (λ e. others.0 (sym e))) ∙ others_idle bs ls g others.1

-- an offer of the grant's job stands at this place
pub found_idle : (os : List Offer) (ls : List (List ℕ)) (at : ℕ) (g : Grant) → EachPair (λ (b c : Bid). b.job < c.job) (map bid os) → at < length os → at < length ls →
    ((o : Offer) → (get_or os at o).job ≡ g.job) → is_idle_among (map bid os) ls g ≡ list_any (λ n. n == g.leaf) (get_or ls at [])
found_idle [] ls at g rise lt more is = absurd (omega (arith, lt))
found_idle (o ∷ os) [] at g rise lt more is = absurd (omega (arith, more))
found_idle (o ∷ os) (ns ∷ ls) zero g rise lt more is =
    ap (λ t. (t && list_any (λ n. n == g.leaf) ns) || is_idle_among (map bid os) ls g) (eq-eqb g.job o.job (sym (is o)))
    ∙ ap (λ t. list_any (λ n. n == g.leaf) ns || t)
    (others_idle (map bid os) ls g (Each-map (λ (c : Bid). o.job < c.job) (λ (c : Bid). c.job ≢ g.job) (λ c lt e. absurd (omega (arith, lt, e, is o))) (map bid os) rise.0))
    ∙ or_false (list_any (λ n. n == g.leaf) ns)
found_idle (o ∷ os) (ns ∷ ls) (suc at) g rise lt more is =
    let within : at < length os = omega (arith, lt) in
    let below : o.job < (get_or (map bid os) at (bid o)).job = Each-get (λ (c : Bid). o.job < c.job) (map bid os) at (bid o) rise.0 (omega (arith, within, length-map os bid)) in
    let there : (get_or (map bid os) at (bid o)).job ≡ (get_or os at o).job = ap (λ (b : Bid). b.job) (get_or-map bid os at o (bid o) within) in
    ap (λ t. (t && list_any (λ n. n == g.leaf) ns) || is_idle_among (map bid os) ls g) (other_test g.job o.job (λ e. absurd (omega (arith, below, there, e, is o))))
    ∙ found_idle os ls at g rise.1 within (omega (arith, more)) is

none_jobs : (bs : List Bid) (job : ℕ) → find (λ b. b.job == job) bs ≡ None → Each (λ b. b.job ≢ job) bs
none_jobs [] job e = tt
none_jobs (b ∷ bs) job e = by_test (b.job == job) refl e (λ h. none_jobs bs job h)
  where
    by_test : (t : Bool) → (b.job == job) ≡ t → cond t (Some b) (find (λ c. c.job == job) bs) ≡ None → (find (λ c. c.job == job) bs ≡ None → Each (λ c. c.job ≢ job) bs) →
        (b.job ≢ job) × Each (λ c. c.job ≢ job) bs
    by_test true same found rest = absurd cc
    by_test false other none rest = ((λ e. false≢true (sym other ∙ eq-eqb b.job job e)), rest none)

pub missing_idle : (bs : List Bid) (ls : List (List ℕ)) (g : Grant) → find (λ b. b.job == g.job) bs ≡ None → is_idle_among bs ls g ≡ false
missing_idle bs ls g none = others_idle bs ls g (none_jobs bs g.job none)
