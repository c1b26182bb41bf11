-- Places by number and places as they are: taking nodes from them is the same.
use Rattle.std.proofs.Common.{◌≡◌, ℕ, ◌+◌, ◌*◌, ◌-◌, ◌/◌, ◌<◌, ◌≤◌, All, min, Bool, true, false, cond, nat_lt, List, [], ◌∷◌, ◌++◌, Vec, Global, length, get_or, drop, map, refl, sym, ap, ◌∙◌, subst, arith}
use Rattle.std.proofs.lemmas.List.{append_assoc, drop_more, get_or-map, length-map}
use Rattle.tetri_base.specs.Lists.{sum_of}
use Rattle.tetri_base.specs.Order.{put}
use Rattle.tetri_base.proofs.ListLaws.{sum_of-map}
use Rattle.tetri_base.proofs.OrderLaws.{Each-in_order, sum_of-in_order}
use Rattle.tetri_strl.specs.declared.expr.Leaf.{Leaf}
use Rattle.tetri_space.specs.Partitions.{partitions, parts_in}
use Rattle.tetri_space.specs.Space.{Space}
use Rattle.tetri_space.proofs.InstanceLaws.{all_of, each_of}
use Rattle.tetri_compile.specs.Usable.{usable_by}
use Rattle.tetri_compile.proofs.ProgramLaws.{inside_below}
use Rattle.tetri_prices.specs.declared.filling.Place.{Place}
use Rattle.tetri_prices.specs.Filling.{by_cost, fill, pick}
use Rattle.tetri_prices.specs.Priced.{ArePricesOf, cost_for, gain_for, listed, node_cost}
use Rattle.tetri_prices.specs.steps.Places.{Capacity, Cost, place_for, places_for, sorted_cost, sorted_gain}

module _ {X Y : Type 0} (f : Y → X) (cost capacity : X → ℕ) where
  abbrev cost_at : Y → ℕ
  cost_at y = cost (f y)

  abbrev capacity_at : Y → ℕ
  capacity_at y = capacity (f y)

  fill-map : (k : ℕ) (ys : List Y) → fill cost capacity k (map f ys) ≡ fill cost_at capacity_at k ys
  fill-map k [] = refl
  fill-map k (y ∷ ys) = ap (λ n. min k (capacity (f y)) * cost (f y) + n) (fill-map (k - capacity (f y)) ys)

  pick-map : (each k : ℕ) (ys : List Y) → pick cost capacity each k (map f ys) ≡ pick cost_at capacity_at each k ys
  pick-map each k [] = refl
  pick-map each k (y ∷ ys) = ap (λ n. min k (capacity (f y)) * (each - cost (f y)) + n) (pick-map each (k - capacity (f y)) ys)

  abbrev before : X → X → Bool
  before p q = nat_lt (cost p) (cost q)

  abbrev before_at : Y → Y → Bool
  before_at p q = nat_lt (cost (f p)) (cost (f q))

  put-map : (x : Y) (ys : List Y) → put before (f x) (map f ys) ≡ map f (put before_at x ys)
  put-map x [] = refl
  put-map x (y ∷ ys) = by_test (before_at y x) (put-map x ys)
    where
      by_test : (b : Bool) → put before (f x) (map f ys) ≡ map f (put before_at x ys) →
          cond b (f y ∷ put before (f x) (map f ys)) (f x ∷ f y ∷ map f ys) ≡ map f (cond b (y ∷ put before_at x ys) (x ∷ y ∷ ys))
      by_test true e = ap (λ zs. f y ∷ zs) e
      by_test false e = refl

  by_cost-map : (ys : List Y) → by_cost cost capacity (map f ys) ≡ map f (by_cost cost_at capacity_at ys)
  by_cost-map [] = refl
  by_cost-map (y ∷ ys) = ap (put before (f y)) (by_cost-map ys) ∙ put-map y (by_cost cost_at capacity_at ys)

  pub filled-map : (k : ℕ) (ys : List Y) → fill cost capacity k (by_cost cost capacity (map f ys)) ≡ fill cost_at capacity_at k (by_cost cost_at capacity_at ys)
  filled-map k ys = ap (fill cost capacity k) (by_cost-map ys) ∙ fill-map k (by_cost cost_at capacity_at ys)

  pub picked-map : (each k : ℕ) (ys : List Y) → pick cost capacity each k (by_cost cost capacity (map f ys)) ≡ pick cost_at capacity_at each k (by_cost cost_at capacity_at ys)
  picked-map each k ys = ap (pick cost capacity each k) (by_cost-map ys) ∙ pick-map each k (by_cost cost_at capacity_at ys)

  pub capacity-map : (ys : List Y) → sum_of capacity (by_cost cost capacity (map f ys)) ≡ sum_of capacity_at ys
  capacity-map ys = sum_of-in_order before capacity (map f ys) ∙ sum_of-map capacity f ys

-- a row of a list of rows
pub row_is : (rows : List (Vec ℕ Global)) (p : ℕ) (v : Vec ℕ Global) → p < length rows → v ≡ get_or rows p v → v.items ≡ get_or (map (λ (w : Vec ℕ Global). w.items) rows) p []
row_is rows p v lt is = ap (λ (w : Vec ℕ Global). w.items) is ∙ sym (get_or-map (λ (w : Vec ℕ Global). w.items) rows p v [] lt)

pub row_long : (s : Space) (rows : List (Vec ℕ Global)) (p : ℕ) (v : Vec ℕ Global) → p < length rows → v ≡ get_or rows p v → ArePricesOf s (map (λ (w : Vec ℕ Global). w.items) rows) → length v.items ≡ s.window
row_long s rows p v lt is are =
    ap (λ (ns : List ℕ). length ns) (row_is rows p v lt is) ∙ are.long p [] (omega (arith, lt, length-map rows (λ (w : Vec ℕ Global). w.items)))

-- ---- steps of the loop that lists places
pub collect_next : {A B : Type 0} (f : A → B) (xs : List A) (i : ℕ) (d : A) (old new all : List B) (y : B) → i < length xs → y ≡ f (get_or xs i d) → new ≡ old ++ y ∷ [] →
    old ++ map f (drop i xs) ≡ all → new ++ map f (drop (i + 1) xs) ≡ all
collect_next f xs i d old new all y short is grown so_far =
    ap (λ zs. zs ++ map f (drop (i + 1) xs)) grown
    ∙ append_assoc old (y ∷ []) (map f (drop (i + 1) xs))
    ∙ ap (λ z. old ++ (z ∷ map f (drop (i + 1) xs))) is
    ∙ sym (ap (λ zs. old ++ map f zs) (drop_more xs i d short))
    ∙ so_far

abbrev place : ℕ → ℕ → Place
place n m = record { cost = n; capacity = m }

-- a partition in a set is one of the partitions
pub part_below : (s : Space) (set : ℕ) (xs : List ℕ) (k : ℕ) → xs ≡ parts_in s (partitions s) set → k < length xs → get_or xs k 0 < length (partitions s)
part_below s set xs k same lt =
    let within : k < length (parts_in s (partitions s) set) = omega (arith, ap length same, lt) in
    omega (arith, inside_below s (partitions s) set k within, ap (λ (ps : List ℕ). get_or ps k 0) same)

pub place_is : (s : Space) (rows : List (List ℕ)) (l : Leaf) (p cost capacity : ℕ) → cost ≡ node_cost s (partitions s) (listed s.now rows) l p →
    capacity ≡ usable_by s (partitions s) p l → record { cost = cost; capacity = capacity } ≡ place_for s rows l p
place_is s rows l p cost capacity priced open_ =
    ap (λ (n : ℕ). place n capacity) priced ∙ ap (λ (n : ℕ). place (node_cost s (partitions s) (listed s.now rows) l p) n) open_

-- ---- what a leaf gains and costs, from its places in order
module _ (s : Space) (rows : List (List ℕ)) (l : Leaf) where
  abbrev price : ℕ → ℕ → ℕ
  price = listed s.now rows

  abbrev told : List Place
  told = by_cost Cost Capacity (places_for s rows l)

  abbrev parts : List ℕ
  parts = parts_in s (partitions s) l.set

  pub cost_is : cost_for s (partitions s) price l ≡ sorted_cost l told
  cost_is = sym (filled-map (place_for s rows l) Cost Capacity (cond l.linear 1 l.k) parts)

  abbrev over : ℕ → ℕ
  over = node_cost s (partitions s) price l

  abbrev free : ℕ → ℕ
  free p = usable_by s (partitions s) p l

  pub gain_is : (m : ℕ) → gain_for s (partitions s) price l m ≡ sorted_gain l told m
  gain_is m = ap (λ n. cond l.linear n short) picked ∙ ap (λ n. cond l.linear (pick Cost Capacity (m * (l.v / l.k)) l.k told) n) whole
    where
      short : ℕ
      short = cond (nat_lt (sum_of free parts) l.k) 0 (m * l.v - fill over free l.k (by_cost over free parts))

      picked : pick over free (m * (l.v / l.k)) l.k (by_cost over free parts) ≡ pick Cost Capacity (m * (l.v / l.k)) l.k told
      picked = sym (picked-map (place_for s rows l) Cost Capacity (m * (l.v / l.k)) l.k parts)

      whole : cond (nat_lt (sum_of free parts) l.k) 0 (m * l.v - fill over free l.k (by_cost over free parts))
          ≡ cond (nat_lt (sum_of Capacity told) l.k) 0 (m * l.v - fill Cost Capacity l.k told)
      whole =
          ap (λ n. cond (nat_lt n l.k) 0 (m * l.v - fill over free l.k (by_cost over free parts))) (sym (capacity-map (place_for s rows l) Cost Capacity parts))
          ∙ ap (λ n. cond (nat_lt (sum_of Capacity told) l.k) 0 (m * l.v - n)) (sym (filled-map (place_for s rows l) Cost Capacity l.k parts))

-- places in order are no dearer
pub small_sorted : (limit : ℕ) (old new : List Place) → new ≡ by_cost Cost Capacity old → All (λ p. p.cost ≤ limit) old → All (λ p. p.cost ≤ limit) new
small_sorted limit old new order small =
    subst (λ (ps : List Place). All (λ p. p.cost ≤ limit) ps) (sym order)
    (all_of (λ (p : Place). p.cost ≤ limit) (by_cost Cost Capacity old)
    (Each-in_order (λ (p q : Place). nat_lt p.cost q.cost) (λ (p : Place). p.cost ≤ limit) old (each_of (λ (p : Place). p.cost ≤ limit) old small)))
