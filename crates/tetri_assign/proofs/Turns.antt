-- Partitions share no node; counts in order; the supply rows read as sums.
use Rattle.std.proofs.Common.{◌≡◌, ℕ, zero, suc, ◌<◌, ◌≤◌, ◌&&◌, not, true, false, cond, List, [], ◌∷◌, ◌++◌, length, get_or, map, refl, sym, ap, ◌∙◌, subst, arith, true≢false, inl, inr, ⊎_elim}
use Rattle.std.specs.Prelude.{nat_lt}
use Rattle.std.specs.List.{list_any, filter}
use Rattle.std.proofs.lemmas.Bool.{cases_order, cases_lt, and_parts, and_from}
use Rattle.std.proofs.lemmas.Bool.Decides.{nat_tests}
use Rattle.tetri_base.specs.Lists.{sum_of, has, Each, EachPair, Ascends}
use Rattle.tetri_space.specs.Partitions.{alike, leads, groups, part_at, nodes_of}
use Rattle.tetri_space.specs.Space.{Space}
use Rattle.tetri_base.proofs.ListLaws.{sum_of-filter, Each-all, Each-filter, Each-passed, Each-both, Each-get, EachPair-with, any_from, has-filter, range_contains, range_from, range-ascends, filter-ascends}
use Rattle.tetri_compile.specs.declared.outline.Tally.{Tally}
use Rattle.tetri_compile.specs.Draft.{is_held, tally_form, supply_row, part_supply, supply}
use Rattle.tetri_compile.specs.Forms.{at_point, AreMet}
use Rattle.tetri_compile.proofs.ProgramLaws.{AreMet-split}
use Rattle.tetri_space.proofs.InstanceLaws.{alike_trans, alike_sym}
use Rattle.tetri_assign.specs.Assigned.{turn_before}
use Rattle.tetri_base.specs.Order.{in_order}
use Rattle.tetri_base.proofs.OrderLaws.{in_order-rises, order_by, order_then, IsOrder, NotAfter}

-- ---- partitions
module _ {X : Type 0} (R : X → X → Type 0) where
  pub EachPair-get : (xs : List X) (j k : ℕ) (d e : X) → EachPair R xs → j < k → k < length xs → R (get_or xs j d) (get_or xs k e)
  EachPair-get [] j k d e h lt short = absurd (omega arith)
  EachPair-get (x ∷ xs) j zero d e h lt short = absurd (omega arith)
  EachPair-get (x ∷ xs) zero (suc k) d e h lt short = Each-get (R x) xs k e h.0 (omega arith)
  EachPair-get (x ∷ xs) (suc j) (suc k) d e h lt short = EachPair-get xs j k d e h.1 (omega arith) (omega arith)

  pub EachPair-map : {Y : Type 0} (S : Y → Y → Type 0) (f : X → Y) → ((x y : X) → R x y → S (f x) (f y)) → (xs : List X) → EachPair R xs → EachPair S (map f xs)
  EachPair-map {Y} S f g [] h = tt
  EachPair-map {Y} S f g (x ∷ xs) h = (each xs h.0, EachPair-map S f g xs h.1)
    where
      each : (ys : List X) → Each (R x) ys → Each (S (f x)) (map f ys)
      each [] k = tt
      each (y ∷ ys) k = (g x y k.0, each ys k.1)

Each-mapped : {X Y : Type 0} (P : Y → Type 0) (f : X → Y) → ((x : X) → P (f x)) → (xs : List X) → Each P (map f xs)
Each-mapped P f g [] = tt
Each-mapped P f g (x ∷ xs) = (g x, Each-mapped P f g xs)

get_or-past : {X : Type 0} (xs : List X) (k : ℕ) (d : X) → length xs ≤ k → get_or xs k d ≡ d
get_or-past [] k d le = refl
get_or-past (x ∷ xs) zero d le = absurd (omega arith)
get_or-past (x ∷ xs) (suc k) d le = get_or-past xs k d (omega arith)

module _ (i : Space) (asks marks : List (List ℕ)) where
  abbrev sets : List (List ℕ)
  sets = asks ++ marks

  abbrev gs : List (List ℕ)
  gs = groups asks marks (nodes_of i)

  abbrev ShareNoNode : List ℕ → List ℕ → Type 0
  ShareNoNode s t = (n : ℕ) → has s n ≡ true → has t n ≡ true → ⊥

  pub parts_sorted : (p : ℕ) → Ascends (part_at gs p)
  parts_sorted p =
      ⊎_elim (λ lt. Each-get Ascends gs p [] (Each-mapped Ascends (λ n. filter (alike sets n) (nodes_of i)) (λ n. filter-ascends (alike sets n) (nodes_of i) (range-ascends 0 i.nodes)) (filter (leads asks marks (nodes_of i)) (nodes_of i))) lt)
      (λ ge. subst Ascends (sym (get_or-past gs p [] ge)) tt)
      (cases_lt p (length gs))

  part_inside : (p n : ℕ) → has (part_at gs p) n ≡ true → p < length gs
  part_inside p n e = ⊎_elim (λ lt. lt) (λ ge. absurd (true≢false (sym e ∙ ap (λ s. has s n) (get_or-past gs p [] ge)))) (cases_lt p (length gs))

  -- a lesser node in the same sets keeps the other one from leading
  lead_once : (j k : ℕ) → j < i.nodes → j < k → leads asks marks (nodes_of i) k ≡ true → ShareNoNode (filter (alike sets j) (nodes_of i)) (filter (alike sets k) (nodes_of i))
  lead_once j k small lt lead n p q =
      let a = and_parts (has (nodes_of i) n) (alike sets j n) (sym (has-filter (alike sets j) (nodes_of i) n) ∙ p) in
      let b = and_parts (has (nodes_of i) n) (alike sets k n) (sym (has-filter (alike sets k) (nodes_of i) n) ∙ q) in
      let first = and_parts (list_any (λ t. has t k) asks) (not (list_any (λ m. nat_lt m k && alike sets m k) (nodes_of i))) lead in
      let like = alike_trans sets j n k a.1 (alike_sym sets k n b.1) in
      let found = any_from (λ m. nat_lt m k && alike sets m k) (nodes_of i) j (range_contains 0 i.nodes j (omega arith) (omega arith)) (and_from (nat_lt j k) (alike sets j k) (lt_test j k lt) like) in
      true≢false (sym first.1 ∙ ap not found)
    where
      lt_test : (m o : ℕ) → m < o → nat_lt m o ≡ true
      lt_test m o h = grind (arith, nat_tests)

  groups_apart : EachPair ShareNoNode gs
  groups_apart =
      EachPair-map (λ j k. ShareNoNode (filter (alike sets j) (nodes_of i)) (filter (alike sets k) (nodes_of i))) ShareNoNode (λ n. filter (alike sets n) (nodes_of i)) (λ j k h. h)
      (filter (leads asks marks (nodes_of i)) (nodes_of i))
      (EachPair-with (λ n. (n < i.nodes) × (leads asks marks (nodes_of i) n ≡ true)) (λ j k. j < k)
      (λ j k. ShareNoNode (filter (alike sets j) (nodes_of i)) (filter (alike sets k) (nodes_of i))) (λ j k p q lt. lead_once j k p.0 lt q.1)
      (filter (leads asks marks (nodes_of i)) (nodes_of i))
      (Each-both (λ n. n < i.nodes) (λ n. leads asks marks (nodes_of i) n ≡ true) (λ n. (n < i.nodes) × (leads asks marks (nodes_of i) n ≡ true)) (λ n a b. (a, b)) _
      (Each-filter (λ n. n < i.nodes) (leads asks marks (nodes_of i)) (nodes_of i) (range_from (λ n. n < i.nodes) 0 i.nodes (λ k low high. omega arith)))
      (Each-passed (λ n. leads asks marks (nodes_of i) n ≡ true) (leads asks marks (nodes_of i)) (λ n e. e) (nodes_of i)))
      (filter-ascends (leads asks marks (nodes_of i)) (nodes_of i) (range-ascends 0 i.nodes)))

  pub parts_apart : (p q n : ℕ) → has (part_at gs p) n ≡ true → has (part_at gs q) n ≡ true → p ≡ q
  parts_apart p q n a b =
      elim (cases_order p q) [
        | inl e ↦ e
        | inr (inl lt) ↦ absurd (EachPair-get ShareNoNode gs p q [] [] groups_apart lt (part_inside q n b) n a b)
        | inr (inr gt) ↦ absurd (EachPair-get ShareNoNode gs q p [] [] groups_apart gt (part_inside p n a) n b a)
      ]

-- ---- counts in their turn
abbrev pub StartsFirst : Tally → Tally → Type 0
StartsFirst c d = c.leaf.start ≤ d.leaf.start

turn_start : (c d : Tally) → turn_before d c ≡ false → StartsFirst c d
turn_start c d e = grind (arith, nat_tests)

pub turn_order : IsOrder turn_before
turn_order =
    order_then (λ (c : Tally). c.leaf.start) _
    (order_then (λ (c : Tally). c.job) _ (order_then (λ (c : Tally). c.leaf.num) _ (order_by (λ (c : Tally). c.part))))

pub in_turn : (cs : List Tally) → EachPair StartsFirst (in_order turn_before cs)
in_turn cs =
    EachPair-with (λ c. Unit {0}) (NotAfter turn_before) StartsFirst (λ c d u v e. turn_start c d e) (in_order turn_before cs)
    (Each-all (λ c. Unit {0}) (λ c. tt) (in_order turn_before cs)) (in_order-rises turn_before turn_order cs)

-- ---- the supply rows
module _ (room : ℕ → ℕ → ℕ) (x : ℕ → ℕ) (cs : List Tally) where
  tally_sum : (ds : List Tally) → at_point x (tally_form ds) ≡ sum_of (λ d. x d.column) ds
  tally_sum [] = refl
  tally_sum (d ∷ ds) = omega (arith, tally_sum ds)

  row_sum : (ds : List Tally) (m : ℕ) → AreMet x (supply_row ds m) → sum_of (λ d. x d.column) ds ≤ m
  row_sum [] m h = omega arith
  row_sum (d ∷ ds) m h = omega (arith, tally_sum (d ∷ ds), h.0)

  abbrev IsSupplied : ℕ → ℕ → Type 0
  IsSupplied p t = sum_of (λ d. cond (is_held p t d) (x d.column) 0) cs ≤ room p t

  part_supplied : (p : ℕ) (ts : List ℕ) → AreMet x (part_supply room cs p ts) → Each (IsSupplied p) ts
  part_supplied p [] h = tt
  part_supplied p (t ∷ ts) h =
      let both = AreMet-split x (supply_row (filter (is_held p t) cs) (room p t)) (part_supply room cs p ts) h in
      (omega (arith, row_sum (filter (is_held p t) cs) (room p t) both.0, sum_of-filter (λ d. x d.column) (is_held p t) cs), part_supplied p ts both.1)

  pub supplied : (slots ps : List ℕ) → AreMet x (supply room cs slots ps) → Each (λ p. Each (IsSupplied p) slots) ps
  supplied slots [] h = tt
  supplied slots (p ∷ ps) h =
      let both = AreMet-split x (part_supply room cs p slots) (supply room cs slots ps) h in
      (part_supplied p slots both.0, supplied slots ps both.1)
