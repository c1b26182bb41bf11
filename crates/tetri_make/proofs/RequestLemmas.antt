-- The request of a job is well made, over the sets that are numbered then.
use Rattle.std.proofs.Common.{◌≡◌, ◌≢◌, ℕ, zero, suc, ◌+◌, ◌*◌, ◌%◌, ◌<◌, ◌≤◌, Bool, true, false, not, cond, List, [], ◌∷◌, ◌++◌, length, All, Result, Ok, Err, IfOk, refl, ap, sym, ◌∙◌, arith, length-append}
use Rattle.std.specs.List.{list_any, position_or_len}
use Rattle.std.proofs.lemmas.Bool.{false≢true}
use Rattle.std.proofs.lemmas.List.Elements.{All-cons, All-push}
use Rattle.std.proofs.lemmas.List.Kept.{AllPairs-cons}
use Rattle.tetri_strl.specs.declared.expr.Leaf.{Leaf}
use Rattle.tetri_strl.specs.Tree.{one}
use Rattle.tetri_strl.specs.WellMade.{IsGoodLeaf}
use Rattle.tetri_cluster.specs.Sets.{HaveNodesBelow, has_nodes, is_known, with_set, number_in}
use Rattle.tetri_trace.specs.Sound.{IsExpressionOver}
use Rattle.tetri_make.specs.declared.drawing.Drawn.{Drawn}
use Rattle.tetri_make.specs.Generated.{EVEN, EVERY, GPU, ODD, either_of, exact_leaf, request_of, sets_with}

-- where a test passes, an element at its first place is there
place_below : {X : Type 0} (p : X → Bool) (xs : List X) → list_any p xs ≡ true → position_or_len p xs < length xs
place_below p [] e = absurd (grind arith)
place_below p (x ∷ xs) e = by_head (p x) refl e (place_below p xs)
  where
    by_head : (b : Bool) → p x ≡ b → list_any p (x ∷ xs) ≡ true → (list_any p xs ≡ true → position_or_len p xs < length xs) → position_or_len p (x ∷ xs) < length (x ∷ xs)
    by_head true h any later = grind (arith, h)
    by_head false h any later = grind (arith, h)

place_at_most : {X : Type 0} (p : X → Bool) (xs : List X) → position_or_len p xs ≤ length xs
place_at_most p [] = omega arith
place_at_most p (x ∷ xs) = by_head (p x) (place_at_most p xs)
  where
    by_head : (b : Bool) → position_or_len p xs ≤ length xs → cond (not b) (1 + position_or_len p xs) 0 ≤ length (x ∷ xs)
    by_head true le = omega arith
    by_head false le = omega (arith, le)

module _ (sets : List (List ℕ)) (nodes : List ℕ) where
  -- a set has its number among the sets with it
  pub number_below : number_in sets nodes < length (with_set sets nodes)
  number_below = by_known (is_known nodes sets) refl
    where
      by_known : (b : Bool) → is_known nodes sets ≡ b → number_in sets nodes < length (cond b sets (sets ++ nodes ∷ []))
      by_known true e = place_below (has_nodes nodes) sets e
      by_known false e = omega (arith, place_at_most (has_nodes nodes) sets, length-append sets (nodes ∷ []))

  pub sets_more : length sets ≤ length (with_set sets nodes)
  sets_more = by_known (is_known nodes sets)
    where
      by_known : (b : Bool) → length sets ≤ length (cond b sets (sets ++ nodes ∷ []))
      by_known true = omega arith
      by_known false = omega (arith, length-append sets (nodes ∷ []))

  pub sets_within : (count : ℕ) → All (λ n. n < count) nodes → HaveNodesBelow count sets → HaveNodesBelow count (with_set sets nodes)
  sets_within count here before = by_known (is_known nodes sets)
    where
      by_known : (b : Bool) → HaveNodesBelow count (cond b sets (sets ++ nodes ∷ []))
      by_known true = before
      by_known false = All-push (All (λ n. n < count)) sets nodes before here

-- what is drawn for a job is within its limits
pub record IsDrawn (d : Drawn) : Type 0 where
  pub some_nodes : 1 ≤ d.nodes
  pub few_nodes : d.nodes ≤ 3
  pub some_slots : 1 ≤ d.slots
  pub few_slots : d.slots ≤ 3
  pub small_worth : d.worth ≤ 20
  pub small_late : d.late < 3

-- a leaf that is good and worth little, over the first so many sets, and starts soon behind an arrival
pub record IsFitLeaf (sets arrival : ℕ) (l : Leaf) : Type 0 where
  pub good : IsGoodLeaf l
  pub small : l.v ≤ 60
  pub known : l.set < sets
  pub not_before : arrival ≤ l.start
  pub soon : l.start ≤ arrival + 1

module _ (sets arrival : ℕ) where
  pub one_fits : (l : Leaf) → IsFitLeaf sets arrival l → IsExpressionOver sets arrival (one l)
  one_fits l fit = record {
    well_made = record {
      sound = (fit.good, omega (arith, fit.small));
      aligned = tt;
      distinct = AllPairs-cons (λ (k m : Leaf). k.num ≢ m.num) l [] (λ i d lt. absurd (omega arith)) (λ i j d before lt. absurd (omega arith));
      few_leaves = omega arith;
      shallow = omega arith;
    };
    known_sets = All-cons (λ (k : Leaf). k.set < sets) l [] fit.known (λ i d lt. absurd (omega arith));
    starts = All-cons (λ (k : Leaf). (arrival ≤ k.start) × (k.start ≤ arrival + 10000)) l [] (fit.not_before, omega (arith, fit.soon)) (λ i d lt. absurd (omega arith));
  }

  pub either_fits : (l m : Leaf) → l.num ≡ 0 → m.num ≡ 1 → IsFitLeaf sets arrival l → IsFitLeaf sets arrival m → IsExpressionOver sets arrival (either_of l m)
  either_fits l m first second fit other = record {
    well_made = record {
      sound = (tt, ((fit.good, omega (arith, fit.small)), ((other.good, omega (arith, other.small)), tt)), omega (arith, fit.small, other.small));
      aligned = (tt, (tt, (tt, tt)));
      distinct = AllPairs-cons (λ (k n : Leaf). k.num ≢ n.num) l (m ∷ []) (All-cons (λ (k : Leaf). l.num ≢ k.num) m [] (λ e. omega (arith, e, first, second)) (λ i d lt. absurd (omega arith)))
          (AllPairs-cons (λ (k n : Leaf). k.num ≢ n.num) m [] (λ i d lt. absurd (omega arith)) (λ i j d before lt. absurd (omega arith)));
      few_leaves = omega arith;
      shallow = omega arith;
    };
    known_sets = All-cons (λ (k : Leaf). k.set < sets) l (m ∷ []) fit.known (All-cons (λ (k : Leaf). k.set < sets) m [] other.known (λ i d lt. absurd (omega arith)));
    starts = All-cons (λ (k : Leaf). (arrival ≤ k.start) × (k.start ≤ arrival + 10000)) l (m ∷ []) (fit.not_before, omega (arith, fit.soon))
        (All-cons (λ (k : Leaf). (arrival ≤ k.start) × (k.start ≤ arrival + 10000)) m [] (other.not_before, omega (arith, other.soon)) (λ i d lt. absurd (omega arith)));
  }

-- a leaf that wants exactly so many nodes fits
exact_fits : (sets arrival num set k start dur v : ℕ) → 1 ≤ k → k ≤ 3 → 1 ≤ dur → dur ≤ 4 → v ≤ 60 → set < sets → arrival ≤ start → start ≤ arrival + 1 → arrival < 32 → IsFitLeaf sets arrival (exact_leaf num set k start dur v)
exact_fits sets arrival num set k start dur v some few long short small known after soon early = record {
  good = record { some_nodes = some; few_nodes = omega (arith, few); within = omega (arith, soon, early); some_slots = long; few_slots = omega (arith, short); whole = λ e. absurd (false≢true e) };
  small = small;
  known = known;
  not_before = after;
  soon = soon;
}

shares : (k v : ℕ) → 1 ≤ k → k ≤ 3 → k * v % k ≡ 0
shares zero v some few = absurd (omega arith)
shares (suc zero) v some few = omega arith
shares (suc (suc zero)) v some few = omega arith
shares (suc (suc (suc zero))) v some few = omega arith
shares (suc (suc (suc (suc k)))) v some few = absurd (omega arith)

little : (k v : ℕ) → k ≤ 3 → v ≤ 20 → k * v ≤ 60
little zero v few small = omega arith
little (suc zero) v few small = omega arith
little (suc (suc zero)) v few small = omega arith
little (suc (suc (suc zero))) v few small = omega arith
little (suc (suc (suc (suc k)))) v few small = absurd (omega arith)

module _ (sets : List (List ℕ)) (slot : ℕ) (early : slot < 32) (d : Drawn) (drawn : IsDrawn d) where
  -- two sets are numbered below those with both
  first_below : (first other : List ℕ) → number_in sets first < length (with_set (with_set sets first) other)
  first_below first other = omega (arith, number_below sets first, sets_more (with_set sets first) other)

  pub request_fits : IsExpressionOver (length (sets_with sets d)) slot (request_of sets slot d)
  request_fits = by_shape d.shape
    where
      by_shape : (shape : ℕ) → IsExpressionOver (length (sets_with sets (record d { shape = shape }))) slot (request_of sets slot (record d { shape = shape }))
      by_shape zero = either_fits _ slot _ _ refl refl
          (exact_fits _ slot 0 _ d.nodes slot d.slots (2 * d.worth) drawn.some_nodes drawn.few_nodes drawn.some_slots (omega (arith, drawn.few_slots)) (omega (arith, drawn.small_worth)) (first_below GPU EVERY) (omega arith) (omega arith) early)
          (exact_fits _ slot 1 _ d.nodes slot (d.slots + 1) d.worth drawn.some_nodes drawn.few_nodes (omega arith) (omega (arith, drawn.few_slots)) (omega (arith, drawn.small_worth)) (number_below (with_set sets GPU) EVERY) (omega arith) (omega arith) early)
      by_shape (suc zero) = either_fits _ slot _ _ refl refl
          (exact_fits _ slot 0 _ d.nodes slot d.slots d.worth drawn.some_nodes drawn.few_nodes drawn.some_slots (omega (arith, drawn.few_slots)) (omega (arith, drawn.small_worth)) (first_below EVEN ODD) (omega arith) (omega arith) early)
          (exact_fits _ slot 1 _ d.nodes (slot + 1) d.slots d.worth drawn.some_nodes drawn.few_nodes drawn.some_slots (omega (arith, drawn.few_slots)) (omega (arith, drawn.small_worth)) (number_below (with_set sets EVEN) ODD) (omega arith) (omega arith) early)
      by_shape (suc (suc shape)) = one_fits _ slot _ (linear_fits shape)
        where
          linear_fits : (shape : ℕ) → IsFitLeaf (length (with_set sets EVERY)) slot (record { num = 0; set = number_in sets EVERY; k = d.nodes; start = slot + 1; dur = d.slots; v = d.nodes * d.worth; linear = true })
          linear_fits shape = record {
            good = record { some_nodes = drawn.some_nodes; few_nodes = omega (arith, drawn.few_nodes); within = omega (arith, early); some_slots = drawn.some_slots; few_slots = omega (arith, drawn.few_slots); whole = λ e. shares d.nodes d.worth drawn.some_nodes drawn.few_nodes };
            small = little d.nodes d.worth drawn.few_nodes drawn.small_worth;
            known = number_below sets EVERY;
            not_before = omega arith;
            soon = omega arith;
          }

-- the request and the sets of each shape
module _ (sets : List (List ℕ)) (slot : ℕ) (d : Drawn) where
  sets_first : d.shape ≡ 0 → sets_with sets d ≡ with_set (with_set sets GPU) EVERY
  sets_first is = ap (λ (shape : ℕ). sets_with sets (record d { shape = shape })) is

  sets_second : d.shape ≡ 1 → sets_with sets d ≡ with_set (with_set sets EVEN) ODD
  sets_second is = ap (λ (shape : ℕ). sets_with sets (record d { shape = shape })) is

  sets_third : 2 ≤ d.shape → sets_with sets d ≡ with_set sets EVERY
  sets_third is = by_shape d.shape is
    where
      by_shape : (shape : ℕ) → 2 ≤ shape → sets_with sets (record d { shape = shape }) ≡ with_set sets EVERY
      by_shape zero le = absurd (omega arith)
      by_shape (suc zero) le = absurd (omega arith)
      by_shape (suc (suc shape)) le = refl

  -- the sets after both look-ups of a shape, or after its one
  pub sets_by_first : (once twice : List (List ℕ)) → d.shape ≡ 0 → once ≡ with_set sets GPU → twice ≡ with_set once EVERY → twice ≡ sets_with sets d
  sets_by_first once twice is first second = second ∙ ap (λ (ss : List (List ℕ)). with_set ss EVERY) first ∙ sym (sets_first is)

  pub sets_by_second : (once twice : List (List ℕ)) → d.shape ≡ 1 → once ≡ with_set sets EVEN → twice ≡ with_set once ODD → twice ≡ sets_with sets d
  sets_by_second once twice is first second = second ∙ ap (λ (ss : List (List ℕ)). with_set ss ODD) first ∙ sym (sets_second is)

  pub sets_by_third : (once : List (List ℕ)) → 2 ≤ d.shape → once ≡ with_set sets EVERY → once ≡ sets_with sets d
  sets_by_third once is first = first ∙ sym (sets_third is)

  pub request_by_first : (once : List (List ℕ)) (number other worth : ℕ) (l m : Leaf) → d.shape ≡ 0 → once ≡ with_set sets GPU → number ≡ number_in sets GPU → other ≡ number_in once EVERY → worth ≡ d.worth →
      l ≡ exact_leaf 0 number d.nodes slot d.slots (2 * worth) → m ≡ exact_leaf 1 other d.nodes slot (d.slots + 1) worth → either_of l m ≡ request_of sets slot d
  request_by_first once number other worth l m is more here there same first second =
      let left : l ≡ exact_leaf 0 (number_in sets GPU) d.nodes slot d.slots (2 * d.worth) =
      first ∙ ap (λ (n : ℕ). exact_leaf 0 n d.nodes slot d.slots (2 * worth)) here ∙ ap (λ (w : ℕ). exact_leaf 0 (number_in sets GPU) d.nodes slot d.slots (2 * w)) same in
      let right : m ≡ exact_leaf 1 (number_in (with_set sets GPU) EVERY) d.nodes slot (d.slots + 1) d.worth =
      second ∙ ap (λ (n : ℕ). exact_leaf 1 n d.nodes slot (d.slots + 1) worth) (there ∙ ap (λ (ss : List (List ℕ)). number_in ss EVERY) more)
      ∙ ap (λ (w : ℕ). exact_leaf 1 (number_in (with_set sets GPU) EVERY) d.nodes slot (d.slots + 1) w) same in
      ap (λ (k : Leaf). either_of k m) left ∙ ap (λ (k : Leaf). either_of (exact_leaf 0 (number_in sets GPU) d.nodes slot d.slots (2 * d.worth)) k) right
      ∙ sym (ap (λ (shape : ℕ). request_of sets slot (record d { shape = shape })) is)

  pub request_by_second : (once : List (List ℕ)) (number other worth : ℕ) (l m : Leaf) → d.shape ≡ 1 → once ≡ with_set sets EVEN → number ≡ number_in sets EVEN → other ≡ number_in once ODD → worth ≡ d.worth →
      l ≡ exact_leaf 0 number d.nodes slot d.slots worth → m ≡ exact_leaf 1 other d.nodes (slot + 1) d.slots worth → either_of l m ≡ request_of sets slot d
  request_by_second once number other worth l m is more here there same first second =
      let left : l ≡ exact_leaf 0 (number_in sets EVEN) d.nodes slot d.slots d.worth =
      first ∙ ap (λ (n : ℕ). exact_leaf 0 n d.nodes slot d.slots worth) here ∙ ap (λ (w : ℕ). exact_leaf 0 (number_in sets EVEN) d.nodes slot d.slots w) same in
      let right : m ≡ exact_leaf 1 (number_in (with_set sets EVEN) ODD) d.nodes (slot + 1) d.slots d.worth =
      second ∙ ap (λ (n : ℕ). exact_leaf 1 n d.nodes (slot + 1) d.slots worth) (there ∙ ap (λ (ss : List (List ℕ)). number_in ss ODD) more)
      ∙ ap (λ (w : ℕ). exact_leaf 1 (number_in (with_set sets EVEN) ODD) d.nodes (slot + 1) d.slots w) same in
      ap (λ (k : Leaf). either_of k m) left ∙ ap (λ (k : Leaf). either_of (exact_leaf 0 (number_in sets EVEN) d.nodes slot d.slots d.worth) k) right
      ∙ sym (ap (λ (shape : ℕ). request_of sets slot (record d { shape = shape })) is)

  pub request_by_third : (number nodes worth : ℕ) (l : Leaf) → 2 ≤ d.shape → number ≡ number_in sets EVERY → nodes ≡ d.nodes → worth ≡ d.worth →
      l ≡ exact_leaf 0 number d.nodes (slot + 1) d.slots (nodes * worth) → one (record l { linear = true }) ≡ request_of sets slot d
  request_by_third number nodes worth l is here many same only =
      let leaf : l ≡ exact_leaf 0 (number_in sets EVERY) d.nodes (slot + 1) d.slots (d.nodes * d.worth) =
      only ∙ ap (λ (n : ℕ). exact_leaf 0 n d.nodes (slot + 1) d.slots (nodes * worth)) here ∙ ap (λ (k : ℕ). exact_leaf 0 (number_in sets EVERY) d.nodes (slot + 1) d.slots (k * worth)) many
      ∙ ap (λ (w : ℕ). exact_leaf 0 (number_in sets EVERY) d.nodes (slot + 1) d.slots (d.nodes * w)) same in
      ap (λ (k : Leaf). one (record k { linear = true })) leaf ∙ sym (by_shape d.shape is)
    where
      by_shape : (shape : ℕ) → 2 ≤ shape → request_of sets slot (record d { shape = shape }) ≡ one (record (exact_leaf 0 (number_in sets EVERY) d.nodes (slot + 1) d.slots (d.nodes * d.worth)) { linear = true })
      by_shape zero le = absurd (omega arith)
      by_shape (suc zero) le = absurd (omega arith)
      by_shape (suc (suc shape)) le = refl

-- a fact that holds whatever is returned
pub of_any : {T E : Type 0} (r : Result T E) (A : Type 0) → A → IfOk r (λ _. A)
of_any (Ok x) A a = a
of_any (Err e) A a = tt
