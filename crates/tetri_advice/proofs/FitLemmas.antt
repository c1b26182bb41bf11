-- What a fit places is right for its leaves, and apart from what is held.
use Rattle.std.proofs.Common.{◌≡◌, ℕ, ◌+◌, ◌<◌, ◌≤◌, ◌==◌, ◌&&◌, ◌||◌, Bool, true, false, not, cond, List, [], ◌∷◌, ◌++◌, length, get_or, take, All, AllPairs, Contains, refl, sym, ap, ◌∙◌, arith, nat_le, nat_lt}
use Rattle.std.specs.Prelude.{filter}
use Rattle.std.specs.List.{list_any}
use Rattle.std.specs.List.Sorted.{IsStrictlyIncreasing}
use Rattle.std.proofs.lemmas.Bool.{true≢false}
use Rattle.std.proofs.lemmas.Bool.Decides.{nat_tests}
use Rattle.std.proofs.lemmas.List.{get_or-take, length-take}
use Rattle.std.proofs.lemmas.List.Elements.{All-nil, All-cons, All-append, All-contains, All-contains_itself, All-filter, All-take, All-weaker, Contains-append_left, Contains-append_right, filter_passes}
use Rattle.std.proofs.lemmas.List.Folds.{list_any-append}
use Rattle.std.proofs.lemmas.List.Kept.{IsStrictlyIncreasing-filter}
use Rattle.tetri_strl.specs.declared.expr.Leaf.{Leaf}
use Rattle.tetri_strl.specs.Aligned.{EachLeaf, EachLeafOf}
use Rattle.tetri_strl.specs.Tree.{greatest, least, added, Tree, one, join, scale, barrier, Trees, none, more, leaves, leaves_of}
use Rattle.tetri_strl.specs.WellMade.{IsGoodLeaf}
use Rattle.tetri_strl.proofs.ExprLaws.{across_pairs, eq_from_test, left_pairs, right_pairs}
use Rattle.tetri_space.specs.Space.{Space, set_of}
use Rattle.tetri_space.proofs.InstanceLaws.{AllPairs-append}
use Rattle.tetri_space.specs.Free.{is_free_throughout}
use Rattle.tetri_advice.specs.Fit.{Placement, all_fit, best_fit, better, enough, fit_beside, fit_of_leaf, fit_worth, fits, is_available, is_held, is_held_by, is_live, lowest}

and_left : (a b : Bool) → (a && b) ≡ true → a ≡ true
and_left true b e = refl
and_left false b e = absurd (true≢false (sym e))

and_right : (a b : Bool) → (a && b) ≡ true → b ≡ true
and_right true b e = e
and_right false b e = absurd (true≢false (sym e))

not_true : (a : Bool) → not a ≡ true → a ≡ false
not_true true e = absurd (true≢false (sym e))
not_true false e = refl

or_left : (a b : Bool) → (a || b) ≡ false → a ≡ false
or_left true b e = absurd (true≢false e)
or_left false b e = refl

or_right : (a b : Bool) → (a || b) ≡ false → b ≡ false
or_right true b e = absurd (true≢false e)
or_right false b e = e

-- the front of ascending numbers ascends
increasing_take : (n : ℕ) (xs : List ℕ) → IsStrictlyIncreasing xs → IsStrictlyIncreasing (take n xs)
increasing_take n xs ascends k lt =
    let shorter = length-take n xs in
    let here : get_or (take n xs) k 0 ≡ get_or xs k 0 = get_or-take n xs k 0 (omega (arith, lt, shorter)) in
    let next : get_or (take n xs) (k + 1) 0 ≡ get_or xs (k + 1) 0 = get_or-take n xs (k + 1) 0 (omega (arith, lt, shorter)) in
    let order : get_or xs k 0 < get_or xs (k + 1) 0 = ascends k (omega (arith, lt, shorter)) in
    omega (arith, here, next, order)

-- what passes no test
pub none_any : {X : Type 0} (test : X → Bool) (xs : List X) → list_any test xs ≡ false → All (λ x. test x ≡ false) xs
none_any test [] e = All-nil (λ x. test x ≡ false)
none_any test (x ∷ xs) e = All-cons (λ y. test y ≡ false) x xs (or_left (test x) (list_any test xs) e) (none_any test xs (or_right (test x) (list_any test xs) e))

-- a leaf within its limits, whose set ascends
pub record IsPlain (s : Space) (l : Leaf) : Type 0 where
  pub good : IsGoodLeaf l
  pub ascending : IsStrictlyIncreasing (set_of s l)

-- the placement holds no node in a slot in which one of these does
abbrev pub IsBeside : List Placement → Placement → Type 0
IsBeside held p = All (λ n. is_held held p.leaf n ≡ false) p.nodes

module _ (s : Space) (job : ℕ) (taken : Leaf → ℕ → Bool) where
  -- nodes that a live leaf may get
  pub record IsRight (p : Placement) : Type 0 where
    pub good : IsGoodLeaf p.leaf
    pub live : is_live s p.leaf ≡ true
    pub some : 1 ≤ length p.nodes
    pub few : length p.nodes ≤ p.leaf.k
    pub ascending : IsStrictlyIncreasing p.nodes
    pub in_set : All (Contains (set_of s p.leaf)) p.nodes
    pub free : All (λ n. is_free_throughout s p.leaf n ≡ true) p.nodes
    pub not_taken : All (λ n. taken p.leaf n ≡ false) p.nodes

  module _ (Before : Leaf → Leaf → Type 0) where
    -- the first comes before the second, which is beside it
    abbrev pub Follows : Placement → Placement → Type 0
    Follows p q = Before p.leaf q.leaf × IsBeside (p ∷ []) q

    -- placements of these leaves, in their order, beside what is held
    pub record AreFit (held : List Placement) (ls : List Leaf) (ps : List Placement) : Type 0 where
      pub right : All IsRight ps
      pub within : All (λ p. Contains ls p.leaf) ps
      pub beside : All (IsBeside held) ps
      pub pairs : AllPairs Follows ps

    fit-nothing : (held : List Placement) (ls : List Leaf) → AreFit held ls []
    fit-nothing held ls = record {
      right = All-nil IsRight;
      within = All-nil (λ p. Contains ls p.leaf);
      beside = All-nil (IsBeside held);
      pairs = λ i j d lt within. absurd (omega (arith, within));
    }

    fit-wider : (held : List Placement) (ls ms : List Leaf) (ps : List Placement) → ((l : Leaf) → Contains ls l → Contains ms l) →
        AreFit held ls ps → AreFit held ms ps
    fit-wider held ls ms ps wider fit = record {
      right = fit.right;
      within = All-weaker (λ p. Contains ls p.leaf) (λ p. Contains ms p.leaf) (λ p at. wider p.leaf at) ps fit.within;
      beside = fit.beside;
      pairs = fit.pairs;
    }

    -- beside more is beside each part of it
    beside_first : (held others : List Placement) (p : Placement) → IsBeside (held ++ others) p → IsBeside held p
    beside_first held others p =
        All-weaker (λ n. is_held (held ++ others) p.leaf n ≡ false) (λ n. is_held held p.leaf n ≡ false)
        (λ n e. or_left (is_held held p.leaf n) (is_held others p.leaf n) (sym (list_any-append (is_held_by p.leaf n) held others) ∙ e)) p.nodes

    beside_later : (held others : List Placement) (p : Placement) → IsBeside (held ++ others) p → IsBeside others p
    beside_later held others p =
        All-weaker (λ n. is_held (held ++ others) p.leaf n ≡ false) (λ n. is_held others p.leaf n ≡ false)
        (λ n e. or_right (is_held held p.leaf n) (is_held others p.leaf n) (sym (list_any-append (is_held_by p.leaf n) held others) ∙ e)) p.nodes

    beside_one : (ps : List Placement) (p q : Placement) → Contains ps p → IsBeside ps q → IsBeside (p ∷ []) q
    beside_one ps p q at =
        All-weaker (λ n. is_held ps q.leaf n ≡ false) (λ n. is_held (p ∷ []) q.leaf n ≡ false) (λ n e. not_held ps n at e) q.nodes
      where
        not_held : (held : List Placement) (n : ℕ) → Contains held p → is_held held q.leaf n ≡ false → is_held (p ∷ []) q.leaf n ≡ false
        not_held held n at e =
            let all : All (λ r. is_held_by q.leaf n r ≡ false) held = none_any (is_held_by q.leaf n) held e in
            ap (λ b. b || false) (All-contains (λ r. is_held_by q.leaf n r ≡ false) held p all at)

    fit-append : (held : List Placement) (ls ms : List Leaf) (ps qs : List Placement) → ((l m : Leaf) → Contains ls l → Contains ms m → Before l m) →
        AreFit held ls ps → AreFit (held ++ ps) ms qs → AreFit held (ls ++ ms) (ps ++ qs)
    fit-append held ls ms ps qs order first later = record {
      right = All-append IsRight ps qs first.right later.right;
      within =
          All-append (λ p. Contains (ls ++ ms) p.leaf) ps qs
          (All-weaker (λ p. Contains ls p.leaf) (λ p. Contains (ls ++ ms) p.leaf) (λ p. Contains-append_left ls ms p.leaf) ps first.within)
          (All-weaker (λ p. Contains ms p.leaf) (λ p. Contains (ls ++ ms) p.leaf) (λ p. Contains-append_right ls ms p.leaf) qs later.within);
      beside =
          All-append (IsBeside held) ps qs first.beside (All-weaker (IsBeside (held ++ ps)) (IsBeside held) (beside_first held ps) qs later.beside);
      pairs =
          AllPairs-append Follows ps qs first.pairs later.pairs
          (λ p q at bt. (
            order p.leaf q.leaf (All-contains (λ r. Contains ls r.leaf) ps p first.within at) (All-contains (λ r. Contains ms r.leaf) qs q later.within bt),
            beside_one ps p q at (beside_later held ps q (All-contains (IsBeside (held ++ ps)) qs q later.beside bt)),
          ));
    }

    either_fit : (b : Bool) (held : List Placement) (ls : List Leaf) (ps qs : List Placement) → AreFit held ls ps → AreFit held ls qs → AreFit held ls (cond b ps qs)
    either_fit true held ls ps qs p q = p
    either_fit false held ls ps qs p q = q

    better_fit : (b : Bool) (held : List Placement) (ls : List Leaf) (best next : ℕ × List Placement) → AreFit held ls best.1 → AreFit held ls next.1 →
        AreFit held ls (cond b next best).1
    better_fit true held ls best next p q = q
    better_fit false held ls best next p q = p

    module _ (held : List Placement) (l : Leaf) (plain : IsPlain s l) where
      abbrev nodes : List ℕ
      nodes = lowest s taken held l

      open_nodes : All (λ n. is_available s taken held l n ≡ true) nodes
      open_nodes =
          All-take (λ n. is_available s taken held l n ≡ true) l.k (filter (is_available s taken held l) (set_of s l)) (filter_passes (is_available s taken held l) (set_of s l))

      few_nodes : length nodes ≤ l.k
      few_nodes = omega (arith, length-take l.k (filter (is_available s taken held l) (set_of s l)))

      enough_some : (linear : Bool) (n : ℕ) → cond linear (nat_le 1 n) (n == l.k) ≡ true → 1 ≤ n
      enough_some true n e = grind (arith, nat_tests)
      enough_some false n e = omega (arith, eq_from_test n l.k e, plain.good.some_nodes)

      fit-leaf_with : (live all : Bool) → is_live s l ≡ live → enough l (length nodes) ≡ all →
          AreFit held (l ∷ []) (cond (live && all) (record { leaf = l; nodes = nodes } ∷ []) [])
      fit-leaf_with true true live all = record {
        right = All-cons IsRight placed [] own (All-nil IsRight);
        within = All-cons (λ p. Contains (l ∷ []) p.leaf) placed [] (0, omega arith, refl) (All-nil (λ p. Contains (l ∷ []) p.leaf));
        beside = All-cons (IsBeside held) placed [] apart (All-nil (IsBeside held));
        pairs = λ i j d lt within. absurd (omega (arith, lt, within));
      }
        where
          placed : Placement
          placed = record { leaf = l; nodes = nodes }

          front_of : (n : ℕ) → is_available s taken held l n ≡ true → (is_free_throughout s l n && not (taken l n)) ≡ true
          front_of n e = and_left (is_free_throughout s l n && not (taken l n)) (not (is_held held l n)) e

          own : IsRight placed
          own = record {
            good = plain.good;
            live = live;
            some = enough_some l.linear (length nodes) all;
            few = few_nodes;
            ascending = increasing_take l.k (filter (is_available s taken held l) (set_of s l)) (IsStrictlyIncreasing-filter (is_available s taken held l) (set_of s l) plain.ascending);
            in_set =
                All-take (Contains (set_of s l)) l.k (filter (is_available s taken held l) (set_of s l))
                (All-filter (is_available s taken held l) (Contains (set_of s l)) (set_of s l) (All-contains_itself (set_of s l)));
            free = All-weaker (λ n. is_available s taken held l n ≡ true) (λ n. is_free_throughout s l n ≡ true)
                (λ n e. and_left (is_free_throughout s l n) (not (taken l n)) (front_of n e)) nodes open_nodes;
            not_taken =
                All-weaker (λ n. is_available s taken held l n ≡ true) (λ n. taken l n ≡ false)
                (λ n e. not_true (taken l n) (and_right (is_free_throughout s l n) (not (taken l n)) (front_of n e))) nodes open_nodes;
          }

          apart : IsBeside held placed
          apart =
              All-weaker (λ n. is_available s taken held l n ≡ true) (λ n. is_held held l n ≡ false)
              (λ n e. not_true (is_held held l n) (and_right (is_free_throughout s l n && not (taken l n)) (not (is_held held l n)) e)) nodes open_nodes
      fit-leaf_with true false live all = fit-nothing held (l ∷ [])
      fit-leaf_with false b live all = fit-nothing held (l ∷ [])

      fit-leaf : AreFit held (l ∷ []) (fit_of_leaf s taken held l)
      fit-leaf = fit-leaf_with (is_live s l) (enough l (length nodes)) refl refl

    mutual
      pub are_fit : (t : Tree) → EachLeaf (IsPlain s) t → AllPairs Before (leaves t) → (held : List Placement) →
          AreFit held (leaves t) (fit_beside s job taken held t)
      are_fit (one l) plain order held = fit-leaf held l plain
      are_fit (join greatest ts) plain order held = best_are_fit ts plain order held (leaves_of ts) (λ l at. at) (0, []) (fit-nothing held (leaves_of ts))
      are_fit (join least ts) plain order held =
          either_fit (all_fit s job taken held ts) held (leaves_of ts) (fits s job taken held ts) [] (all_are_fit ts plain order held) (fit-nothing held (leaves_of ts))
      are_fit (join added ts) plain order held = all_are_fit ts plain order held
      are_fit (scale t by) plain order held = are_fit t plain order held
      are_fit (barrier t v) plain order held =
          either_fit (nat_le v (fit_worth job t (fit_beside s job taken held t))) held (leaves t) (fit_beside s job taken held t) []
          (are_fit t plain order held) (fit-nothing held (leaves t))

      all_are_fit : (ts : Trees) → EachLeafOf (IsPlain s) ts → AllPairs Before (leaves_of ts) → (held : List Placement) →
          AreFit held (leaves_of ts) (fits s job taken held ts)
      all_are_fit none plain order held = fit-nothing held []
      all_are_fit (more t ts) plain order held =
          fit-append held (leaves t) (leaves_of ts) (fit_beside s job taken held t) (fits s job taken (held ++ fit_beside s job taken held t) ts)
          (across_pairs Before (leaves t) (leaves_of ts) order)
          (are_fit t plain.0 (left_pairs Before (leaves t) (leaves_of ts) order) held)
          (all_are_fit ts plain.1 (right_pairs Before (leaves t) (leaves_of ts) order) (held ++ fit_beside s job taken held t))

      best_are_fit : (ts : Trees) → EachLeafOf (IsPlain s) ts → AllPairs Before (leaves_of ts) → (held : List Placement) (ls : List Leaf) →
          ((l : Leaf) → Contains (leaves_of ts) l → Contains ls l) → (best : ℕ × List Placement) → AreFit held ls best.1 →
          AreFit held ls (best_fit s job taken held ts best).1
      best_are_fit none plain order held ls wider best fit = fit
      best_are_fit (more t ts) plain order held ls wider best fit =
          best_are_fit ts plain.1 (right_pairs Before (leaves t) (leaves_of ts) order) held ls (λ l at. wider l (Contains-append_right (leaves t) (leaves_of ts) l at))
          (better best (fit_worth job t (fit_beside s job taken held t), fit_beside s job taken held t))
          (better_fit (nat_lt best.0 (fit_worth job t (fit_beside s job taken held t))) held ls best (fit_worth job t (fit_beside s job taken held t), fit_beside s job taken held t) fit
          (fit-wider held (leaves t) ls (fit_beside s job taken held t) (λ l at. wider l (Contains-append_left (leaves t) (leaves_of ts) l at))
          (are_fit t plain.0 (left_pairs Before (leaves t) (leaves_of ts) order) held)))
