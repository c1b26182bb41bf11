-- One turn of gathering grants.
use Rattle.std.proofs.Common.{◌≡◌, ℕ, zero, suc, ◌+◌, ◌<◌, ◌≤◌, ◌==◌, ◌&&◌, not, nat_lt, get_or, Bool, true, false, cond, List, [], ◌∷◌, ◌++◌, length, drop, refl, sym, ap, ◌∙◌, arith, true≢false, ⊎_elim, append_assoc}
use Rattle.std.proofs.lemmas.Bool.{cond_both, cases_lt, and_parts, and_from, false_from_ne_true}
use Rattle.std.proofs.lemmas.Bool.Decides.{nat_tests}
use Rattle.std.proofs.lemmas.List.{drop_more}
use Rattle.tetri_strl.specs.declared.grants.Grant.{Grant}
use Rattle.tetri_base.proofs.ListLaws.{eq_from_test}
use Rattle.tetri_assign.specs.Assigned.{give, gathered, grant}
use Rattle.tetri_assign.specs.steps.Gathering.{with_open}
use Rattle.tetri_assign.specs.declared.held.Held.{Held}

-- an answer that is the opposite
pub none_follows : (b r : Bool) → r ≡ not b → r ≡ true → b ≡ false
none_follows true r is e = absurd (true≢false (sym e ∙ is))
none_follows false r is e = refl

pub one_follows : (b r : Bool) → r ≡ not b → r ≡ false → b ≡ true
one_follows true r is e = refl
one_follows false r is e = absurd (true≢false (sym is ∙ e))

-- the first grant is the leaf's
record IsFirst (k : Held) (a : List Grant) : Type 0 where
  nodes : List ℕ
  rest : List Grant
  is : a ≡ grant k.job k.leaf nodes ∷ rest

give_first : (h : Held) (a : List Grant) → IsFirst h (give h a)
give_first h [] = record { nodes = h.node ∷ []; rest = []; is = refl }
give_first h (g ∷ gs) =
    cond_both (g.job == h.job && g.leaf == h.leaf) (grant g.job g.leaf (h.node ∷ g.nodes) ∷ gs) (grant h.job h.leaf (h.node ∷ []) ∷ g ∷ gs) (λ zs. IsFirst h zs)
    (λ e.
    let both = and_parts (g.job == h.job) (g.leaf == h.leaf) e in
    record {
      nodes = h.node ∷ g.nodes;
      rest = gs;
      is = ap (λ j. grant j g.leaf (h.node ∷ g.nodes) ∷ gs) (eq_from_test g.job h.job both.0) ∙ ap (λ l. grant h.job l (h.node ∷ g.nodes) ∷ gs) (eq_from_test g.leaf h.leaf both.1);
    })
    (λ e. record { nodes = h.node ∷ []; rest = g ∷ gs; is = refl })

give_same : (h : Held) (j l : ℕ) (ns : List ℕ) (gs : List Grant) → (j == h.job && l == h.leaf) ≡ true → give h (grant j l ns ∷ gs) ≡ with_open (h.node ∷ []) (grant j l ns ∷ gs)
give_same h j l ns gs e = ap (λ b. cond b (grant j l (h.node ∷ ns) ∷ gs) (grant h.job h.leaf (h.node ∷ []) ∷ grant j l ns ∷ gs)) e

give_other : (h : Held) (j l : ℕ) (ns : List ℕ) (gs : List Grant) → (j == h.job && l == h.leaf) ≡ false → give h (grant j l ns ∷ gs) ≡ grant h.job h.leaf (h.node ∷ []) ∷ grant j l ns ∷ gs
give_other h j l ns gs e = ap (λ b. cond b (grant j l (h.node ∷ ns) ∷ gs) (grant h.job h.leaf (h.node ∷ []) ∷ grant j l ns ∷ gs)) e

-- of the same leaf as the one after it, or of another
with_next : (h k : Held) (ks : List Held) → (k.job == h.job && k.leaf == h.leaf) ≡ true → gathered (h ∷ k ∷ ks) ≡ with_open (h.node ∷ []) (gathered (k ∷ ks))
with_next h k ks e =
    let first = give_first k (gathered ks) in
    ap (give h) first.is ∙ give_same h k.job k.leaf first.nodes first.rest e ∙ ap (with_open (h.node ∷ [])) (sym first.is)

without_next : (h k : Held) (ks : List Held) → (k.job == h.job && k.leaf == h.leaf) ≡ false → gathered (h ∷ k ∷ ks) ≡ grant h.job h.leaf (h.node ∷ []) ∷ gathered (k ∷ ks)
without_next h k ks e =
    let first = give_first k (gathered ks) in
    ap (give h) first.is ∙ give_other h k.job k.leaf first.nodes first.rest e ∙ ap (λ gs. grant h.job h.leaf (h.node ∷ []) ∷ gs) (sym first.is)

with_none : (gs : List Grant) → with_open [] gs ≡ gs
with_none [] = refl
with_none (g ∷ gs) = refl

with_more : (ms ns : List ℕ) (gs : List Grant) → with_open ms (with_open ns gs) ≡ with_open (ms ++ ns) gs
with_more ms ns [] = refl
with_more ms ns (g ∷ gs) = ap (λ zs. grant g.job g.leaf zs ∷ gs) (sym (append_assoc ms ns g.nodes))

drop-past : {X : Type 0} (xs : List X) (k : ℕ) → length xs ≤ k → drop k xs ≡ []
drop-past [] zero le = refl
drop-past [] (suc k) le = refl
drop-past (x ∷ xs) zero le = absurd (omega (arith, le))
drop-past (x ∷ xs) (suc k) le = drop-past xs k (omega (arith, le))

module _ (hs : List Held) (i : ℕ) (d : Held) (lt : i < length hs) where
  abbrev pub here : Held
  here = get_or hs i d

  abbrev pub next : Held
  next = get_or hs (i + 1) d

  abbrev pub follows : Bool
  follows = nat_lt (i + 1) (length hs) && next.job == here.job && next.leaf == here.leaf

  rest_is : i + 1 < length hs → drop (i + 1) hs ≡ next ∷ drop (i + 1 + 1) hs
  rest_is more = drop_more hs (i + 1) d more

  -- where no more of the leaf follows
  at_last : follows ≡ false → gathered (drop i hs) ≡ grant here.job here.leaf (here.node ∷ []) ∷ gathered (drop (i + 1) hs)
  at_last e =
      ap gathered (drop_more hs i d lt)
      ∙ ⊎_elim
      (λ more.
      let other : (next.job == here.job && next.leaf == here.leaf) ≡ false =
      false_from_ne_true (next.job == here.job && next.leaf == here.leaf) (λ t. true≢false (sym (both more t) ∙ e)) in
      ap (λ zs. gathered (here ∷ zs)) (rest_is more) ∙ without_next here next (drop (i + 1 + 1) hs) other
      ∙ ap (λ zs. grant here.job here.leaf (here.node ∷ []) ∷ gathered zs) (sym (rest_is more)))
      (λ past.
      let none : drop (i + 1) hs ≡ [] = drop-past hs (i + 1) past in
      ap (λ zs. gathered (here ∷ zs)) none ∙ ap (λ zs. grant here.job here.leaf (here.node ∷ []) ∷ gathered zs) (sym none))
      (cases_lt (i + 1) (length hs))
    where
      both : i + 1 < length hs → (next.job == here.job && next.leaf == here.leaf) ≡ true → follows ≡ true
      both more t =
          let two = and_parts (next.job == here.job) (next.leaf == here.leaf) t in
          all_three (i + 1) (length hs) next.job here.job next.leaf here.leaf more (eq_from_test next.job here.job two.0) (eq_from_test next.leaf here.leaf two.1)
        where
          all_three : (m n a b c f : ℕ) → m < n → a ≡ b → c ≡ f → (nat_lt m n && a == b && c == f) ≡ true
          all_three m n a b c f p q r = grind (arith, nat_tests)

  at_more : follows ≡ true → gathered (drop i hs) ≡ with_open (here.node ∷ []) (gathered (drop (i + 1) hs))
  at_more e =
      let more : i + 1 < length hs = first_of (i + 1) (length hs) next.job here.job next.leaf here.leaf e in
      ap gathered (drop_more hs i d lt) ∙ ap (λ zs. gathered (here ∷ zs)) (rest_is more)
      ∙ with_next here next (drop (i + 1 + 1) hs) (and_from (next.job == here.job) (next.leaf == here.leaf)
      (second_of (i + 1) (length hs) next.job here.job next.leaf here.leaf e) (third_of (i + 1) (length hs) next.job here.job next.leaf here.leaf e))
      ∙ ap (λ zs. with_open (here.node ∷ []) (gathered zs)) (sym (rest_is more))
    where
      first_of : (m n a b c f : ℕ) → (nat_lt m n && a == b && c == f) ≡ true → m < n
      first_of m n a b c f p = grind (arith, nat_tests)

      second_of : (m n a b c f : ℕ) → (nat_lt m n && a == b && c == f) ≡ true → (a == b) ≡ true
      second_of m n a b c f p = grind (arith, nat_tests)

      third_of : (m n a b c f : ℕ) → (nat_lt m n && a == b && c == f) ≡ true → (c == f) ≡ true
      third_of m n a b c f p = grind (arith, nat_tests)

  -- a full grant is put behind
  pub last_step : (grants whole : List Grant) (nodes : List ℕ) → follows ≡ false → grants ++ with_open nodes (gathered (drop i hs)) ≡ whole →
      (grants ++ grant here.job here.leaf (nodes ++ here.node ∷ []) ∷ []) ++ with_open [] (gathered (drop (i + 1) hs)) ≡ whole
  last_step grants whole nodes e is =
      ap (λ gs. (grants ++ grant here.job here.leaf (nodes ++ here.node ∷ []) ∷ []) ++ gs) (with_none (gathered (drop (i + 1) hs)))
      ∙ append_assoc grants (grant here.job here.leaf (nodes ++ here.node ∷ []) ∷ []) (gathered (drop (i + 1) hs))
      ∙ sym (ap (λ gs. grants ++ with_open nodes gs) (at_last e)) ∙ is

  -- a grant goes on
  pub more_step : (grants whole : List Grant) (nodes : List ℕ) → follows ≡ true → grants ++ with_open nodes (gathered (drop i hs)) ≡ whole →
      grants ++ with_open (nodes ++ here.node ∷ []) (gathered (drop (i + 1) hs)) ≡ whole
  more_step grants whole nodes e is =
      ap (λ gs. grants ++ gs) (sym (with_more nodes (here.node ∷ []) (gathered (drop (i + 1) hs))))
      ∙ sym (ap (λ gs. grants ++ with_open nodes gs) (at_more e)) ∙ is
