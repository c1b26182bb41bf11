-- Spans of slots in which nodes are closed.
use Rattle.std.proofs.Common.{◌≡◌, ◌⊎◌, ℕ, zero, suc, ◌+◌, ◌-◌, ◌^◌, ◌<◌, ◌≤◌, max, ◌==◌, ◌&&◌, ◌||◌, not, Bool, true, false, List, [], ◌∷◌, ◌++◌, length, get_or, take, drop, All, AllPairs, Contains, refl, sym, ap, ◌∙◌, subst, arith, true≢false, inl, inr, ⊎_elim}
use Rattle.std.specs.Prelude.{nat_le, nat_lt}
use Rattle.std.specs.Bool.{one_answer}
use Rattle.std.specs.List.{list_any, range_with_len}
use Rattle.std.specs.List.Sorted.{IsNonDecreasingBy, IsStrictlyIncreasing, IsPartitionedBy, IsPartitionPoint}
use Rattle.std.proofs.lemmas.Bool.{cond_both, cases_lt, cases_order, and_parts, and_from, or_right, or_cases, eq-eqb, false_from_ne_true}
use Rattle.std.proofs.lemmas.Bool.Decides.{nat_tests}
use Rattle.std.proofs.lemmas.List.{append_assoc, take-append-drop, get_or-take, get_or-drop, length-take, length-drop, drop_more, take_all, get_or_default}
use Rattle.std.proofs.lemmas.List.Folds.{list_any-append}
use Rattle.tetri_base.specs.Lists.{Each, EachPair, Ascends}
use Rattle.tetri_base.proofs.ListLaws.{Each-append, Each-map, Each-at, Each-from, Each-get, EachPair-append, EachPair-from, any_from, none_from, range_contains, eq_from_test}
use Rattle.tetri_space.specs.Closed.{AreTurns, closes, is_closed_by, is_odd_at}
use Rattle.tetri_space.specs.Spans.{AreSpans, AreSpansOf, StandsBefore, ends_in, is_past, place_of}
use Rattle.tetri_space.specs.declared.closure.Closure.{Closure}
use Rattle.tetri_space.proofs.TurnLemmas.{le_true, le_false, from_le, odd_before}

abbrev pub IsSome : Closure → Type 0
IsSome c = c.from ≤ c.to

lt_true : (x y : ℕ) → x < y → nat_lt x y ≡ true
lt_true x y h = grind (arith, nat_tests)

lt_false : (x y : ℕ) → y ≤ x → nat_lt x y ≡ false
lt_false x y h = grind (arith, nat_tests)

from_lt : (x y : ℕ) → nat_lt x y ≡ true → x < y
from_lt x y h = grind (arith, nat_tests)

-- ---- tests of lists and ranges
pub any_at : {X : Type 0} (p : X → Bool) (xs : List X) → list_any p xs ≡ true → (x : X) × Contains xs x × (p x ≡ true)
any_at p [] e = absurd (true≢false (sym e))
any_at p (x ∷ xs) e =
    ⊎_elim (λ t. (x, (0, omega arith, refl), t)) (λ t. let rest = any_at p xs t in (rest.0, (suc rest.1.0, omega (arith, rest.1.1), rest.1.2), rest.2)) (or_cases (p x) (list_any p xs) e)

pub any_in_range : (p : ℕ → Bool) (a n : ℕ) → list_any p (range_with_len a n) ≡ true → (t : ℕ) × (a ≤ t) × (t < a + n) × (p t ≡ true)
any_in_range p a zero e = absurd (true≢false (sym e))
any_in_range p a (suc n) e =
    ⊎_elim (λ t. (a, omega arith, omega arith, t)) (λ t. let rest = any_in_range p (a + 1) n t in (rest.0, omega (arith, rest.1), omega (arith, rest.2), rest.3)) (or_cases (p a) (list_any p (range_with_len (a + 1) n)) e)

pub any_of_range : (p : ℕ → Bool) (a n t : ℕ) → a ≤ t → t < a + n → p t ≡ true → list_any p (range_with_len a n) ≡ true
any_of_range p a n t low high e = any_from p (range_with_len a n) t (range_contains a n t low high) e

pub all_of : {X : Type 0} (P : X → Type 0) (xs : List X) → Each P xs → All P xs
all_of P xs h k d lt = Each-get P xs k d h lt

pub pairs_of : {X : Type 0} (R : X → X → Type 0) (xs : List X) → EachPair R xs → AllPairs R xs
pairs_of R [] h i j d lt short = absurd (omega arith)
pairs_of R (x ∷ xs) h zero zero d lt short = absurd (omega arith)
pairs_of R (x ∷ xs) h zero (suc j) d lt short = Each-get (R x) xs j d h.0 (omega arith)
pairs_of R (x ∷ xs) h (suc i) zero d lt short = absurd (omega arith)
pairs_of R (x ∷ xs) h (suc i) (suc j) d lt short = pairs_of R xs h.1 i j d (omega arith) (omega arith)

pub rises : (xs : List ℕ) → Ascends xs → IsStrictlyIncreasing xs
rises xs up k lt = pairs_of (λ m n. m < n) xs up k (k + 1) 0 (omega arith) lt

pub each_of : {X : Type 0} (P : X → Type 0) (xs : List X) → All P xs → Each P xs
each_of P xs h = Each-from P xs (λ x at. subst P at.2 (h at.0 x at.1))

-- ---- what a closure closes
pub closes_true : (n t : ℕ) (c : Closure) → c.node ≡ n → c.from ≤ t → t ≤ c.to → closes n t c ≡ true
closes_true n t c same low high = and_from (c.node == n && nat_le c.from t) (nat_le t c.to) (and_from (c.node == n) (nat_le c.from t) (eq-eqb c.node n same) (le_true c.from t low)) (le_true t c.to high)

pub record IsIn (n t : ℕ) (c : Closure) : Type 0 where
  pub node : c.node ≡ n
  pub begun : c.from ≤ t
  pub not_over : t ≤ c.to

pub closes_from : (n t : ℕ) (c : Closure) → closes n t c ≡ true → IsIn n t c
closes_from n t c e =
    let both = and_parts (c.node == n && nat_le c.from t) (nat_le t c.to) e in
    let first = and_parts (c.node == n) (nat_le c.from t) both.0 in
    record { node = eq_from_test c.node n first.0; begun = from_le c.from t first.1; not_over = from_le t c.to both.1 }

pub closes_false : (n t : ℕ) (c : Closure) → (IsIn n t c → ⊥) → closes n t c ≡ false
closes_false n t c none = false_from_ne_true (closes n t c) (λ e. none (closes_from n t c e))

-- one that begins behind its end closes nothing
pub closes_nothing : (n t : ℕ) (c : Closure) → c.to < c.from → closes n t c ≡ false
closes_nothing n t c lt = closes_false n t c (λ h. omega (arith, h.begun, h.not_over))

-- an answer for so many slots
pub is_answer : (p : ℕ → Bool) (a n : ℕ) (b : Bool) → (b ≡ true → (t : ℕ) × (a ≤ t) × (t < a + n) × (p t ≡ true)) →
    ((t : ℕ) → a ≤ t → t < a + n → p t ≡ true → b ≡ true) → b ≡ list_any p (range_with_len a n)
is_answer p a n true some every = let w = some refl in sym (any_of_range p a n w.0 w.1 w.2 w.3)
is_answer p a n false some every = sym (false_from_ne_true _ (λ e. let w = any_in_range p a n e in true≢false (sym (every w.0 w.1 w.2 w.3))))

module _ (c : Closure) (n from size : ℕ) where
  pub meets_other : (c.node ≡ n → ⊥) → false ≡ list_any (λ t. closes n t c) (range_with_len from size)
  meets_other other = is_answer (λ t. closes n t c) from size false (λ e. absurd (true≢false (sym e))) (λ t low high e. absurd (other (closes_from n t c e).node))

  pub meets_over : c.to < from → false ≡ list_any (λ t. closes n t c) (range_with_len from size)
  meets_over over =
      is_answer (λ t. closes n t c) from size false (λ e. absurd (true≢false (sym e))) (λ t low high e. let till = (closes_from n t c e).not_over in absurd (omega (arith, till, low, over)))

  pub meets_later : c.node ≡ n → c.from ≤ c.to → from < c.from → nat_lt (c.from - from) size ≡ list_any (λ t. closes n t c) (range_with_len from size)
  meets_later node some late =
      is_answer (λ t. closes n t c) from size (nat_lt (c.from - from) size)
      (λ e. (c.from, omega arith, omega (arith, from_lt (c.from - from) size e, late), closes_true n c.from c node (omega arith) some))
      (λ t low high e. let begun = (closes_from n t c e).begun in lt_true (c.from - from) size (omega (arith, begun, high, late)))

  pub meets_begun : c.node ≡ n → c.from ≤ from → from ≤ c.to → nat_lt 0 size ≡ list_any (λ t. closes n t c) (range_with_len from size)
  meets_begun node begun till =
      is_answer (λ t. closes n t c) from size (nat_lt 0 size)
      (λ e. (from, omega arith, omega (arith, from_lt 0 size e), closes_true n from c node begun till))
      (λ t low high e. lt_true 0 size (omega (arith, low, high)))

-- ---- the merged spans
-- The spans so far, the last one that may still grow, and the closures that are left.
pub record IsMerging (closures spans : List Closure) (last : Closure) (rest : List Closure) : Type 0 where
  pub some_spans : Each IsSome spans
  pub ordered : EachPair StandsBefore spans
  pub last_some : IsSome last
  pub before_last : Each (λ c. StandsBefore c last) spans
  pub rest_some : Each IsSome rest
  pub rest_fits : Each (λ c. c.from < 2 ^ 32) (last ∷ rest)
  pub later : EachPair (λ c d. place_of c ≤ place_of d) (last ∷ rest)
  pub same : (n t : ℕ) → is_closed_by (spans ++ last ∷ rest) n t ≡ is_closed_by closures n t

pub merging_first : (c : Closure) (cs : List Closure) → Each IsSome (c ∷ cs) → Each (λ d. d.from < 2 ^ 32) (c ∷ cs) → EachPair (λ d e. place_of d ≤ place_of e) (c ∷ cs) →
    IsMerging (c ∷ cs) [] c cs
merging_first c cs some fits later = record {
  some_spans = tt;
  ordered = tt;
  last_some = some.0;
  before_last = tt;
  rest_some = some.1;
  rest_fits = fits;
  later = later;
  same = λ n t. refl;
}

module _ (closures spans : List Closure) (last c : Closure) (rest : List Closure) (h : IsMerging closures spans last (c ∷ rest)) where
  abbrev grown : Closure
  grown = record last { to = max last.to c.to }

  regroup : (a b g r : Bool) → (a || b) ≡ g → (g || r) ≡ (a || (b || r))
  regroup true b g r e = ap (λ x. x || r) (sym e)
  regroup false b g r e = ap (λ x. x || r) (sym e)

  in_either : (n t : ℕ) → last.node ≡ c.node → last.from ≤ c.from → c.from ≤ last.to + 1 → c.from ≤ c.to → (closes n t last || closes n t c) ≡ closes n t grown
  in_either n t node order touch some =
      one_answer {P = IsIn n t grown} (closes n t last || closes n t c) (closes n t grown) (
        (λ e. ⊎_elim
            (λ a. let i = closes_from n t last a in record { node = i.node; begun = i.begun; not_over = omega (arith, i.not_over) })
            (λ b. let i = closes_from n t c b in record { node = node ∙ i.node; begun = omega (arith, i.begun, order); not_over = omega (arith, i.not_over) })
            (or_cases (closes n t last) (closes n t c) e)),
        (λ i. elim (cases_lt last.to t) [
          | inl late ↦ or_right (closes n t last) (closes n t c) (closes_true n t c (sym node ∙ i.node) (omega (arith, touch, late)) (omega (arith, late, i.not_over)))
          | inr in_last ↦ ap (λ b. b || closes n t c) (closes_true n t last i.node i.begun in_last)
        ]),
      )
      ((λ e. closes_from n t grown e), (λ i. closes_true n t grown i.node i.begun i.not_over))

  -- one that overlaps or touches the last span of its node
  pub merging_more : last.node ≡ c.node → c.from ≤ last.to + 1 → IsMerging closures spans (record last { to = max last.to c.to }) rest
  merging_more node touch = record {
    some_spans = h.some_spans;
    ordered = h.ordered;
    last_some = omega (arith, h.last_some);
    before_last = h.before_last;
    rest_some = h.rest_some.1;
    rest_fits = (h.rest_fits.0, h.rest_fits.1.1);
    later = (h.later.0.1, h.later.1.1);
    same = λ n t.
        list_any-append (closes n t) spans (grown ∷ rest)
        ∙ ap (λ b. is_closed_by spans n t || b) (regroup (closes n t last) (closes n t c) (closes n t grown) (is_closed_by rest n t)
        (in_either n t node (omega (arith, h.later.0.0, node)) touch h.rest_some.0))
        ∙ sym (list_any-append (closes n t) spans (last ∷ c ∷ rest)) ∙ h.same n t;
  }

  stands_on : (b : Closure) → StandsBefore b last → StandsBefore last c → StandsBefore b c
  stands_on b (inl x) (inl y) = inl (omega (arith, x, y))
  stands_on b (inl x) (inr y) = inl (omega (arith, x, y.0))
  stands_on b (inr x) (inl y) = inl (omega (arith, x.0, y))
  stands_on b (inr x) (inr y) = inr (x.0 ∙ y.0, omega (arith, x.1, h.last_some, y.1))

  last_before : (last.node ≡ c.node → last.to + 1 < c.from) → StandsBefore last c
  last_before apart = elim (cases_lt last.node c.node) [
    | inl lt ↦ inl lt
    | inr ge ↦ let same : last.node ≡ c.node = omega (arith, ge, h.later.0.0, h.rest_fits.1.0) in inr (same, apart same)
  ]

  -- one that does not begins a span of its own
  pub merging_next : (last.node ≡ c.node → last.to + 1 < c.from) → IsMerging closures (spans ++ last ∷ []) c rest
  merging_next apart = record {
    some_spans = Each-append IsSome spans (last ∷ []) h.some_spans (h.last_some, tt);
    ordered = EachPair-append StandsBefore spans (last ∷ []) h.ordered (tt, tt) (Each-map (λ b. StandsBefore b last) (λ b. Each (StandsBefore b) (last ∷ [])) (λ b x. (x, tt)) spans h.before_last);
    last_some = h.rest_some.0;
    before_last = Each-append (λ b. StandsBefore b c) spans (last ∷ [])
        (Each-map (λ b. StandsBefore b last) (λ b. StandsBefore b c) (λ b x. stands_on b x (last_before apart)) spans h.before_last) (last_before apart, tt);
    rest_some = h.rest_some.1;
    rest_fits = h.rest_fits.1;
    later = h.later.1;
    same = λ n t. ap (λ xs. is_closed_by xs n t) (append_assoc spans (last ∷ []) (c ∷ rest)) ∙ h.same n t;
  }

pub merging_over : (closures spans : List Closure) (last : Closure) (rest : List Closure) → rest ≡ [] → IsMerging closures spans last rest → AreSpansOf closures (spans ++ last ∷ [])
merging_over closures spans last [] e h = record {
  are_spans = record {
    some_slots = all_of IsSome (spans ++ last ∷ []) (Each-append IsSome spans (last ∷ []) h.some_spans (h.last_some, tt));
    ordered = pairs_of StandsBefore (spans ++ last ∷ []) (EachPair-append StandsBefore spans (last ∷ []) h.ordered (tt, tt)
        (Each-map (λ b. StandsBefore b last) (λ b. Each (StandsBefore b) (last ∷ [])) (λ b x. (x, tt)) spans h.before_last));
  };
  same = h.same;
}
merging_over closures spans last (c ∷ rest) e h = absurd (omega (arith, ap length e))

pub no_spans : AreSpansOf [] []
no_spans = record {
  are_spans = record { some_slots = λ k d lt. absurd (omega arith); ordered = λ i j d lt short. absurd (omega arith) };
  same = λ n t. refl;
}

-- ---- which spans are past a slot of a node
past_true : (n t : ℕ) (c : Closure) → (c.node < n) ⊎ ((c.node ≡ n) × (c.to < t)) → is_past n t c ≡ true
past_true n t c (inl lt) = ap (λ b. b || (c.node == n && nat_lt c.to t)) (lt_true c.node n lt)
past_true n t c (inr at) = or_right (nat_lt c.node n) _ (and_from (c.node == n) (nat_lt c.to t) (eq-eqb c.node n at.0) (lt_true c.to t at.1))

past_from : (n t : ℕ) (c : Closure) → is_past n t c ≡ true → (c.node < n) ⊎ ((c.node ≡ n) × (c.to < t))
past_from n t c e =
    ⊎_elim (λ a. inl (from_lt c.node n a)) (λ b. let both = and_parts (c.node == n) (nat_lt c.to t) b in inr (eq_from_test c.node n both.0, from_lt c.to t both.1))
    (or_cases (nat_lt c.node n) (c.node == n && nat_lt c.to t) e)

-- what a span that is not past a slot of the node says
pub record IsReaching (n t : ℕ) (c : Closure) : Type 0 where
  pub node : n ≤ c.node
  pub not_over : c.node ≡ n → t ≤ c.to

pub reaching_from : (n t : ℕ) (c : Closure) → is_past n t c ≡ false → IsReaching n t c
reaching_from n t c e = record {
  node = elim (cases_lt c.node n) [ inl lt ↦ absurd (true≢false (sym (past_true n t c (inl lt)) ∙ e)) | inr ge ↦ ge ];
  not_over = λ same. elim (cases_lt c.to t) [ inl lt ↦ absurd (true≢false (sym (past_true n t c (inr (same, lt))) ∙ e)) | inr ge ↦ ge ];
}

-- what is past a slot of the node does not close it there or later
pub past_open : (n t u : ℕ) (c : Closure) → t ≤ u → is_past n t c ≡ true → closes n u c ≡ false
past_open n t u c le e =
    closes_false n u c (λ i. ⊎_elim (λ lt. omega (arith, lt, i.node)) (λ at. omega (arith, at.1, i.not_over, le)) (past_from n t c e))

earlier_past : (n t : ℕ) (c d : Closure) → IsSome d → StandsBefore c d → (d.node < n) ⊎ ((d.node ≡ n) × (d.to < t)) → is_past n t c ≡ true
earlier_past n t c d some (inl x) (inl y) = past_true n t c (inl (omega (arith, x, y)))
earlier_past n t c d some (inl x) (inr y) = past_true n t c (inl (omega (arith, x, y.0)))
earlier_past n t c d some (inr x) (inl y) = past_true n t c (inl (omega (arith, x.0, y)))
earlier_past n t c d some (inr x) (inr y) = past_true n t c (inr (x.0 ∙ y.0, omega (arith, x.1, some, y.1)))

pub past_first : (n t : ℕ) (spans : List Closure) → AreSpans spans → IsPartitionedBy (is_past n t) spans
past_first n t spans h i j d le lt e = elim (cases_lt i j) [
  | inl less ↦ earlier_past n t (get_or spans i d) (get_or spans j d) (h.some_slots j d lt) (h.ordered i j d less lt) (past_from n t (get_or spans j d) e)
  | inr more ↦ let same : i ≡ j = omega arith in ap (λ k. is_past n t (get_or spans k d)) same ∙ e
]

module _ (n t : ℕ) (spans : List Closure) (place : ℕ) (bound : place ≤ length spans) (parted : IsPartitionPoint (λ c. is_past n t c ≡ true) (λ c. is_past n t c ≡ false) spans place) where
  pub past_taken : All (λ c. is_past n t c ≡ true) (take place spans)
  past_taken k d lt =
      let short : k < place = omega (arith, lt, length-take place spans) in
      subst (λ c. is_past n t c ≡ true) (sym (get_or-take place spans k d short)) (parted.0 k d (omega arith) short)

  pub reaching_left : All (λ c. is_past n t c ≡ false) (drop place spans)
  reaching_left k d lt =
      subst (λ c. is_past n t c ≡ false) (sym (get_or-drop place spans k d)) (parted.1 (place + k) d (omega arith) (omega (arith, lt, length-drop place spans)))

-- ---- a node in so many slots
module _ (cs spans : List Closure) (h : AreSpansOf cs spans) (n from size place : ℕ)
    (passed : All (λ c. is_past n from c ≡ true) (take place spans)) (reaching : All (λ c. is_past n from c ≡ false) (drop place spans)) where
  closed_past : (t : ℕ) → from ≤ t → is_closed_by (take place spans) n t ≡ false
  closed_past t low = none_from (closes n t) (take place spans) (Each-map (λ c. is_past n from c ≡ true) (λ c. closes n t c ≡ false) (λ c e. past_open n from t c low e) (take place spans) (each_of _ (take place spans) passed))

  pub closed_left : (t : ℕ) → from ≤ t → is_closed_by (drop place spans) n t ≡ is_closed_by cs n t
  closed_left t low =
      sym (ap (λ b. b || is_closed_by (drop place spans) n t) (closed_past t low)) ∙ sym (list_any-append (closes n t) (take place spans) (drop place spans))
      ∙ ap (λ xs. is_closed_by xs n t) (take-append-drop place spans) ∙ h.same n t

  -- no span is left
  pub none_within : length spans ≤ place → false ≡ list_any (is_closed_by cs n) (range_with_len from size)
  none_within over = sym (false_from_ne_true _ (λ e.
      let w = any_in_range (is_closed_by cs n) from size e in
      true≢false (sym w.3 ∙ sym (closed_left w.0 w.1) ∙ ap (λ xs. is_closed_by xs n w.0) (empty (drop place spans) (omega (arith, length-drop place spans))))))
    where
      empty : (xs : List Closure) → length xs ≤ 0 → xs ≡ []
      empty [] le = refl
      empty (x ∷ xs) le = absurd (omega arith)

  -- the first that is left decides
  pub first_within : (c : Closure) (rest : List Closure) → drop place spans ≡ c ∷ rest → Each IsSome (c ∷ rest) → EachPair StandsBefore (c ∷ rest) →
      list_any (λ t. closes n t c) (range_with_len from size) ≡ list_any (is_closed_by cs n) (range_with_len from size)
  first_within c rest is some ordered =
      one_answer {P = list_any (is_closed_by cs n) (range_with_len from size) ≡ true} _ _ (
        (λ e. let w = any_in_range (λ t. closes n t c) from size e in
            any_of_range (is_closed_by cs n) from size w.0 w.1 w.2 (sym (closed_left w.0 w.1) ∙ ap (λ xs. is_closed_by xs n w.0) is ∙ ap (λ b. b || is_closed_by rest n w.0) w.3)),
        (λ e. let w = any_in_range (is_closed_by cs n) from size e in
            ⊎_elim (λ a. any_of_range (λ t. closes n t c) from size w.0 w.1 w.2 a)
            (λ b. let x = any_at (closes n w.0) rest b in
            earlier w.0 x.0 w.2 (closes_from n w.0 x.0 x.2) (Each-at (StandsBefore c) rest x.0 ordered.0 x.1))
            (or_cases (closes n w.0 c) (is_closed_by rest n w.0) (sym (ap (λ xs. is_closed_by xs n w.0) is) ∙ closed_left w.0 w.1 ∙ w.3))),
      )
      ((λ e. e), (λ e. e))
    where
      here : IsReaching n from c
      here = reaching_from n from c (subst (λ xs. Each (λ d. is_past n from d ≡ false) xs) is (each_of _ (drop place spans) reaching)).0

      earlier : (t : ℕ) (d : Closure) → t < from + size → IsIn n t d → StandsBefore c d → list_any (λ u. closes n u c) (range_with_len from size) ≡ true
      earlier t d high i (inl lt) = absurd (omega (arith, lt, i.node, here.node))
      earlier t d high i (inr at) =
          let node : c.node ≡ n = at.0 ∙ i.node in
          let till = here.not_over node in
          any_of_range (λ u. closes n u c) from size (max from c.from) (omega arith) (omega (arith, till, some.0, at.1, i.begun, high))
          (closes_true n (max from c.from) c node (omega arith) (omega (arith, till, some.0)))

-- ---- where the spans of a node begin and end
-- ascending spans that are not past a slot of a node
pub record AreLeft (n now : ℕ) (cs : List Closure) : Type 0 where
  pub some : Each IsSome cs
  pub ordered : EachPair StandsBefore cs
  pub reaching : Each (IsReaching n now) cs

left_rest : (n now : ℕ) (c : Closure) (cs : List Closure) → AreLeft n now (c ∷ cs) → AreLeft n now cs
left_rest n now c cs h = record { some = h.some.1; ordered = h.ordered.1; reaching = h.reaching.1 }

module _ (n now base : ℕ) where
  -- a number below the beginnings of the node's spans is below their ends too
  ends_late : (low : ℕ) (cs : List Closure) → AreLeft n now cs → Each (λ d. d.node ≡ n → low < base + max now d.from) cs → Each (λ x. low < x) (ends_in n now base cs)
  ends_late low [] h late = tt
  ends_late low (c ∷ cs) h late =
      cond_both (c.node == n) ((base + max now c.from) ∷ (base + (c.to + 1)) ∷ ends_in n now base cs) [] (λ xs. Each (λ x. low < x) xs)
      (λ e. let same = eq_from_test c.node n e in
      let first = late.0 same in
      (first, (omega (arith, first, h.some.0, h.reaching.0.not_over same), ends_late low cs (left_rest n now c cs h) late.1)))
      (λ e. tt)

  -- those of the spans behind one of the node
  ends_behind : (c : Closure) (cs : List Closure) → c.node ≡ n → AreLeft n now (c ∷ cs) → Each (λ x. base + (c.to + 1) < x) (ends_in n now base cs)
  ends_behind c cs node h =
      ends_late (base + (c.to + 1)) cs (left_rest n now c cs h)
      (Each-map (StandsBefore c) (λ d. d.node ≡ n → base + (c.to + 1) < base + max now d.from) (λ d at same. by_order d same at) cs h.ordered.0)
    where
      by_order : (d : Closure) → d.node ≡ n → StandsBefore c d → base + (c.to + 1) < base + max now d.from
      by_order d same (inl lt) = absurd (omega (arith, lt, node, same))
      by_order d same (inr at) = omega (arith, at.1)

  ends_up : (cs : List Closure) → AreLeft n now cs → Ascends (ends_in n now base cs)
  ends_up [] h = tt
  ends_up (c ∷ cs) h =
      cond_both (c.node == n) ((base + max now c.from) ∷ (base + (c.to + 1)) ∷ ends_in n now base cs) [] (λ xs. Ascends xs)
      (λ e. let same = eq_from_test c.node n e in
      let behind = ends_behind c cs same h in
      let less : base + max now c.from < base + (c.to + 1) = omega (arith, h.some.0, h.reaching.0.not_over same) in
      ((less, Each-map (λ x. base + (c.to + 1) < x) (λ x. base + max now c.from < x) (λ x lt. omega (arith, less, lt)) (ends_in n now base cs) behind), (behind, ends_up cs (left_rest n now c cs h))))
      (λ e. tt)

  ends_from : (cs : List Closure) → AreLeft n now cs → Each (λ x. base + now ≤ x) (ends_in n now base cs)
  ends_from [] h = tt
  ends_from (c ∷ cs) h =
      cond_both (c.node == n) ((base + max now c.from) ∷ (base + (c.to + 1)) ∷ ends_in n now base cs) [] (λ xs. Each (λ x. base + now ≤ x) xs)
      (λ e. let till = h.reaching.0.not_over (eq_from_test c.node n e) in (omega arith, (omega (arith, till), ends_from cs (left_rest n now c cs h))))
      (λ e. tt)

  twice : (b : Bool) → not (not b) ≡ b
  twice true = refl
  twice false = refl

  -- a slot behind the first span
  odd_behind : (c : Closure) (r : List ℕ) (t : ℕ) → IsSome c → c.to < t → now ≤ t → is_odd_at ((base + max now c.from) ∷ (base + (c.to + 1)) ∷ r) (base + t) ≡ is_odd_at r (base + t)
  odd_behind c r t some late low =
      ap (λ b. b && not (nat_le (base + (c.to + 1)) (base + t) && not (is_odd_at r (base + t)))) (le_true (base + max now c.from) (base + t) (omega (arith, some)))
      ∙ ap (λ b. not (b && not (is_odd_at r (base + t)))) (le_true (base + (c.to + 1)) (base + t) (omega arith)) ∙ twice (is_odd_at r (base + t))

  -- a slot that is not
  odd_within : (c : Closure) (r : List ℕ) (t : ℕ) → c.node ≡ n → t ≤ c.to → now ≤ t → is_odd_at ((base + max now c.from) ∷ (base + (c.to + 1)) ∷ r) (base + t) ≡ closes n t c
  odd_within c r t node till low =
      ap (λ b. nat_le (base + max now c.from) (base + t) && not (b && not (is_odd_at r (base + t)))) (le_false (base + (c.to + 1)) (base + t) (omega arith))
      ∙ by_start (cases_lt t c.from)
    where
      by_start : (t < c.from) ⊎ (c.from ≤ t) → (nat_le (base + max now c.from) (base + t) && true) ≡ closes n t c
      by_start (inl lt) = ap (λ b. b && true) (le_false (base + max now c.from) (base + t) (omega arith)) ∙ sym (closes_false n t c (λ i. omega (arith, i.begun)))
      by_start (inr ge) = ap (λ b. b && true) (le_true (base + max now c.from) (base + t) (omega arith)) ∙ sym (closes_true n t c node ge till)

  later_node : (c d : Closure) (t : ℕ) → n < c.node → StandsBefore c d → closes n t d ≡ false
  later_node c d t lt (inl x) = closes_false n t d (λ i. omega (arith, x, i.node))
  later_node c d t lt (inr x) = closes_false n t d (λ i. omega (arith, x.0, i.node))

  ends_closed : (cs : List Closure) → AreLeft n now cs → (t : ℕ) → now ≤ t → is_odd_at (ends_in n now base cs) (base + t) ≡ is_closed_by cs n t
  ends_closed [] h t low = refl
  ends_closed (c ∷ cs) h t low =
      cond_both (c.node == n) ((base + max now c.from) ∷ (base + (c.to + 1)) ∷ ends_in n now base cs) [] (λ xs. is_odd_at xs (base + t) ≡ is_closed_by (c ∷ cs) n t)
      (λ e. of_node (eq_from_test c.node n e) (cases_lt c.to t) (ends_closed cs (left_rest n now c cs h) t low))
      (λ e. of_others (λ same. true≢false (sym (eq-eqb c.node n same) ∙ e)))
    where
      of_node : c.node ≡ n → (c.to < t) ⊎ (t ≤ c.to) → is_odd_at (ends_in n now base cs) (base + t) ≡ is_closed_by cs n t →
          is_odd_at ((base + max now c.from) ∷ (base + (c.to + 1)) ∷ ends_in n now base cs) (base + t) ≡ is_closed_by (c ∷ cs) n t
      of_node node (inl late) rest =
          odd_behind c (ends_in n now base cs) t h.some.0 late low ∙ rest ∙ sym (ap (λ b. b || is_closed_by cs n t) (closes_false n t c (λ i. omega (arith, i.not_over, late))))
      of_node node (inr till) rest =
          odd_within c (ends_in n now base cs) t node till low ∙ sym (or_false (closes n t c))
          ∙ ap (λ b. closes n t c || b)
          (sym (odd_before (ends_in n now base cs) (base + t) (Each-map (λ x. base + (c.to + 1) < x) (λ x. base + t < x) (λ x lt. omega (arith, lt, till)) (ends_in n now base cs) (ends_behind c cs node h))) ∙ rest)
        where
          or_false : (b : Bool) → (b || false) ≡ b
          or_false true = refl
          or_false false = refl

      of_others : (c.node ≡ n → ⊥) → false ≡ is_closed_by (c ∷ cs) n t
      of_others other =
          let more : n < c.node = above (cases_order n c.node) in
          sym (ap (λ b. b || is_closed_by cs n t) (closes_false n t c (λ i. other i.node))
          ∙ none_from (closes n t) cs (Each-map (StandsBefore c) (λ d. closes n t d ≡ false) (λ d at. later_node c d t more at) cs h.ordered.0))
        where
          above : (n ≡ c.node) ⊎ ((n < c.node) ⊎ (c.node < n)) → n < c.node
          above (inl e) = absurd (other (sym e))
          above (inr (inl lt)) = lt
          above (inr (inr gt)) = absurd (omega (arith, gt, h.reaching.0.node))

module _ (cs spans : List Closure) (h : AreSpansOf cs spans) (n now place : ℕ) where
  drop_pairs : (k : ℕ) (xs : List Closure) → EachPair StandsBefore xs → EachPair StandsBefore (drop k xs)
  drop_pairs zero xs p = p
  drop_pairs (suc k) [] p = p
  drop_pairs (suc k) (x ∷ xs) p = drop_pairs k xs p.1

  drop_each : (P : Closure → Type 0) (k : ℕ) (xs : List Closure) → Each P xs → Each P (drop k xs)
  drop_each P zero xs p = p
  drop_each P (suc k) [] p = p
  drop_each P (suc k) (x ∷ xs) p = drop_each P k xs p.1

  pub left_some : Each IsSome (drop place spans)
  left_some = drop_each IsSome place spans (each_of IsSome spans h.are_spans.some_slots)

  pub left_ordered : EachPair StandsBefore (drop place spans)
  left_ordered = drop_pairs place spans (EachPair-from StandsBefore spans h.are_spans.ordered)

  module _ (passed : All (λ c. is_past n now c ≡ true) (take place spans)) (reaching : All (λ c. is_past n now c ≡ false) (drop place spans)) where
    are_left : AreLeft n now (drop place spans)
    are_left = record {
      some = left_some;
      ordered = left_ordered;
      reaching = Each-map (λ c. is_past n now c ≡ false) (IsReaching n now) (reaching_from n now) (drop place spans) (each_of _ (drop place spans) reaching);
    }

    pub are_turns : (base : ℕ) → AreTurns cs n now base (ends_in n now base (drop place spans))
    are_turns base = record {
      rising = rises (ends_in n now base (drop place spans)) (ends_up n now base (drop place spans) are_left);
      not_before = all_of (λ x. base + now ≤ x) (ends_in n now base (drop place spans)) (ends_from n now base (drop place spans) are_left);
      closed = λ t low. ends_closed n now base (drop place spans) are_left t low ∙ closed_left cs spans h n now 0 place passed reaching t low;
    }

-- where the closures keep a limit, the spans do
pub spans_within : (cs spans : List Closure) (most : ℕ) → AreSpansOf cs spans → All (λ c. c.to < most) cs → All (λ c. c.to < most) spans
spans_within cs spans most h all k d lt =
    let c = get_or spans k d in
    let closed = any_from (closes c.node c.to) spans c (k, lt, get_or_default spans k c d lt) (closes_true c.node c.to c refl (h.are_spans.some_slots k d lt) (omega arith)) in
    let w = any_at (closes c.node c.to) cs (sym (h.same c.node c.to) ∙ closed) in
    let i = closes_from c.node c.to w.0 w.2 in
    omega (arith, i.not_over, Each-at (λ c. c.to < most) cs w.0 (each_of _ cs all) w.1)

-- the closures that ascend, begun with the first
pub merging_begun : (cs : List Closure) (c : Closure) (rest : List Closure) → cs ≡ c ∷ rest → All IsSome cs → All (λ d. d.from < 2 ^ 32) cs → IsNonDecreasingBy place_of cs →
    IsMerging cs [] c rest
merging_begun cs c rest e some fit up =
    subst (λ xs. IsMerging xs [] c rest) (sym e)
    (merging_first c rest (subst (Each IsSome) e (each_of IsSome cs some)) (subst (Each (λ d. d.from < 2 ^ 32)) e (each_of (λ d. d.from < 2 ^ 32) cs fit))
    (subst (EachPair (λ d f. place_of d ≤ place_of f)) e (EachPair-from (λ d f. place_of d ≤ place_of f) cs (λ i j d lt short. up i j d (omega arith) short))))

-- a node in so many slots, by the first span that is not past
pub within_by_span : (cs spans : List Closure) (n from size place : ℕ) (d : Closure) → AreSpansOf cs spans → All (λ d. is_past n from d ≡ true) (take place spans) →
    All (λ d. is_past n from d ≡ false) (drop place spans) → place < length spans →
    list_any (λ t. closes n t (get_or spans place d)) (range_with_len from size) ≡ list_any (is_closed_by cs n) (range_with_len from size)
within_by_span cs spans n from size place d h passed reaching lt =
    let split = drop_more spans place d lt in
    first_within cs spans h n from size place passed reaching (get_or spans place d) (drop (place + 1) spans) split
    (subst (Each IsSome) split (left_some cs spans h n from place)) (subst (EachPair StandsBefore) split (left_ordered cs spans h n from place))

-- the rest of a list, as a range to its end
pub to_end : (xs : List Closure) (place : ℕ) → take (length xs - place) (drop place xs) ≡ drop place xs
to_end xs place = take_all (length xs - place) (drop place xs) (omega (arith, length-drop place xs))

-- what does not touch a span of its node has a slot before it
pub not_touching : (a c : Closure) (b : Bool) → ((a.node ≡ c.node) × (c.from ≤ a.to + 1) → b ≡ true) → b ≡ false → a.node ≡ c.node → a.to + 1 < c.from
not_touching a c b touch e same = elim (cases_lt (a.to + 1) c.from) [
  | inl lt ↦ lt
  | inr ge ↦ absurd (true≢false (sym (touch (same, ge)) ∙ e))
]
