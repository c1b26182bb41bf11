-- Grants that clash.
use Rattle.std.proofs.Common.{◌≡◌, ℕ, ◌+◌, ◌<◌, ◌≤◌, max, List, length, get_or, take, All, Option, Some, None, MatchOption, IsSomeAnd, slice_get, refl, sym, subst, ap, ◌∙◌, arith, inl, inr}
use Rattle.std.proofs.lemmas.Bool.{cases_lt}
use Rattle.std.proofs.lemmas.Option.{slice_get-get_or, slice_get_within, get_or_from_slice_get}
use Rattle.std.proofs.lemmas.List.{get_or-take, length-take}
use Rattle.tetri_strl.specs.declared.expr.Leaf.{Leaf}
use Rattle.tetri_strl.specs.declared.grants.Grant.{Grant}
use Rattle.tetri_strl.specs.WellMade.{IsGoodLeaf}
use Rattle.tetri_space.specs.Space.{Space}
use Rattle.tetri_space.specs.Broken.{IsLeast, HasCommonSlot, ClashesAt, IsFirstClash}

-- the value that there is, with what holds of it
pub value_in : {X : Type 0} (o : Option X) (P : X → Type 0) → IsSomeAnd o P → (x : X) × (o ≡ Some x) × P x
value_in None P h = absurd h
value_in (Some x) P h = (x, refl, h)

pub of_value : {X : Type 0} (o : Option X) (P : X → Type 0) (x : X) → o ≡ Some x → P x → IsSomeAnd o P
of_value o P x is holds = subst (λ p. IsSomeAnd p P) (sym is) holds

pub at_value : {X : Type 0} (o : Option X) (P : X → Type 0) (x : X) → o ≡ Some x → IsSomeAnd o P → P x
at_value o P x is holds = subst (λ p. IsSomeAnd p P) is holds

-- what holds of the element that is read holds at its place
pub at_place : {X : Type 0} (xs : List X) (i : ℕ) (x : X) → i < length xs → x ≡ get_or xs i x → slice_get xs i ≡ Some x
at_place xs i x lt is = slice_get-get_or xs i x lt ∙ ap Some (sym is)

-- a fact of all elements, at one place
pub all_at : {X : Type 0} (P : X → Type 0) (xs : List X) (p : ℕ) (x : X) → All P xs → slice_get xs p ≡ Some x → P x
all_at P xs p x all is = subst P (get_or_from_slice_get xs p x x is) (all p x (slice_get_within xs p x is))

-- the place of an element behind places at which all fail is the least at which one holds
pub first_place : {X : Type 0} (P : X → Type 0) (xs : List X) (i : ℕ) (x : X) → i < length xs → x ≡ get_or xs i x → All (λ y. P y → ⊥) (take i xs) → P x →
    IsLeast (λ p. IsSomeAnd (slice_get xs p) P) i
first_place P xs i x lt is fail holds = record {
  holds = of_value (slice_get xs i) P x (at_place xs i x lt is) holds;
  least = λ p at. elim (cases_lt p i) [
    | inl before ↦
        let found = value_in (slice_get xs p) P at in
        let within : p < length (take i xs) = omega (arith, length-take i xs, lt) in
        let here = get_or-take i xs p found.0 before ∙ get_or_from_slice_get xs p found.0 found.0 found.1 in
        absurd (subst (λ y. P y → ⊥) here (fail p found.0 within) found.2)
    | inr behind ↦ behind
  ];
}

-- leaves that each begin before the other is over have a slot in common
pub common_slot : (l m : Leaf) → IsGoodLeaf l → IsGoodLeaf m → l.start < m.start + m.dur → m.start < l.start + l.dur → HasCommonSlot l m
common_slot l m good other_good before after = (
  max l.start m.start,
  record { begun = omega arith; not_over = omega (arith, good.some_slots) },
  record { begun = omega arith; not_over = omega (arith, other_good.some_slots) },
)

module _ (P : Grant → ℕ → Type 0) (grants : List Grant) where
  -- no grant below this place has such a number
  abbrev pub NoneBelow : ℕ → Type 0
  NoneBelow i = (p m : ℕ) → p < i → IsSomeAnd (slice_get grants p) (λ g. P g m) → ⊥

  -- of the grants below this place, `n` is the least such number, and the grant at `q` the first that has it
  pub record IsFirstBelow (i q n : ℕ) : Type 0 where
    pub below : q < i
    pub has : IsSomeAnd (slice_get grants q) (λ g. P g n)
    pub least : (p m : ℕ) → p < i → IsSomeAnd (slice_get grants p) (λ g. P g m) → n ≤ m
    pub first : (p : ℕ) → p < i → IsSomeAnd (slice_get grants p) (λ g. P g n) → q ≤ p

module _ (P : Grant → ℕ → Type 0) (grants : List Grant) (i : ℕ) (g : Grant) (here : slice_get grants i ≡ Some g) where
  at_last : (p m : ℕ) → p < i + 1 → (p < i → ⊥) → IsSomeAnd (slice_get grants p) (λ h. P h m) → P g m
  at_last p m lt not_before at = at_value (slice_get grants p) (λ h. P h m) g (ap (slice_get grants) (omega arith) ∙ here) at

  -- one grant further on, none has such a number
  pub none_more : NoneBelow P grants i → ((m : ℕ) → P g m → ⊥) → NoneBelow P grants (i + 1)
  none_more none never p m lt at = elim (cases_lt p i) [
    | inl before ↦ none p m before at
    | inr last ↦ never m (at_last p m lt (λ before. absurd (omega arith)) at)
  ]

  -- the next grant has no such number
  pub first_kept : (q n : ℕ) → IsFirstBelow P grants i q n → ((m : ℕ) → P g m → ⊥) → IsFirstBelow P grants (i + 1) q n
  first_kept q n found never = record {
    below = omega (arith, found.below);
    has = found.has;
    least = λ p m lt at. elim (cases_lt p i) [
      | inl before ↦ found.least p m before at
      | inr last ↦ absurd (never m (at_last p m lt (λ before. absurd (omega arith)) at))
    ];
    first = λ p lt at. elim (cases_lt p i) [
      | inl before ↦ found.first p before at
      | inr last ↦ absurd (never n (at_last p n lt (λ before. absurd (omega arith)) at))
    ];
  }

  -- its least one is no less than the one before
  pub first_stays : (q n m : ℕ) → IsFirstBelow P grants i q n → IsLeast (P g) m → n ≤ m → IsFirstBelow P grants (i + 1) q n
  first_stays q n m found new le = record {
    below = omega (arith, found.below);
    has = found.has;
    least = λ p o lt at. elim (cases_lt p i) [
      | inl before ↦ found.least p o before at
      | inr last ↦ let low : m ≤ o = new.least o (at_last p o lt (λ before. absurd (omega arith)) at) in omega arith
    ];
    first = λ p lt at. elim (cases_lt p i) [
      | inl before ↦ found.first p before at
      | inr last ↦ omega (arith, found.below)
    ];
  }

  -- its least one is the first, or less than the one before
  pub first_changed : (m : ℕ) → IsLeast (P g) m → ((p o : ℕ) → p < i → IsSomeAnd (slice_get grants p) (λ h. P h o) → m < o) → IsFirstBelow P grants (i + 1) i m
  first_changed m new less = record {
    below = omega arith;
    has = of_value (slice_get grants i) (λ h. P h m) g here new.holds;
    least = λ p o lt at. elim (cases_lt p i) [
      | inl before ↦ let low : m < o = less p o before at in omega arith
      | inr last ↦ new.least o (at_last p o lt (λ before. absurd (omega arith)) at)
    ];
    first = λ p lt at. elim (cases_lt p i) [
      | inl before ↦ let low : m < m = less p m before at in absurd (omega arith)
      | inr last ↦ last
    ];
  }

module _ (P : Grant → ℕ → Type 0) (grants : List Grant) where
  -- what was found among the grants below this place
  abbrev pub Found : ℕ → Option (ℕ × ℕ) → Type 0
  Found i o = MatchOption o (NoneBelow P grants i) (λ f. IsFirstBelow P grants i f.0 f.1)

  pub found_kept : (i : ℕ) (g : Grant) (o : Option (ℕ × ℕ)) → slice_get grants i ≡ Some g → Found i o → ((m : ℕ) → P g m → ⊥) → Found (i + 1) o
  found_kept i g None here none never = none_more P grants i g here none never
  found_kept i g (Some f) here found never = first_kept P grants i g here f.0 f.1 found never

  pub found_more : (i : ℕ) (g : Grant) (o new : Option (ℕ × ℕ)) (m : ℕ) → slice_get grants i ≡ Some g → Found i o → IsLeast (P g) m →
      (o ≡ None → new ≡ Some (i, m)) → ((f : ℕ × ℕ) → o ≡ Some f → m < f.1 → new ≡ Some (i, m)) →
      ((f : ℕ × ℕ) → o ≡ Some f → f.1 ≤ m → new ≡ Some f) → Found (i + 1) new
  found_more i g None new m here none least first less kept =
      subst (Found (i + 1)) (sym (first refl)) (first_changed P grants i g here m least (λ p o lt at. absurd (none p o lt at)))
  found_more i g (Some f) new m here found least first less kept = elim (cases_lt m f.1) [
    | inl lower ↦ subst (Found (i + 1)) (sym (less f refl lower))
        (first_changed P grants i g here m least (λ p o lt at. let low : f.1 ≤ o = found.least p o lt at in omega arith))
    | inr stays ↦ subst (Found (i + 1)) (sym (kept f refl stays)) (first_stays P grants i g here f.0 f.1 m found least stays)
  ]

module _ (s : Space) (l : Leaf) (nodes : List ℕ) (grants : List Grant) where
  pub none_clashes : (i : ℕ) → length grants ≤ i → NoneBelow (ClashesAt s l nodes) grants i → All (λ g. (m : ℕ) → ClashesAt s l nodes g m → ⊥) grants
  none_clashes i all none k d lt m at =
      none k m (omega arith) (of_value (slice_get grants k) (λ g. ClashesAt s l nodes g m) (get_or grants k d) (slice_get-get_or grants k d lt) at)

  pub first_clashes : (i q n : ℕ) → length grants ≤ i → IsFirstBelow (ClashesAt s l nodes) grants i q n → IsFirstClash s l nodes grants q n
  first_clashes i q n all found = record {
    node = record {
      holds = (q, found.has);
      least = λ m at. found.least at.0 m (in_range at.0 m at.1) at.1;
    };
    place = record {
      holds = found.has;
      least = λ p at. found.first p (in_range p n at) at;
    };
  }
    where
      in_range : (p m : ℕ) → IsSomeAnd (slice_get grants p) (λ g. ClashesAt s l nodes g m) → p < i
      in_range p m at =
          let found = value_in (slice_get grants p) (λ g. ClashesAt s l nodes g m) at in omega (arith, slice_get_within grants p found.0 found.1)

  pub found_all : (i : ℕ) (o : Option (ℕ × ℕ)) → length grants ≤ i → Found (ClashesAt s l nodes) grants i o →
      MatchOption o (All (λ g. (m : ℕ) → ClashesAt s l nodes g m → ⊥) grants) (λ f. IsFirstClash s l nodes grants f.0 f.1)
  found_all i None all none = none_clashes i all none
  found_all i (Some f) all found = first_clashes i f.0 f.1 all found
