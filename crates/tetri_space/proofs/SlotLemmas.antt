-- Slots of a window as bits: two leaves share a slot of the window exactly where their bits meet, and what masks tell.
use Rattle.std.proofs.Common.{◌≡◌, ◌≢◌, ℕ, ◌+◌, ◌-◌, ◌*◌, ◌%◌, ◌^◌, ◌<◌, ◌≤◌, ◌==◌, ◌&&◌, ◌||◌, ◌⊎◌, inl, inr, Bool, true, false, not, min, max, List, [], ◌∷◌, length, get_or, set, All, refl, sym, ap, ◌∙◌, subst, arith, nat_lt, bit_and, bit_or, w64}
use Rattle.std.specs.Int.{bit_at, trailing_zeros}
use Rattle.std.specs.Int.Bits.{and_zero_l}
use Rattle.std.specs.List.{list_any}
use Rattle.std.proofs.Math.Nat.{mod-eq_of_lt}
use Rattle.std.proofs.Math.Pow.{pow_mono}
use Rattle.std.proofs.lemmas.Bool.{cases_eq, cases_lt, true≢false}
use Rattle.std.proofs.lemmas.Bool.Decides.{nat_tests}
use Rattle.std.proofs.lemmas.List.{get_or-set_other, get_or-set_same, length-set}
use Rattle.std.proofs.lemmas.List.Elements.{All-head, All-tail}
use Rattle.std.proofs.lemmas.Nat.{and_le_r, pow_pos}
use Rattle.std.proofs.lemmas.Nat.Bits.{bit_at-lt, bit_at-zero, bit_at_and, bit_at_or, bit_at_mask_above, bit_at_mask_below, bit_at_mask_inside, bit_at-trailing_zeros}
use Rattle.tetri_strl.specs.declared.expr.Leaf.{Leaf}
use Rattle.tetri_space.specs.Slots.{marked, meets, overlap, slots_of}

same_truth : (p q : Bool) → (p ≡ true → q ≡ true) → (q ≡ true → p ≡ true) → p ≡ q
same_truth true true f g = refl
same_truth true false f g = sym (f refl)
same_truth false true f g = g refl
same_truth false false f g = refl

or_cases : (p q : Bool) → (p || q) ≡ true → (p ≡ true) ⊎ (q ≡ true)
or_cases true q e = inl refl
or_cases false q e = inr e

or_first : (p q : Bool) → p ≡ true → (p || q) ≡ true
or_first true q e = refl
or_first false q e = absurd (true≢false (sym e))

or_second : (p q : Bool) → q ≡ true → (p || q) ≡ true
or_second true q e = refl
or_second false q e = e

meets_by : (n : ℕ) → (n ≡ 0 → ⊥) → not (n == 0) ≡ true
meets_by n some = by_test (n == 0) (λ e. some (zero_from n e))
  where
    zero_from : (m : ℕ) → (m == 0) ≡ true → m ≡ 0
    zero_from m e = grind (arith, nat_tests)

    by_test : (t : Bool) → (t ≡ true → ⊥) → not t ≡ true
    by_test true never = absurd (never refl)
    by_test false never = refl

some_by : (n : ℕ) → not (n == 0) ≡ true → 0 < n
some_by n e = grind (arith, nat_tests)

pub meets_at : (a b i : ℕ) → bit_at a i ≡ 1 → bit_at b i ≡ 1 → meets a b ≡ true
meets_at a b i p q =
    meets_by (bit_and a b)
    (λ none. let here : bit_at (bit_and a b) i ≡ 1 = bit_at_and a b i ∙ rw (p, q) refl in
    absurd (omega (arith, here, ap (λ n. bit_at n i) none, bit_at-zero i)))

pub bit_of_meeting : (a b : ℕ) → b < 2 ^ 64 → meets a b ≡ true → (i : ℕ) × (bit_at a i ≡ 1) × (bit_at b i ≡ 1)
bit_of_meeting a b bound e =
    let low = bit_at-trailing_zeros w64 (bit_and a b) (some_by (bit_and a b) e) (omega (arith, and_le_r a b, bound)) in
    let i = trailing_zeros w64 (bit_and a b) in
    let both : min (bit_at a i) (bit_at b i) ≡ 1 = sym (bit_at_and a b i) ∙ low.1 in
    (i, omega (arith, both, bit_at-lt a i, bit_at-lt b i), omega (arith, both, bit_at-lt a i, bit_at-lt b i))

-- bits together meet what one of them meets
pub meets_or : (a b c : ℕ) → c < 2 ^ 64 → meets (bit_or a b) c ≡ (meets a c || meets b c)
meets_or a b c bound = same_truth (meets (bit_or a b) c) (meets a c || meets b c) whole either
  where
    whole : meets (bit_or a b) c ≡ true → (meets a c || meets b c) ≡ true
    whole e =
        let w = bit_of_meeting (bit_or a b) c bound e in
        let most : max (bit_at a w.0) (bit_at b w.0) ≡ 1 = sym (bit_at_or a b w.0) ∙ w.1 in
        elim (cases_eq (bit_at a w.0) 1) [
          | inl one ↦ or_first (meets a c) (meets b c) (meets_at a c w.0 one w.2)
          | inr other ↦ or_second (meets a c) (meets b c) (meets_at b c w.0 (omega (arith, most, other, bit_at-lt a w.0, bit_at-lt b w.0)) w.2)
        ]

    either : (meets a c || meets b c) ≡ true → meets (bit_or a b) c ≡ true
    either e = elim (or_cases (meets a c) (meets b c) e) [
      | inl first ↦
          let w = bit_of_meeting a c bound first in
          meets_at (bit_or a b) c w.0 (bit_at_or a b w.0 ∙ omega (arith, w.1, bit_at-lt b w.0)) w.2
      | inr second ↦
          let w = bit_of_meeting b c bound second in
          meets_at (bit_or a b) c w.0 (bit_at_or a b w.0 ∙ omega (arith, w.1, bit_at-lt a w.0)) w.2
    ]

-- a bit between the first and the last
bit_inside : (lo hi i : ℕ) → bit_at (2 ^ hi - 2 ^ lo) i ≡ 1 → (lo ≤ i) × (i < hi)
bit_inside lo hi i e = (
  not_lt i lo (λ below. absurd (omega (arith, e, bit_at_mask_below lo hi i below))),
  not_le hi i (λ above. absurd (omega (arith, e, bit_at_mask_above lo hi i above))),
)
  where
    not_lt : (m n : ℕ) → (m < n → ⊥) → n ≤ m
    not_lt m n never = elim (cases_lt m n) [ inl lt ↦ absurd (never lt) | inr le ↦ le ]

    not_le : (m n : ℕ) → (m ≤ n → ⊥) → n < m
    not_le m n never = elim (cases_lt n m) [ inl lt ↦ lt | inr le ↦ absurd (never le) ]

pub and_left : (p q : Bool) → (p && q) ≡ true → p ≡ true
and_left true q e = refl
and_left false q e = absurd (true≢false (sym e))

pub and_right : (p q : Bool) → (p && q) ≡ true → q ≡ true
and_right true q e = e
and_right false q e = absurd (true≢false (sym e))

lt_test : (x y : ℕ) → x < y → nat_lt x y ≡ true
lt_test x y h = grind (arith, nat_tests)

lt_from : (x y : ℕ) → nat_lt x y ≡ true → x < y
lt_from x y e = grind (arith, nat_tests)

pub slots_bound : (now : ℕ) (l : Leaf) → slots_of now l < 2 ^ 64
slots_bound now l =
    let small : min 64 (l.start - now + l.dur) ≤ 64 = omega arith in
    let le : 2 ^ min 64 (l.start - now + l.dur) ≤ 2 ^ 64 = pow_mono small in
    let some : 0 < 2 ^ (l.start - now) = pow_pos (l.start - now) in
    let all : 0 < 2 ^ 64 = pow_pos 64 in
    omega (arith, le, some, all)

-- a leaf that starts in a window of 64 slots, and uses one at least
pub record IsInWindow (now : ℕ) (l : Leaf) : Type 0 where
  pub live : now ≤ l.start
  pub window : l.start < now + 64
  pub some_slots : 1 ≤ l.dur

pub meets_overlap : (now : ℕ) (l m : Leaf) → IsInWindow now l → IsInWindow now m → meets (slots_of now m) (slots_of now l) ≡ overlap l m
meets_overlap now l m p q = same_truth (meets (slots_of now m) (slots_of now l)) (overlap l m) found shared
  where
    found : meets (slots_of now m) (slots_of now l) ≡ true → overlap l m ≡ true
    found e =
        let w = bit_of_meeting (slots_of now m) (slots_of now l) (slots_bound now l) e in
        let a = bit_inside (m.start - now) (min 64 (m.start - now + m.dur)) w.0 w.1 in
        let b = bit_inside (l.start - now) (min 64 (l.start - now + l.dur)) w.0 w.2 in
        let first : l.start < m.start + m.dur = omega (arith, a.1, b.0, p.live, q.live) in
        let second : m.start < l.start + l.dur = omega (arith, b.1, a.0, p.live, q.live) in
        rw (lt_test l.start (m.start + m.dur) first, lt_test m.start (l.start + l.dur) second) refl

    shared : overlap l m ≡ true → meets (slots_of now m) (slots_of now l) ≡ true
    shared e =
        let first : l.start < m.start + m.dur = lt_from l.start (m.start + m.dur) (and_left (nat_lt l.start (m.start + m.dur)) (nat_lt m.start (l.start + l.dur)) e) in
        let second : m.start < l.start + l.dur = lt_from m.start (l.start + l.dur) (and_right (nat_lt l.start (m.start + m.dur)) (nat_lt m.start (l.start + l.dur)) e) in
        let i = max (l.start - now) (m.start - now) in
        meets_at (slots_of now m) (slots_of now l) i
        (bit_at_mask_inside (m.start - now) (min 64 (m.start - now + m.dur)) i (omega arith) (omega (arith, first, p.live, q.live, p.window, q.window, q.some_slots)))
        (bit_at_mask_inside (l.start - now) (min 64 (l.start - now + l.dur)) i (omega arith) (omega (arith, second, p.live, q.live, p.window, q.window, p.some_slots)))

-- ---- masks
-- a power of 2 that fits 128 bits
pub shifted : (k : ℕ) → k ≤ 64 → 1 * 2 ^ k % 340282366920938463463374607431768211456 ≡ 2 ^ k
shifted k small =
    let bound : 2 ^ k ≤ 2 ^ 64 = pow_mono small in
    let one : 1 * 2 ^ k ≡ 2 ^ k = omega arith in
    subst (λ n. n % 340282366920938463463374607431768211456 ≡ 2 ^ k) (sym one) (mod-eq_of_lt (omega (arith, bound)))

pub shifted_order : (i j : ℕ) → i ≤ j → j ≤ 64 →
    1 * 2 ^ i % 340282366920938463463374607431768211456 ≤ 1 * 2 ^ j % 340282366920938463463374607431768211456
shifted_order i j le small =
    let order : 2 ^ i ≤ 2 ^ j = pow_mono le in
    rw (shifted i (omega arith), shifted j small) order

-- the bits from i to j - 1
pub mask_value : (i j : ℕ) → i ≤ j → j ≤ 64 →
    1 * 2 ^ j % 340282366920938463463374607431768211456 - 1 * 2 ^ i % 340282366920938463463374607431768211456 ≡ 2 ^ j - 2 ^ i
mask_value i j le small = rw (shifted i (omega arith), shifted j small) refl

pub length-marked : (slots : ℕ) (ns masks : List ℕ) → length (marked masks slots ns) ≡ length masks
length-marked slots [] masks = refl
length-marked slots (n ∷ ns) masks =
    length-marked slots ns (set masks n (bit_or (get_or masks n 0) slots)) ∙ length-set masks n (bit_or (get_or masks n 0) slots)

same_test : (m n : ℕ) → m ≡ n → (m == n) ≡ true
same_test m n e = grind (arith, nat_tests)

other_test : (m n : ℕ) → m ≢ n → (m == n) ≡ false
other_test m n e = grind (arith, nat_tests)

-- a node that is marked twice, or at a later place
again : (a b c : Bool) → ((a || c) || (b && c)) ≡ (a || (true && c))
again true b c = refl
again false true true = refl
again false true false = refl
again false false true = refl
again false false false = refl

-- a node meets the slots where it did before, or where it is marked and the marks do
pub marked_meets : (slots c n : ℕ) → c < 2 ^ 64 → (ns masks : List ℕ) → All (λ m. m < length masks) ns → n < length masks →
    meets (get_or (marked masks slots ns) n 0) c ≡ (meets (get_or masks n 0) c || (list_any (λ m. m == n) ns && meets slots c))
marked_meets slots c n bound [] masks known lt = sym (or_false (meets (get_or masks n 0) c))
  where
    or_false : (a : Bool) → (a || false) ≡ a
    or_false true = refl
    or_false false = refl
marked_meets slots c n bound (m ∷ ms) masks known lt =
    let longer = length-set masks m (bit_or (get_or masks m 0) slots) in
    let rest =
    marked_meets slots c n bound ms (set masks m (bit_or (get_or masks m 0) slots))
    (λ k d at. omega (arith, longer, All-tail (λ j. j < length masks) m ms known k d at)) (omega (arith, longer, lt)) in
    elim (cases_eq m n) [
      | inl same ↦ rest
          ∙ ap (λ b. meets b c || (list_any (λ j. j == n) ms && meets slots c)) (here same)
          ∙ ap (λ b. b || (list_any (λ j. j == n) ms && meets slots c)) (meets_or (get_or masks n 0) slots c bound)
          ∙ again (meets (get_or masks n 0) c) (list_any (λ j. j == n) ms) (meets slots c)
          ∙ ap (λ t. meets (get_or masks n 0) c || ((t || list_any (λ j. j == n) ms) && meets slots c)) (sym (same_test m n same))
      | inr other ↦ rest
          ∙ ap (λ b. meets b c || (list_any (λ j. j == n) ms && meets slots c)) (get_or-set_other masks m n (bit_or (get_or masks m 0) slots) 0 (λ e. other (sym e)))
          ∙ ap (λ t. meets (get_or masks n 0) c || ((t || list_any (λ j. j == n) ms) && meets slots c)) (sym (other_test m n other))
    ]
  where
    here : m ≡ n → get_or (set masks m (bit_or (get_or masks m 0) slots)) n 0 ≡ bit_or (get_or masks n 0) slots
    here same =
        subst (λ k. get_or (set masks m (bit_or (get_or masks m 0) slots)) k 0 ≡ bit_or (get_or masks k 0) slots) same
        (get_or-set_same masks m (bit_or (get_or masks m 0) slots) 0 (All-head (λ j. j < length masks) m ms known))

-- no slot is held where a mask is 0
pub none_meets : (b : ℕ) → meets 0 b ≡ false
none_meets b = ap (λ n. not (n == 0)) (and_zero_l b)
