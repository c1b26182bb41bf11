-- Slots as bits: which leaves set them, and how many are set.
use Rattle.std.proofs.Common.{◌≡◌, ℕ, zero, suc, ◌+◌, ◌-◌, ◌*◌, ◌%◌, ◌^◌, ◌<◌, ◌≤◌, ◌==◌, ◌&&◌, ◌||◌, inl, inr, Bool, true, false, min, List, [], ◌∷◌, length, get_or, set, take, replicate, All, refl, sym, ap, ◌∙◌, subst, arith, nat_lt, bit_or, w64}
use Rattle.std.specs.Prelude.{nat_le}
use Rattle.std.specs.Int.{bit_at, trailing_zeros}
use Rattle.std.specs.List.{list_any, range_with_len}
use Rattle.std.proofs.Math.Nat.{mod-eq_of_lt, pow-suc}
use Rattle.std.proofs.Math.Pow.{pow_mono}
use Rattle.std.proofs.lemmas.Bool.{cases_lt}
use Rattle.std.proofs.lemmas.Bool.Decides.{nat_tests}
use Rattle.std.proofs.lemmas.List.{get_or_past, length-set}
use Rattle.std.proofs.lemmas.Nat.Bits.{bit_at_mask_inside, bit_at-trailing_zeros}
use Rattle.tetri_strl.specs.declared.expr.Leaf.{Leaf}
use Rattle.tetri_base.specs.Lists.{bit, count, has}
use Rattle.tetri_space.specs.Slots.{marked, meets, slots_of}
use Rattle.tetri_space.proofs.InstanceLaws.{marked_meets, meets_at, meets_overlap, none_meets}
use Rattle.tetri_compile.specs.Sizes.{StartsInWindow, covers, has_slot, is_used}
use Rattle.tetri_compile.proofs.SizeLemmas.{any_test, used_is}

pub bit_bound : (i : ℕ) → i < 64 → 2 ^ i < 2 ^ 64
bit_bound i lt =
    let small : i ≤ 63 = omega arith in
    let le : 2 ^ i ≤ 2 ^ 63 = pow_mono small in
    omega (arith, le)

-- a bit as the code makes it
pub bit_value : (i : ℕ) → i < 64 → 1 * 2 ^ i % 18446744073709551616 ≡ 2 ^ i
bit_value i lt =
    let bound = bit_bound i lt in
    let one : 1 * 2 ^ i ≡ 2 ^ i = omega arith in
    subst (λ n. n % 18446744073709551616 ≡ 2 ^ i) (sym one) (mod-eq_of_lt (omega (arith, bound)))

pub has_slot_by : (s i : ℕ) → i < 64 → has_slot s i ≡ meets s (1 * 2 ^ i % 18446744073709551616)
has_slot_by s i lt = ap (meets s) (sym (bit_value i lt))

above : (i : ℕ) → 2 ^ (i + 1) - 2 ^ i ≡ 2 ^ i
above i = let e : i + 1 ≡ suc i = omega arith in omega (arith, ap (λ k. 2 ^ k) e, pow-suc 2 i)

-- a leaf of one slot
abbrev at_slot : ℕ → Leaf
at_slot t = record { num = 0; set = 0; k = 1; start = t; dur = 1; v = 0; linear = false }

bit_of_slot : (now i : ℕ) → i < 64 → 2 ^ min 64 ((now + i) - now + 1) - 2 ^ ((now + i) - now) ≡ 2 ^ i
bit_of_slot now i lt =
    let a : (now + i) - now ≡ i = omega arith in
    let b : min 64 (i + 1) ≡ i + 1 = omega arith in
    ap (λ k. 2 ^ min 64 (k + 1) - 2 ^ k) a ∙ ap (λ k. 2 ^ k - 2 ^ i) b ∙ above i

next_test : (m n : ℕ) → nat_lt m (n + 1) ≡ nat_le m n
next_test m n = elim (cases_lt n m) [
  | inl lt ↦ no (nat_lt m (n + 1)) (nat_le m n) (not_lt m (n + 1) (omega arith)) (not_le m n lt)
  | inr le ↦ no (nat_lt m (n + 1)) (nat_le m n) (is_lt m (n + 1) (omega arith)) (is_le m n le)
]
  where
    no : {b : Bool} (p q : Bool) → p ≡ b → q ≡ b → p ≡ q
    no p q e f = e ∙ sym f

    not_lt : (x y : ℕ) → y ≤ x → nat_lt x y ≡ false
    not_lt x y h = grind (arith, nat_tests)

    not_le : (x y : ℕ) → y < x → nat_le x y ≡ false
    not_le x y h = grind (arith, nat_tests)

    is_lt : (x y : ℕ) → x < y → nat_lt x y ≡ true
    is_lt x y h = grind (arith, nat_tests)

    is_le : (x y : ℕ) → x ≤ y → nat_le x y ≡ true
    is_le x y h = grind (arith, nat_tests)

and_swap : (a b : Bool) → (a && b) ≡ (b && a)
and_swap true true = refl
and_swap true false = refl
and_swap false true = refl
and_swap false false = refl

-- the bits of a leaf are the slots that it covers
slot_covered : (now i : ℕ) (l : Leaf) → StartsInWindow now l → i < 64 → has_slot (slots_of now l) i ≡ covers l (now + i)
slot_covered now i l h lt =
    ap (meets (slots_of now l)) (sym (bit_of_slot now i lt))
    ∙ meets_overlap now (at_slot (now + i)) l
    (record { live = omega arith; window = omega arith; some_slots = omega arith })
    (record { live = h.not_early; window = h.not_late; some_slots = h.some_slots })
    ∙ ap (λ b. nat_lt (now + i) (l.start + l.dur) && b) (next_test l.start (now + i))
    ∙ and_swap (nat_lt (now + i) (l.start + l.dur)) (nat_le l.start (now + i))

only : (P : ℕ → Type 0) (n : ℕ) → P n → All P (n ∷ [])
only P n h zero d lt = h
only P n h (suc k) d lt = absurd (omega arith)

-- the slots of a leaf are added to those of its set
pub leaf_held : (now i k : ℕ) (l : Leaf) (masks : List ℕ) → l.set < length masks → StartsInWindow now l → i < 64 →
    has_slot (get_or (set masks l.set (bit_or (get_or masks l.set 0) (slots_of now l))) k 0) i ≡ (has_slot (get_or masks k 0) i || ((covers l (now + i) && l.set == k) || false))
leaf_held now i k l masks known h lt = elim (cases_lt k (length masks)) [
  | inl below ↦
      marked_meets (slots_of now l) (2 ^ i) k (bit_bound i lt) (l.set ∷ []) masks (only (λ n. n < length masks) l.set known) below
      ∙ ap (λ b. has_slot (get_or masks k 0) i || ((l.set == k || false) && b)) (slot_covered now i l h lt)
      ∙ ap (λ b. has_slot (get_or masks k 0) i || b) (regroup (l.set == k) (covers l (now + i)))
  | inr past ↦
      ap (λ m. has_slot m i) (get_or_past (set masks l.set (bit_or (get_or masks l.set 0) (slots_of now l))) k 0 (omega (arith, length-set masks l.set (bit_or (get_or masks l.set 0) (slots_of now l)), past)) ∙ sym (get_or_past masks k 0 past))
      ∙ nothing (has_slot (get_or masks k 0) i) (covers l (now + i)) (l.set == k) (ap (λ m. has_slot m i) (get_or_past masks k 0 past) ∙ none_meets (2 ^ i)) (other l.set k (omega (arith, known, past)))
]
  where
    regroup : (e c : Bool) → ((e || false) && c) ≡ ((c && e) || false)
    regroup true true = refl
    regroup true false = refl
    regroup false true = refl
    regroup false false = refl

    other : (m n : ℕ) → m < n → (m == n) ≡ false
    other m n e = grind (arith, nat_tests)

    nothing : (a c e : Bool) → a ≡ false → e ≡ false → a ≡ (a || ((c && e) || false))
    nothing a true e p q = p ∙ sym (ap (λ x. x || (e || false)) p ∙ ap (λ x. x || false) q)
    nothing a false e p q = p ∙ sym (ap (λ x. x || (false || false)) p)

-- the slots of a set are added to those of its partitions
pub parts_held : (slots i q : ℕ) (ps masks : List ℕ) → i < 64 → q < length masks → All (λ p. p < length masks) ps →
    has_slot (get_or (marked masks slots ps) q 0) i ≡ (has_slot (get_or masks q 0) i || (has_slot slots i && has ps q))
parts_held slots i q ps masks lt below known =
    marked_meets slots (2 ^ i) q (bit_bound i lt) ps masks known below ∙ ap (λ b. has_slot (get_or masks q 0) i || b) (and_swap (has ps q) (has_slot slots i))

-- a number above 0 has a bit
pub some_slot : (m : ℕ) → 0 < m → m < 2 ^ 64 → (i : ℕ) × (i < 64) × (has_slot m i ≡ true)
some_slot m some small =
    let low = bit_at-trailing_zeros w64 m some small in
    let i = trailing_zeros w64 m in
    (i, low.0, meets_at m (2 ^ i) i low.1 (subst (λ n. bit_at n i ≡ 1) (above i) (bit_at_mask_inside i (i + 1) i (omega arith) (omega arith))))

-- a test of the first numbers of a list, by their places
pub count_first : (f q : ℕ → Bool) (xs : List ℕ) (n : ℕ) → n ≤ length xs → ((k : ℕ) → k < n → f (get_or xs k 0) ≡ q k) → count f (take n xs) ≡ count q (range_with_len 0 n)
count_first f q xs n le h = from xs n 0 le (λ k lt. h k lt ∙ ap q (omega arith))
  where
    from : (cs : List ℕ) (m a : ℕ) → m ≤ length cs → ((k : ℕ) → k < m → f (get_or cs k 0) ≡ q (a + k)) → count f (take m cs) ≡ count q (range_with_len a m)
    from cs zero a le e = refl
    from [] (suc m) a le e = absurd (omega arith)
    from (c ∷ cs) (suc m) a le e =
        let first : f c ≡ q a = e 0 (omega arith) ∙ ap q (omega arith) in
        omega (arith, ap bit first, from cs m (a + 1) (omega arith) (λ k lt. e (suc k) (omega arith) ∙ ap q (omega arith)))

abbrev zeros : ℕ → List ℕ
zeros n = replicate n 0

pub zero_at : (n k : ℕ) → get_or (zeros n) k 0 ≡ 0
zero_at zero k = refl
zero_at (suc n) zero = refl
zero_at (suc n) (suc k) = zero_at n k

pub none_at : (n k i : ℕ) → has_slot (get_or (zeros n) k 0) i ≡ false
none_at n k i = ap (λ m. has_slot m i) (zero_at n k) ∙ none_meets (2 ^ i)

-- where the slots of sets are those of their leaves, and the slots of partitions those of the sets around them, so many partitions are used in a slot
pub used_there : (inside : ℕ → List ℕ) (ls : List Leaf) (now i n : ℕ) (named used : List ℕ) → n ≤ length used → All (λ (l : Leaf). l.set < length named) ls →
    ((k : ℕ) → has_slot (get_or named k 0) i ≡ list_any (λ l. covers l (now + i) && l.set == k) ls) →
    ((q : ℕ) → q < length used → has_slot (get_or used q 0) i ≡ list_any (λ k. has_slot (get_or named k 0) i && has (inside k) q) (range_with_len 0 (length named))) →
    count (λ s. has_slot s i) (take n used) ≡ count (λ q. is_used inside ls q (now + i)) (range_with_len 0 n)
used_there inside ls now i n named used le small sets parts =
    count_first (λ s. has_slot s i) (λ q. is_used inside ls q (now + i)) used n le (λ q lt.
    parts q (omega (arith, lt, le))
    ∙ any_test (λ k. has_slot (get_or named k 0) i && has (inside k) q) (λ k. list_any (λ l. covers l (now + i) && l.set == k) ls && has (inside k) q) (range_with_len 0 (length named))
    (λ k. ap (λ b. b && has (inside k) q) (sets k))
    ∙ used_is inside ls (now + i) q (length named) small)
