-- Bits of words.
use Rattle.std.proofs.Common.{◌≡◌, ℕ, ◌+◌, ◌<◌, ◌≤◌, ◌^◌, refl, sym, ap, ◌∙◌, subst, arith, List, [], length, get_or, set, map, ⊎_elim}
use Prim.Native.Nat.{zero, suc, ◌-◌, ◌*◌, ◌/◌, ◌%◌, max, min}
use Rattle.std.specs.Global.{Vec}
use Rattle.std.specs.Vec.{with_items}
use Rattle.std.specs.Prelude.{All}
use Rattle.std.specs.Int.{bit_at, bit_not, trailing_zeros}
use Rattle.std.specs.Int.RustNames.{bit_or}
use lib.Bits.{bit_and}
use mir.Val.{bits, Fits}
use mir.Syntax.{w64}
use Rattle.std.proofs.lemmas.Bool.{cases_eq, cases_lt}
use Rattle.std.proofs.lemmas.List.{get_or-set_same, get_or-set_other, get_or_past, map-set, length-map, get_or-map}
use Rattle.std.proofs.lemmas.List.Elements.{All-set}
use Rattle.std.proofs.Math.Nat.{div-le_self}
use Rattle.std.proofs.lemmas.Nat.{shr-shr}
use Rattle.std.proofs.lemmas.Nat.Bits.{bit_at_above, bit_at_or, bit_at-trailing_zeros, bit_at-zero, bit_at_set_same, bit_at_clear_other}
use Rattle.tetri_dictionary.specs.Holders.{bit, words_at}
use Rattle.tetri_dictionary.proofs.FullTables.{items_are}

pub before_last : (k p : ℕ) → p < k + 1 → (p ≡ k → ⊥) → p < k
before_last k p m d = ⊎_elim (λ (c : p < k). c) (λ (c : k ≤ p). absurd (d (omega arith))) (cases_lt p k)

-- ---- a word that is written
written_bit : (ws : List ℕ) (k x q : ℕ) → k < length ws → q / 64 ≡ k → bit (set ws k x) q ≡ bit_at x (q % 64)
written_bit ws k x q l e = ap (λ z. bit_at z (q % 64)) (ap (λ p. get_or (set ws k x) p 0) e ∙ get_or-set_same ws k x 0 l)

kept_bit : (ws : List ℕ) (k x q : ℕ) → (q / 64 ≡ k → ⊥) → bit (set ws k x) q ≡ bit ws q
kept_bit ws k x q d = ap (λ z. bit_at z (q % 64)) (get_or-set_other ws k (q / 64) x 0 d)

read_bit : (ws : List ℕ) (k a q : ℕ) → q / 64 ≡ k → a ≡ get_or ws k 0 → bit ws q ≡ bit_at a (q % 64)
read_bit ws k a q e ae = ap (λ z. bit_at z (q % 64)) (ap (λ p. get_or ws p 0) e ∙ sym ae)

left_zero : (x y : ℕ) → max x y ≡ 0 → x ≡ 0
left_zero x y e = omega arith

right_zero : (x y : ℕ) → max x y ≡ 0 → y ≡ 0
right_zero x y e = omega arith

-- a bit that is not set after others are set was not set before
pub or_keeps : (ws after : List ℕ) (k a b : ℕ) → k < length ws → a ≡ get_or ws k 0 → after ≡ set ws k (bit_or a b) → (q : ℕ) → bit after q ≡ 0 → bit ws q ≡ 0
or_keeps ws after k a b l ae fe q e =
    let h : bit (set ws k (bit_or a b)) q ≡ 0 = ap (λ (us : List ℕ). bit us q) (sym fe) ∙ e in
    ⊎_elim
    (λ s. read_bit ws k a q s ae ∙ left_zero _ _ (sym (bit_at_or a b (q % 64)) ∙ sym (written_bit ws k (bit_or a b) q l s) ∙ h))
    (λ d. sym (kept_bit ws k (bit_or a b) q d) ∙ h)
    (cases_eq (q / 64) k)

-- nor is it set in the others
pub or_takes : (ws os after : List ℕ) (k a b : ℕ) → k < length ws → b ≡ get_or os k 0 → after ≡ set ws k (bit_or a b) → ((q : ℕ) → q / 64 < k → bit ws q ≡ 0 → bit os q ≡ 0) → (q : ℕ) → q / 64 < k + 1 → bit after q ≡ 0 → bit os q ≡ 0
or_takes ws os after k a b l be fe done q m e =
    let h : bit (set ws k (bit_or a b)) q ≡ 0 = ap (λ (us : List ℕ). bit us q) (sym fe) ∙ e in
    ⊎_elim
    (λ s. read_bit os k b q s be ∙ right_zero _ _ (sym (bit_at_or a b (q % 64)) ∙ sym (written_bit ws k (bit_or a b) q l s) ∙ h))
    (λ d. done q (before_last k (q / 64) m d) (sym (kept_bit ws k (bit_or a b) q d) ∙ h))
    (cases_eq (q / 64) k)

-- past the words no bit is set
pub past_words : (ws os : List ℕ) (k : ℕ) → length os ≡ length ws → length ws ≤ k → ((q : ℕ) → q / 64 < k → bit ws q ≡ 0 → bit os q ≡ 0) → (q : ℕ) → bit ws q ≡ 0 → bit os q ≡ 0
past_words ws os k e l h q b =
    ⊎_elim (λ c. h q c b) (λ (c : k ≤ q / 64). ap (λ z. bit_at z (q % 64)) (get_or_past os (q / 64) 0 (omega (arith, e, l, c))) ∙ bit_at-zero (q % 64)) (cases_lt (q / 64) k)

pub not_set : (ws : List ℕ) (q : ℕ) → length ws ≤ q / 64 → bit ws q ≡ 0
not_set ws q l = ap (λ z. bit_at z (q % 64)) (get_or_past ws (q / 64) 0 l) ∙ bit_at-zero (q % 64)

-- ---- one bit
below_64 : (q : ℕ) → q % 64 < 64
below_64 q = omega arith

pub set_own : (ws after : List ℕ) (row a : ℕ) → row / 64 < length ws → after ≡ set ws (row / 64) (bit_or a (1 * 2 ^ (row % 64) % 2 ^ bits w64)) → bit after row ≡ 0 → ⊥
set_own ws after row a l fe e =
    let x = bit_or a (1 * 2 ^ (row % 64) % 2 ^ bits w64) in
    let one : bit_at x (row % 64) ≡ 1 = bit_at_set_same w64 a (row % 64) (below_64 row) in
    not_both (bit_at x (row % 64)) one (sym (written_bit ws (row / 64) x row l refl) ∙ ap (λ (us : List ℕ). bit us row) (sym fe) ∙ e)
  where
    not_both : (x : ℕ) → x ≡ 1 → x ≡ 0 → ⊥
    not_both x f g = omega arith

pub clear_other : (ws after : List ℕ) (row a : ℕ) → row / 64 < length ws → a ≡ get_or ws (row / 64) 0 → after ≡ set ws (row / 64) (bit_and a (bit_not w64 (1 * 2 ^ (row % 64) % 2 ^ bits w64))) → (q : ℕ) → (q ≡ row → ⊥) → bit after q ≡ 0 → bit ws q ≡ 0
clear_other ws after row a l ae fe q n e =
    let x = bit_and a (bit_not w64 (1 * 2 ^ (row % 64) % 2 ^ bits w64)) in
    let h : bit (set ws (row / 64) x) q ≡ 0 = ap (λ (us : List ℕ). bit us q) (sym fe) ∙ e in
    ⊎_elim
    (λ s. read_bit ws (row / 64) a q s ae ∙ sym (bit_at_clear_other w64 a (row % 64) (below_64 row) (q % 64) (below_64 q) (λ r. n (same_place q row s r))) ∙ sym (written_bit ws (row / 64) x q l s) ∙ h)
    (λ d. sym (kept_bit ws (row / 64) x q d) ∙ h)
    (cases_eq (q / 64) (row / 64))
  where
    same_place : (q r : ℕ) → q / 64 ≡ r / 64 → q % 64 ≡ r % 64 → q ≡ r
    same_place q r f g = omega arith

-- ---- the next bit that is set
shifted_bit : (x s i : ℕ) → s ≤ i → bit_at x i ≡ bit_at (x / 2 ^ s) (i - s)
shifted_bit x s i l =
    let e : i ≡ s + (i - s) = omega (arith, l) in
    ap (bit_at x) e ∙ ap (λ z. z % 2) (sym (shr-shr x s (i - s)))

pub fits_word : (x : ℕ) → Fits w64 x → x < 2 ^ 64
fits_word x h = omega (arith, h)

-- none in the rest of a word
pub rest_none : (ws : List ℕ) (from q : ℕ) → get_or ws (from / 64) 0 / 2 ^ (from % 64) ≡ 0 → from ≤ q → q / 64 < from / 64 + 1 → bit ws q ≡ 0
rest_none ws from q e l m =
    let s : q / 64 ≡ from / 64 = omega (arith, l, m) in
    let o : from % 64 ≤ q % 64 = omega (arith, l, s) in
    let x = get_or ws (from / 64) 0 in
    read_bit ws (from / 64) x q s refl ∙ shifted_bit x (from % 64) (q % 64) o ∙ ap (λ z. bit_at z (q % 64 - from % 64)) e ∙ bit_at-zero (q % 64 - from % 64)

-- none before the lowest of the rest of a word
pub rest_below : (ws : List ℕ) (from end r : ℕ) → get_or ws (from / 64) 0 < 2 ^ 64 → (get_or ws (from / 64) 0 / 2 ^ (from % 64) ≡ 0 → ⊥) → r ≡ min end (from + trailing_zeros w64 (get_or ws (from / 64) 0 / 2 ^ (from % 64))) →
    (q : ℕ) → from ≤ q → q < r → bit ws q ≡ 0
rest_below ws from end r fits some e q l m =
    let x = get_or ws (from / 64) 0 in
    let s = from % 64 in
    let rest = x / 2 ^ s in
    let t = trailing_zeros w64 rest in
    let h = bit_at-trailing_zeros w64 rest (above rest some) (omega (arith, div-le_self x (2 ^ s), fits)) in
    let u : s + t < 64 = ⊎_elim (λ c. c) (λ c. absurd (not_both (bit_at rest t) h.1 (ap (λ z. z % 2) (shr-shr x s t) ∙ bit_at_above x 64 (s + t) fits c))) (cases_lt (s + t) 64) in
    let g : q < from + t = omega (arith, e, m) in
    let n : q / 64 ≡ from / 64 = omega (arith, l, g, u) in
    let o : s ≤ q % 64 = omega (arith, l, n) in
    let v : q % 64 - s < t = omega (arith, l, n, g) in
    read_bit ws (from / 64) x q n refl ∙ shifted_bit x s (q % 64) o ∙ h.2 (q % 64 - s) v
  where
    above : (x : ℕ) → (x ≡ 0 → ⊥) → 0 < x
    above zero d = absurd (d refl)
    above (suc x) d = omega arith

    not_both : (x : ℕ) → x ≡ 1 → x ≡ 0 → ⊥
    not_both x f g = omega arith

-- none before the lowest of a later word
pub word_below : (ws : List ℕ) (from end place r : ℕ) → get_or ws place 0 < 2 ^ 64 → (get_or ws place 0 ≡ 0 → ⊥) → ((q : ℕ) → from ≤ q → q / 64 < place → bit ws q ≡ 0) → r ≡ min end (place * 64 + trailing_zeros w64 (get_or ws place 0)) →
    (q : ℕ) → from ≤ q → q < r → bit ws q ≡ 0
word_below ws from end place r fits some h e q l m =
    ⊎_elim (λ c. h q l c) (λ (c : place ≤ q / 64). here c) (cases_lt (q / 64) place)
  where
    above : (x : ℕ) → (x ≡ 0 → ⊥) → 0 < x
    above zero d = absurd (d refl)
    above (suc x) d = omega arith

    here : place ≤ q / 64 → bit ws q ≡ 0
    here c =
        let x = get_or ws place 0 in
        let t = trailing_zeros w64 x in
        let k = bit_at-trailing_zeros w64 x (above x some) fits in
        let u : t < 64 = k.0 in
        let g : q < place * 64 + t = omega (arith, e, m) in
        let n : q / 64 ≡ place = omega (arith, c, g, u) in
        let v : q % 64 < t = omega (arith, n, g) in
        read_bit ws place x q n refl ∙ k.2 (q % 64) v

-- none in a word that is 0
pub word_none : (ws : List ℕ) (from place : ℕ) → get_or ws place 0 ≡ 0 → ((q : ℕ) → from ≤ q → q / 64 < place → bit ws q ≡ 0) → (q : ℕ) → from ≤ q → q / 64 < place + 1 → bit ws q ≡ 0
word_none ws from place e h q l m =
    ⊎_elim
    (λ s. read_bit ws place 0 q s (sym e) ∙ bit_at-zero (q % 64))
    (λ d. h q l (before_last place (q / 64) m d))
    (cases_eq (q / 64) place)

-- ---- the words of a column
pub words_same : (hs : List (Vec ℕ)) (p : ℕ) (v : Vec ℕ) → p < length hs → words_at (set hs p v) p ≡ v.items
words_same hs p v l =
    let f : Vec ℕ → List ℕ = λ (u : Vec ℕ). u.items in
    ap (λ (us : List (List ℕ)). get_or us p []) (map-set f hs p v) ∙ get_or-set_same (map f hs) p v.items [] (subst (λ z. p < z) (sym (length-map hs f)) l)

pub words_other : (hs : List (Vec ℕ)) (k p : ℕ) (v : Vec ℕ) → (p ≡ k → ⊥) → words_at (set hs k v) p ≡ words_at hs p
words_other hs k p v d =
    let f : Vec ℕ → List ℕ = λ (u : Vec ℕ). u.items in
    ap (λ (us : List (List ℕ)). get_or us p []) (map-set f hs k v) ∙ get_or-set_other (map f hs) k p v.items [] d

pub words_read : (hs : List (Vec ℕ)) (p : ℕ) (r : Vec ℕ) → p < length hs → words_at hs p ≡ (get_or hs p r).items
words_read hs p r l = get_or-map (λ (u : Vec ℕ). u.items) hs p r [] l

-- a column whose words are written
pub record IsWritten (hs after : List (Vec ℕ)) (k : ℕ) (old new : List ℕ) : Type 0 where
  pub own : words_at after k ≡ new
  pub was : words_at hs k ≡ old
  pub other : (p : ℕ) → (p ≡ k → ⊥) → words_at after p ≡ words_at hs p

pub is_written : (hs after : List (Vec ℕ)) (k : ℕ) (r : Vec ℕ) (old new : List ℕ) → k < length hs → old ≡ (get_or hs k r).items → length new ≡ length old → after ≡ set hs k (with_items (get_or hs k r) new) → IsWritten hs after k old new
is_written hs after k r old new l oe le ae =
    let v = get_or hs k r in
    record {
      own = ap (λ (us : List (Vec ℕ)). words_at us k) ae ∙ words_same hs k (with_items v new) l ∙ items_are v new (le ∙ ap length oe);
      was = words_read hs k r l ∙ sym oe;
      other = λ p d. ap (λ (us : List (Vec ℕ)). words_at us p) ae ∙ words_other hs k p (with_items v new) d;
    }

pub words_wide : (m : ℕ) (hs after : List (Vec ℕ)) (k : ℕ) (r : Vec ℕ) (old new : List ℕ) → k < length hs → old ≡ (get_or hs k r).items → length new ≡ length old → after ≡ set hs k (with_items (get_or hs k r) new) → All (λ (v : Vec ℕ). length v.items ≡ m) hs → All (λ (v : Vec ℕ). length v.items ≡ m) after
words_wide m hs after k r old new l oe le ae h =
    let v = get_or hs k r in
    subst (λ (us : List (Vec ℕ)). All (λ (u : Vec ℕ). length u.items ≡ m) us) (sym ae) (All-set (λ (u : Vec ℕ). length u.items ≡ m) hs k (with_items v new) (ap length (items_are v new (le ∙ ap length oe)) ∙ le ∙ ap length oe ∙ h k r l) h)

pub written_before : (hs after : List (Vec ℕ)) (k : ℕ) (old new : List ℕ) → IsWritten hs after k old new → ((q : ℕ) → bit new q ≡ 0 → bit old q ≡ 0) → (p q : ℕ) → bit (words_at after p) q ≡ 0 → bit (words_at hs p) q ≡ 0
written_before hs after k old new w h p q b =
    ⊎_elim
    (λ s. ap (λ (us : List ℕ). bit us q) (ap (λ z. words_at hs z) s ∙ w.was) ∙ h q (ap (λ (us : List ℕ). bit us q) (sym w.own ∙ ap (λ z. words_at after z) (sym s)) ∙ b))
    (λ d. ap (λ (us : List ℕ). bit us q) (sym (w.other p d)) ∙ b)
    (cases_eq p k)
