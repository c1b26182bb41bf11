-- The test of free nodes.
use Rattle.std.proofs.Common.{◌≡◌, ℕ, zero, suc, ◌+◌, ◌<◌, ◌≤◌, ◌&&◌, not, Bool, true, false, List, [], ◌∷◌, length, get_or, drop, Some, refl, sym, ap, ◌∙◌, arith, true≢false}
use Rattle.std.specs.Prelude.{◌↔◌, IsTrue, nat_lt, nat_le, slice_get, slice_index, slice_index_or}
use Rattle.std.specs.Bool.{Decides, one_answer}
use Rattle.std.specs.List.{list_any}
use Rattle.std.proofs.lemmas.Bool.{and_parts, and_from, false_from_ne_true}
use Rattle.std.proofs.lemmas.Bool.Decides.{nat_tests}
use Rattle.std.proofs.lemmas.List.{drop_more}
use Rattle.tetri_base.specs.Lists.{bit, count}
use Rattle.tetri_strl.specs.declared.expr.Leaf.{Leaf}
use Rattle.tetri_space.specs.Free.{IsFree, IsFreeThroughout, is_closed, is_free, is_free_throughout, is_idle, slots}
use Rattle.tetri_space.specs.Space.{Space}
use Rattle.tetri_space.proofs.SpanLemmas.{any_in_range, any_of_range}

at_place : {X : Type 0} (xs : List X) (k : ℕ) (x d : X) → slice_get xs k ≡ Some x → slice_index_or xs k d ≡ x
at_place [] k x d e = absurd cc
at_place (y ∷ xs) zero x d e = cc
at_place (y ∷ xs) (suc k) x d e = at_place xs k x d e

not_past : (xs : List Bool) (k : ℕ) → slice_index_or xs k true ≡ false → slice_get xs k ≡ Some false
not_past [] k e = absurd (true≢false e)
not_past (y ∷ xs) zero e = ap Some e
not_past (y ∷ xs) (suc k) e = not_past xs k e

flip : (b : Bool) → not b ≡ true → b ≡ false
flip true e = sym e
flip false e = refl

lt_test : (x y : ℕ) → x < y → nat_lt x y ≡ true
lt_test x y h = grind (arith, nat_tests)

le_test : (x y : ℕ) → x ≤ y → nat_le x y ≡ true
le_test x y h = grind (arith, nat_tests)

test_lt : (x y : ℕ) → nat_lt x y ≡ true → x < y
test_lt x y h = grind (arith, nat_tests)

test_le : (x y : ℕ) → nat_le x y ≡ true → x ≤ y
test_le x y h = grind (arith, nat_tests)

-- what an idle node says
pub record IsIdle (s : Space) (n t : ℕ) : Type 0 where
  pub there : n < s.nodes
  pub not_drained : slice_get s.drained n ≡ Some false
  pub idle : slice_index s.busy_until n ≤ t

pub idle_from : (s : Space) (n t : ℕ) → is_idle s n t ≡ true → IsIdle s n t
idle_from s n t e =
    let both = and_parts (nat_lt n s.nodes && not (slice_index_or s.drained n true)) (nat_le (slice_index_or s.busy_until n 0) t) e in
    let first = and_parts (nat_lt n s.nodes) (not (slice_index_or s.drained n true)) both.0 in
    record { there = test_lt n s.nodes first.0; not_drained = not_past s.drained n (flip (slice_index_or s.drained n true) first.1); idle = test_le (slice_index_or s.busy_until n 0) t both.1 }

pub from_idle : (s : Space) (n t : ℕ) → IsIdle s n t → is_idle s n t ≡ true
from_idle s n t h =
    and_from (nat_lt n s.nodes && not (slice_index_or s.drained n true)) (nat_le (slice_index_or s.busy_until n 0) t)
    (and_from (nat_lt n s.nodes) (not (slice_index_or s.drained n true)) (lt_test n s.nodes h.there) (ap not (at_place s.drained n false true h.not_drained)))
    (le_test (slice_index_or s.busy_until n 0) t h.idle)

-- what is idle in a slot is idle in each later one
pub idle_later : (s : Space) (n t u : ℕ) → t ≤ u → is_idle s n t ≡ true → is_idle s n u ≡ true
idle_later s n t u le e = let h = idle_from s n t e in from_idle s n u (record { there = h.there; not_drained = h.not_drained; idle = omega (arith, h.idle) })

pub free_decides : (s : Space) (n t : ℕ) → Decides (is_free s n t) (IsFree s n t)
free_decides s n t = (
  λ e.
      let both = and_parts (is_idle s n t) (not (is_closed s n t)) e in
      let h = idle_from s n t both.0 in
      record { there = h.there; not_drained = h.not_drained; idle = h.idle; not_closed = flip (is_closed s n t) both.1 },
  λ free. and_from (is_idle s n t) (not (is_closed s n t)) (from_idle s n t (record { there = free.there; not_drained = free.not_drained; idle = free.idle })) (ap not free.not_closed),
)

-- an answer that is true exactly where the node is free is that of the test
pub free_answer : (s : Space) (n t : ℕ) (r : Bool) → IsTrue r ↔ IsFree s n t → is_free s n t ≡ r
free_answer s n t r h = one_answer {P = IsFree s n t} (is_free s n t) r (free_decides s n t) h

pub throughout_decides : (s : Space) (l : Leaf) (n : ℕ) → 1 ≤ l.dur → Decides (is_free_throughout s l n) (IsFreeThroughout s l n)
throughout_decides s l n some = (
  λ e slot covered.
      let both = and_parts (is_idle s n l.start) (not (list_any (is_closed s n) (slots l))) e in
      let h = idle_from s n l.start both.0 in
      record {
        there = h.there;
        not_drained = h.not_drained;
        idle = omega (arith, h.idle, covered.begun);
        not_closed = false_from_ne_true (is_closed s n slot) (λ t.
            true≢false (sym (any_of_range (is_closed s n) l.start l.dur slot covered.begun covered.not_over t) ∙ flip (list_any (is_closed s n) (slots l)) both.1));
      },
  λ free.
      let first = free l.start (record { begun = omega arith; not_over = omega arith }) in
      and_from (is_idle s n l.start) (not (list_any (is_closed s n) (slots l))) (from_idle s n l.start (record { there = first.there; not_drained = first.not_drained; idle = first.idle }))
      (ap not (false_from_ne_true (list_any (is_closed s n) (slots l)) (λ t.
      let w = any_in_range (is_closed s n) l.start l.dur t in
      true≢false (sym w.3 ∙ (free w.0 (record { begun = w.1; not_over = w.2 })).not_closed)))),
)

-- a count, one item further
pub count_next : (p : ℕ → Bool) (xs : List ℕ) (i : ℕ) → i < length xs → count p (drop i xs) ≡ bit (p (get_or xs i 0)) + count p (drop (i + 1) xs)
count_next p xs i lt = ap (count p) (drop_more xs i 0 lt)

pub count_rest-le : (p : ℕ → Bool) (xs : List ℕ) → count p xs ≤ length xs
count_rest-le p [] = omega arith
count_rest-le p (x ∷ xs) = omega (arith, bit_le (p x), count_rest-le p xs)
  where
    bit_le : (b : Bool) → bit b ≤ 1
    bit_le true = omega arith
    bit_le false = omega arith
