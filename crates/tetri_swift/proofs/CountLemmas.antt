-- A search with a budget that is enough leaves no region open.
use Rattle.std.proofs.Common.{◌≡◌, ℕ, ◌+◌, ◌*◌, ◌<◌, ◌≤◌, refl, sym, ap, ◌∙◌, subst, arith, List, [], ◌∷◌, length, true, false}
use Prim.Native.Nat.{zero, suc}
use Rattle.std.specs.Prelude.{◌≤ℤ◌, ◌<ℤ◌, nat_lt, not, slice_set, unsigned_abs, ◌||◌}
use Rattle.std.proofs.lemmas.Bool.{false≢true}
use Rattle.std.proofs.lemmas.Bool.Decides.{nat_tests}
use Rattle.std.proofs.lemmas.Int.{ints}
use lib.IntN.{ℤ, pos, ◌+ℤ◌, ◌-ℤ◌}
use Rattle.tetri_ip.specs.declared.programs.Program.{Program}
use Rattle.tetri_ip.specs.Points.{Bounds, IsInBox, box_of, number_at}
use Rattle.tetri_cert.specs.declared.marks.Mark.{Mark}
use Rattle.tetri_cert.specs.declared.marks.Mark.TheVariants.{Split, Close, Whole, Rest}
use Rattle.tetri_cert.specs.NodeBounds.{HasSides, sides_before}
use Rattle.tetri_cert.specs.Walks.{AreInBox}
use Rattle.tetri_search.specs.Follow.{best_after, used_after}
use Rattle.tetri_search.specs.Laws.{enough, has_rest, is_rest, points_in}
use Rattle.tetri_swift.specs.Follow.{Follows}
use Rattle.tetri_swift.proofs.FollowLemmas.{sides_of}

-- ---- the points of boxes
-- as many upper bounds as lower ones, and none below its lower one
abbrev IsBox : List ℤ → List ℤ → Type 0
IsBox [] [] = Unit {0}
IsBox [] (u ∷ us) = ⊥
IsBox (l ∷ ls) [] = ⊥
IsBox (l ∷ ls) (u ∷ us) = (l ≤ℤ u) × IsBox ls us

box_is : (ls us : List ℤ) → length ls ≡ length us → ((k : ℕ) → k < length ls → number_at ls k ≤ℤ number_at us k) → IsBox ls us
box_is [] [] n h = tt
box_is [] (u ∷ us) n h = absurd (omega arith)
box_is (l ∷ ls) [] n h = absurd (omega arith)
box_is (l ∷ ls) (u ∷ us) n h = (h 0 (omega arith), box_is ls us (omega arith) (λ k m. h (suc k) (omega arith)))

region_is_box : (p : Program) (b : Bounds) → IsInBox p b → IsBox b.lower b.upper
region_is_box p b h = box_is b.lower b.upper (h.lower_count ∙ sym h.upper_count) (λ k l. h.ordered k (subst (λ n. k < n) h.lower_count l))

times_positive : (m n : ℕ) → 0 < m → 0 < n → 0 < m * n
times_positive zero n h k = absurd (omega arith)
times_positive (suc m) zero h k = absurd (omega arith)
times_positive (suc m) (suc n) h k = omega arith

width_positive : (l u : ℤ) → l ≤ℤ u → 0 < unsigned_abs ((u -ℤ l) +ℤ pos 1)
width_positive l u h = omega (arith, ints)

points_positive : (ls us : List ℤ) → IsBox ls us → 0 < points_in ls us
points_positive [] [] h = omega arith
points_positive [] (u ∷ us) h = absurd h
points_positive (l ∷ ls) [] h = absurd h
points_positive (l ∷ ls) (u ∷ us) h = times_positive _ _ (width_positive l u h.0) (points_positive ls us h.1)

widths : (l u at : ℤ) → l ≤ℤ at → at <ℤ u → unsigned_abs ((u -ℤ (at +ℤ pos 1)) +ℤ pos 1) + unsigned_abs ((at -ℤ l) +ℤ pos 1) ≡ unsigned_abs ((u -ℤ l) +ℤ pos 1)
widths l u at h k = omega (arith, ints)

times_sum : (a b c r : ℕ) → a + b ≡ c → a * r + b * r ≡ c * r
times_sum a b c r e = rw (← e) (omega arith)

sum_times : (w a b c : ℕ) → a + b ≡ c → w * a + w * b ≡ w * c
sum_times w a b c e = rw (← e) (omega arith)

-- the points of the two sides are those of the region
sides_points : (ls us : List ℤ) (j : ℕ) (at : ℤ) → IsBox ls us → j < length ls → number_at ls j ≤ℤ at → at <ℤ number_at us j → points_in (slice_set ls j (at +ℤ pos 1)) us + points_in ls (slice_set us j at) ≡ points_in ls us
sides_points [] us j at b i h k = absurd (omega arith)
sides_points (l ∷ ls) [] j at b i h k = absurd b
sides_points (l ∷ ls) (u ∷ us) zero at b i h k = times_sum _ _ _ (points_in ls us) (widths l u at h k)
sides_points (l ∷ ls) (u ∷ us) (suc j) at b i h k = sum_times (unsigned_abs ((u -ℤ l) +ℤ pos 1)) _ _ _ (sides_points ls us j at b.1 (omega arith) h k)

-- ---- the open regions
others_in_box : (p : Program) (b : Bounds) (m : Mark) (bs : List Bounds) → AreInBox p (sides_before b m bs) → AreInBox p bs
others_in_box p b (Split j at licence) bs h = h.1.1
others_in_box p b (Close q ws) bs h = h
others_in_box p b (Whole q ws worth cells) bs h = h
others_in_box p b (Rest q ws) bs h = h

in_box_from : (p : Program) (budget : ℕ) (bs : List Bounds) (known used : ℕ) (ms : List Mark) → Follows p budget bs known used ms → AreInBox p bs
in_box_from p budget [] known used [] w = tt
in_box_from p budget [] known used (m ∷ ms) w = absurd w
in_box_from p budget (b ∷ bs) known used [] w = absurd w
in_box_from p budget (b ∷ bs) known used (m ∷ ms) w =
    (w.0.in_box, others_in_box p b m bs (in_box_from p budget (sides_before b m bs) (best_after known m) (used_after used m) ms w.1))

-- how many marks the open regions may still take
abbrev most_of : List Bounds → ℕ
most_of [] = 0
most_of (b ∷ bs) = 2 * points_in b.lower b.upper + most_of bs

most_least : (p : Program) (bs : List Bounds) → AreInBox p bs → 2 * length bs ≤ most_of bs
most_least p [] a = omega arith
most_least p (b ∷ bs) a =
    let h = points_positive b.lower b.upper (region_is_box p b a.0) in
    let r = most_least p bs a.1 in
    omega arith

step : (p : Program) (budget used : ℕ) (b : Bounds) (bs : List Bounds) (m : Mark) → is_rest m ≡ false → IsInBox p b → HasSides b m → used + most_of (b ∷ bs) < budget + length (b ∷ bs) →
    used_after used m + most_of (sides_before b m bs) < budget + length (sides_before b m bs)
step p budget used b bs (Split j at licence) r i s h =
    let e = sides_points b.lower b.upper j at (region_is_box p b i) s.0 s.1 s.2 in
    omega arith
step p budget used b bs (Close q ws) r i s h = let a = points_positive b.lower b.upper (region_is_box p b i) in omega arith
step p budget used b bs (Whole q ws worth cells) r i s h = let a = points_positive b.lower b.upper (region_is_box p b i) in omega arith
step p budget used b bs (Rest q ws) r i s h = absurd (false≢true (sym r))

below_told : (m n : ℕ) → m < n → nat_lt m n ≡ true
below_told m n h = grind (arith, nat_tests)

enough_from : (p : Program) (budget : ℕ) (bs : List Bounds) (known used : ℕ) (ms : List Mark) → used + most_of bs < budget + length bs → Follows p budget bs known used ms → has_rest ms ≡ false
enough_from p budget [] known used [] h w = refl
enough_from p budget [] known used (m ∷ ms) h w = absurd w
enough_from p budget (b ∷ bs) known used [] h w = absurd w
enough_from p budget (b ∷ bs) known used (m ∷ ms) h w =
    let least = most_least p (b ∷ bs) (in_box_from p budget (b ∷ bs) known used (m ∷ ms) w) in
    let room : used < budget = omega arith in
    let r : is_rest m ≡ false = w.0.rest ∙ ap not (below_told used budget room) in
    let s = sides_of p b m w.0.in_box.lower_count w.0.tested in
    ap (λ t. t || has_rest ms) r
    ∙ enough_from p budget (sides_before b m bs) (best_after known m) (used_after used m) ms (step p budget used b bs m r w.0.in_box s h) w.1

pub follows_enough : (p : Program) (low budget : ℕ) (ms : List Mark) → enough p ≤ budget → Follows p budget (box_of p ∷ []) low 0 ms → has_rest ms ≡ false
follows_enough p low budget ms h w = enough_from p budget (box_of p ∷ []) low 0 ms (start _ h) w
  where
    start : (k : ℕ) → 2 * k ≤ budget → 0 + (2 * k + 0) < budget + 1
    start k h = omega arith
