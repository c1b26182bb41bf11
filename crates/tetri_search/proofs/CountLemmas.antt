-- A search with a budget that is enough leaves no node open.
use Rattle.std.proofs.Common.{◌≡◌, ℕ, ◌+◌, ◌*◌, ◌<◌, ◌≤◌, refl, sym, ap, ◌∙◌, subst, arith, List, [], ◌∷◌, length, true, false, Option, None}
use Prim.Native.Nat.{zero, suc}
use Rattle.std.specs.Prelude.{◌≤ℤ◌, ◌<ℤ◌, nat_lt, slice_set, unsigned_abs, ◌||◌}
use Rattle.std.proofs.lemmas.Bool.{false≢true}
use Rattle.std.proofs.lemmas.Bool.Decides.{nat_tests}
use Rattle.std.proofs.lemmas.Int.{ints}
use lib.IntN.{ℤ, pos, ◌+ℤ◌, ◌-ℤ◌}
use Rattle.tetri_ip.specs.declared.programs.Program.{Program}
use Rattle.tetri_ip.specs.Points.{Bounds, IsFit, IsInBox, box_of, number_at}
use Rattle.tetri_cert.specs.declared.marks.Mark.{Mark}
use Rattle.tetri_cert.specs.declared.marks.Mark.TheVariants.{Split, Close, Whole, Rest}
use Rattle.tetri_cert.specs.NodeBounds.{HasSides}
use Rattle.tetri_cert.proofs.TreeBoundLaws.{IsSound}
use Rattle.tetri_search.specs.declared.duals.Dual.{Dual}
use Rattle.tetri_search.specs.Table.{Node}
use Rattle.tetri_search.specs.Follow.{Follows, best_after, dual_below, open_behind, used_after}
use Rattle.tetri_search.specs.Laws.{EnoughLeavesNoRest, has_rest, is_rest, points_in}
use Rattle.tetri_search.specs.Nodes.{AreOpen}
use Rattle.tetri_search.proofs.MarkLemmas.{worked_is_no_rest}
use Rattle.tetri_search.proofs.NodeLemmas.{dual_or_is, first_open, mark_sound, open_behind_is, own_dual_is, sound_sides}

-- ---- the points of boxes
-- as many upper bounds as lower ones, and none below its lower one
abbrev IsBox : List ℤ → List ℤ → Type 0
IsBox [] [] = Unit {0}
IsBox [] (u ∷ us) = ⊥
IsBox (l ∷ ls) [] = ⊥
IsBox (l ∷ ls) (u ∷ us) = (l ≤ℤ u) × IsBox ls us

box_is : (ls us : List ℤ) → length ls ≡ length us → ((k : ℕ) → k < length ls → number_at ls k ≤ℤ number_at us k) → IsBox ls us
box_is [] [] n h = tt
box_is [] (u ∷ us) n h = absurd (omega arith)
box_is (l ∷ ls) [] n h = absurd (omega arith)
box_is (l ∷ ls) (u ∷ us) n h = (h 0 (omega arith), box_is ls us (omega arith) (λ k m. h (suc k) (omega arith)))

pub region_is_box : (p : Program) (b : Bounds) → IsInBox p b → IsBox b.lower b.upper
region_is_box p b h = box_is b.lower b.upper (h.lower_count ∙ sym h.upper_count) (λ k l. h.ordered k (subst (λ n. k < n) h.lower_count l))

times_positive : (m n : ℕ) → 0 < m → 0 < n → 0 < m * n
times_positive zero n h k = absurd (omega arith)
times_positive (suc m) zero h k = absurd (omega arith)
times_positive (suc m) (suc n) h k = omega arith

width_positive : (l u : ℤ) → l ≤ℤ u → 0 < unsigned_abs ((u -ℤ l) +ℤ pos 1)
width_positive l u h = omega (arith, ints)

points_positive : (ls us : List ℤ) → IsBox ls us → 0 < points_in ls us
points_positive [] [] h = omega arith
points_positive [] (u ∷ us) h = absurd h
points_positive (l ∷ ls) [] h = absurd h
points_positive (l ∷ ls) (u ∷ us) h = times_positive _ _ (width_positive l u h.0) (points_positive ls us h.1)

widths : (l u at : ℤ) → l ≤ℤ at → at <ℤ u → unsigned_abs ((u -ℤ (at +ℤ pos 1)) +ℤ pos 1) + unsigned_abs ((at -ℤ l) +ℤ pos 1) ≡ unsigned_abs ((u -ℤ l) +ℤ pos 1)
widths l u at h k = omega (arith, ints)

times_sum : (a b c r : ℕ) → a + b ≡ c → a * r + b * r ≡ c * r
times_sum a b c r e = rw (← e) (omega arith)

sum_times : (w a b c : ℕ) → a + b ≡ c → w * a + w * b ≡ w * c
sum_times w a b c e = rw (← e) (omega arith)

-- the points of the two sides are those of the region
sides_points : (ls us : List ℤ) (j : ℕ) (at : ℤ) → IsBox ls us → j < length ls → number_at ls j ≤ℤ at → at <ℤ number_at us j → points_in (slice_set ls j (at +ℤ pos 1)) us + points_in ls (slice_set us j at) ≡ points_in ls us
sides_points [] us j at b i h k = absurd (omega arith)
sides_points (l ∷ ls) [] j at b i h k = absurd b
sides_points (l ∷ ls) (u ∷ us) zero at b i h k = times_sum _ _ _ (points_in ls us) (widths l u at h k)
sides_points (l ∷ ls) (u ∷ us) (suc j) at b i h k = sum_times (unsigned_abs ((u -ℤ l) +ℤ pos 1)) _ _ _ (sides_points ls us j at b.1 (omega arith) h k)

-- ---- how many marks the open nodes may still take
abbrev most_of : List Node → ℕ
most_of [] = 0
most_of (n ∷ ns) = 2 * points_in n.region.lower n.region.upper + most_of ns

most_least : (p : Program) (ns : List Node) → AreOpen p ns → 2 * length ns ≤ most_of ns
most_least p [] a = omega arith
most_least p (n ∷ ns) a =
    let h = points_positive n.region.lower n.region.upper (region_is_box p n.region a.0) in
    let r = most_least p ns a.2 in
    omega arith

step : (p : Program) (budget used : ℕ) (n : Node) (ns : List Node) (d : Option Dual) (m : Mark) → is_rest m ≡ false → IsInBox p n.region → HasSides n.region m → used + most_of (n ∷ ns) < budget + length (n ∷ ns) →
    used_after used m + most_of (open_behind n d m ns) < budget + length (open_behind n d m ns)
step p budget used n ns d (Split j at licence) r b s h =
    let e = sides_points n.region.lower n.region.upper j at (region_is_box p n.region b) s.0 s.1 s.2 in
    omega arith
step p budget used n ns d (Close q ws) r b s h = let a = points_positive n.region.lower n.region.upper (region_is_box p n.region b) in omega arith
step p budget used n ns d (Whole q ws worth cells) r b s h = let a = points_positive n.region.lower n.region.upper (region_is_box p n.region b) in omega arith
step p budget used n ns d (Rest q ws) r b s h = absurd (false≢true (sym r))

below_told : (m n : ℕ) → m < n → nat_lt m n ≡ true
below_told m n h = grind (arith, nat_tests)

enough_from : (p : Program) (budget : ℕ) → IsFit p → (ns : List Node) (known used : ℕ) (ms : List Mark) → AreOpen p ns → used + most_of ns < budget + length ns → Follows p budget (record { open_nodes = ns; known = known; used = used }) ms → has_rest ms ≡ false
enough_from p budget f ns known used [] a h w = refl
enough_from p budget f [] known used (m ∷ ms) a h w = absurd w.0
enough_from p budget f (n ∷ ns) known used (m ∷ ms) a h w =
    let least = most_least p (n ∷ ns) a in
    let room : used < budget = omega arith in
    let t = nat_lt used budget in
    let r = worked_is_no_rest t p n known m (below_told used budget room) w.0 in
    let s : IsSound p n.region m = subst (IsSound p n.region) (sym w.0) (mark_sound p n known t f a.0 a.1) in
    let d = dual_below p n known in
    let next = open_behind_is p n ns d m a.0 a.2 (dual_or_is p _ n.dual (own_dual_is p n.region known a.0) a.1) s in
    ap (λ b. b || has_rest ms) r
    ∙ enough_from p budget f (open_behind n d m ns) (best_after known m) (used_after used m) ms next (step p budget used n ns d m r a.0 (sound_sides p n.region m a.0 s) h) w.1

pub enough_leaves_no_rest : EnoughLeavesNoRest
enough_leaves_no_rest p low budget ms f e h = enough_from p budget f (record { region = box_of p; dual = None } ∷ []) low 0 ms (first_open p f) (start _ h) e.follows
  where
    start : (k : ℕ) → 2 * k ≤ budget → 0 + (2 * k + 0) < budget + 1
    start k h = omega arith
