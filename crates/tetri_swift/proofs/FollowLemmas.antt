-- What holds of every tree of a search by any engine.
use Rattle.std.proofs.Common.{◌≡◌, ℕ, ◌+◌, ◌<◌, ◌≤◌, max, refl, sym, ap, ◌∙◌, subst, arith, List, [], ◌∷◌, length, All, Bool, true, false, Option, Some, None, Ok}
use Rattle.std.specs.Prelude.{nat_lt, not, ◌||◌, ◌<ℤ◌}
use Rattle.std.proofs.lemmas.Bool.{false≢true}
use Rattle.std.proofs.lemmas.Bool.Decides.{nat_tests}
use Rattle.std.proofs.lemmas.Int.{ints}
use Rattle.std.proofs.lemmas.List.Elements.{All-cons, All-nil}
use lib.IntN.{ℤ, pos, negsuc}
use Rattle.tetri_ip.specs.declared.programs.Program.{Program}
use Rattle.tetri_ip.specs.Points.{Bounds, box_of}
use Rattle.tetri_base.specs.ResultSteps.{◌>>=◌}
use Rattle.tetri_cert.specs.declared.marks.Cell.{Cell}
use Rattle.tetri_cert.specs.declared.marks.Mark.{Mark}
use Rattle.tetri_cert.specs.declared.marks.Mark.TheVariants.{Split, Close, Whole, Rest}
use Rattle.tetri_cert.specs.NodeBounds.{HasSides, sides_before}
use Rattle.tetri_cert.specs.NodeText.{HasShortLists, IsPlain}
use Rattle.tetri_cert.specs.ProperTrees.{end_bound}
use Rattle.tetri_cert.specs.Trees.{fills, if_fills, nodes_in, places_behind, tree_bound, tree_from}
use Rattle.tetri_cert.proofs.TreeBoundLaws.{IsSound, node_told}
use Rattle.tetri_search.specs.Follow.{best_after, best_behind, last_or, last_whole, natural, used_after}
use Rattle.tetri_search.specs.Laws.{IsBestPoint, has_rest, is_rest}
use Rattle.tetri_search.specs.Nodes.{AreWholePoints, IsWholePoint}
use Rattle.tetri_search.proofs.NodeLemmas.{sound_whole}
use Rattle.tetri_swift.specs.Follow.{Follows}
use Rattle.tetri_swift.specs.Nodes.{IsBetter, IsTested}

-- ---- one mark
pub sound_of : (p : Program) (b : Bounds) (m : Mark) → IsTested p b m → IsSound p b m
sound_of p b (Split j at licence) h = h
sound_of p b (Close q ws) h = h
sound_of p b (Whole q ws worth cells) h = h
sound_of p b (Rest q ws) h = h

pub sides_of : (p : Program) (b : Bounds) (m : Mark) → length b.lower ≡ length p.costs.items → IsTested p b m → HasSides b m
sides_of p b (Split j at licence) n h = (subst (λ k. j < k) (sym n) h.0, h.1, h.2)
sides_of p b (Close q ws) n h = tt
sides_of p b (Whole q ws worth cells) n h = tt
sides_of p b (Rest q ws) n h = tt

places_are : (b : Bounds) (m : Mark) (bs : List Bounds) → length (sides_before b m bs) ≡ places_behind m (length bs)
places_are b (Split j at licence) bs = refl
places_are b (Close q ws) bs = refl
places_are b (Whole q ws worth cells) bs = refl
places_are b (Rest q ws) bs = refl

best_grows : (known : ℕ) (m : Mark) → known ≤ best_after known m
best_grows known (Split j at licence) = omega arith
best_grows known (Close q ws) = omega arith
best_grows known (Whole q ws worth cells) = omega arith
best_grows known (Rest q ws) = omega arith

pub best_least : (known : ℕ) (ms : List Mark) → known ≤ best_behind known ms
best_least known [] = omega arith
best_least known (m ∷ ms) =
    let a = best_grows known m in
    let b = best_least (best_after known m) ms in
    omega arith

-- ---- a proper tree, whose bound is at most the best objective known where no region is left open
record IsProperRest (p : Program) (bs : List Bounds) (known node most : ℕ) (ms : List Mark) : Type 0 where
  fills_all : fills (length bs) ms ≡ true
  bound : ℕ
  bound_is : tree_from p bs node most ms ≡ Ok bound
  at_most : has_rest ms ≡ false → most ≤ known → bound ≤ best_behind known ms

no_rest : (a b : Bool) → (a || b) ≡ false → (a ≡ false) × (b ≡ false)
no_rest false b h = (refl, h)
no_rest true b h = absurd (false≢true (sym h))

max_at_most : (a b c k : ℕ) → a ≤ k → k ≤ c → b ≤ c → max a b ≤ c
max_at_most a b c k h i j = omega arith

proper_from : (p : Program) (budget : ℕ) (bs : List Bounds) (known used : ℕ) (ms : List Mark) → Follows p budget bs known used ms → (node most : ℕ) → IsProperRest p bs known node most ms
proper_from p budget [] known used [] w node most = record { fills_all = refl; bound = most; bound_is = refl; at_most = λ r h. h }
proper_from p budget [] known used (m ∷ ms) w node most = absurd w
proper_from p budget (b ∷ bs) known used [] w node most = absurd w
proper_from p budget (b ∷ bs) known used (m ∷ ms) w node most =
    let f = w.0 in
    let k = end_bound p b m in
    let r = proper_from p budget (sides_before b m bs) (best_after known m) (used_after used m) ms w.1 (node + 1) (max most k) in
    record {
      fills_all = ap (λ i. fills i ms) (sym (places_are b m bs)) ∙ r.fills_all;
      bound = r.bound;
      bound_is = ap (λ x. x >>= λ i. tree_from p (sides_before b m bs) (node + 1) (max most i) ms) (node_told p b node m f.in_box.lower_count f.in_box.upper_count (sound_of p b m f.tested)) ∙ r.bound_is;
      at_most = λ g h. let z = no_rest (is_rest m) (has_rest ms) g in r.at_most z.1 (max_at_most most k (best_after known m) known h (best_grows known m) (f.at_most z.0));
    }

-- the tree is proper, and its bound at most the best objective known where it has no rest
pub record IsProperTree (p : Program) (low : ℕ) (ms : List Mark) : Type 0 where
  pub bound : ℕ
  pub bound_is : tree_bound p ms ≡ Ok bound
  pub at_most : has_rest ms ≡ false → bound ≤ best_behind low ms

pub follows_proper : (p : Program) (low budget : ℕ) (ms : List Mark) → Follows p budget (box_of p ∷ []) low 0 ms → IsProperTree p low ms
unfolding tree_bound
follows_proper p low budget ms w =
    let r = proper_from p budget (box_of p ∷ []) low 0 ms w 0 0 in
    record {
      bound = r.bound;
      bound_is = ap (λ t. if_fills t (tree_from p (box_of p ∷ []) 0 0 ms)) r.fills_all ∙ r.bound_is;
      at_most = λ g. r.at_most g (omega arith);
    }

pub follows_settled : (p : Program) (low budget : ℕ) (ms : List Mark) (bound : ℕ) → Follows p budget (box_of p ∷ []) low 0 ms → tree_bound p ms ≡ Ok bound → has_rest ms ≡ false → bound ≤ best_behind low ms
follows_settled p low budget ms bound w e r =
    let h = follows_proper p low budget ms w in
    let s : bound ≡ h.bound = cc (e, h.bound_is) in
    subst (λ n. n ≤ best_behind low ms) (sym s) (h.at_most r)

-- ---- plain marks with short lists
pub follows_plain : (p : Program) (budget : ℕ) (bs : List Bounds) (known used : ℕ) (ms : List Mark) → Follows p budget bs known used ms → All IsPlain ms
follows_plain p budget [] known used [] w = All-nil IsPlain
follows_plain p budget [] known used (m ∷ ms) w = absurd w
follows_plain p budget (b ∷ bs) known used [] w = absurd w
follows_plain p budget (b ∷ bs) known used (m ∷ ms) w =
    All-cons IsPlain m ms w.0.plain (follows_plain p budget (sides_before b m bs) (best_after known m) (used_after used m) ms w.1)

pub follows_short : (p : Program) (budget : ℕ) (bs : List Bounds) (known used : ℕ) (ms : List Mark) (most : ℕ) → Follows p budget bs known used ms → length p.costs.items ≤ most → length p.rows.items ≤ most → All (HasShortLists most) ms
follows_short p budget [] known used [] most w c r = All-nil (HasShortLists most)
follows_short p budget [] known used (m ∷ ms) most w c r = absurd w
follows_short p budget (b ∷ bs) known used [] most w c r = absurd w
follows_short p budget (b ∷ bs) known used (m ∷ ms) most w c r =
    All-cons (HasShortLists most) m ms (w.0.short most c r) (follows_short p budget (sides_before b m bs) (best_after known m) (used_after used m) ms most w.1 c r)

-- ---- whole points
pub follows_wholes : (p : Program) (budget : ℕ) (bs : List Bounds) (known used : ℕ) (ms : List Mark) → Follows p budget bs known used ms → AreWholePoints p ms
follows_wholes p budget [] known used [] w = tt
follows_wholes p budget [] known used (m ∷ ms) w = absurd w
follows_wholes p budget (b ∷ bs) known used [] w = absurd w
follows_wholes p budget (b ∷ bs) known used (m ∷ ms) w =
    (sound_whole p b m w.0.in_box (sound_of p b m w.0.tested), follows_wholes p budget (sides_before b m bs) (best_after known m) (used_after used m) ms w.1)

greater : (worth : ℤ) (known : ℕ) → pos known <ℤ worth → pos (max known (natural worth)) ≡ worth
greater (pos n) known h = ap pos (let k : known < n = omega (arith, ints) in omega arith)
greater (negsuc n) known h = absurd (omega (arith, ints))

-- one mark before marks without a whole point
best_alone : (p : Program) (known : ℕ) (m : Mark) (b : ℕ) → IsWholePoint p m → IsBetter known m → b ≡ best_after known m → IsBestPoint p known (last_or None m) b
best_alone p known (Split j at licence) b w h e = e
best_alone p known (Close q ws) b w h e = e
best_alone p known (Whole q ws worth cells) b w h e = ap pos e ∙ greater worth known h.0 ∙ w.2
best_alone p known (Rest q ws) b w h e = e

best_before : (p : Program) (known : ℕ) (m : Mark) (o : Option (List Cell)) (b : ℕ) → IsWholePoint p m → IsBetter known m → IsBestPoint p (best_after known m) o b → IsBestPoint p known (last_or o m) b
best_before p known m None b w h i = best_alone p known m b w h i
best_before p known m (Some cells) b w h i = i

pub follows_rise : (p : Program) (budget : ℕ) (bs : List Bounds) (known used : ℕ) (ms : List Mark) → Follows p budget bs known used ms → IsBestPoint p known (last_whole ms) (best_behind known ms)
follows_rise p budget [] known used [] w = refl
follows_rise p budget [] known used (m ∷ ms) w = absurd w
follows_rise p budget (b ∷ bs) known used [] w = absurd w
follows_rise p budget (b ∷ bs) known used (m ∷ ms) w =
    let r = follows_rise p budget (sides_before b m bs) (best_after known m) (used_after used m) ms w.1 in
    best_before p known m (last_whole ms) (best_behind (best_after known m) ms) (sound_whole p b m w.0.in_box (sound_of p b m w.0.tested)) w.0.better r

-- ---- the budget
used_at : (used : ℕ) (m : Mark) (ms : List Mark) → used_after used m + nodes_in ms ≡ used + nodes_in (m ∷ ms)
used_at used (Split j at licence) ms = omega arith
used_at used (Close q ws) ms = omega arith
used_at used (Whole q ws worth cells) ms = omega arith
used_at used (Rest q ws) ms = omega arith

below : (a b : ℕ) → nat_lt a b ≡ true → a < b
below a b e = grind (arith, nat_tests)

same : (a b : ℕ) → a ≤ b → nat_lt a b ≡ false → a ≡ b
same a b l e = grind (arith, nat_tests)

not_true : (b : Bool) → true ≡ not b → b ≡ false
not_true false e = refl
not_true true e = absurd (false≢true (sym e))

not_false : (b : Bool) → false ≡ not b → b ≡ true
not_false false e = absurd (false≢true e)
not_false true e = refl

-- one more is used, and no more than the budget
used_step : (used budget : ℕ) (m : Mark) → used ≤ budget → is_rest m ≡ not (nat_lt used budget) → used_after used m ≤ budget
used_step used budget (Split j at licence) h e = let k = below used budget (not_false _ e) in omega arith
used_step used budget (Close q ws) h e = let k = below used budget (not_false _ e) in omega arith
used_step used budget (Whole q ws worth cells) h e = let k = below used budget (not_false _ e) in omega arith
used_step used budget (Rest q ws) h e = h

pub follows_within : (p : Program) (budget : ℕ) (bs : List Bounds) (known used : ℕ) (ms : List Mark) → used ≤ budget → Follows p budget bs known used ms → used + nodes_in ms ≤ budget
follows_within p budget [] known used [] h w = omega arith
follows_within p budget [] known used (m ∷ ms) h w = absurd w
follows_within p budget (b ∷ bs) known used [] h w = absurd w
follows_within p budget (b ∷ bs) known used (m ∷ ms) h w =
    let s = used_step used budget m h w.0.rest in
    let r = follows_within p budget (sides_before b m bs) (best_after known m) (used_after used m) ms s w.1 in
    subst (λ n. n ≤ budget) (used_at used m ms) r

-- where the next mark is a rest, the budget is spent
rest_spent : (used budget : ℕ) (m : Mark) → used ≤ budget → is_rest m ≡ not (nat_lt used budget) → is_rest m ≡ true → used ≡ budget
rest_spent used budget m h e r = same used budget h (not_true _ (sym r ∙ e))

either : (a b : Bool) → (a || b) ≡ true → a ≡ false → b ≡ true
either false b h e = h
either true b h e = absurd (false≢true (sym e))

spent_by : (p : Program) (budget : ℕ) (b : Bounds) (bs : List Bounds) (known used : ℕ) (m : Mark) (ms : List Mark) (t : Bool) → is_rest m ≡ t → used ≤ budget → Follows p budget (b ∷ bs) known used (m ∷ ms)
    → (used_after used m ≤ budget → has_rest ms ≡ true → used_after used m + nodes_in ms ≡ budget) → has_rest (m ∷ ms) ≡ true → used + nodes_in (m ∷ ms) ≡ budget
spent_by p budget b bs known used m ms true e h w rec r =
    let s = rest_spent used budget m h w.0.rest e in
    let k = follows_within p budget (b ∷ bs) known used (m ∷ ms) h w in
    omega arith
spent_by p budget b bs known used m ms false e h w rec r =
    sym (used_at used m ms) ∙ rec (used_step used budget m h w.0.rest) (either (is_rest m) (has_rest ms) r e)

pub follows_spent : (p : Program) (budget : ℕ) (bs : List Bounds) (known used : ℕ) (ms : List Mark) → used ≤ budget → Follows p budget bs known used ms → has_rest ms ≡ true → used + nodes_in ms ≡ budget
follows_spent p budget [] known used [] h w r = absurd (false≢true r)
follows_spent p budget [] known used (m ∷ ms) h w r = absurd w
follows_spent p budget (b ∷ bs) known used [] h w r = absurd w
follows_spent p budget (b ∷ bs) known used (m ∷ ms) h w r =
    spent_by p budget b bs known used m ms (is_rest m) refl h w
    (λ s g. follows_spent p budget (sides_before b m bs) (best_after known m) (used_after used m) ms s w.1 g) r
