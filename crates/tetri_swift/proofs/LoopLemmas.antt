-- The search's state, mark by mark.
use Rattle.std.proofs.Common.{◌≡◌, ℕ, ◌+◌, ◌-◌, ◌*◌, ◌<◌, ◌≤◌, refl, sym, ap, ◌∙◌, subst, arith, List, [], ◌∷◌, ◌++◌, length, append_assoc, reverse, Bool, true, false, cond}
use Prim.Native.Nat.{suc}
use Rattle.std.specs.Prelude.{nat_lt, not}
use Rattle.std.proofs.lemmas.Bool.Decides.{nat_tests}
use Rattle.std.proofs.lemmas.List.{append-nil}
use Rattle.std.proofs.lemmas.List.Sums.{fold_push}
use Rattle.tetri_ip.specs.declared.programs.Program.{Program}
use Rattle.tetri_ip.specs.Points.{Bounds, bounds_of, box_of}
use Rattle.tetri_cert.specs.Turns.{pending}
use Rattle.tetri_cert.specs.declared.marks.Mark.{Mark}
use Rattle.tetri_cert.specs.declared.marks.Mark.TheVariants.{Split, Close, Whole, Rest}
use Rattle.tetri_cert.specs.NodeBounds.{sides_before}
use Rattle.tetri_cert.specs.Trees.{nodes_in}
use Rattle.tetri_search.specs.Follow.{best_after, best_behind, used_after}
use Rattle.tetri_search.specs.Laws.{is_rest}
use Rattle.tetri_swift.specs.Follow.{Follows}
use Rattle.tetri_swift.specs.declared.searching.Front.{Front}
use Rattle.tetri_swift.specs.Fronts.{regions_of}
use Rattle.tetri_swift.specs.Nodes.{IsFair}
use Rattle.tetri_swift.proofs.FrontLemmas.{regions_live}

-- the marks are the beginning of a search that goes on from these open regions
pub record Begins (p : Program) (low budget : ℕ) (ms : List Mark) (bs : List Bounds) (known used : ℕ) : Type 0 where
  pub goes_on : (rest : List Mark) → Follows p budget bs known used rest → Follows p budget (box_of p ∷ []) low 0 (ms ++ rest)

pub begins_first : (p : Program) (low budget : ℕ) (ms : List Mark) (bs : List Bounds) → ms ≡ [] → bs ≡ box_of p ∷ [] → Begins p low budget ms bs low 0
begins_first p low budget ms bs e f = record { goes_on = λ rest h. subst (λ (xs : List Mark). Follows p budget (box_of p ∷ []) low 0 (xs ++ rest)) (sym e) (subst (λ (cs : List Bounds). Follows p budget cs low 0 rest) f h) }

pub begins_push : (p : Program) (low budget : ℕ) (ms more : List Mark) (b : Bounds) (bs next : List Bounds) (known used best count : ℕ) (m : Mark) → Begins p low budget ms (b ∷ bs) known used →
    IsFair p b known (nat_lt used budget) m → more ≡ ms ++ m ∷ [] → next ≡ sides_before b m bs → best ≡ best_after known m → count ≡ used_after used m → Begins p low budget more next best count
begins_push p low budget ms more b bs next known used best count m h f e n i j = record { goes_on = λ rest w. whole rest (step rest w) }
  where
    step : (rest : List Mark) → Follows p budget next best count rest → Follows p budget (b ∷ bs) known used (m ∷ rest)
    step rest w = (f, subst (λ k. Follows p budget (sides_before b m bs) (best_after known m) k rest) j (subst (λ k. Follows p budget (sides_before b m bs) k count rest) i (subst (λ (cs : List Bounds). Follows p budget cs best count rest) n w)))

    whole : (rest : List Mark) → Follows p budget (b ∷ bs) known used (m ∷ rest) → Follows p budget (box_of p ∷ []) low 0 (more ++ rest)
    whole rest w = subst (λ (xs : List Mark). Follows p budget (box_of p ∷ []) low 0 xs) (sym (ap (λ (xs : List Mark). xs ++ rest) e ∙ append_assoc ms (m ∷ []) rest)) (h.goes_on (m ∷ rest) w)

pub begins_end : (p : Program) (low budget : ℕ) (ms : List Mark) (bs : List Bounds) (known used : ℕ) → bs ≡ [] → Begins p low budget ms bs known used → Follows p budget (box_of p ∷ []) low 0 ms
begins_end p low budget ms bs known used e h =
    subst (λ (xs : List Mark). Follows p budget (box_of p ∷ []) low 0 xs) (append-nil ms) (h.goes_on [] (subst (λ (cs : List Bounds). Follows p budget cs known used []) (sym e) tt))

-- ---- the counts
below : (a b : ℕ) → false ≡ not (nat_lt a b) → a < b
below a b e = grind (arith, nat_tests)

used_more : (used : ℕ) (m : Mark) → used_after used m ≡ cond (is_rest m) used (used + 1)
used_more used (Split j at licence) = refl
used_more used (Close q ws) = refl
used_more used (Whole q ws worth cells) = refl
used_more used (Rest q ws) = refl

turned : (used : ℕ) (r t : Bool) → r ≡ not t → cond t (used + 1) used ≡ cond r used (used + 1)
turned used r true e = sym (ap (λ (x : Bool). cond x used (used + 1)) e)
turned used r false e = sym (ap (λ (x : Bool). cond x used (used + 1)) e)

pub used_is : (used count : ℕ) (t : Bool) (m : Mark) → is_rest m ≡ not t → count ≡ cond t (used + 1) used → count ≡ used_after used m
used_is used count t m r e = e ∙ turned used (is_rest m) t r ∙ sym (used_more used m)

pub used_within : (used budget k : ℕ) → used ≤ budget → k ≡ cond (nat_lt used budget) (used + 1) used → k ≤ budget
used_within used budget k h e = grind (arith, nat_tests)

one_more : (k : ℕ) (m : Mark) (n : ℕ) → n ≡ used_after k m → suc n ≡ used_after (suc k) m
one_more k (Split j at licence) n e = omega arith
one_more k (Close q ws) n e = omega arith
one_more k (Whole q ws worth cells) n e = omega arith
one_more k (Rest q ws) n e = omega arith

nodes_push : (ms : List Mark) (m : Mark) → nodes_in (ms ++ m ∷ []) ≡ used_after (nodes_in ms) m
nodes_push [] (Split j at licence) = refl
nodes_push [] (Close q ws) = refl
nodes_push [] (Whole q ws worth cells) = refl
nodes_push [] (Rest q ws) = refl
nodes_push (Split j at licence ∷ ms) m = one_more (nodes_in ms) m (nodes_in (ms ++ m ∷ [])) (nodes_push ms m)
nodes_push (Close q ws ∷ ms) m = one_more (nodes_in ms) m (nodes_in (ms ++ m ∷ [])) (nodes_push ms m)
nodes_push (Whole q ws worth cells ∷ ms) m = one_more (nodes_in ms) m (nodes_in (ms ++ m ∷ [])) (nodes_push ms m)
nodes_push (Rest q ws ∷ ms) m = nodes_push ms m

pub nodes_more : (ms more : List Mark) (m : Mark) (used count : ℕ) → more ≡ ms ++ m ∷ [] → used ≡ nodes_in ms → count ≡ used_after used m → count ≡ nodes_in more
nodes_more ms more m used count e h k = k ∙ ap (λ n. used_after n m) h ∙ sym (nodes_push ms m) ∙ sym (ap nodes_in e)

pub best_more : (low : ℕ) (ms more : List Mark) (m : Mark) (known best : ℕ) → more ≡ ms ++ m ∷ [] → known ≡ best_behind low ms → best ≡ best_after known m → best ≡ best_behind low more
best_more low ms more m known best e h k = k ∙ ap (λ n. best_after n m) h ∙ sym (fold_push best_after low ms m) ∙ sym (ap (best_behind low) e)

-- ---- the measure
sides_few : (b : Bounds) (m : Mark) (bs : List Bounds) (used budget : ℕ) → is_rest m ≡ not (nat_lt used budget) →
    2 * (budget - used_after used m) + length (sides_before b m bs) < 2 * (budget - used) + length (b ∷ bs)
sides_few b (Split j at licence) bs used budget e = let h = below used budget e in omega arith
sides_few b (Close q ws) bs used budget e = let h = below used budget e in omega arith
sides_few b (Whole q ws worth cells) bs used budget e = let h = below used budget e in omega arith
sides_few b (Rest q ws) bs used budget e = omega arith

fewer : (b : Bounds) (m : Mark) (bs next : List Bounds) (used budget count : ℕ) → is_rest m ≡ not (nat_lt used budget) → next ≡ sides_before b m bs → count ≡ used_after used m →
    2 * (budget - count) + length next < 2 * (budget - used) + length (b ∷ bs)
fewer b m bs next used budget count r n c =
    let h = sides_few b m bs used budget r in
    let e : length next ≡ length (sides_before b m bs) = ap (λ (cs : List Bounds). length cs) n in
    omega arith

pub front_fewer : (f next : Front) (m : Mark) (used budget count : ℕ) → f.live ≡ true → is_rest m ≡ not (nat_lt used budget) → regions_of next ≡ sides_before (bounds_of f.region) m (pending (bounds_of f.region) (reverse f.trail.items)) → count ≡ used_after used m →
    2 * (budget - count) + length (regions_of next) < 2 * (budget - used) + length (regions_of f)
front_fewer f next m used budget count l r n e =
    let h = fewer (bounds_of f.region) m (pending (bounds_of f.region) (reverse f.trail.items)) (regions_of next) used budget count r n e in
    subst (λ k. 2 * (budget - count) + length (regions_of next) < 2 * (budget - used) + k) (sym (ap (λ (bs : List Bounds). length bs) (regions_live f l))) h

pub front_push : (p : Program) (low budget : ℕ) (ms more : List Mark) (f next : Front) (known used best count : ℕ) (m : Mark) → f.live ≡ true → Begins p low budget ms (regions_of f) known used →
    IsFair p (bounds_of f.region) known (nat_lt used budget) m → more ≡ ms ++ m ∷ [] → regions_of next ≡ sides_before (bounds_of f.region) m (pending (bounds_of f.region) (reverse f.trail.items)) → best ≡ best_after known m → count ≡ used_after used m → Begins p low budget more (regions_of next) best count
front_push p low budget ms more f next known used best count m l h fair e n i j =
    begins_push p low budget ms more (bounds_of f.region) (pending (bounds_of f.region) (reverse f.trail.items)) (regions_of next) known used best count m (subst (λ (bs : List Bounds). Begins p low budget ms bs known used) (regions_live f l) h) fair e n i j
