-- The tree of a search is proper, and where no node is left open its bound is at most the best objective known at its end.
use Rattle.std.proofs.Common.{◌≡◌, ℕ, ◌+◌, ◌≤◌, max, refl, sym, ap, ◌∙◌, subst, arith, List, [], ◌∷◌, length, map, Bool, true, false, Option, Some, None, Ok}
use Rattle.std.specs.Prelude.{nat_lt, ◌||◌}
use Rattle.std.specs.List.{fold}
use Rattle.std.proofs.lemmas.Bool.{false≢true}
use Rattle.tetri_ip.specs.declared.programs.Program.{Program}
use Rattle.tetri_ip.specs.Points.{Bounds, IsFit, IsInBox, IsPoint, box_of}
use Rattle.tetri_base.specs.ResultSteps.{◌>>=◌}
use Rattle.tetri_cert.specs.declared.marks.Cell.{Cell}
use Rattle.tetri_cert.specs.declared.marks.Mark.{Mark}
use Rattle.tetri_cert.specs.declared.marks.Mark.TheVariants.{Split, Close, Whole, Rest}
use Rattle.tetri_cert.specs.Cells.{AreOfColumns, point_of}
use Rattle.tetri_cert.specs.NodeBounds.{sides_before}
use Rattle.tetri_cert.specs.ProperTrees.{end_bound}
use Rattle.tetri_cert.specs.Trees.{fills, if_fills, places_behind, tree_bound, tree_from}
use Rattle.tetri_cert.proofs.TreeBoundLaws.{IsSound, node_told}
use Rattle.tetri_search.specs.declared.duals.Dual.{Dual}
use Rattle.tetri_search.specs.Table.{Node, table}
use Rattle.tetri_search.specs.Follow.{Follows, IsEarned, after, best_after, best_behind, dual_below, last_or, last_whole, open_behind, used_after}
use Rattle.tetri_search.specs.Laws.{EarnedIsProper, has_rest, is_rest}
use Rattle.tetri_search.specs.Nodes.{AreOpen, AreWholePoints, IsWholePoint}
use Rattle.tetri_search.proofs.MarkLemmas.{rest_rest}
use Rattle.tetri_search.proofs.WorkedLemmas.{worked}
use Rattle.tetri_search.proofs.NodeLemmas.{dual_or_is, first_open, mark_sound, open_behind_is, own_dual_is, sound_whole}

abbrev pub regions : List Node → List Bounds
regions ns = map (λ (n : Node). n.region) ns

pub regions_behind : (n : Node) (d : Option Dual) (m : Mark) (ns : List Node) → sides_before n.region m (regions ns) ≡ regions (open_behind n d m ns)
regions_behind n d (Split j at licence) ns = refl
regions_behind n d (Close q ws) ns = refl
regions_behind n d (Whole q ws worth cells) ns = refl
regions_behind n d (Rest q ws) ns = refl

places_are : (n : Node) (d : Option Dual) (m : Mark) (ns : List Node) → length (open_behind n d m ns) ≡ places_behind m (length ns)
places_are n d (Split j at licence) ns = refl
places_are n d (Close q ws) ns = refl
places_are n d (Whole q ws worth cells) ns = refl
places_are n d (Rest q ws) ns = refl

pub best_grows : (known : ℕ) (m : Mark) → known ≤ best_after known m
best_grows known (Split j at licence) = omega arith
best_grows known (Close q ws) = omega arith
best_grows known (Whole q ws worth cells) = omega arith
best_grows known (Rest q ws) = omega arith

-- a mark that is no rest bounds its region by the best objective known behind it
mark_at_most : (p : Program) (n : Node) (known : ℕ) (t : Bool) (m : Mark) → IsFit p → IsInBox p n.region → m ≡ table p n known t → is_rest m ≡ false → end_bound p n.region m ≤ best_after known m
unfolding table
mark_at_most p n known true m f h e r = subst (λ x. end_bound p n.region x ≤ best_after known x) (sym e) (worked p n.region known f h).at_most
mark_at_most p n known false m f h e r = absurd (false≢true (sym r ∙ ap is_rest e ∙ rest_rest p n.region n.dual))

-- the rest of a tree over the open nodes
record IsRest (p : Program) (ns : List Node) (known node most : ℕ) (ms : List Mark) : Type 0 where
  fills_all : fills (length ns) ms ≡ true
  bound : ℕ
  bound_is : tree_from p (regions ns) node most ms ≡ Ok bound
  at_most : has_rest ms ≡ false → most ≤ known → bound ≤ best_behind known ms

no_rest : (a b : Bool) → (a || b) ≡ false → (a ≡ false) × (b ≡ false)
no_rest false b h = (refl, h)
no_rest true b h = absurd (false≢true (sym h))

max_at_most : (a b c k : ℕ) → a ≤ k → k ≤ c → b ≤ c → max a b ≤ c
max_at_most a b c k h i j = omega arith

proper_from : (p : Program) (budget : ℕ) → IsFit p → (ns : List Node) (known used : ℕ) (ms : List Mark) → AreOpen p ns → Follows p budget (record { open_nodes = ns; known = known; used = used }) ms →
    (fold (after p) (record { open_nodes = ns; known = known; used = used }) ms).open_nodes ≡ [] → (node most : ℕ) → IsRest p ns known node most ms
proper_from p budget f [] known used [] a w e node most = record { fills_all = refl; bound = most; bound_is = refl; at_most = λ r h. h }
proper_from p budget f (n ∷ ns) known used [] a w e node most = cc
proper_from p budget f [] known used (m ∷ ms) a w e node most = absurd w.0
proper_from p budget f (n ∷ ns) known used (m ∷ ms) a w e node most =
    let d = dual_below p n known in
    let t = nat_lt used budget in
    let s : IsSound p n.region m = subst (IsSound p n.region) (sym w.0) (mark_sound p n known t f a.0 a.1) in
    let next = open_behind_is p n ns d m a.0 a.2 (dual_or_is p _ n.dual (own_dual_is p n.region known a.0) a.1) s in
    let k = end_bound p n.region m in
    let r = proper_from p budget f (open_behind n d m ns) (best_after known m) (used_after used m) ms next w.1 e (node + 1) (max most k) in
    record {
      fills_all = ap (λ i. fills i ms) (sym (places_are n d m ns)) ∙ r.fills_all;
      bound = r.bound;
      bound_is = ap (λ x. x >>= λ i. tree_from p (sides_before n.region m (regions ns)) (node + 1) (max most i) ms) (node_told p n.region node m a.0.lower_count a.0.upper_count s)
          ∙ ap (λ bs. tree_from p bs (node + 1) (max most k) ms) (regions_behind n d m ns)
          ∙ r.bound_is;
      at_most = λ g h. let z = no_rest (is_rest m) (has_rest ms) g in r.at_most z.1 (max_at_most most k (best_after known m) known h (best_grows known m) (mark_at_most p n known t m f a.0 w.0 z.0));
    }

pub earned_is_proper : EarnedIsProper
unfolding tree_bound
earned_is_proper p low budget ms f e =
    let r = proper_from p budget f (record { region = box_of p; dual = None } ∷ []) low 0 ms (first_open p f) e.follows e.whole 0 0 in
    record {
      bound = r.bound;
      bound_is = ap (λ t. if_fills t (tree_from p (box_of p ∷ []) 0 0 ms)) r.fills_all ∙ r.bound_is;
      at_most = λ g. r.at_most g (omega arith);
    }

-- ---- the whole points of a search
whole_from : (p : Program) (budget : ℕ) → IsFit p → (ns : List Node) (known used : ℕ) (ms : List Mark) → AreOpen p ns → Follows p budget (record { open_nodes = ns; known = known; used = used }) ms → AreWholePoints p ms
whole_from p budget f ns known used [] a w = tt
whole_from p budget f [] known used (m ∷ ms) a w = absurd w.0
whole_from p budget f (n ∷ ns) known used (m ∷ ms) a w =
    let d = dual_below p n known in
    let s : IsSound p n.region m = subst (IsSound p n.region) (sym w.0) (mark_sound p n known (nat_lt used budget) f a.0 a.1) in
    let next = open_behind_is p n ns d m a.0 a.2 (dual_or_is p _ n.dual (own_dual_is p n.region known a.0) a.1) s in
    (sound_whole p n.region m a.0 s, whole_from p budget f (open_behind n d m ns) (best_after known m) (used_after used m) ms next w.1)

pub earned_wholes : (p : Program) (low budget : ℕ) (ms : List Mark) → IsFit p → IsEarned p low budget ms → AreWholePoints p ms
earned_wholes p low budget ms f e = whole_from p budget f (record { region = box_of p; dual = None } ∷ []) low 0 ms (first_open p f) e.follows

pub last_is_point : (p : Program) (ms : List Mark) (cells : List Cell) → AreWholePoints p ms → last_whole ms ≡ Some cells → AreOfColumns (length p.costs.items) cells × IsPoint p (box_of p) (point_of (length p.costs.items) cells)
last_is_point p [] cells w e = cc
last_is_point p (m ∷ ms) cells w e = by_last (last_whole ms) refl e (λ f. last_is_point p ms cells w.1 f)
  where
    by_mark : (x : Mark) → IsWholePoint p x → last_or None x ≡ Some cells → AreOfColumns (length p.costs.items) cells × IsPoint p (box_of p) (point_of (length p.costs.items) cells)
    by_mark (Split j at licence) h g = cc
    by_mark (Close q ws) h g = cc
    by_mark (Whole q ws worth cs) h g =
        let f : cs ≡ cells = cc in
        (subst (AreOfColumns (length p.costs.items)) f h.0, subst (λ xs. IsPoint p (box_of p) (point_of (length p.costs.items) xs)) f h.1)
    by_mark (Rest q ws) h g = cc

    by_last : (o : Option (List Cell)) → last_whole ms ≡ o → last_or o m ≡ Some cells → (last_whole ms ≡ Some cells → AreOfColumns (length p.costs.items) cells × IsPoint p (box_of p) (point_of (length p.costs.items) cells)) → AreOfColumns (length p.costs.items) cells × IsPoint p (box_of p) (point_of (length p.costs.items) cells)
    by_last None f g rec = by_mark m w.0 g
    by_last (Some cs) f g rec = rec (f ∙ cc)
