-- The search's state, mark by mark.
use Rattle.std.proofs.Common.{◌≡◌, ℕ, ◌+◌, ◌<◌, ◌≤◌, refl, sym, ap, ◌∙◌, subst, arith, List, [], ◌∷◌, ◌++◌, length, map, reverse, All, Bool, true, false, cond, Option, None}
use Rattle.std.specs.Prelude.{nat_lt, ◌≤ℤ◌, ◌<ℤ◌, ◌^◌}
use Rattle.std.specs.List.{fold}
use Rattle.std.proofs.lemmas.Bool.{false≢true}
use Rattle.std.proofs.lemmas.Bool.Decides.{nat_tests}
use Rattle.std.proofs.lemmas.Int.{ints}
use Rattle.std.proofs.lemmas.List.{reverse-append}
use Rattle.std.proofs.lemmas.List.Sums.{fold_push}
use Rattle.std.proofs.lemmas.List.Elements.{All-nil, All-push}
use Rattle.std.specs.declared.rc.Rc.{Rc}
use Rattle.std.specs.Global.{Global}
use lib.IntN.{ℤ, pos}
use Rattle.tetri_ip.specs.declared.programs.Program.{Program}
use Rattle.tetri_ip.specs.declared.programs.Region.{Region}
use Rattle.tetri_ip.specs.Points.{Bounds, IsFit, IsInBox, bounds_of, box_of}
use Rattle.tetri_cert.specs.declared.marks.Mark.{Mark}
use Rattle.tetri_cert.specs.declared.marks.Mark.TheVariants.{Split, Close, Whole, Rest}
use Rattle.tetri_cert.specs.declared.turns.Turn.{Turn}
use Rattle.tetri_cert.specs.NodeBounds.{sides_before}
use Rattle.tetri_cert.specs.NodeText.{HasShortLists, IsPlain}
use Rattle.tetri_cert.specs.Trees.{nodes_in}
use Rattle.tetri_cert.specs.Turns.{pending}
use Rattle.tetri_cert.proofs.TreeBoundLaws.{IsSound}
use Rattle.tetri_compile.specs.Gain.{most_gain}
use Rattle.tetri_compile.proofs.ProgramLaws.{region_gain}
use Rattle.tetri_search.specs.declared.duals.Dual.{Dual}
use Rattle.tetri_search.specs.Table.{Node, table}
use Rattle.tetri_search.specs.Follow.{Follows, IsEarned, IsNext, State, after, best_after, best_behind, dual_below, first_state, open_behind, used_after}
use Rattle.tetri_search.specs.Laws.{is_rest}
use Rattle.tetri_search.specs.Nodes.{AreOpen, IfDual, IsNarrow}
use Rattle.tetri_search.specs.Views.{IsNatural, IsOnRegion, dual_of_rc, duals_before, duals_of}
use Rattle.tetri_search.proofs.MarkLemmas.{rest_is_rest, worked_is_no_rest}
use Rattle.tetri_search.proofs.NodeLemmas.{dual_or_is, first_open, mark_sound, open_behind_is, own_dual_is}
use Rattle.tetri_search.proofs.PlainLemmas.{IsListed, mark_listed}
use Rattle.tetri_search.proofs.ProperLemmas.{regions, regions_behind}
use Rattle.tetri_search.proofs.SpentLemmas.{known_behind, used_after_all, used_behind}
use Rattle.tetri_search.proofs.WorkedLemmas.{IsBetter, worked}

abbrev pub Duals : Type 0
Duals = List (Option (Rc Dual Global))

abbrev pub duals_at : List Node → List (Option Dual)
duals_at ns = map (λ (n : Node). n.dual) ns

duals_behind : (n : Node) (d : Option Dual) (m : Mark) (ns : List Node) → duals_before d m (duals_at ns) ≡ duals_at (open_behind n d m ns)
duals_behind n d (Split j at licence) ns = refl
duals_behind n d (Close q ws) ns = refl
duals_behind n d (Whole q ws worth cells) ns = refl
duals_behind n d (Rest q ws) ns = refl

pub duals_push : (ds : Duals) (d : Option (Rc Dual Global)) → duals_of (ds ++ d ∷ []) ≡ dual_of_rc d ∷ duals_of ds
duals_push ds d = ap (map dual_of_rc) (reverse-append ds (d ∷ []))

-- the regions of the nodes are the one at hand and those on the way back
abbrev pub AreAt : List Node → Region → List Turn → Type 0
AreAt [] r trail = Unit {0}
AreAt (n ∷ ns) r trail = (n.region ≡ bounds_of r) × (regions ns ≡ pending (bounds_of r) (reverse trail))

are_at : (ns : List Node) (r : Region) (trail : List Turn) (live : Bool) → cond live (bounds_of r ∷ pending (bounds_of r) (reverse trail)) [] ≡ regions ns → AreAt ns r trail
are_at [] r trail live e = tt
are_at (n ∷ ns) r trail true e = (cc, cc)
are_at (n ∷ ns) r trail false e = cc

-- ---- one more mark
follows_push : (p : Program) (budget : ℕ) (s : State) (ms : List Mark) (m : Mark) → Follows p budget s ms → (let u = fold (after p) s ms in IsNext p budget u.open_nodes u.known u.used m) → Follows p budget s (ms ++ m ∷ [])
follows_push p budget s [] m f n = (n, tt)
follows_push p budget s (x ∷ ms) m f n = (f.0, follows_push p budget (after p s x) ms m f.1 n)

-- the marks so far are those of the search, and the rest is what is kept of it
pub record Stands (p : Program) (low budget : ℕ) (ms : List Mark) (r : Region) (trail : List Turn) (ds : Duals) (known used : ℕ) : Type 0 where
  pub nodes : List Node
  pub follows : Follows p budget (first_state p low) ms
  pub state : fold (after p) (first_state p low) ms ≡ record { open_nodes = nodes; known = known; used = used }
  pub open_nodes : AreOpen p nodes
  pub regions_are : AreAt nodes r trail
  pub duals_are : duals_at nodes ≡ duals_of ds
  pub columns : All (λ (t : Turn). t.column < length r.lower.items) trail
  pub lower : length r.lower.items ≡ length p.costs.items
  pub upper : length r.upper.items ≡ length p.costs.items
  pub listed : All (IsListed p) ms

-- the next open node, with the weights taken off
pub record IsTop (p : Program) (nodes : List Node) (r : Region) (trail : List Turn) (d : Option (Rc Dual Global)) (ds : Duals) : Type 0 where
  pub others : List Node
  pub nodes_are : nodes ≡ record { region = bounds_of r; dual = dual_of_rc d } ∷ others
  pub regions_are : regions others ≡ pending (bounds_of r) (reverse trail)
  pub duals_are : duals_at others ≡ duals_of ds
  pub in_box : IsInBox p (bounds_of r)
  pub dual : IfDual p (dual_of_rc d)
  pub open_nodes : AreOpen p others

top_is : (p : Program) (nodes : List Node) (r : Region) (trail : List Turn) (d : Option (Rc Dual Global)) (ds all : Duals) → AreOpen p nodes → AreAt nodes r trail → duals_at nodes ≡ duals_of all → all ≡ ds ++ d ∷ [] → IsTop p nodes r trail d ds
top_is p [] r trail d ds all a b c e = let f : [] ≡ dual_of_rc d ∷ duals_of ds = c ∙ ap duals_of e ∙ duals_push ds d in cc
top_is p (n ∷ ns) r trail d ds all a b c e =
    let f : n.dual ∷ duals_at ns ≡ dual_of_rc d ∷ duals_of ds = c ∙ ap duals_of e ∙ duals_push ds d in
    let g : n.dual ≡ dual_of_rc d = cc in
    let h : duals_at ns ≡ duals_of ds = cc in
    record {
      others = ns;
      nodes_are = ap (λ (x : Bounds). record { region = x; dual = n.dual } ∷ ns) b.0 ∙ ap (λ (x : Option Dual). record { region = bounds_of r; dual = x } ∷ ns) g;
      regions_are = b.1;
      duals_are = h;
      in_box = subst (IsInBox p) b.0 a.0;
      dual = subst (IfDual p) g a.1;
      open_nodes = a.2;
    }

pub stands_top : (p : Program) (low budget : ℕ) (ms : List Mark) (r : Region) (trail : List Turn) (d : Option (Rc Dual Global)) (ds all : Duals) (known used : ℕ) → all ≡ ds ++ d ∷ [] → (h : Stands p low budget ms r trail all known used) → IsTop p h.nodes r trail d ds
stands_top p low budget ms r trail d ds all known used e h = top_is p h.nodes r trail d ds all h.open_nodes h.regions_are h.duals_are e

pub stands_on : (p : Program) (low budget : ℕ) (ms : List Mark) (r : Region) (trail : List Turn) (d : Option (Rc Dual Global)) (ds all : Duals) (known used : ℕ) → all ≡ ds ++ d ∷ [] → Stands p low budget ms r trail all known used → IsOnRegion p r trail
stands_on p low budget ms r trail d ds all known used e h = record { in_box = (stands_top p low budget ms r trail d ds all known used e h).in_box; columns = h.columns }

pub stands_dual : (p : Program) (low budget : ℕ) (ms : List Mark) (r : Region) (trail : List Turn) (d : Option (Rc Dual Global)) (ds all : Duals) (known used : ℕ) → all ≡ ds ++ d ∷ [] → Stands p low budget ms r trail all known used → IfDual p (dual_of_rc d)
stands_dual p low budget ms r trail d ds all known used e h = (stands_top p low budget ms r trail d ds all known used e h).dual

pub stands_push : (p : Program) (low budget : ℕ) (ms more : List Mark) (m : Mark) (r next : Region) (trail back : List Turn) (d : Option (Rc Dual Global)) (ds all kept : Duals) (known used : ℕ) → IsFit p →
    all ≡ ds ++ d ∷ [] → more ≡ ms ++ m ∷ [] → Stands p low budget ms r trail all known used →
    m ≡ table p (record { region = bounds_of r; dual = dual_of_rc d }) known (nat_lt used budget) →
    ((live : Bool) × (cond live (bounds_of next ∷ pending (bounds_of next) (reverse back)) [] ≡ sides_before (bounds_of r) m (pending (bounds_of r) (reverse trail)))) →
    duals_of kept ≡ duals_before (dual_below p (record { region = bounds_of r; dual = dual_of_rc d }) known) m (duals_of ds) →
    length next.lower.items ≡ length r.lower.items → length next.upper.items ≡ length r.upper.items → All (λ (t : Turn). t.column < length next.lower.items) back → IsNarrow m →
    Stands p low budget more next back kept (best_after known m) (used_after used m)
stands_push p low budget ms more m r next trail back d ds all kept known used f e n h w g k l u c a =
    let x = stands_top p low budget ms r trail d ds all known used e h in
    let first = first_state p low in
    let node : Node = record { region = bounds_of r; dual = dual_of_rc d } in
    let below = dual_below p node known in
    let s : fold (after p) first ms ≡ record { open_nodes = node ∷ x.others; known = known; used = used } = h.state ∙ ap (λ (ns : List Node). record { open_nodes = ns; known = known; used = used }) x.nodes_are in
    let i = subst (λ (v : State). IsNext p budget v.open_nodes v.known v.used m) (sym s) w in
    let sound : IsSound p (bounds_of r) m = subst (IsSound p (bounds_of r)) (sym w) (mark_sound p node known (nat_lt used budget) f x.in_box x.dual) in
    let next_regions = g.1 ∙ ap (sides_before (bounds_of r) m) (sym x.regions_are) ∙ regions_behind node below m x.others in
    record {
      nodes = open_behind node below m x.others;
      follows = subst (Follows p budget first) (sym n) (follows_push p budget first ms m h.follows i);
      state = ap (fold (after p) first) n ∙ fold_push (after p) first ms m ∙ ap (λ (v : State). after p v m) s;
      open_nodes = open_behind_is p node x.others below m x.in_box x.open_nodes (dual_or_is p _ (dual_of_rc d) (own_dual_is p (bounds_of r) known x.in_box) x.dual) sound;
      regions_are = are_at (open_behind node below m x.others) next back g.0 next_regions;
      duals_are = sym (k ∙ ap (duals_before below m) (sym x.duals_are) ∙ duals_behind node below m x.others);
      columns = c;
      lower = l ∙ h.lower;
      upper = u ∙ h.upper;
      listed = subst (All (IsListed p)) (sym n) (All-push (IsListed p) ms m h.listed (mark_listed p node known (nat_lt used budget) m f x.in_box x.dual a w));
    }

-- ---- the beginning and the end
pub stands_first : (p : Program) (low budget : ℕ) (r : Region) (d : Option (Rc Dual Global)) (ds : Duals) → IsFit p → bounds_of r ≡ box_of p → dual_of_rc d ≡ None → ds ≡ d ∷ [] → Stands p low budget [] r [] ds low 0
stands_first p low budget r d ds f b n e =
    record {
      nodes = record { region = box_of p; dual = None } ∷ [];
      follows = tt;
      state = refl;
      open_nodes = first_open p f;
      regions_are = (sym b, refl);
      duals_are = sym (ap duals_of e ∙ ap (λ (x : Option Dual). x ∷ []) n);
      columns = All-nil (λ (t : Turn). t.column < length r.lower.items);
      lower = ap (λ (x : Bounds). length x.lower) b ∙ f.lower_count;
      upper = ap (λ (x : Bounds). length x.upper) b ∙ f.upper_count;
      listed = All-nil (IsListed p);
    }

none_open : (ns : List Node) → duals_at ns ≡ [] → ns ≡ []
none_open [] e = refl
none_open (n ∷ ns) e = cc

pub stands_earned : (p : Program) (low budget : ℕ) (ms : List Mark) (r : Region) (trail : List Turn) (ds : Duals) (known used : ℕ) → ds ≡ [] → Stands p low budget ms r trail ds known used → IsEarned p low budget ms
stands_earned p low budget ms r trail ds known used e h =
    record { follows = h.follows; whole = ap (λ (s : State). s.open_nodes) h.state ∙ none_open h.nodes (h.duals_are ∙ ap duals_of e) }

pub stands_best : (p : Program) (low budget : ℕ) (ms : List Mark) (r : Region) (trail : List Turn) (ds : Duals) (known used : ℕ) → Stands p low budget ms r trail ds known used → known ≡ best_behind low ms
stands_best p low budget ms r trail ds known used h = sym (ap (λ (s : State). s.known) h.state) ∙ known_behind p (first_state p low) ms

pub stands_used : (p : Program) (low budget : ℕ) (ms : List Mark) (r : Region) (trail : List Turn) (ds : Duals) (known used : ℕ) → Stands p low budget ms r trail ds known used → used ≡ nodes_in ms
stands_used p low budget ms r trail ds known used h = sym (ap (λ (s : State). s.used) h.state) ∙ used_after_all p (first_state p low) ms ∙ used_behind 0 ms ∙ omega arith

pub listed_plain : (p : Program) (ms : List Mark) → All (IsListed p) ms → All IsPlain ms
listed_plain p ms h k d l = (h k d l).plain

pub listed_short : (p : Program) (ms : List Mark) (most : ℕ) → length p.costs.items ≤ most → length p.rows.items ≤ most → All (IsListed p) ms → All (HasShortLists most) ms
listed_short p ms most c r h k d l = (h k d l).short most c r

-- ---- the numbers that are kept
-- a whole point's objective is above 0 and at most what the columns can earn
pub mark_natural : (p : Program) (b : Bounds) (d : Option Dual) (known : ℕ) (t : Bool) (m : Mark) → IsFit p → All (λ z. z ≡ pos 0) p.lower.items → most_gain p < 2 ^ 64 → IsInBox p b → IfDual p d → m ≡ table p (record { region = b; dual = d }) known t → IsNatural m
unfolding table
mark_natural p b d known true m f z g i j e = subst IsNatural (sym e) (by_mark _ (worked p b known f i).sound (worked p b known f i).better)
  where
    between : (x : ℤ) (n k : ℕ) → pos k <ℤ x → x ≤ℤ pos n → n < 2 ^ 64 → (pos 0 ≤ℤ x) × (x <ℤ pos (2 ^ 64))
    between x n k h l s = (omega (arith, ints), omega (arith, ints))

    by_mark : (x : Mark) → IsSound p b x → IsBetter known x → IsNatural x
    by_mark (Split j at licence) s h = tt
    by_mark (Close q ws) s h = tt
    by_mark (Whole q ws worth cells) s h = between worth (most_gain p) known h (subst (λ y. y ≤ℤ pos (most_gain p)) (sym s.1.worth_is) (region_gain p z b i _ s.1.point)) g
    by_mark (Rest q ws) s h = tt
mark_natural p b d known false m f z g i j e = by_mark m (rest_is_rest false p (record { region = b; dual = d }) known m refl e)
  where
    by_mark : (x : Mark) → is_rest x ≡ true → IsNatural x
    by_mark (Split j at licence) h = absurd (false≢true h)
    by_mark (Close q ws) h = absurd (false≢true h)
    by_mark (Whole q ws worth cells) h = absurd (false≢true h)
    by_mark (Rest q ws) h = tt

used_more : (used : ℕ) (m : Mark) → used_after used m ≡ cond (is_rest m) used (used + 1)
used_more used (Split j at licence) = refl
used_more used (Close q ws) = refl
used_more used (Whole q ws worth cells) = refl
used_more used (Rest q ws) = refl

pub used_is : (p : Program) (n : Node) (known used budget : ℕ) (m : Mark) (t : Bool) (k : ℕ) → t ≡ nat_lt used budget → m ≡ table p n known t → k ≡ cond t (used + 1) used → k ≡ used_after used m
used_is p n known used budget m true k b e h = h ∙ sym (used_more used m ∙ ap (λ (r : Bool). cond r used (used + 1)) (worked_is_no_rest true p n known m refl e))
used_is p n known used budget m false k b e h = h ∙ sym (used_more used m ∙ ap (λ (r : Bool). cond r used (used + 1)) (rest_is_rest false p n known m refl e))

pub used_within : (used budget k : ℕ) → used ≤ budget → k ≡ cond (nat_lt used budget) (used + 1) used → k ≤ budget
used_within used budget k h e = grind (arith, nat_tests)

pub stands_start : (p : Program) (low budget : ℕ) (ms : List Mark) (r : Region) (trail : List Turn) (ds : Duals) → IsFit p → bounds_of r ≡ box_of p → ms ≡ [] → trail ≡ [] → ds ≡ None ∷ [] → Stands p low budget ms r trail ds low 0
stands_start p low budget ms r trail ds f b m t e =
    subst (λ (xs : List Mark). Stands p low budget xs r trail ds low 0) (sym m)
    (subst (λ (ts : List Turn). Stands p low budget [] r ts ds low 0) (sym t) (stands_first p low budget r None ds f b refl e))
