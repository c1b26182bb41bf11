-- Jobs served in turn.
use Rattle.std.proofs.Common.{◌≡◌, ℕ, ◌+◌, ◌<◌, ◌≤◌, ◌&&◌, if◌then◌else◌, nat_le, nat_lt, Bool, true, false, List, [], ◌∷◌, ◌++◌, All, Contains, filter, map, length, drop, get_or, refl, sym, ap, ◌∙◌, subst, append_assoc, take}
use Rattle.std.proofs.lemmas.List.{drop_more}
use Rattle.std.proofs.lemmas.List.Elements.{All-contains, All-filter, All-take}
use Rattle.tetri_strl.specs.declared.expr.Leaf.{Leaf}
use Rattle.tetri_strl.specs.declared.grants.Grant.{Grant}
use Rattle.tetri_strl.specs.Aligned.{EachLeaf, EachLeafOf}
use Rattle.tetri_strl.specs.Tree.{Tree, greatest, least, added, one, join, scale, barrier, Trees, none, more, leaves}
use Rattle.tetri_strl.proofs.ExprLaws.{EachLeaf-from}
use Rattle.tetri_strl.specs.WellMade as made
use Rattle.tetri_space.specs.Slots.{is_marked}
use Rattle.tetri_space.specs.Sound.{HasKnownSet, IsSound, IsSoundBid}
use Rattle.tetri_space.specs.Space.{Bid, Space, set_of}
use Rattle.tetri_advice.specs.Creeds.{served}
use Rattle.tetri_advice.specs.Fit.{Placement, all_fit, best_fit, better, enough, fit, fit_beside, fit_of_leaf, fit_worth, fits, grants_of, is_available, is_held, is_live, lowest}
use Rattle.tetri_advice.proofs.AdviceLaws.{fit-same}
use Rattle.tetri_greedy.specs.Held.{AreHoldable, TellsOf, all_marked}
use Rattle.tetri_greedy.specs.Order.{job_at}
use Rattle.tetri_greedy.specs.Served.{IsServed}
use Rattle.tetri_greedy.specs.declared.order.Ranked.{Ranked}
use Rattle.tetri_greedy.proofs.Marks.{in_window, tells_all}

mutual
  pub good_leaves : (t : Tree) → made.IsSound t → EachLeaf made.IsGoodLeaf t
  good_leaves (one l) sound = sound.0
  good_leaves (join op ts) sound = good_leaves_of ts sound.1
  good_leaves (scale t v) sound = good_leaves t sound.0
  good_leaves (barrier t v) sound = good_leaves t sound.0

  good_leaves_of : (ts : Trees) → made.AreSound ts → EachLeafOf made.IsGoodLeaf ts
  good_leaves_of none sound = tt
  good_leaves_of (more t ts) sound = (good_leaves t sound.0, good_leaves_of ts sound.1)

-- each of two lists of placements may be held
both_holdable : (now count : ℕ) (ps qs : List Placement) → AreHoldable now count ps → AreHoldable now count qs → AreHoldable now count (ps ++ qs)
both_holdable now count [] qs h k = k
both_holdable now count (p ∷ ps) qs h k = (h.0, both_holdable now count ps qs h.1 k)

-- a fit may be held
module _ (s : Space) (job : ℕ) (taken : Leaf → ℕ → Bool) (few : s.window ≤ 64) where
  leaf_holdable : (held : List Placement) (l : Leaf) → made.IsGoodLeaf l → HasKnownSet s l → AreHoldable s.now s.nodes (fit_of_leaf s taken held l)
  leaf_holdable held l good known = by_tests (is_live s l) (enough l (length (lowest s taken held l))) refl
    where
      opens : ℕ → Bool
      opens = is_available s taken held l

      by_tests : (a b : Bool) → is_live s l ≡ a → AreHoldable s.now s.nodes (if a && b then record { leaf = l; nodes = lowest s taken held l } ∷ [] else [])
      by_tests true true live =
          let window = in_window s few l live good.some_slots in (
            record {
              live = window.live;
              window = window.window;
              some_slots = good.some_slots;
              few_slots = good.few_slots;
              known = All-take (λ n. n < s.nodes) l.k (filter opens (set_of s l)) (All-filter opens (λ n. n < s.nodes) (set_of s l) known.there);
            },
            tt,
          )
      by_tests true false live = tt
      by_tests false b live = tt

  better_holdable : (best next : ℕ × List Placement) → AreHoldable s.now s.nodes best.1 → AreHoldable s.now s.nodes next.1 → AreHoldable s.now s.nodes (better best next).1
  better_holdable best next h k = by_test (nat_lt best.0 next.0)
    where
      by_test : (b : Bool) → AreHoldable s.now s.nodes (if b then next else best).1
      by_test true = k
      by_test false = h

  or_none : (b : Bool) (ps : List Placement) → AreHoldable s.now s.nodes ps → AreHoldable s.now s.nodes (if b then ps else [])
  or_none true ps h = h
  or_none false ps h = tt

  mutual
    pub holdable : (held : List Placement) (t : Tree) → made.IsSound t → EachLeaf (HasKnownSet s) t → AreHoldable s.now s.nodes (fit_beside s job taken held t)
    holdable held (one l) sound known = leaf_holdable held l sound.0 known
    holdable held (join greatest ts) sound known = best_holdable held ts (0, []) sound.1 known tt
    holdable held (join least ts) sound known = or_none (all_fit s job taken held ts) (fits s job taken held ts) (all_holdable held ts sound.1 known)
    holdable held (join added ts) sound known = all_holdable held ts sound.1 known
    holdable held (scale t by) sound known = holdable held t sound.0 known
    holdable held (barrier t v) sound known =
        or_none (nat_le v (fit_worth job t (fit_beside s job taken held t))) (fit_beside s job taken held t) (holdable held t sound.0 known)

    best_holdable : (held : List Placement) (ts : Trees) (best : ℕ × List Placement) → made.AreSound ts → EachLeafOf (HasKnownSet s) ts → AreHoldable s.now s.nodes best.1 → AreHoldable s.now s.nodes (best_fit s job taken held ts best).1
    best_holdable held none best sound known h = h
    best_holdable held (more t ts) best sound known h =
        let next : ℕ × List Placement = (fit_worth job t (fit_beside s job taken held t), fit_beside s job taken held t) in
        best_holdable held ts (better best next) sound.1 known.1 (better_holdable best next h (holdable held t sound.0 known.0))

    all_holdable : (held : List Placement) (ts : Trees) → made.AreSound ts → EachLeafOf (HasKnownSet s) ts → AreHoldable s.now s.nodes (fits s job taken held ts)
    all_holdable held none sound known = tt
    all_holdable held (more t ts) sound known =
        let first = fit_beside s job taken held t in
        both_holdable s.now s.nodes first (fits s job taken (held ++ first) ts) (holdable held t sound.0 known.0) (all_holdable (held ++ first) ts sound.1 known.1)

module _ (s : Space) (sound : IsSound s) (b : Bid) (pending : Contains s.bids b) where
  good_bid : IsSoundBid s b
  good_bid = All-contains (IsSoundBid s) s.bids b sound.sound_bids pending

  -- the sets of a pending job are known
  pub known_leaves : EachLeaf (HasKnownSet s) b.expr
  known_leaves = EachLeaf-from (HasKnownSet s) b.expr (λ l at. All-contains (HasKnownSet s) (leaves b.expr) l good_bid.known_sets at)

  module _ (masks : List ℕ) where
    -- beside marks
    abbrev pub marked_fit : List Placement
    marked_fit = fit_beside s b.job (is_marked masks s.now) [] b.expr

    pub fit_holdable : AreHoldable s.now s.nodes marked_fit
    fit_holdable = holdable s b.job (is_marked masks s.now) sound.few_slots [] b.expr good_bid.well_made.sound known_leaves

    -- the job got its fit
    pub served_by : (held : List Placement) → TellsOf s held masks → length masks ≡ s.nodes → (before : List Grant) →
        IsServed s held b (all_marked s.now masks marked_fit) before (before ++ grants_of b.job marked_fit)
    served_by held tells as_many before = record {
      grants = ap (λ ps. before ++ grants_of b.job ps) same;
      tells = subst (λ ps. TellsOf s (held ++ ps) (all_marked s.now masks marked_fit)) same (tells_all s sound.few_slots held marked_fit masks as_many tells fit_holdable);
    }
      where
        same : marked_fit ≡ fit s b.job held b.expr
        same = fit-same s b.job (is_marked masks s.now) (is_held held) tells.tells b.expr (good_leaves b.expr good_bid.well_made.sound) []

-- one job more was served
pub served_more : (s : Space) (held : List Placement) (rs : List Ranked) (i : ℕ) (r : Ranked) (b d : Bid) (masks : List ℕ) (before after whole : List Grant) →
    i < length rs → r ≡ get_or rs i r → job_at s.bids d r ≡ b → IsServed s held b masks before after →
    before ++ served s held (map (job_at s.bids d) (drop i rs)) ≡ whole →
    after ++ served s (held ++ fit s b.job held b.expr) (map (job_at s.bids d) (drop (i + 1) rs)) ≡ whole
served_more s held rs i r b d masks before after whole lt is here got so_far =
    let later = map (job_at s.bids d) (drop (i + 1) rs) in
    let rest = served s (held ++ fit s b.job held b.expr) later in
    let next : map (job_at s.bids d) (drop i rs) ≡ b ∷ later =
    ap (map (job_at s.bids d)) (drop_more rs i r lt) ∙ ap (λ p. job_at s.bids d p ∷ later) (sym is) ∙ ap (λ c. c ∷ later) here in
    ap (λ gs. gs ++ rest) got.grants ∙ append_assoc before (grants_of b.job (fit s b.job held b.expr)) rest
    ∙ ap (λ bs. before ++ served s held bs) (sym next) ∙ so_far
