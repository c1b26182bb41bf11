-- A job that starts beside marks starts as the definitions say.
use Rattle.std.proofs.Common.{◌≡◌, ℕ, ◌+◌, ◌-◌, ◌<◌, ◌≤◌, ◌==◌, List, [], ◌∷◌, ◌++◌, Bool, true, false, All, Contains, drop, get_or, length, map, cond, suc, refl, sym, ap, ◌∙◌, subst, arith, nat_le}
use Rattle.std.specs.List.{range_with_len}
use Rattle.std.proofs.lemmas.Bool.Decides.{nat_tests}
use Rattle.std.proofs.lemmas.Bool.{true≢false}
use Rattle.std.proofs.lemmas.List.{append-nil, drop-map, drop_more, get_or-map, length-map}
use Rattle.std.proofs.lemmas.List.Elements.{All-contains_itself, All-drop}
use Rattle.tetri_strl.specs.declared.grants.Grant.{Grant}
use Rattle.tetri_strl.specs.Aligned.{EachLeaf}
use Rattle.tetri_strl.specs.Tree.{Tree}
use Rattle.tetri_strl.specs.WellMade as made
use Rattle.tetri_space.specs.Slots.{is_marked}
use Rattle.tetri_space.specs.Sound.{HasKnownSet}
use Rattle.tetri_strl.proofs.ExprLaws.{eq_from_test}
use Rattle.tetri_space.specs.Space.{Bid, Space, bid}
use Rattle.tetri_space.specs.declared.instance.Offer.{Offer}
use Rattle.tetri_advice.specs.Fit.{Placement, fit_beside, fit_worth, grants_of, is_held}
use Rattle.tetri_advice.proofs.AdviceLaws.{fit-same}
use Rattle.tetri_greedy.specs.Held.{AreHoldable, TellsOf, all_marked}
use Rattle.tetri_greedy.proofs.GreedyLaws.{good_leaves, holdable, tells_all}
use Rattle.tetri_policy.specs.Start.{first_start, if_worth, or_else, reserved, start_at, worthy_fit}
use Rattle.tetri_policy.specs.Started.{Starts}

-- nothing more is held
pub tells_same : (s : Space) (held : List Placement) (masks : List ℕ) → TellsOf s held masks → TellsOf s (held ++ []) masks
tells_same s held masks = subst (λ h. TellsOf s h masks) (sym (append-nil held))

-- a job that starts with nothing
pub starts_none : (s : Space) (job : ℕ) (held ps : List Placement) (masks : List ℕ) → [] ≡ ps → TellsOf s held masks → Starts s job held ps masks []
starts_none s job held ps masks none tells =
    subst (λ qs. Starts s job held qs masks []) none (record { grants_are = refl; tells = tells_same s held masks tells })

worth_something : (w : ℕ) (ps : List Placement) → (w ≡ 0 → ⊥) → if_worth w ps ≡ ps
worth_something w ps some = let e : nat_le 1 w ≡ true = grind (arith, nat_tests, some) in ap (λ (b : Bool). cond b ps []) e

worth_nothing : (w : ℕ) (ps : List Placement) → w ≡ 0 → if_worth w ps ≡ []
worth_nothing w ps none = ap (λ n. if_worth n ps) none

module _ (s : Space) (few : s.window ≤ 64) (job : ℕ) (t : Tree) (good : made.IsSound t) (known : EachLeaf (HasKnownSet s) t) (masks : List ℕ) where
  -- beside marks
  abbrev pub marked_fit : List Placement
  marked_fit = fit_beside s job (is_marked masks s.now) [] t

  pub fit_holdable : AreHoldable s.now s.nodes marked_fit
  fit_holdable = holdable s job (is_marked masks s.now) few [] t good known

  module _ (held : List Placement) (tells : TellsOf s held masks) where
    worthy_same : if_worth (fit_worth job t marked_fit) marked_fit ≡ worthy_fit s job (is_held held) t
    worthy_same =
        ap (λ ps. if_worth (fit_worth job t ps) ps)
        (fit-same s job (is_marked masks s.now) (is_held held) tells.tells t (good_leaves t good) [])

    pub starts_nothing : fit_worth job t marked_fit ≡ 0 → Starts s job held (worthy_fit s job (is_held held) t) masks []
    starts_nothing none =
        starts_none s job held (worthy_fit s job (is_held held) t) masks (sym (worth_nothing (fit_worth job t marked_fit) marked_fit none) ∙ worthy_same) tells

    pub starts_something : (fit_worth job t marked_fit ≡ 0 → ⊥) → length masks ≡ s.nodes →
        Starts s job held (worthy_fit s job (is_held held) t) (all_marked s.now masks marked_fit) (grants_of job marked_fit)
    starts_something some as_many =
        subst (λ ps. Starts s job held ps (all_marked s.now masks marked_fit) (grants_of job marked_fit))
        (sym (worth_something (fit_worth job t marked_fit) marked_fit some) ∙ worthy_same)
        (record { grants_are = refl; tells = tells_all s few held marked_fit masks as_many tells fit_holdable })

grants_none : (job : ℕ) (ps : List Placement) → length (grants_of job ps) ≡ 0 → ps ≡ []
grants_none job [] e = refl
grants_none job (p ∷ ps) e = absurd (omega (arith, e))

-- a job got these grants, and the marks tell what is held with them
module _ (s : Space) (job : ℕ) (held ps : List Placement) (masks : List ℕ) (gs : List Grant) (starts : Starts s job held ps masks gs) where
  pub got_none : length gs ≡ 0 → ps ≡ []
  got_none none = grants_none job ps (sym (ap (λ (a : List Grant). length a) starts.grants_are) ∙ none)

  pub got_some : (length gs ≡ 0 → ⊥) → ps ≡ [] → ⊥
  got_some some none = some (ap (λ (a : List Grant). length a) starts.grants_are ∙ ap (λ qs. length (grants_of job qs)) none)

  -- where it got none, as much is held as before
  pub tells_as_before : length gs ≡ 0 → TellsOf s held masks
  tells_as_before none = subst (λ h. TellsOf s h masks) (append-nil held) (subst (λ qs. TellsOf s (held ++ qs) masks) (got_none none) starts.tells)

or_else_some : (ps later : List Placement) → (ps ≡ [] → ⊥) → or_else ps later ≡ ps
or_else_some [] later some = absurd (some refl)
or_else_some (p ∷ ps) later some = refl

-- the slots from one on
abbrev pub from_slot : Space → List Placement → Bid → ℕ → ℕ → List Placement
from_slot s held b slot end = first_start s held b (range_with_len slot (end - slot))

module _ (s : Space) (held : List Placement) (b : Bid) (slot end : ℕ) where
  split_slot : slot < end → from_slot s held b slot end ≡ or_else (start_at s held b slot) (from_slot s held b (slot + 1) end)
  split_slot lt =
      let count : end - slot ≡ suc (end - (slot + 1)) = omega (arith, lt) in
      ap (λ n. first_start s held b (range_with_len slot n)) count

  -- where the job cannot start in the slot, the later ones are looked at
  pub slot_passed : slot < end → start_at s held b slot ≡ [] → from_slot s held b slot end ≡ from_slot s held b (slot + 1) end
  slot_passed lt none = split_slot lt ∙ ap (λ ps. or_else ps (from_slot s held b (slot + 1) end)) none

  pub slot_found : slot < end → (start_at s held b slot ≡ [] → ⊥) → from_slot s held b slot end ≡ start_at s held b slot
  slot_found lt some = split_slot lt ∙ or_else_some (start_at s held b slot) (from_slot s held b (slot + 1) end) some

  pub slots_over : end ≤ slot → from_slot s held b slot end ≡ []
  slots_over le = let count : end - slot ≡ 0 = omega (arith, le) in ap (λ n. first_start s held b (range_with_len slot n)) count

pub window_slots : (s : Space) (held : List Placement) (b : Bid) → reserved s held b ≡ from_slot s held b s.now (s.now + s.window)
window_slots s held b = let count : s.window ≡ s.now + s.window - s.now = omega arith in ap (λ n. first_start s held b (range_with_len s.now n)) count

-- ---- whether a list is empty, by its length
pub none_from : {X : Type 0} (xs : List X) (n : ℕ) → n ≡ length xs → true ≡ (n == 0) → length xs ≡ 0
none_from xs n long t = sym long ∙ eq_from_test n 0 (sym t)

pub some_from : {X : Type 0} (xs : List X) (n : ℕ) → n ≡ length xs → false ≡ (n == 0) → length xs ≡ 0 → ⊥
some_from xs n long t none = true≢false (sym (t ∙ ap (λ m. m == 0) (long ∙ none)))

-- ---- the offer at a place
module _ (os : List Offer) (i : ℕ) (o : Offer) (lt : i < length os) (is : o ≡ get_or os i o) where
  pub offers_from : map bid (drop i os) ≡ bid o ∷ map bid (drop (i + 1) os)
  offers_from = ap (map bid) (drop_more os i o lt) ∙ ap (λ x. bid x ∷ map bid (drop (i + 1) os)) (sym is)

  pub offer_pending : Contains (map bid os) (bid o)
  offer_pending = (i, omega (arith, lt, length-map os bid), get_or-map bid os i o (bid o) lt ∙ ap bid (sym is))

-- the offers behind a place are pending
pub behind_pending : (all rest : List Offer) (n : ℕ) → rest ≡ drop n all → All (Contains (map bid all)) (map bid rest)
behind_pending all rest n is =
    subst (λ (xs : List Offer). All (Contains (map bid all)) (map bid xs)) (sym is)
    (subst (All (Contains (map bid all))) (drop-map bid n all) (All-drop (Contains (map bid all)) n (map bid all) (All-contains_itself (map bid all))))
