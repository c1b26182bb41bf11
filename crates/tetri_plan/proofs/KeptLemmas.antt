-- What is kept of several allotments.
use Rattle.std.proofs.Common.{◌≡◌, ℕ, suc, ◌+◌, ◌<◌, ◌≤◌, ◌∙◌, refl, sym, ap, arith, List, [], ◌∷◌, drop, get_or, length, map, cond, Bool, true, false, All}
use Rattle.std.proofs.Math.Seq.{drop-cons}
use Rattle.std.specs.Prelude.{nat_lt, Option, Some, None}
use Rattle.std.proofs.lemmas.Bool.{ltb-true, ltb-false}
use Rattle.std.proofs.lemmas.List.Elements.{All-nil, All-weaker}
use Rattle.tetri_base.specs.Lists.{Each, sum_of}
use Rattle.tetri_base.proofs.OrderLaws.{sum_of-sum_by}
use Rattle.tetri_cert.specs.declared.certificate.Certificate.{Certificate}
use Rattle.tetri_cert.specs.declared.certificate.Certificate.TheVariants.{Tops, Tree}
use Rattle.tetri_cert.specs.declared.marks.Cell.{Cell}
use Rattle.tetri_strl.specs.declared.grants.Grant.{Grant}
use Rattle.tetri_strl.specs.Thrifty.{IsThriftyFor}
use Rattle.tetri_strl.proofs.ExprLaws.{apart_of_pairs, trimmed_thrifty, worth_of-none}
use Rattle.tetri_space.specs.Lawful.{IsLawful, IsLawfulGrant}
use Rattle.tetri_space.specs.Sound.{IsSound, IsSoundBid}
use Rattle.tetri_space.specs.Space.{Bid, Space}
use Rattle.tetri_space.specs.Total.{bid_worth, total_in}
use Rattle.tetri_space.specs.Trimmed.{IsThriftyForAll, all_trimmed}
use Rattle.tetri_space.proofs.InstanceLaws.{all_of, each_of, lawful_trimmed, thrifty_trimmed, total_in_order, total_trimmed}
use Rattle.tetri_search.specs.Follow.{last_whole}
use Rattle.tetri_claims.specs.Planned.{Planned}
use Rattle.tetri_plan.specs.Chosen.{IsChosen, better, better_found, first_best, found_at, kept, searched}
use Rattle.tetri_plan.specs.Plans.{HasNoWhole}

-- what an allotment needs to be planned
pub record IsFair (s : Space) (a : List Grant) : Type 0 where
  pub lawful : IsLawful s a
  pub thrifty : IsThriftyForAll s a

module _ (s : Space) where
  -- what both allotments have the better one has
  pub of_better : (P : List Grant → Type 0) (a b : List Grant) → P a → P b → P (better s a b)
  of_better P a b p q = elim (nat_lt (total_in s a) (total_in s b)) as (λ t. P (cond t b a)) [ true ↦ q | false ↦ p ]

  -- the better one is worth as much as each
  pub better_bounds : (a b : List Grant) → (total_in s a ≤ total_in s (better s a b)) × (total_in s b ≤ total_in s (better s a b))
  better_bounds a b = by_test (nat_lt (total_in s a) (total_in s b)) refl
    where
      by_test : (t : Bool) → nat_lt (total_in s a) (total_in s b) ≡ t → (total_in s a ≤ total_in s (cond t b a)) × (total_in s b ≤ total_in s (cond t b a))
      by_test true e = let h = ltb-true _ _ e in (omega arith, omega arith)
      by_test false e = let h = ltb-false _ _ e in (omega arith, omega arith)

  pub first_bounds : (a : List Grant) (bs : List (List Grant)) → total_in s a ≤ total_in s (first_best s a bs)
  first_bounds a [] = omega arith
  first_bounds a (b ∷ bs) = omega (arith, (better_bounds a b).0, first_bounds (better s a b) bs)

  -- what a search leaves is worth no less than what was known before it
  searched_bounds : (best : List Grant) (c : Certificate) → total_in s best ≤ total_in s (searched s best c)
  searched_bounds best (Tops columns rows) = omega arith
  searched_bounds best (Tree marks) = by_found (last_whole marks)
    where
      by_found : (o : Option (List Cell)) → total_in s best ≤ total_in s (better_found s best o)
      by_found None = omega arith
      by_found (Some cells) = (better_bounds best (found_at s cells)).0

  -- where it finds no whole point it leaves what was known
  searched_none : (best : List Grant) (c : Certificate) → HasNoWhole c → searched s best c ≡ best
  searched_none best (Tops columns rows) none = refl
  searched_none best (Tree marks) none = ap (better_found s best) none

  -- one more given allotment
  pub next_given : (best : List Grant) (given : List (List Grant)) (i : ℕ) (a t b : List Grant) → i < length given → a ≡ get_or given i a → t ≡ all_trimmed s a → b ≡ better s best t →
      first_best s b (map (all_trimmed s) (drop (i + 1) given)) ≡ first_best s best (map (all_trimmed s) (drop i given))
  next_given best given i a t b lt is trimmed is_better =
      let next : suc i ≡ i + 1 = omega arith in
      let rest : drop i given ≡ a ∷ drop (i + 1) given =
      drop-cons given i a lt ∙ ap (λ (x : List Grant). x ∷ drop (suc i) given) (sym is) ∙ ap (λ k. a ∷ drop k given) next in
      ap (λ (x : List Grant). first_best s x (map (all_trimmed s) (drop (i + 1) given))) (is_better ∙ ap (better s best) trimmed)
      ∙ sym (ap (λ (xs : List (List Grant)). first_best s best (map (all_trimmed s) xs)) rest)

  -- no grant is worth nothing
  nothing_each : (bs : List Bid) → Each (IsSoundBid s) bs → sum_of (bid_worth []) bs ≡ 0
  nothing_each [] sound = refl
  nothing_each (b ∷ bs) sound =
      let here : bid_worth [] b ≡ 0 = worth_of-none [] b.job b.expr sound.0.well_made.sound (All-nil _) in
      omega (arith, here, nothing_each bs sound.1)

  module _ (sound : IsSound s) where
    pub nothing_worth : total_in s [] ≡ 0
    nothing_worth = sym (sum_of-sum_by (bid_worth []) s.bids) ∙ nothing_each s.bids (each_of (IsSoundBid s) s.bids sound.sound_bids)

    thrifty_nothing : (b : Bid) → IsSoundBid s b → IsThriftyFor [] b.job b.expr
    thrifty_nothing b sound_bid = trimmed_thrifty [] b.job b.expr sound_bid.well_made.sound (apart_of_pairs b.expr sound_bid.well_made.distinct)

    nothing_is_fair : IsFair s []
    nothing_is_fair = record {
      lawful = record { grants = All-nil (IsLawfulGrant s); apart = λ j k d lt within. absurd (omega (arith, within)) };
      thrifty = All-weaker (IsSoundBid s) (λ b. IsThriftyFor [] b.job b.expr) thrifty_nothing s.bids sound.sound_bids;
    }

    -- what of lawful grants earns something
    pub trimmed_is_fair : (a : List Grant) → IsLawful s a → IsFair s (all_trimmed s a)
    trimmed_is_fair a lawful = record { lawful = lawful_trimmed s sound a lawful; thrifty = thrifty_trimmed s sound a }

    first_is_fair : (a : List Grant) (given : List (List Grant)) → IsFair s a → Each (IsLawful s) given → IsFair s (first_best s a (map (all_trimmed s) given))
    first_is_fair a [] fair lawful = fair
    first_is_fair a (b ∷ bs) fair lawful =
        first_is_fair (better s a (all_trimmed s b)) bs (of_better (IsFair s) a (all_trimmed s b) fair (trimmed_is_fair b lawful.0)) lawful.1

    -- what is kept may be planned, where what is carried over may be
    pub kept_is_fair : (carry : List Grant) (given : List (List Grant)) → IsFair s carry → All (IsLawful s) given → IsFair s (kept s carry given)
    kept_is_fair carry given fair lawful =
        first_is_fair (better s [] carry) given (of_better (IsFair s) [] carry nothing_is_fair fair) (each_of (IsLawful s) given lawful)

    -- and is worth no less
    pub kept_bounds : (carry : List Grant) (given : List (List Grant)) → total_in s carry ≤ total_in s (kept s carry given)
    kept_bounds carry given = omega (arith, (better_bounds [] carry).1, first_bounds (better s [] carry) (map (all_trimmed s) given))

    first_bounds_each : (a : List Grant) (given : List (List Grant)) → Each (λ g. total_in s g ≤ total_in s (first_best s a (map (all_trimmed s) given))) given
    first_bounds_each a [] = tt
    first_bounds_each a (g ∷ gs) =
        let b = better s a (all_trimmed s g) in
        (omega (arith, total_trimmed s sound g, (better_bounds a (all_trimmed s g)).1, first_bounds b (map (all_trimmed s) gs)), first_bounds_each b gs)

    -- and no less than each given allotment
    pub given_bounds : (carry : List Grant) (given : List (List Grant)) → All (λ g. total_in s g ≤ total_in s (kept s carry given)) given
    given_bounds carry given = all_of (λ g. total_in s g ≤ total_in s (kept s carry given)) given (first_bounds_each (better s [] carry) given)

    -- a chosen plan is worth no less than what was kept
    pub chosen_bounds : (carry : List Grant) (given : List (List Grant)) (budget : ℕ) (p : Planned) → IsChosen s carry given budget p → total_in s p.grants ≡ p.value →
        total_in s (kept s carry given) ≤ p.value
    chosen_bounds carry given budget p chosen attained =
        let best = searched s (kept s carry given) p.certificate in
        let same : total_in s p.grants ≡ total_in s best = ap (total_in s) chosen.grants ∙ total_in_order s best in
        omega (arith, same, attained, searched_bounds (kept s carry given) p.certificate)

    -- and no more where the search found no whole point
    pub unfound_worth : (carry : List Grant) (given : List (List Grant)) (budget : ℕ) (p : Planned) → IsChosen s carry given budget p → total_in s p.grants ≡ p.value →
        HasNoWhole p.certificate → total_in s (kept s carry given) ≡ p.value
    unfound_worth carry given budget p chosen attained none =
        let best = searched s (kept s carry given) p.certificate in
        let same : total_in s p.grants ≡ total_in s best = ap (total_in s) chosen.grants ∙ total_in_order s best in
        ap (total_in s) (sym (searched_none (kept s carry given) p.certificate none)) ∙ sym same ∙ attained

    -- with nothing given it is worth as much
    pub carried_worth : (carry : List Grant) → total_in s (kept s carry []) ≡ total_in s carry
    carried_worth carry = by_test (nat_lt (total_in s []) (total_in s carry)) refl
      where
        by_test : (t : Bool) → nat_lt (total_in s []) (total_in s carry) ≡ t → total_in s (cond t carry []) ≡ total_in s carry
        by_test true e = refl
        by_test false e = let h = ltb-false _ _ e in omega (arith, nothing_worth)
