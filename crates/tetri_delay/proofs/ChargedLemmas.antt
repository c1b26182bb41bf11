-- The instance with a cost of delay is sound.
use Rattle.std.proofs.Common.{ℕ, ◌*◌, ◌/◌, ◌<◌, ◌≤◌, max, min, Bool, true, false, cond, List, [], ◌∷◌, length, map, get_or, sym, subst, arith}
use Rattle.std.specs.Prelude.{All}
use Rattle.std.proofs.Math.Nat.{div-mul-le_self}
use Rattle.std.proofs.lemmas.Nat.{mul-le}
use Rattle.std.proofs.lemmas.List.{get_or-map, length-map}
use Rattle.std.proofs.lemmas.List.Elements.{All-head, All-map, All-tail, All-weaker}
use Rattle.tetri_delay.proofs.AlikeLemmas.{same_sets, well_made_alike}
use Rattle.tetri_delay.specs.Charged.{charge_of, charged_bid, charged_space, is_held, most_in}
use Rattle.tetri_delay.specs.Factors.{grain}
use Rattle.tetri_delay.specs.declared.charging.Rates.{Rates}
use Rattle.tetri_space.specs.Sound.{IsSound, IsSoundBid}
use Rattle.tetri_space.specs.Space.{Bid, Space, set_at}
use Rattle.tetri_strl.specs.Tree.{Tree, one, join, scale, barrier}
use Rattle.tetri_strl.specs.WellMade.{IsSound as IsSoundTree, PEAK, peak}

-- no worth of a sound expression is above the limit
pub peak_small : (t : Tree) → IsSoundTree t → peak t ≤ PEAK
peak_small (one l) h = h.1
peak_small (join op ts) h = h.2
peak_small (scale t s) h = h.2
peak_small (barrier t v) h = omega (arith, h.1, peak_small t h.0)

pub most_small : (s : Space) (bs : List Bid) → All (IsSoundBid s) bs → most_in bs ≤ PEAK
most_small s [] all = omega arith
most_small s (b ∷ bs) all =
    omega (arith, peak_small b.expr (All-head (IsSoundBid s) b bs all).well_made.sound, most_small s bs (All-tail (IsSoundBid s) b bs all))

-- a factor of a job keeps its worths within the limit
times_fit : (n p : ℕ) → min n (PEAK / max p 1) * p ≤ PEAK
times_fit n p =
    let first = mul-le (min n (PEAK / max p 1)) p (PEAK / max p 1) (max p 1) (omega arith) (omega arith) in
    omega (arith, first, div-mul-le_self PEAK (max p 1))

times_of_fit : (test : Bool) (n p : ℕ) → cond test 0 (min n (PEAK / max p 1)) * p ≤ PEAK
times_of_fit true n p = omega arith
times_of_fit false n p = times_fit n p

module _ (rates : Rates) (first : List ℕ) (held : List Bool) (s : Space) (sound : IsSound s) where
  f : Bid → Bid
  f = charged_bid rates first held s.now (grain (most_in s.bids))

  sound_bid : (b : Bid) → IsSoundBid s b → IsSoundBid (charged_space rates first held s) (f b)
  unfolding f
  sound_bid b h = record {
    well_made = well_made_alike (charge_of rates first held s.now (grain (most_in s.bids)) b) 1 b.expr h.well_made (times_of_fit (is_held held b.job) _ (peak b.expr));
    known_sets =
        let is_known = λ (n : ℕ). (n < length s.sets) × All (λ m. m < s.nodes) (set_at s n) in
        let there = same_sets is_known (charge_of rates first held s.now (grain (most_in s.bids)) b) 1 b.expr (λ k d within. ((h.known_sets k d within).known, (h.known_sets k d within).there)) in
        λ k d within. record { known = (there k d within).0; there = (there k d within).1 };
  }

  pub charged_sound : IsSound (charged_space rates first held s)
  unfolding f
  charged_sound = record {
    early = sound.early;
    some_slots = sound.some_slots;
    few_slots = sound.few_slots;
    some_nodes = sound.some_nodes;
    few_nodes = sound.few_nodes;
    all_known = sound.all_known;
    all_marked = sound.all_marked;
    busy_within = sound.busy_within;
    sound_closures = sound.sound_closures;
    few_jobs = omega (arith, length-map s.bids f, sound.few_jobs);
    ascending = λ i j d lt within.
        let inside : j < length s.bids = omega (arith, length-map s.bids f, within) in
        let first_is = get_or-map f s.bids i d d (omega arith) in
        let second_is = get_or-map f s.bids j d d inside in
        let before = sound.ascending i j d lt inside in
        subst (λ (b : Bid). b.job < (get_or (map f s.bids) j d).job) (sym first_is) (subst (λ (b : Bid). (f (get_or s.bids i d)).job < b.job) (sym second_is) before);
    sound_bids = All-map (IsSoundBid (charged_space rates first held s)) f s.bids (All-weaker (IsSoundBid s) (λ b. IsSoundBid (charged_space rates first held s) (f b)) sound_bid s.bids sound.sound_bids);
  }
