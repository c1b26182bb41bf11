-- The states that a run reaches.
use Rattle.std.proofs.Common.{◌≡◌, ◌+◌, ◌<◌, List, [], ◌∷◌, length, refl, sym, ap, subst, arith, inl, Result, Ok, Err, IfOk}
use Rattle.std.proofs.lemmas.List.{length-replicate}
use Rattle.std.proofs.lemmas.List.Elements.{All-nil}
use Rattle.tetri_base.specs.Lists.{Each}
use Rattle.tetri_strl.specs.declared.grants.Grant.{Grant}
use Rattle.tetri_trace.specs.Scenario.{Scenario}
use Rattle.tetri_trace.specs.Sound.{IsSound}
use Rattle.tetri_state.specs.declared.pieces.Piece.{Piece}
use Rattle.tetri_state.specs.After.{after}
use Rattle.tetri_state.specs.Begin.{begin}
use Rattle.tetri_state.specs.Reached.{ArePlans, IsPlan, IsReached, Moment, between, begun, state_after}
use Rattle.tetri_state.specs.Snapshot.{Snapshot, opening_state}
use Rattle.tetri_state.proofs.LaunchLemmas.{after_stands}
use Rattle.tetri_state.proofs.PieceLemmas.{NoneShare}
use Rattle.tetri_state.proofs.StandLemmas.{Stands, begin_ahead, begin_stands}

opening_stands : (t : Scenario) → IsSound t → Stands t 0 (opening_state t)
opening_stands t sound = record {
  ascending = tt;
  arrived = tt;
  ran = tt;
  drained = length-replicate (length t.nodes) _;
  pieces = tt;
  apart = tt;
  planned = λ job. inl (All-nil (λ (g : Grant). g.job ≡ job → ⊥));
  alive = λ begun. tt;
}

state_stands : (t : Scenario) → IsSound t → (plans : List (List Grant)) → ArePlans t plans → Stands t (state_after t plans).now (state_after t plans)
state_stands t sound [] plans = opening_stands t sound
state_stands t sound (a ∷ earlier) plans =
    let s = state_after t earlier in
    let early : s.now < 10000 = omega (arith, plans.0, sound.header.few_cycles) in
    after_stands t (begin t s) sound (begin_stands t s sound (state_stands t sound earlier plans.2) early) early a plans.1 (begin_ahead t s)

-- between two cycles
pub stands_between : (t : Scenario) (s : Snapshot) → IsSound t → IsReached t between s → Stands t s.now s
stands_between t s sound reached = subst (λ (r : Snapshot). Stands t r.now r) (sym reached.is) (state_stands t sound reached.plans reached.are_plans)

-- once a slot has begun
module _ (t : Scenario) (s : Snapshot) (sound : IsSound t) (reached : IsReached t begun s) where
  abbrev last : Snapshot
  last = state_after t reached.plans

  pub early_begun : s.now < 10000
  early_begun = omega (arith, reached.is.0, sound.header.few_cycles, ap (λ (r : Snapshot). r.now) reached.is.1)

  pub stands_begun : Stands t (s.now + 1) s
  stands_begun =
      let early : last.now < 10000 = omega (arith, reached.is.0, sound.header.few_cycles) in
      subst (λ (r : Snapshot). Stands t (r.now + 1) r) (sym reached.is.1) (begin_stands t last sound (state_stands t sound reached.plans reached.are_plans) early)

  pub ahead_begun : Each (λ p. s.now < p.expected) s.pieces
  ahead_begun = subst (λ (r : Snapshot). Each (λ (p : Piece). r.now < p.expected) r.pieces) (sym reached.is.1) (begin_ahead t last)

-- from one moment to the next
pub opening_reached : (t : Scenario) → IsReached t between (opening_state t)
opening_reached t = record { plans = []; are_plans = tt; is = refl }

pub begin_reached : (t : Scenario) (s : Snapshot) → IsReached t between s → s.now < t.header.until → IsReached t begun (begin t s)
begin_reached t s reached more = record {
  plans = reached.plans;
  are_plans = reached.are_plans;
  is = (omega (arith, more, ap (λ (r : Snapshot). r.now) reached.is), ap (begin t) reached.is);
}

pub after_reached : (t : Scenario) (s : Snapshot) (a : List Grant) → IsReached t begun s → IsPlan t s a → IsReached t between (after t s a)
after_reached t s a reached plan = record {
  plans = a ∷ reached.plans;
  are_plans = (reached.is.0, subst (λ r. IsPlan t r a) reached.is.1 plan, reached.are_plans);
  is = ap (λ r. after t r a) reached.is.1;
}

-- what a clause gives of an answer
pub if_ok : {T E : Type 0} (P Q : T → Type 0) → ((x : T) → P x → Q x) → (r : Result T E) → IfOk r P → IfOk r Q
if_ok P Q step (Ok x) holds = step x holds
if_ok P Q step (Err e) holds = tt

-- at either moment no two pieces share a node
pub apart_at : (t : Scenario) → IsSound t → (m : Moment) (s : Snapshot) → IsReached t m s → NoneShare s.pieces
apart_at t sound between s reached = (stands_between t s sound reached).apart
apart_at t sound begun s reached = (stands_begun t s sound reached).apart
