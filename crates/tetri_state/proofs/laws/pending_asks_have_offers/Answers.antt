use Rattle.std.proofs.Common.{◌≡◌, ◌+◌, false, arith}
use Rattle.tetri_base.proofs.ListLaws.{Each-at}
use Rattle.tetri_trace.specs.Scenario.{scenario}
use Rattle.tetri_state.specs.Begin.{has_expired}
use Rattle.tetri_state.specs.Snapshot.{ArrivedBefore}
use Rattle.tetri_state.proofs.OfferedLemmas.{ask_has_offer}
use Rattle.tetri_state.proofs.ReachedLemmas.{stands_begun}
use Rattle.tetri_state.proofs.laws.pending_asks_have_offers.Goals as goal

pub returns : goal.returns
returns c = λ s job a reached at is.
    let t = scenario c.args.trace.now in
    let stands = stands_begun t s c.requires reached in
    ask_has_offer t c.requires job s.now a (Each-at (ArrivedBefore t (s.now + 1)) s.pending job stands.arrived at)
    (Each-at (λ j. has_expired t s.now j ≡ false) s.pending job (stands.alive (omega arith)) at) is
