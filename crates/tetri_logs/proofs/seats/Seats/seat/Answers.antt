use Rattle.std.proofs.Common.{◌≡◌, ◌∙◌}
use Rattle.std.proofs.lemmas.List.Elements.{All-push, All-same}
use Rattle.tetri_logs.specs.SetText.{seat_of}
use Rattle.tetri_logs.specs.declared.seats.Known.{Known}
use Rattle.tetri_logs.proofs.seats.Seats.seat.Goals as goal

pub invariant_of-self : goal.invariant_of-self
invariant_of-self c =
    let P : Known → Type 0 = λ k. k.seat ≡ seat_of k.partitions.now k.constraints.now in
    (All-same P _ _ c.in_ok-push.ensures.items (All-push P _ _ c.self.invariant.0 (c.in_ok-shared.ensures ∙ c.in_ok-seat.ensures)), c.self.invariant.1)
