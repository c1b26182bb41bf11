use Rattle.std.proofs.Common.{◌≡◌, ◌++◌, ◌∷◌, [], rules, sym, subst}
use Rattle.std.proofs.lemmas.List.{nil_from_length}
use Rattle.std.proofs.lemmas.List.Elements.{All-nil}
use Rattle.tetri_workload.specs.Reading.{AreHandled}
use Rattle.tetri_workload.proofs.EntryLemmas.{submit_of}
use Rattle.tetri_workload.proofs.IntakeLemmas.{comes-first}
use Rattle.tetri_workload.proofs.WaitingLemmas.{IsApart, apart-unmarked}
use Rattle.tetri_workload.proofs.intake.Intake.passes.Goals as goal

pub returns-then-is_full-clause-handled : goal.returns-then-is_full-clause-handled
returns-then-is_full-clause-handled c = λ passed o all seconds given.
    let s = c.args.settings.now in
    let i = c.args.self.now in
    let held = i.waiting.held.items in
    let job = c.args.job.now in
    let more = all ++ job ∷ [] in
    let none : held ≡ [] = nil_from_length held (search (rules, c.if-is_empty.true, c.is_empty.ensures)) in
    let apart : IsApart (submit_of job) held = subst (IsApart (submit_of job)) (sym none) (All-nil (λ j. submit_of job ≡ submit_of j → ⊥)) in
    subst (λ v. AreHandled s o more v.held.items c.handle.new.self) (sym c.in_ok-handle.ensures.waiting)
    (c.in_ok-handle.ensures.handled o more held (comes-first s o all held i job apart given))

pub returns-in_ok-leave-in-Err-clause-handled : goal.returns-in_ok-leave-in-Err-clause-handled
returns-in_ok-leave-in-Err-clause-handled c = λ passed o all seconds given.
    let s = c.args.settings.now in
    let i = c.args.self.now in
    let w = i.waiting in
    let held = w.held.items in
    let job = c.args.job.now in
    let more = all ++ job ∷ [] in
    subst (λ v. AreHandled s o more v.held.items c.leave.new.self) (sym c.in_ok-leave-in-Err.ensures.waiting)
    (c.in_ok-leave-in-Err.ensures.handled o more held
    (comes-first s o all held i job (apart-unmarked w.seconds held (submit_of job) seconds (search (rules, c.if-may_share.false, c.may_share.ensures))) given))
