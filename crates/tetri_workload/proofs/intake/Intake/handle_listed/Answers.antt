use Rattle.std.proofs.Common.{◌++◌, subst, sym}
use Rattle.tetri_workload.specs.Reading.{AreHandled}
use Rattle.tetri_workload.specs.Listed.{jobs_at}
use Rattle.tetri_workload.proofs.EntryLemmas.{submit_of}
use Rattle.tetri_workload.proofs.IntakeLemmas.{put_in_order}
use Rattle.tetri_workload.proofs.OrderLemmas.{IsMoveBy-before}
use Rattle.tetri_workload.proofs.intake.Intake.handle_listed.Goals as goal

pub returns-clause-handled : goal.returns-clause-handled
returns-clause-handled c = λ o all rest given.
    let s = c.args.settings.now in
    let i = c.args.self.now in
    let jobs = c.args.jobs.now in
    let sorted = jobs_at jobs c.in_ok-order.order.items in
    let order = c.in_ok-order.ensures.order in
    let in_order = put_in_order s o all (jobs ++ rest) (sorted ++ rest) i (IsMoveBy-before submit_of rest jobs sorted (record { moved = order.moved; stable = order.stable })) given in
    c.in_ok-handle_each.ensures.handled o all rest (subst (λ ls. AreHandled s o all (jobs_at jobs ls ++ rest) i) (sym c.deref.ensures.value) in_order)
