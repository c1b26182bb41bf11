use Rattle.std.proofs.Common.{◌≡◌, ◌∙◌, ◌++◌, ap, ap₂, drop, false, refl, subst, sym, take}
use Rattle.std.proofs.lemmas.List.{take-append-drop}
use Rattle.std.proofs.lemmas.List.Sorted.{All-permutation}
use Rattle.tetri_logs.specs.Placing.{is_outside}
use Rattle.tetri_logs.specs.Scale.{moment_of}
use Rattle.tetri_workload.specs.Ordering.{IsMoveBy}
use Rattle.tetri_workload.specs.Reading.{AreHandled, AreWanted}
use Rattle.tetri_workload.proofs.EntryLemmas.{submit_of}
use Rattle.tetri_workload.proofs.IntakeLemmas.{held-other, put_in_order, wanted-behind}
use Rattle.tetri_workload.proofs.intake.Intake.release.Goals as goal

pub returns-clause-wanted : goal.returns-clause-wanted
returns-clause-wanted c = λ wanted.
    let s = c.args.settings.now in
    let held = c.args.self.now.waiting.held.items in
    let sorted = c.by_submission.new.jobs.items in
    let order = c.in_ok-by_submission.ensures in
    let many = c.saturating_sub-many.result in
    let jobs : c.replace-jobs.result.items ≡ held = ap (λ v. v.items) c.replace-jobs.ensures.value in
    let moves : IsMoveBy submit_of held sorted = subst (λ js. IsMoveBy submit_of js sorted) jobs (record { moved = order.moved; stable = order.stable }) in
    let all : AreWanted s sorted = All-permutation (λ j. is_outside s (moment_of s j.account) ≡ false) held sorted moves.moved wanted in
    let waits : c.hold.new.self.held.items ≡ drop many sorted = c.in_ok-hold.ensures.held ∙ c.drop_first.ensures in
    subst (AreWanted s) (sym waits) (wanted-behind s (take many sorted) (drop many sorted) (subst (AreWanted s) (sym (take-append-drop many sorted)) all))

pub returns-clause-handled : goal.returns-clause-handled
returns-clause-handled c = λ o all given.
    let s = c.args.settings.now in
    let i = c.args.self.now in
    let held = i.waiting.held.items in
    let sorted = c.by_submission.new.jobs.items in
    let order = c.in_ok-by_submission.ensures in
    let many = c.saturating_sub-many.result in
    let jobs : c.replace-jobs.result.items ≡ held = ap (λ v. v.items) c.replace-jobs.ensures.value in
    let moves : IsMoveBy submit_of held sorted = subst (λ js. IsMoveBy submit_of js sorted) jobs (record { moved = order.moved; stable = order.stable }) in
    let in_order : AreHandled s o all sorted i = put_in_order s o all held sorted i moves given in
    let first = take many c.deref.result.now in
    let rest = c.drop_first.new.jobs.items in
    let parted : first ++ rest ≡ sorted = ap₂ (λ xs ys. xs ++ ys) (ap (take many) c.deref.ensures.value) c.drop_first.ensures ∙ take-append-drop many sorted in
    let done : AreHandled s o all rest c.handle_all.new.self =
    c.in_ok-handle_all.ensures.handled o all rest (held-other s o all (first ++ rest) i _ refl refl refl refl (subst (λ js. AreHandled s o all js i) (sym parted) in_order)) in
    held-other s o all c.hold.new.self.held.items c.handle_all.new.self _ refl refl refl refl (subst (λ js. AreHandled s o all js c.handle_all.new.self) (sym c.in_ok-hold.ensures.held) done)
