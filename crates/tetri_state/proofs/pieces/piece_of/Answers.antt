use Rattle.std.proofs.Common.{rules, ◌≤ℤ◌, ℤ, negsuc, pos, sym, subst, w32}
use mir.Val.{SFits}
use Rattle.std.proofs.lemmas.Int.{to_z-of_z}
use Rattle.tetri_trace.proofs.TraceLaws.{submission_sound}
use Rattle.tetri_trace.specs.Scenario.{Submission, scenario}
use Rattle.tetri_state.proofs.pieces.piece_of.Goals as goal

pub real_dur-requires-clause-not_too_early : goal.real_dur-requires-clause-not_too_early
real_dur-requires-clause-not_too_early c =
    let late : ℤ = c.job.result.now.late in
    let fits : SFits w32 late = search rules in
    let good = submission_sound (scenario c.args.trace.now) c.requires.sound c.args.grant.now.job c.requires.known in
    subst (λ (z : ℤ). negsuc 9999 ≤ℤ z) (sym (to_z-of_z w32 late fits)) (subst (λ (s : Submission). negsuc 9999 ≤ℤ s.late) (sym c.job.ensures) good.not_too_early)

pub real_dur-requires-clause-not_too_late : goal.real_dur-requires-clause-not_too_late
real_dur-requires-clause-not_too_late c =
    let late : ℤ = c.job.result.now.late in
    let fits : SFits w32 late = search rules in
    let good = submission_sound (scenario c.args.trace.now) c.requires.sound c.args.grant.now.job c.requires.known in
    subst (λ (z : ℤ). z ≤ℤ pos 10000) (sym (to_z-of_z w32 late fits)) (subst (λ (s : Submission). s.late ≤ℤ pos 10000) (sym c.job.ensures) good.not_too_late)
