use Rattle.std.proofs.Common.{◌≡◌, ◌∙◌, ◌++◌, ◌∷◌, [], ap, false, refl, subst, sym, true}
use Rattle.std.proofs.lemmas.List.Elements.{All-push}
use Rattle.tetri_logs.specs.Origin.{begun_at}
use Rattle.tetri_logs.specs.Placing.{is_outside}
use Rattle.tetri_logs.specs.Scale.{moment_of}
use Rattle.tetri_workload.specs.Reading.{AreHandled, AreWanted}
use Rattle.tetri_workload.proofs.IntakeLemmas.{arrived, held-other, left-outside}
use Rattle.tetri_workload.proofs.intake.Intake.hold.Goals as goal

pub returns-then-is_outside-clause-handled : goal.returns-then-is_outside-clause-handled
returns-then-is_outside-clause-handled c = λ x o all wanted given.
    let s = c.args.settings.now in
    let i = c.args.self.now in
    let job = c.args.job in
    let outside : is_outside s (moment_of s job.account) ≡ true = sym (c.is_outside.ensures ∙ ap (is_outside s) c.moment_of.ensures.value) ∙ c.if-is_outside.true in
    left-outside (begun_at s x) o all i.waiting.held.items i _ job outside wanted c.in_ok-leave.ensures.tally refl refl refl given

pub returns-clause-wanted : goal.returns-clause-wanted
returns-clause-wanted c = λ wanted.
    let s = c.args.settings.now in
    let job = c.args.job in
    let within : is_outside s (moment_of s job.account) ≡ false = sym (c.is_outside.ensures ∙ ap (is_outside s) c.moment_of.ensures.value) ∙ c.if-is_outside.false in
    subst (AreWanted s) (sym c.in_ok-add.ensures.held)
    (All-push (λ j. is_outside s (moment_of s j.account) ≡ false) c.args.self.now.waiting.held.items job wanted within)

pub returns-clause-handled : goal.returns-clause-handled
returns-clause-handled c = λ x o all wanted given.
    let b = begun_at c.args.settings.now x in
    let i = c.args.self.now in
    let job = c.args.job in
    let before = i.waiting.held.items in
    let more = all ++ job ∷ [] in
    held-other b o more c.add.new.self.held.items i _ refl refl refl refl
    (subst (λ js. AreHandled b o more js i) (sym c.in_ok-add.ensures.held) (arrived b o all before i (job ∷ []) given))
