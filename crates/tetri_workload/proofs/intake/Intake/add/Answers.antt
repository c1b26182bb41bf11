use Rattle.std.proofs.Common.{◌≡◌, ◌++◌, ◌∷◌, [], sym, subst}
use Rattle.tetri_logs.specs.Origin.{begun_at}
use Rattle.tetri_workload.specs.Reading.{AreHandled}
use Rattle.tetri_workload.proofs.intake.Intake.add.Goals as goal

pub returns-in_ok-add_known-clause-handled : goal.returns-in_ok-add_known-clause-handled
returns-in_ok-add_known-clause-handled c = λ x at o all seconds wanted given.
    let s = c.args.settings.now in
    let i = c.args.self.now in
    let j = c.add_known.new.self in
    let is : x ≡ s.origin = at c.if-known.true in
    subst (λ n. AreHandled (begun_at s n) o (all ++ c.args.job ∷ []) j.waiting.held.items j) (sym is)
    (c.in_ok-add_known.ensures.handled o all seconds wanted (subst (λ n. AreHandled (begun_at s n) o all i.waiting.held.items i) is given))
