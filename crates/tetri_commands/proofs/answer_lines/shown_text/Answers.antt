use Rattle.std.proofs.Common.{subst}
use Rattle.tetri_commands.proofs.PrintLaws.{grants_printable}
use Rattle.tetri_reserve.specs.Answers.{grants_of}
use Rattle.tetri_space.specs.Lawful.{IsLawful}
use Rattle.tetri_space.specs.Space.{space}
use Rattle.tetri_trace.specs.Scenario.{scenario}
use Rattle.tetri_commands.proofs.answer_lines.shown_text.Goals as goal

pub print_plan-requires-clause-printable : goal.print_plan-requires-clause-printable
print_plan-requires-clause-printable c =
    let s = space c.args.inst.now in
    grants_printable (scenario c.args.trace.now) s c.in-Some.plan.grants c.requires.instance (subst (λ o. IsLawful s (grants_of o)) c.in-Some.is c.requires.lawful)
