use Rattle.std.proofs.Common.{ap, sym, eqb, arith}
use Rattle.std.proofs.lemmas.Grind.{common_steps}
use Rattle.tetri_workload.specs.Marks.{is_marked}
use Rattle.tetri_workload.proofs.BitLemmas.{bit_past}
use Rattle.tetri_workload.proofs.marks.Marks.has.Goals as goal

pub returns-in-Some : goal.returns-in-Some
unfolding is_marked
returns-in-Some c = grind (arith, common_steps)

pub returns-in-None : goal.returns-in-None
unfolding is_marked
returns-in-None c = ap (λ b. eqb b 1) (sym (bit_past c.args.self.now.marks.items c.args.place (omega (arith, c.in-None.ensures.lookup))))
