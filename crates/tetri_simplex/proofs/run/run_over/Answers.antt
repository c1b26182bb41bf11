use Rattle.std.proofs.Common.{◌≡◌, arith, rules, sym, subst}
use Rattle.tetri_ip.specs.Points.{bounds_of}
use Rattle.tetri_simplex.specs.Certificates.{Certifies}
use Rattle.tetri_simplex.specs.Machine.{machine}
use Rattle.tetri_simplex.specs.Outcomes.{end_of}
use Rattle.tetri_simplex.proofs.EndFacts.{machine_certified}
use Rattle.tetri_simplex.proofs.Running.{machine_is, start_places}
use Rattle.tetri_simplex.proofs.run.run_over.Goals as goal

pub loop-outcome-init : goal.loop-outcome-init
loop-outcome-init g c = record {
  factors = c.requires.length;
  few = omega arith;
  sound = c.in_ok-dictionary.ensures.sound;
  places = start_places c.args.p.now (bounds_of c.args.r.now) _ c.in_ok-dictionary.ensures.first;
  same = machine_is c.args.p.now (bounds_of c.args.r.now) c.args.best _ c.in_ok-dictionary.ensures.first;
}

pub returns-in-Ok-Some-clause-certified : goal.returns-in-Ok-Some-clause-certified
returns-in-Ok-Some-clause-certified g c =
    let e : end_of c.in-Ok-Some.outcome ≡ machine c.args.p.now (bounds_of c.args.r.now) c.args.best = search rules in
    subst (λ x. Certifies c.args.p.now (bounds_of c.args.r.now) c.args.best x) (sym e) (machine_certified c.args.p.now (bounds_of c.args.r.now) c.args.best c.requires.in_box)
