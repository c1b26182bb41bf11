use Rattle.std.proofs.Common.{refl}
use Rattle.tetri_cert.specs.declared.certificate.Certificate.TheVariants.{Tops}
use Rattle.tetri_report.specs.Block.{headed}
use Rattle.tetri_trace.specs.Scenario.{scenario}
use Rattle.tetri_policy.proofs.RunLemmas.{cycle, found, shown, state_next}
use Rattle.tetri_policy.proofs.observing.launch_and_show.Goals as goal

pub prepare_launch-requires : goal.prepare_launch-requires
prepare_launch-requires g c =
    let t = scenario c.args.trace.now in
    let w = c.requires.decided in
    (t, found w.0 t w.1 c.args.state.now c.args.decided w.2 c.requires.sound)

pub see-requires-clause-shown : goal.see-requires-clause-shown
see-requires-clause-shown g c =
    let t = scenario c.args.trace.now in
    let w = c.requires.decided in
    let begun = c.args.state.now in
    let d = c.args.decided in
    let launched = c.apply.ensures.after t d.head.grants (c.in_ok-prepared.ensures.launch t (found w.0 t w.1 begun d w.2 c.requires.sound)) in
    (w.1, Tops 0 0, shown w.0 t w.1 begun d w.2 (Tops 0 0) c.apply.new.self launched _ refl refl refl)

pub returns-clause-ran : goal.returns-clause-ran
returns-clause-ran g c = λ p s decided.
    let t = scenario c.args.trace.now in
    let begun = c.args.state.now in
    let d = c.args.decided in
    let launched = c.apply.ensures.after t d.head.grants (c.in_ok-prepared.ensures.launch t (found p t s begun d decided c.requires.sound)) in
    record {
      cycle = headed d.head (Tops 0 0);
      is = cycle p t s begun d decided (Tops 0 0);
      state = state_next p t s begun d decided (Tops 0 0) c.apply.new.self launched;
      observed = c.in_ok-see.ensures.saw s (Tops 0 0) (shown p t s begun d decided (Tops 0 0) c.apply.new.self launched _ refl refl refl);
    }

pub returns-clause-reached : goal.returns-clause-reached
returns-clause-reached g c =
    let t = scenario c.args.trace.now in
    let w = c.requires.decided in
    let d = c.args.decided in
    c.apply.ensures.reached t d.head.grants w.2.reached (c.in_ok-prepared.ensures.launch t (found w.0 t w.1 c.args.state.now d w.2 c.requires.sound))
