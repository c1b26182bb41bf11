use Rattle.std.proofs.Common.{◌≡◌, ap, arith, subst}
use Rattle.std.proofs.lemmas.Result.{IfOk-weaker}
use Rattle.tetri_space.specs.Space.{Space}
use Rattle.tetri_state.specs.Snapshot.{Snapshot}
use Rattle.tetri_trace.specs.Scenario.{scenario}
use Rattle.tetri_programs.specs.Exported.{IsAtCycle, IsExport, IsExportOf}
use Rattle.tetri_programs.proofs.ExportLemmas.{export_at}
use Rattle.tetri_programs.proofs.cycle.export_cycle.Goals as goal

pub returns : goal.returns
returns g c =
    let t = scenario c.args.trace.now in
    let v = c.loop-number in
    let as_before : c.begin_cycle.new.self.now ≡ v.state.now = ap (λ (s : Snapshot). s.now) c.in_ok-_happened.ensures.state in
    let at : IsAtCycle t c.args.cycle c.begin_cycle.new.self = record {
      reached = c.in_ok-_happened.ensures.reached;
      now = omega (arith, as_before, v.invariant.now, v.auto.number-end, c.loop-number-test.false);
    } in
    IfOk-weaker c.export_instance.result _ (IsExport t c.args.format c.args.cycle)
    (λ e of. export_at t c.args.format c.args.cycle c.begin_cycle.new.self at e (subst (λ (s : Space). IsExportOf c.args.format t.nodes s e) c.in_ok-inst.ensures.instance of))
    c.export_instance.ensures
