use Rattle.std.proofs.Common.{◌+◌, ◌++◌, map, sym, ap, ◌∙◌, arith}
use Rattle.std.proofs.lemmas.List.{append-nil}
use Rattle.tetri_space.specs.Space.{space}
use Rattle.tetri_compile.specs.Draft.{part_supply}
use Rattle.tetri_compile.specs.steps.Walked.{room}
use Rattle.tetri_compile.proofs.ProgramLemmas.{range_over}
use Rattle.tetri_wide.specs.Sketch.{limit_of, sketch, tally_of}
use Rattle.tetri_wide.proofs.SupplyLemmas.{part_next}
use Rattle.tetri_wide.proofs.supply.add_part.Goals as goal

pub loop-slot-preserved : goal.loop-slot-preserved
loop-slot-preserved c = λ cs e.
    let s = space c.args.inst.now in
    let h = c.loop-slot.invariant cs e in
    let g = c.in_ok-add_slot.ensures cs e in
    record {
      uppers = g.uppers ∙ append-nil c.loop-slot.out.uppers.items ∙ h.uppers;
      rows = part_next (room s) cs c.args.part (sketch c.args.out.now) (sketch c.loop-slot.out) (sketch c.add_slot.new.out) c.loop-slot.slot (s.now + s.window) _ c.loop-slot-test.true g h.rows;
      tallies = g.tallies ∙ append-nil (map tally_of c.loop-slot.out.holdings.items) ∙ h.tallies;
    }

pub returns : goal.returns
returns c = λ cs e.
    let s = space c.args.inst.now in
    let h = c.loop-slot.invariant cs e in
    let over = range_over c.loop-slot.slot (s.now + s.window) (omega (arith, c.loop-slot-test.false)) in
    record {
      uppers = h.uppers ∙ sym (append-nil c.args.out.now.uppers.items);
      rows = sym (append-nil (map limit_of c.loop-slot.out.rows.items))
          ∙ ap (λ ts. map limit_of c.loop-slot.out.rows.items ++ part_supply (room s) cs c.args.part ts) (sym over) ∙ h.rows;
      tallies = h.tallies ∙ sym (append-nil (map tally_of c.args.out.now.holdings.items));
    }
