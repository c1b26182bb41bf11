use Rattle.std.proofs.Common.{◌≡◌, ◌<◌, ◌==◌, List, length, map, ap, sym, ◌∙◌, arith}
use Rattle.std.specs.List.{filter, range_with_len}
use Rattle.std.proofs.lemmas.List.{append-nil}
use Rattle.tetri_space.specs.Partitions.{partitions}
use Rattle.tetri_space.specs.Space.{space}
use Rattle.tetri_compile.specs.declared.outline.Tally.{Tally}
use Rattle.tetri_compile.specs.steps.Walked.{room}
use Rattle.tetri_wide.specs.declared.outline.Holding.{Holding}
use Rattle.tetri_wide.specs.Sketch.{sketch, tally_of}
use Rattle.tetri_wide.proofs.ByPartLemmas.{list_is}
use Rattle.tetri_wide.proofs.ListSteps.{filter-map}
use Rattle.tetri_wide.proofs.SupplyLemmas.{supply_next}
use Rattle.tetri_wide.proofs.supply.add_supply.Goals as goal

pub loop-part-preserved : goal.loop-part-preserved
loop-part-preserved c =
    let s = space c.args.inst.now in
    let h = c.loop-part.invariant in
    let ds : List Holding = c.args.out.now.holdings.items in
    let cs : List Tally = map tally_of ds in
    let m = length (partitions s) in
    let p = c.loop-part.part in
    let lists = c.in_ok-lists.lists.items in
    let lt : p < m = omega (arith, c.loop-part-test.true, c.count-part-end.ensures, ap length c.requires.partitions.groups) in
    let within : p < length lists = omega (arith, c.in_ok-lists.ensures.count, c.count.ensures, lt, ap length c.requires.partitions.groups) in
    let own : c.as_slice-mine.result.now ≡ filter (λ (d : Holding). d.part == p) ds = c.as_slice-mine.ensures.value ∙ sym (list_is lists p c.index.result.now within c.index.ensures) ∙ c.in_ok-lists.ensures.parts p (omega (arith, c.count.ensures, lt, ap length c.requires.partitions.groups))
    ∙ ap (λ (es : List Holding). filter (λ (d : Holding). d.part == p) es) c.deref.ensures.value in
    let mine : map tally_of c.as_slice-mine.result.now ≡ filter (λ (d : Tally). d.part == p) cs =
    ap (λ (es : List Holding). map tally_of es) own ∙ sym (filter-map tally_of (λ (d : Tally). d.part == p) ds) in
    let g = c.in_ok-add_part.ensures cs mine in
    record {
      uppers = g.uppers ∙ append-nil c.loop-part.out.uppers.items ∙ h.uppers;
      rows = supply_next (room s) cs (range_with_len s.now s.window) (sketch c.args.out.now) (sketch c.loop-part.out) (sketch c.add_part.new.out) p m _ lt g h.rows;
      tallies = g.tallies ∙ append-nil (map tally_of c.loop-part.out.holdings.items) ∙ h.tallies;
    }
