use Rattle.std.proofs.Common.{subst, sym}
use Rattle.tetri_space.specs.Broken.{ClashesAt}
use Rattle.tetri_space.specs.Space.{space}
use Rattle.tetri_space.proofs.ClashLemmas.{Found, at_place, found_kept, found_more, found_all}
use Rattle.tetri_space.proofs.clashes.first_clash.Goals as goal
use Rattle.tetri_space.proofs.clashes.first_clash.Goals.{in-Some, in_default}

pub loop-place-preserved : goal.loop-place-preserved
loop-place-preserved c =
    let here = at_place c.args.earlier.now c.loop-place.place c.index-earlier-place.result c.loop-place-test.true c.index-earlier-place.is in
    let clashes = ClashesAt (space c.args.inst.now) c.args.leaf.now c.args.nodes.now in
    elim c.match-clash_with.branch [
      | in-Some w ↦ subst (Found clashes c.args.earlier.now _) (sym w.found-is)
          (found_more clashes c.args.earlier.now c.loop-place.place c.index-earlier-place.result c.loop-place.found w.lesser-found.result w.in-Some.node here
          c.loop-place.invariant w.in-Some.ensures w.lesser-found.ensures.first w.lesser-found.ensures.less w.lesser-found.ensures.kept)
      | in_default w ↦ subst (Found clashes c.args.earlier.now _) (sym w.found-is)
          (found_kept clashes c.args.earlier.now c.loop-place.place c.index-earlier-place.result c.loop-place.found here c.loop-place.invariant w.in_default.ensures)
    ]

pub returns : goal.returns
returns c =
    found_all (space c.args.inst.now) c.args.leaf.now c.args.nodes.now c.args.earlier.now c.loop-place.place c.loop-place.found c.loop-place-test.false c.loop-place.invariant
