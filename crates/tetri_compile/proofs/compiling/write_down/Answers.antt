use Rattle.tetri_space.specs.Partitions.{parts_of}
use Rattle.tetri_space.specs.Space.{space}
use Rattle.tetri_compile.proofs.CompileLemmas.{draft_is}
use Rattle.tetri_compile.proofs.WidthLemmas.{bids_ready}
use Rattle.tetri_compile.proofs.compiling.write_down.Goals as goal

pub walk_bids-requires-clause-ready : goal.walk_bids-requires-clause-ready
walk_bids-requires-clause-ready c = bids_ready (space c.args.inst.now) c.requires.sound (parts_of c.args.parts.now) c.requires.partitions

pub returns : goal.returns
returns c =
    draft_is (space c.args.inst.now) (parts_of c.args.parts.now) c.requires.partitions _ c.walk_bids.new.out c.add_supply.new.out c.in_ok-form.form.items
    c.new.ensures.items c.new-2.ensures.items c.new-3.ensures.items c.in_ok-form.ensures.form c.in_ok-form.ensures.grows c.in_ok-add_supply.ensures
