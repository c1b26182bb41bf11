use Rattle.std.proofs.Common.{List, ap, map}
use Rattle.tetri_space.specs.Partitions.{parts_of}
use Rattle.tetri_space.specs.Space.{space}
use Rattle.tetri_compile.proofs.WidthLemmas.{bids_ready}
use Rattle.tetri_wide.specs.declared.outline.Holding.{Holding}
use Rattle.tetri_wide.specs.declared.outline.Inequality.{Inequality}
use Rattle.tetri_wide.specs.Sketch.{form_of, limit_of, sketch, tally_of}
use Rattle.tetri_wide.proofs.DraftLemmas.{draft_is}
use Rattle.tetri_wide.proofs.program.write_down.Goals as goal

pub walk_bids-requires-clause-ready : goal.walk_bids-requires-clause-ready
walk_bids-requires-clause-ready c = bids_ready (space c.args.inst.now) c.requires.sound (parts_of c.args.parts.now) c.requires.partitions

pub returns : goal.returns
returns c =
    draft_is (space c.args.inst.now) (parts_of c.args.parts.now) c.requires.partitions _ (sketch c.walk_bids.new.out) (sketch c.add_supply.new.out) (form_of c.in_ok-form.form.items)
    c.new.ensures.items (ap (λ (rs : List Inequality). map limit_of rs) c.new-2.ensures.items) (ap (λ (hs : List Holding). map tally_of hs) c.new-3.ensures.items)
    c.in_ok-form.ensures.form c.in_ok-form.ensures.grows c.in_ok-add_supply.ensures
