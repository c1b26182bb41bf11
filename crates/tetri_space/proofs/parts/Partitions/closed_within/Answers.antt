use Rattle.std.proofs.Common.{◌∙◌, List, get_or, ap}
use Rattle.std.specs.List.{list_any}
use Rattle.tetri_space.specs.Closed.{is_closed_by}
use Rattle.tetri_space.specs.Free.{slots}
use Rattle.tetri_space.specs.Space.{space}
use Rattle.tetri_space.specs.declared.closure.Closure.{Closure}
use Rattle.tetri_space.proofs.FirstLemmas.{first_closed_within, part_long}
use Rattle.tetri_space.proofs.parts.Partitions.closed_within.Goals as goal

pub bounds-as_slice-0 : goal.bounds-as_slice-0
bounds-as_slice-0 c = part_long (space c.args.inst.now) _ c.args.part c.as_slice.result.now c.requires.partitions.groups c.requires.there (c.as_slice.ensures ∙ c.nodes_of.ensures)

pub returns : goal.returns
returns c =
    c.is_closed_within.ensures ∙ ap (λ (cs : List Closure). list_any (is_closed_by cs (get_or c.as_slice.result.now 0 0)) (slots c.args.leaf.now)) c.deref.ensures
    ∙ first_closed_within (space c.args.inst.now) _ c.args.part c.as_slice.result.now c.requires.partitions.groups c.requires.there (c.as_slice.ensures ∙ c.nodes_of.ensures) c.args.leaf.now c.requires.not_past
