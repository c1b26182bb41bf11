use Rattle.std.proofs.Common.{refl, true}
use Rattle.tetri_swift.specs.declared.searching.Front.{Front}
use Rattle.tetri_swift.proofs.FrontLemmas.{over_first, regions_first}
use Rattle.tetri_swift.proofs.searching.first_front.Goals as goal

pub returns-clause-over : goal.returns-clause-over
returns-clause-over c = over_first c.args.p.now _ c.requires c.in_ok-region.ensures.bounds c.new-trail.ensures.items

pub returns-clause-regions : goal.returns-clause-regions
returns-clause-regions c =
    let f : Front = record { region = c.in_ok-region.region; trail = c.new-trail.result; live = true } in
    regions_first c.args.p.now f c.in_ok-region.ensures.bounds refl c.new-trail.ensures.items
