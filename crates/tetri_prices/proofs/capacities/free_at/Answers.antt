use Rattle.std.proofs.Common.{◌≡◌, ℕ, List, length, get_or, sym, ap, ◌∙◌, arith}
use Rattle.tetri_base.specs.Lists.{list_at}
use Rattle.tetri_space.proofs.InstanceLaws.{list_is}
use Rattle.tetri_prices.proofs.capacities.free_at.Goals as goal

pub bounds-free-place : goal.bounds-free-place
bounds-free-place c =
    let lists = c.args.capacities.now.free.items in
    let same : c.as_slice-free.result.now ≡ list_at lists c.args.part =
    c.as_slice-free.ensures.value ∙ sym (list_is lists c.args.part c.index.result.now (omega (arith, c.requires.there, c.requires.capacities.count)) c.index.ensures) in
    omega (arith, c.requires.within, (c.requires.capacities.each c.args.part c.requires.there).long, ap (λ (ns : List ℕ). length ns) same)

pub returns : goal.returns
returns c =
    let lists = c.args.capacities.now.free.items in
    let same : c.as_slice-free.result.now ≡ list_at lists c.args.part =
    c.as_slice-free.ensures.value ∙ sym (list_is lists c.args.part c.index.result.now (omega (arith, c.requires.there, c.requires.capacities.count)) c.index.ensures) in
    ap (λ (ns : List ℕ). get_or ns c.args.place 0) same ∙ (c.requires.capacities.each c.args.part c.requires.there).free c.args.place c.requires.within
