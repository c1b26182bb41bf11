use Rattle.std.proofs.Common.{◌-◌, sym, ◌∙◌, arith}
use Rattle.tetri_space.specs.Space.{space}
use Rattle.tetri_space.proofs.InstanceLaws.{list_is}
use Rattle.tetri_prices.proofs.CostLemmas.{found}
use Rattle.tetri_prices.proofs.prices.Prices.cost_of.Goals as goal

pub bounds-sums-to : goal.bounds-sums-to
bounds-sums-to c =
    let s = space c.args.inst.now in
    let lists = c.args.self.now.sums.items in
    let same = c.as_slice-sums.ensures.value ∙ sym (list_is lists c.args.part c.index.result.now (omega (arith, c.requires.there, c.requires.prices.count)) c.index.ensures) in
    let is = found s c.requires.sound c.args.leaf.now c.args.part c.args.self.now c.requires.prices c.requires.there c.requires.live c.as_slice-sums.result.now same (c.args.leaf.now.start - s.now) c.min-to.result (omega arith) (omega arith) in
    is.to_within

pub bounds-sums-from : goal.bounds-sums-from
bounds-sums-from c =
    let s = space c.args.inst.now in
    let lists = c.args.self.now.sums.items in
    let same = c.as_slice-sums.ensures.value ∙ sym (list_is lists c.args.part c.index.result.now (omega (arith, c.requires.there, c.requires.prices.count)) c.index.ensures) in
    let is = found s c.requires.sound c.args.leaf.now c.args.part c.args.self.now c.requires.prices c.requires.there c.requires.live c.as_slice-sums.result.now same (c.args.leaf.now.start - s.now) c.min-to.result (omega arith) (omega arith) in
    is.from_within

pub overflow_sub-result : goal.overflow_sub-result
overflow_sub-result c =
    let s = space c.args.inst.now in
    let lists = c.args.self.now.sums.items in
    let same = c.as_slice-sums.ensures.value ∙ sym (list_is lists c.args.part c.index.result.now (omega (arith, c.requires.there, c.requires.prices.count)) c.index.ensures) in
    let is = found s c.requires.sound c.args.leaf.now c.args.part c.args.self.now c.requires.prices c.requires.there c.requires.live c.as_slice-sums.result.now same (c.args.leaf.now.start - s.now) c.min-to.result (omega arith) (omega arith) in
    is.rises

pub returns-clause-cost : goal.returns-clause-cost
returns-clause-cost c =
    let s = space c.args.inst.now in
    let lists = c.args.self.now.sums.items in
    let same = c.as_slice-sums.ensures.value ∙ sym (list_is lists c.args.part c.index.result.now (omega (arith, c.requires.there, c.requires.prices.count)) c.index.ensures) in
    let is = found s c.requires.sound c.args.leaf.now c.args.part c.args.self.now c.requires.prices c.requires.there c.requires.live c.as_slice-sums.result.now same (c.args.leaf.now.start - s.now) c.min-to.result (omega arith) (omega arith) in
    is.cost

pub returns-clause-small : goal.returns-clause-small
returns-clause-small c =
    let s = space c.args.inst.now in
    let lists = c.args.self.now.sums.items in
    let same = c.as_slice-sums.ensures.value ∙ sym (list_is lists c.args.part c.index.result.now (omega (arith, c.requires.there, c.requires.prices.count)) c.index.ensures) in
    let is = found s c.requires.sound c.args.leaf.now c.args.part c.args.self.now c.requires.prices c.requires.there c.requires.live c.as_slice-sums.result.now same (c.args.leaf.now.start - s.now) c.min-to.result (omega arith) (omega arith) in
    omega (arith, is.small)
