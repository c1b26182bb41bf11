use Rattle.std.proofs.Common.{◌≡◌, ◌+◌, ◌<◌, ◌≤◌, All, List, length, subst, sym, ap, ◌∙◌, arith}
use Rattle.std.proofs.lemmas.List.{length-map}
use Rattle.tetri_base.specs.Lists.{sum_of}
use Rattle.tetri_space.specs.Partitions.{parts_found, parts_of}
use Rattle.tetri_space.specs.Space.{Bid, space}
use Rattle.tetri_compile.specs.Sizes.{leaves_in, row_total, width_by}
use Rattle.tetri_compile.proofs.SizeLemmas.{each_of_offer, sum_next, sum_end}
use Rattle.tetri_compile.proofs.WidthLemmas.{usable, columns_counted, columns_small, rows_counted, rows_small}
use Rattle.tetri_compile.proofs.sizes.size.Goals as goal

pub columns_of-requires-clause-known : goal.columns_of-requires-clause-known
columns_of-requires-clause-known c =
    let p = parts_of c.args.parts.now in
    let few : length p.inside ≤ 4096 = omega (arith, length-map c.args.parts.now.inside.items (λ v. v.items), c.args.parts.now.few_sets) in
    let all = (usable (space c.args.inst.now) c.requires.sound p c.requires.partitions few).sets in
    each_of_offer (λ l. l.set < length p.inside) c.offers-offer-items.result.now c.loop-offer.offer-index c.offer-item.result c.loop-offer-test.true c.offer-item.is
    (subst (λ (bs : List Bid). All (λ l. l.set < length p.inside) (leaves_in bs)) (sym c.offers-offer-items.ensures) (λ k d lt. (all k d lt).known))

pub columns_of-requires-clause-fits : goal.columns_of-requires-clause-fits
columns_of-requires-clause-fits c =
    let p = parts_of c.args.parts.now in
    let f = λ (b : Bid). 1 + width_by (λ k. length (parts_found p k)) b.expr in
    omega (
      arith,
      sum_next f c.offers-offer-items.result.now c.loop-offer.offer-index c.offer-item.result c.loop-offer-test.true c.offer-item.is,
      c.loop-offer.invariant.columns,
      columns_small (space c.args.inst.now) c.requires.sound p c.requires.partitions,
    )

pub overflow_add-columns : goal.overflow_add-columns
overflow_add-columns c =
    let p = parts_of c.args.parts.now in
    let f = λ (b : Bid). 1 + width_by (λ k. length (parts_found p k)) b.expr in
    omega (
      arith,
      sum_next f c.offers-offer-items.result.now c.loop-offer.offer-index c.offer-item.result c.loop-offer-test.true c.offer-item.is,
      c.loop-offer.invariant.columns,
      columns_small (space c.args.inst.now) c.requires.sound p c.requires.partitions,
      c.columns_of.ensures,
    )

pub overflow_add-columns-in-loop-offer : goal.overflow_add-columns-in-loop-offer
overflow_add-columns-in-loop-offer c =
    let p = parts_of c.args.parts.now in
    let f = λ (b : Bid). 1 + width_by (λ k. length (parts_found p k)) b.expr in
    omega (
      arith,
      sum_next f c.offers-offer-items.result.now c.loop-offer.offer-index c.offer-item.result c.loop-offer-test.true c.offer-item.is,
      c.loop-offer.invariant.columns,
      columns_small (space c.args.inst.now) c.requires.sound p c.requires.partitions,
      c.columns_of.ensures,
    )

pub rows_of-rows-requires : goal.rows_of-rows-requires
rows_of-rows-requires c =
    let p = parts_of c.args.parts.now in
    omega (
      arith,
      sum_next (λ (b : Bid). row_total b.expr) c.offers-offer-items.result.now c.loop-offer.offer-index c.offer-item.result c.loop-offer-test.true c.offer-item.is,
      c.loop-offer.invariant.rows,
      rows_small (space c.args.inst.now) c.requires.sound p c.requires.partitions,
    )

pub overflow_add-rows : goal.overflow_add-rows
overflow_add-rows c =
    let p = parts_of c.args.parts.now in
    omega (
      arith,
      sum_next (λ (b : Bid). row_total b.expr) c.offers-offer-items.result.now c.loop-offer.offer-index c.offer-item.result c.loop-offer-test.true c.offer-item.is,
      c.loop-offer.invariant.rows,
      rows_small (space c.args.inst.now) c.requires.sound p c.requires.partitions,
      c.rows_of-rows.ensures,
    )

pub loop-offer-preserved : goal.loop-offer-preserved
loop-offer-preserved c =
    let p = parts_of c.args.parts.now in
    let f = λ (b : Bid). 1 + width_by (λ k. length (parts_found p k)) b.expr in
    let next = sum_next f c.offers-offer-items.result.now c.loop-offer.offer-index c.offer-item.result c.loop-offer-test.true c.offer-item.is in
    let next_rows = sum_next (λ (b : Bid). row_total b.expr) c.offers-offer-items.result.now c.loop-offer.offer-index c.offer-item.result c.loop-offer-test.true c.offer-item.is in
    record {
      columns = omega (arith, next, c.loop-offer.invariant.columns, c.columns_of.ensures);
      rows = omega (arith, next_rows, c.loop-offer.invariant.rows, c.rows_of-rows.ensures);
    }

pub supply_rows-requires-clause-usable : goal.supply_rows-requires-clause-usable
supply_rows-requires-clause-usable c =
    usable (space c.args.inst.now) c.requires.sound (parts_of c.args.parts.now) c.requires.partitions
    (omega (arith, length-map c.args.parts.now.inside.items (λ v. v.items), c.args.parts.now.few_sets))

pub overflow_add-result : goal.overflow_add-result
overflow_add-result c =
    let p = parts_of c.args.parts.now in
    omega (arith, c.loop-offer.invariant.rows, rows_small (space c.args.inst.now) c.requires.sound p c.requires.partitions, c.supply_rows.ensures.few)

pub returns-clause-columns : goal.returns-clause-columns
returns-clause-columns c =
    let p = parts_of c.args.parts.now in
    let f = λ (b : Bid). 1 + width_by (λ k. length (parts_found p k)) b.expr in
    let over = sum_end f c.offers-offer-items.result.now c.loop-offer.offer-index c.loop-offer-test.false in
    let whole : c.loop-offer.columns ≡ sum_of f p.bids = omega (arith, over, c.loop-offer.invariant.columns) in
    whole ∙ sym (columns_counted (space c.args.inst.now) c.requires.sound p c.requires.partitions)

pub returns-clause-rows : goal.returns-clause-rows
returns-clause-rows c =
    let p = parts_of c.args.parts.now in
    let f = λ (b : Bid). row_total b.expr in
    let over = sum_end f c.offers-offer-items.result.now c.loop-offer.offer-index c.loop-offer-test.false in
    let whole : c.loop-offer.rows ≡ sum_of f p.bids = omega (arith, over, c.loop-offer.invariant.rows) in
    ap (λ n. n + c.supply_rows.result) whole ∙ ap (λ n. sum_of f p.bids + n) c.supply_rows.ensures.value ∙ sym (rows_counted (space c.args.inst.now) c.requires.sound p c.requires.partitions)
