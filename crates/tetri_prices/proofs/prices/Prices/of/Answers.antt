use Rattle.std.proofs.Common.{◌≡◌, ◌+◌, ◌∷◌, [], ℕ, List, Vec, Global, length, map, subst, sym, ap, ◌∙◌, arith}
use Rattle.std.proofs.lemmas.List.{length-append, length-map}
use Rattle.tetri_base.specs.Lists.{list_at}
use Rattle.tetri_space.specs.Space.{space}
use Rattle.tetri_compile.proofs.ProgramLaws.{each_list}
use Rattle.tetri_prices.specs.Priced.{ArePricesOf}
use Rattle.tetri_prices.specs.Prices.{AreSums}
use Rattle.tetri_prices.proofs.PlaceLemmas.{row_is, row_long}
use Rattle.tetri_prices.proofs.prices.Prices.of.Goals as goal

abbrev rows_in : List (Vec ℕ Global) → List (List ℕ)
rows_in vs = map (λ v. v.items) vs

pub sums_of-requires : goal.sums_of-requires
sums_of-requires c =
    let s = space c.args.inst.now in
    let rows = c.deref-row-items.result.now in
    let fit : ArePricesOf s (rows_in rows) = subst (λ (vs : List (Vec ℕ Global)). ArePricesOf s (rows_in vs)) (sym c.deref-row-items.ensures.value) c.requires.prices in
    omega (
      arith,
      row_long s rows c.loop-row.row-index c.row-item.result c.loop-row-test.true c.row-item.is fit,
      ap (λ (ns : List ℕ). length ns) c.deref.ensures.value,
      c.requires.sound.few_slots,
    )

pub loop-row-preserved : goal.loop-row-preserved
loop-row-preserved c =
    let h = c.loop-row.invariant in
    let old = c.loop-row.sums.items in
    let rows = c.deref-row-items.result.now in
    let n = c.loop-row.row-index in
    let made = c.in_ok-sums_of.field-0 in
    let pushed = c.in_ok-push.ensures.items in
    let said : AreSums (list_at rows n) made.items =
    subst (λ (ns : List ℕ). AreSums ns made.items) (c.deref.ensures.value ∙ row_is rows n c.row-item.result c.loop-row-test.true c.row-item.is) c.in_ok-sums_of.ensures in
    record {
      count = ap length pushed ∙ length-append old (made ∷ []) ∙ ap (λ k. k + 1) h.count;
      each = each_list (λ q xs. AreSums (list_at rows q) xs) old c.push.new.self.items made n h.count pushed h.each said;
    }

pub returns-clause-prices : goal.returns-clause-prices
returns-clause-prices c =
    let h = c.loop-row.invariant in
    let rows = c.deref-row-items.result.now in
    let many : length c.args.rows.items ≡ length (rows_in c.args.rows.items) = sym (length-map c.args.rows.items (λ (v : Vec ℕ Global). v.items)) in
    let long = ap (λ (vs : List (Vec ℕ Global)). length vs) c.deref-row-items.ensures.value in
    record {
      rows = c.requires.prices;
      count = omega (arith, h.count, c.loop-row-test.false, c.loop-row.auto.row-index-end, long, many, c.requires.prices.count);
      each = λ q lt. subst (λ (vs : List (Vec ℕ Global)). AreSums (list_at vs q) (list_at c.loop-row.sums.items q)) c.deref-row-items.ensures.value
          (h.each q (omega (arith, lt, c.loop-row-test.false, c.loop-row.auto.row-index-end, long, many, c.requires.prices.count)));
    }
