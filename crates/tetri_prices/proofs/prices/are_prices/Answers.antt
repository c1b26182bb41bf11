use Rattle.std.proofs.Common.{◌≡◌, ℕ, List, Vec, Global, length, map, get_or, refl, sym, ap, ◌∙◌, arith, below_more, true≢false}
use Rattle.std.proofs.lemmas.List.{get_or-map, length-map}
use Rattle.tetri_space.specs.Space.{space}
use Rattle.tetri_prices.proofs.PlaceLemmas.{row_long}
use Rattle.tetri_prices.proofs.prices.are_prices.Goals as goal

pub loop-row-preserved : goal.loop-row-preserved
loop-row-preserved c =
    let rows = c.args.rows.now in
    let n = c.loop-row.row-index in
    below_more (λ k. (d : List ℕ) → length (get_or (map (λ (v : Vec ℕ Global). v.items) rows) k d) ≡ c.args.inst.now.window) n c.loop-row.invariant
    (λ d. omega (arith, ap (λ (ns : List ℕ). length ns) (get_or-map (λ (v : Vec ℕ Global). v.items) rows n c.row-item.result d c.loop-row-test.true ∙ ap (λ (v : Vec ℕ Global). v.items) (sym c.row-item.is))))

pub returns-then-len-inst : goal.returns-then-len-inst
returns-then-len-inst c = (
  λ e. absurd (true≢false (sym e)),
  λ are. absurd (omega (arith, row_long (space c.args.inst.now) c.args.rows.now c.loop-row.row-index c.row-item.result c.loop-row-test.true c.row-item.is are)),
)

pub returns : goal.returns
returns c =
    let many = length-map c.args.rows.now (λ (v : Vec ℕ Global). v.items) in (
      λ e. record {
        count = omega (arith, many, ap (λ (gs : List (List ℕ)). length gs) c.requires.partitions.groups);
        long = λ k d lt. c.loop-row.invariant k (omega (arith, lt, many, c.loop-row-test.false)) d;
      },
      λ are. refl,
    )
