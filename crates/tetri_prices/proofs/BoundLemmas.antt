-- No lawful allotment is worth more than the priced bound.
use Rattle.std.proofs.Common.{ℕ, ◌+◌, ◌*◌, ◌≤◌, List, Contains, ap, arith, mul_comm}
use Rattle.std.proofs.lemmas.Nat.{le-div}
use Rattle.tetri_base.specs.Lists.{sum_of}
use Rattle.tetri_base.proofs.ListLaws.{Each-from, sum_of-le, sum_of-plus}
use Rattle.tetri_strl.specs.declared.grants.Grant.{Grant}
use Rattle.tetri_strl.specs.Tree.{leaves}
use Rattle.tetri_strl.specs.Worth.{leaf_worth, worth_of}
use Rattle.tetri_space.specs.Partitions.{live_bids, partitions}
use Rattle.tetri_space.specs.Sound.{IsSound}
use Rattle.tetri_space.specs.Space.{Bid, Space}
use Rattle.tetri_space.specs.Total.{total_in}
use Rattle.tetri_compile.specs.Allotted.{earning}
use Rattle.tetri_compile.proofs.ProgramLaws.{fair, IsFair, live_total, worth_of_bids}
use Rattle.tetri_prices.specs.Priced.{bid_gain, PricesBound, supply_cost}
use Rattle.tetri_prices.proofs.LeafLemmas.{all_priced, charges, costs, gains}
use Rattle.tetri_prices.proofs.SupplyLemmas.{charge, charges_le, sum_of-times}
use Rattle.tetri_prices.proofs.TreeLemmas.{tree_priced}

module _ (i : Space) (os : List Bid) (parts : List (List ℕ)) (a : List Grant) (keep : ℕ → List Grant) (is_fair : IsFair i os parts a keep) (price : ℕ → ℕ → ℕ) (unit : ℕ) where
  abbrev charged : Bid → ℕ
  charged b = sum_of (charge i os parts a keep is_fair price b) (leaves b.expr)

  bid_priced : (b : Bid) → Contains os b → unit * worth_of a b.job b.expr ≤ bid_gain i parts price unit b + charged b
  bid_priced b among =
      tree_priced (costs i os parts a keep is_fair b among price) (gains i os parts a keep is_fair b among price) (leaf_worth a b.job) (charges i os parts a keep is_fair b among price) b.expr
      (all_priced i os parts a keep is_fair b among price) unit

  pub worth_priced : unit * worth_of_bids a os ≤ sum_of (bid_gain i parts price unit) os + supply_cost i parts price
  worth_priced =
      let each = sum_of-le (λ b. unit * worth_of a b.job b.expr) (λ b. bid_gain i parts price unit b + charged b) os (Each-from _ os bid_priced) in
      omega (
        arith,
        each,
        sum_of-times unit (λ (b : Bid). worth_of a b.job b.expr) os,
        sum_of-plus (bid_gain i parts price unit) charged os,
        charges_le i os parts a keep is_fair price,
      )

pub prices_bound : (s : Space) → IsSound s → PricesBound s
prices_bound s sound unit price some a lawful =
    let le = worth_priced s (live_bids s) (partitions s) a (earning s a) (fair s sound a lawful) price unit in
    le-div (total_in s a) (sum_of (bid_gain s (partitions s) price unit) (live_bids s) + supply_cost s (partitions s) price) unit some
    (omega (arith, le, mul_comm (total_in s a) unit, ap (λ n. unit * n) (live_total s sound a lawful)))
