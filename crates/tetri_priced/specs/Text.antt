-- The lines that tell what prices make of the bounds of a run's cycles.
use Rattle.std.specs.Prelude.{ℕ, ◌==◌, Bool, true, false, List, [], ◌++◌, flat_map, length, codes, decimal}
use Rattle.tetri_base.specs.Lists.{count, sum_of}
use Rattle.tetri_cluster.specs.Cluster.{name_at}
use Rattle.tetri_report.specs.Text.{entry}
use Rattle.tetri_trace.specs.Scenario.{Scenario}
use Rattle.tetri_priced.specs.declared.cycle.PricedCycle.{PricedCycle}
use Rattle.tetri_priced.specs.declared.lowest.NodePrice.{NodePrice}

-- the number of a cycle, its value, its printed bound, and the bound that prices make of it
unfoldable pub priced_line : ℕ → ℕ → ℕ → ℕ → List ℕ
priced_line number value bound priced =
    codes "priced " ++ decimal number ++ codes " " ++ decimal value ++ codes " " ++ decimal bound ++ codes " " ++ decimal priced ++ codes "\n"

-- a node's name, a slot, and a fraction
unfoldable pub price_line : List ℕ → ℕ → ℕ → ℕ → List ℕ
price_line name slot price unit =
    codes "price " ++ name ++ codes " " ++ decimal slot ++ codes " " ++ decimal price ++ codes "/" ++ decimal unit ++ codes "\n"

-- how many cycles there are, how many of them have an optimal plan, and sums of values, of bounds and of what prices make of these
unfoldable pub totals_line : ℕ → ℕ → ℕ → ℕ → ℕ → List ℕ
totals_line cycles optimal value bound priced =
    codes "summary" ++ entry (codes "cycles") cycles ++ entry (codes "optimal") optimal ++ entry (codes "value") value
    ++ entry (codes "bound") bound ++ entry (codes "priced") priced ++ codes "\n"

-- the line of a price
abbrev pub node_line : Scenario → NodePrice → List ℕ
node_line t p = price_line (name_at t.nodes p.node) p.slot p.price p.unit

-- the lines of prices, where they are asked for
abbrev pub prices_text : Scenario → Bool → List NodePrice → List ℕ
prices_text t true ps = flat_map (node_line t) ps
prices_text t false ps = []

-- the lines of a cycle
abbrev pub cycle_text : Scenario → Bool → PricedCycle → List ℕ
cycle_text t prices c = priced_line c.number c.value c.bound c.priced ++ prices_text t prices c.prices.items

-- how many cycles have a value that is the bound that prices make
abbrev pub optimal_in : List PricedCycle → ℕ
optimal_in cs = count (λ (c : PricedCycle). c.value == c.priced) cs

-- sums over cycles
abbrev pub value_in : List PricedCycle → ℕ
value_in cs = sum_of (λ (c : PricedCycle). c.value) cs

abbrev pub bound_in : List PricedCycle → ℕ
bound_in cs = sum_of (λ (c : PricedCycle). c.bound) cs

abbrev pub priced_in : List PricedCycle → ℕ
priced_in cs = sum_of (λ (c : PricedCycle). c.priced) cs

-- the last line
abbrev pub totals_text : List PricedCycle → List ℕ
totals_text cs = totals_line (length cs) (optimal_in cs) (value_in cs) (bound_in cs) (priced_in cs)

-- all lines
abbrev pub priced_text : Scenario → Bool → List PricedCycle → List ℕ
priced_text t prices cs = flat_map (cycle_text t prices) cs ++ totals_text cs
