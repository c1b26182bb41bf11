-- What an ask offers: a leaf for each start and each set on which it can end in time.
use Rattle.std.specs.Prelude.{◌≡◌, ◌⊎◌, ℕ, ◌+◌, ◌-◌, ◌*◌, ◌/◌, ◌≤◌, ◌==◌, Bool, nat_le, if◌then◌else◌, List, [], ◌∷◌, ◌++◌, map, flat_map, All, Option, Some, None, IfSome, IsSomeAnd}
use Rattle.std.specs.List.{list_all, range_with_len}
use Rattle.tetri_strl.specs.declared.expr.Leaf.{Leaf}
use Rattle.tetri_strl.specs.Tree.{greatest, Tree, one, join, row}
use Rattle.tetri_strl.specs.WellMade.{PEAK}
use Rattle.tetri_request.specs.declared.ask.Ask.{Ask}
use Rattle.tetri_request.specs.declared.ask.Class.{Class}
use Rattle.tetri_request.specs.declared.ask.Class.TheVariants.{Steady, Decay}
use Rattle.tetri_request.specs.declared.ask.Prefer.{Prefer}

pub record IsSoundPrefer (p : Prefer) : Type 0 where
  pub some_slots : 1 ≤ p.dur
  pub few_slots : p.dur ≤ 10000

-- the limits of an ask
pub record IsSoundAsk (a : Ask) : Type 0 where
  pub some_nodes : 1 ≤ a.k
  pub few_nodes : a.k ≤ 4096
  pub some_slots : 1 ≤ a.dur
  pub few_slots : a.dur ≤ 10000
  pub worth : a.value ≤ PEAK
  pub some_time : 1 ≤ a.deadline
  pub little_time : a.deadline ≤ 20000
  pub prefer : IfSome a.prefer IsSoundPrefer

-- one of the sets that the ask names
abbrev pub IsSetOf : Ask → ℕ → Type 0
IsSetOf a set = (set ≡ a.set) ⊎ IsSomeAnd a.prefer (λ p. set ≡ p.set)

-- how many slots after the arrival a run of `dur` slots from this start on has ended
abbrev pub end_of : ℕ → ℕ → ℕ → ℕ
end_of arrival start dur = start + dur - arrival

-- what is left of a value at the end of a run
abbrev pub class_worth : Class → ℕ → ℕ → ℕ → ℕ
class_worth Steady value deadline end = value
class_worth Decay value deadline end = value * (deadline - end + 1) / deadline

-- what an option is worth that ends then: of an elastic ask the same whole number for each of its nodes
abbrev pub option_worth : Ask → ℕ → ℕ
option_worth a end =
    if a.elastic then class_worth a.class a.value a.deadline end / a.k * a.k
    else class_worth a.class a.value a.deadline end

-- the leaf of an option that starts then and runs so long on this set
abbrev pub option_leaf : Ask → ℕ → ℕ → ℕ → ℕ → ℕ → Leaf
option_leaf a arrival start num set dur = record {
  num = num;
  set = set;
  k = a.k;
  start = start;
  dur = dur;
  v = option_worth a (end_of arrival start dur);
  linear = a.elastic;
}

-- the option, which is there where its run ends by the deadline
abbrev pub option_on : Ask → ℕ → ℕ → ℕ → ℕ → ℕ → List Leaf
option_on a arrival start num set dur =
    if nat_le (end_of arrival start dur) a.deadline then option_leaf a arrival start num set dur ∷ [] else []

-- the option on the preferred set
abbrev pub preferred : Ask → ℕ → ℕ → ℕ → Option Prefer → List Leaf
preferred a arrival start num None = []
preferred a arrival start num (Some p) = option_on a arrival start num p.set p.dur

-- the options that start then, the preferred one first: their numbers depend on the slots since the
-- arrival alone
abbrev pub options_at : Ask → ℕ → ℕ → List Leaf
options_at a arrival start =
    preferred a arrival start (2 * (start - arrival)) a.prefer
    ++ option_on a arrival start (2 * (start - arrival) + 1) a.set a.dur

-- the options that start in these slots, in the order of their starts
abbrev pub options_between : Ask → ℕ → ℕ → ℕ → List Leaf
options_between a arrival from count = flat_map (options_at a arrival) (range_with_len from count)

-- one part by itself, several as a `max`
abbrev pub one_of : List Tree → Option Tree
one_of [] = None
one_of (t ∷ []) = Some t
one_of (t ∷ u ∷ ts) = Some (join greatest (row (t ∷ u ∷ ts)))

-- what the ask offers in a cycle
abbrev pub offer : Ask → ℕ → ℕ → ℕ → Option Tree
offer a arrival now window = one_of (map one (options_between a arrival now window))

-- no option that starts now or later is worth more than 0
abbrev pub HasExpired : Ask → ℕ → ℕ → Type 0
HasExpired a arrival now = (start : ℕ) → now ≤ start → All (λ l. l.v ≡ 0) (options_at a arrival start)

-- the same, told by the options that start now: later ones are worth no more
abbrev pub has_expired : Ask → ℕ → ℕ → Bool
has_expired a arrival now = list_all (λ l. l.v == 0) (options_at a arrival now)
