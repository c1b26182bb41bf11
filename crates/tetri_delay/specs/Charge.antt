-- Expressions whose worths are lessened by what their delay costs.
use Rattle.std.specs.Prelude.{◌==◌, ◌*◌, ◌-◌, ◌/◌, ◌≤◌, ℕ, if◌then◌else◌, min}
use Rattle.tetri_delay.specs.declared.charge.Charge.{Charge}
use Rattle.tetri_strl.specs.declared.expr.Leaf.{Leaf}
use Rattle.tetri_strl.specs.Tree.{Tree, one, join, scale, barrier, Trees, none, more}
use Rattle.tetri_strl.specs.WellMade.{PEAK}

-- the numbers of a charge are so small that a cost can be computed
pub record IsInRange (c : Charge) : Type 0 where
  pub times : c.times ≤ PEAK
  pub worth : c.density.worth ≤ 100000 * PEAK

-- a fraction rounded down, and 0 with a denominator of 0
abbrev pub quotient : ℕ → ℕ → ℕ
quotient n d = if d == 0 then 0 else n / d

-- The worth of the leaf's nodes for the slots from the cycle to its start, at the density, in the unit of the worths that are multiplied;
-- below factors whose product is `by`, so much less.
abbrev pub cost : Charge → ℕ → Leaf → ℕ
cost c by l = quotient (c.times * c.density.worth * (l.k * (l.start - c.now))) (c.density.node_slots * by)

-- a worth multiplied, as far as a worth may reach
abbrev pub multiplied : Charge → ℕ → ℕ
multiplied c v = min (c.times * v) PEAK

-- a leaf whose nodes each count alike is worth a multiple of their number
abbrev pub rounded : Leaf → ℕ → ℕ
rounded l v = if l.linear then v / l.k * l.k else v

-- what is left of a leaf's worth, and at least 0
abbrev pub charged_worth : Charge → ℕ → Leaf → ℕ
charged_worth c by l = rounded l (multiplied c l.v - cost c by l)

-- the same leaf but for its worth
abbrev pub charged_leaf : Charge → ℕ → Leaf → Leaf
charged_leaf c by l = record {
  num = l.num;
  set = l.set;
  k = l.k;
  start = l.start;
  dur = l.dur;
  v = charged_worth c by l;
  linear = l.linear;
}

-- the product of factors, as far as a worth may reach: a product above that stands only over leaves that are worth nothing
abbrev pub factor : ℕ → ℕ → ℕ
factor by s = min (by * s) PEAK

-- the charge without a cost
abbrev pub free : Charge → Charge
free c = record { now = c.now; times = c.times; density = record { worth = 0; node_slots = 0 } }

-- The expression with its leaves charged. Below a barrier a delay costs nothing, since a cost would keep its part from the worth that it
-- has to reach. A part whose factor is 0 stays as it is.
abbrev mutual
  pub charged : Charge → ℕ → Tree → Tree
  charged c by (one l) = one (charged_leaf c by l)
  charged c by (join op ts) = join op (charged_of c by ts)
  charged c by (scale t s) = if s == 0 then scale t s else scale (charged c (factor by s) t) s
  charged c by (barrier t v) = barrier (charged (free c) by t) (multiplied c v)

  pub charged_of : Charge → ℕ → Trees → Trees
  charged_of c by none = none
  charged_of c by (more t ts) = more (charged c by t) (charged_of c by ts)
