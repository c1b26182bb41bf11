-- Grants by job and leaf.
use Rattle.std.specs.Prelude.{◌≡◌, ◌⊎◌, ◌<◌, Bool, nat_lt}
use Rattle.tetri_base.specs.Order.{by_then}
use Rattle.tetri_strl.specs.declared.grants.Grant.{Grant}

-- the first grant's job and leaf come before the second's
abbrev pub ComesBefore : Grant → Grant → Type 0
ComesBefore g h = (g.job < h.job) ⊎ ((g.job ≡ h.job) × (g.leaf < h.leaf))

-- the test of it
abbrev pub comes_first : Grant → Grant → Bool
comes_first = by_then (λ (g : Grant). g.job) (λ g h. nat_lt g.leaf h.leaf)
