-- An instance with some of its jobs alone, and the grants of an allotment that name them.
use Rattle.std.specs.Prelude.{ℕ, Bool, List}
use Rattle.std.specs.List.{filter}
use Rattle.tetri_strl.specs.declared.grants.Grant.{Grant}
use Rattle.tetri_space.specs.Space.{Space}

-- the same instance with the jobs alone that pass the test
abbrev pub restricted : (ℕ → Bool) → Space → Space
restricted keeps s = record s { bids = filter (λ b. keeps b.job) s.bids }

-- the grants that name a job that passes the test, in their order
abbrev pub grants_to : (ℕ → Bool) → List Grant → List Grant
grants_to keeps a = filter (λ g. keeps g.job) a
