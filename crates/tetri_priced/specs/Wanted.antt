-- Which cycles are asked for.
use Rattle.std.specs.Prelude.{◌&&◌, nat_le, ℕ, Bool}
use Rattle.tetri_priced.specs.declared.wanted.Wanted.{Wanted}

-- the cycle of this number is asked for
abbrev pub is_wanted : Wanted → ℕ → Bool
is_wanted w number = nat_le w.from number && nat_le number w.to
