-- Which slots two pictures share.
use Rattle.std.proofs.Common.{◌≡◌, ℕ, ◌+◌, ◌-◌, arith}
use Rattle.std.specs.Prelude.{max, min}
use Rattle.tetri_trace.specs.Scenario.{Scenario}
use Rattle.tetri_chart.specs.Pair.{later_end, shared_view}
use Rattle.tetri_chart.specs.Picture.{Picture}
use Rattle.tetri_chart.specs.Slots.{end_of, first_of, wanted_end}
use Rattle.tetri_chart.specs.declared.view.View.{View}

-- of two ends that are wanted, behind the same first slot and not behind the same most, the later one is found again from the slot before it
later_again : (one other first most : ℕ) →
    min (max (max (min (max one (first + 1)) most) (min (max other (first + 1)) most) - 1 + 1) (first + 1)) most
    ≡ max (min (max one (first + 1)) most) (min (max other (first + 1)) most)
later_again one other first most = omega arith

pub shared_end : (t : Scenario) (v : View) (p q : Picture) → end_of t (shared_view t v p q) p ≡ later_end t v p q
shared_end t v p q = later_again (wanted_end v.to p) (wanted_end v.to q) (first_of v) (t.header.until + t.header.window)
