-- What became of one advisor that was asked.
use Rattle.std.specs.Prelude.{◌≡◌, ◌+◌, ◌<◌, ◌≤◌}
use Rattle.tetri_algebra.specs.Counts.{Rose}
use Rattle.tetri_space.specs.Lawful.{IsLawful}
use Rattle.tetri_space.specs.Space.{Space}
use Rattle.tetri_advice.specs.Asked.{Stays}
use Rattle.tetri_advice.specs.Seat.{Seat}
use Rattle.tetri_advice.specs.declared.seated.Verdict.{Verdict}
use Rattle.tetri_advice.specs.declared.seated.Verdict.TheVariants.{Missed, Given, Struck, Out}

abbrev pub Judges : Space → Seat → Verdict → Seat → Type 0
Judges s a Missed b = Rose a.misses b.misses × (b.strikes ≡ a.strikes)
Judges s a (Given said) b = (said ≡ a.says s) × IsLawful s (a.says s) × (b.strikes ≡ 0)
Judges s a Struck b = (IsLawful s (a.says s) → ⊥) × (a.strikes < 2) × (b.strikes ≡ a.strikes + 1)
Judges s a Out b = (IsLawful s (a.says s) → ⊥) × (2 ≤ a.strikes)

-- one advisor before and after it was asked, with the verdict
pub record Judged (s : Space) (a : Seat) (v : Verdict) (b : Seat) : Type 0 where
  pub verdict : Judges s a v b
  pub stays : Stays s a b
