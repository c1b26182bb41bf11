-- Why something is not read whole.
use Rattle.std.specs.Prelude.{◌≡◌}
use Rattle.tetri_pipes.specs.declared.whole.Unread.{Unread}
use Rattle.tetri_pipes.specs.declared.whole.Unread.TheVariants.{Failed, TooLong, NoMemory}

-- There is more than may be read.
abbrev pub is_too_long : Unread → Type 0
is_too_long why = why ≡ TooLong
