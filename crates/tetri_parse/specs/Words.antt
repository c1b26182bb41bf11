-- Faults in words.
use Rattle.std.specs.Prelude.{ℕ, List, codes}
use Rattle.tetri_parse.specs.declared.fault.Fault.{Fault}
use Rattle.tetri_parse.specs.declared.fault.Fault.TheVariants.{Unexpected, Ended, Trailing, NumberRange, UnknownSet, Uneven, Mixed, TooDeep, TooManyLeaves, TooRich, TooManySets}

-- a fault in words
abbrev pub fault_words : Fault → List ℕ
fault_words Unexpected = codes "unexpected"
fault_words Ended = codes "ended"
fault_words Trailing = codes "trailing"
fault_words NumberRange = codes "number-range"
fault_words UnknownSet = codes "unknown-set"
fault_words Uneven = codes "uneven"
fault_words Mixed = codes "mixed"
fault_words TooDeep = codes "too-deep"
fault_words TooManyLeaves = codes "too-many-leaves"
fault_words TooRich = codes "too-rich"
fault_words TooManySets = codes "too-many-sets"
