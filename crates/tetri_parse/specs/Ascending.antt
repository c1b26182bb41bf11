-- The order of faults: by their offsets, and at one offset by their numbers.
use Rattle.std.specs.Prelude.{◌≡◌, ◌⊎◌, ◌<◌, ◌-◌, ℕ, List, [], length, Contains, Result, Ok, Err, IfOk}
use Rattle.tetri_base.specs.Lists.{EachPair}
use Rattle.tetri_cluster.specs.declared.cluster.NodeText.{NodeText}
use Rattle.tetri_parse.specs.declared.fault.Fault.{Fault}
use Rattle.tetri_parse.specs.declared.fault.Fault.TheVariants.{Unexpected, Ended, Trailing, NumberRange, UnknownSet, Uneven, Mixed, TooDeep, TooManyLeaves, TooRich, TooManySets}
use Rattle.tetri_parse.specs.declared.fault.Miss.{Miss}
use Rattle.tetri_parse.specs.declared.fault.ParseFault.{ParseFault}
use Rattle.tetri_parse.specs.declared.fault.ParseFault.TheVariants as faults
use Rattle.tetri_parse.specs.Faults.{all_faults}
use Rattle.tetri_parse.specs.Grammar.{whole_at}

-- the number of a fault
abbrev pub fault_number : Fault → ℕ
fault_number Unexpected = 1
fault_number Ended = 2
fault_number Trailing = 3
fault_number NumberRange = 4
fault_number UnknownSet = 5
fault_number Uneven = 6
fault_number Mixed = 7
fault_number TooDeep = 8
fault_number TooManyLeaves = 9
fault_number TooRich = 10
fault_number TooManySets = 11

-- in a text of this length
module _ (count : ℕ) where
  -- how many bytes stand before a fault
  abbrev pub offset_of : Miss → ℕ
  offset_of m = count - m.left

  -- at a lesser offset, or at the same one by a lesser number
  abbrev pub ComesBefore : Miss → Miss → Type 0
  ComesBefore m n = (offset_of m < offset_of n) ⊎ ((offset_of m ≡ offset_of n) × (fault_number m.fault < fault_number n.fault))

  -- of these faults, and before each other one
  pub record IsLeast (found : List Miss) (m : Miss) : Type 0 where
    pub among : Contains found m
    pub first : (n : Miss) → Contains found n → (n ≡ m) ⊎ ComesBefore m n

  -- the least of these faults is answered, unless memory ran out, and something is read where there is none
  abbrev pub AnswersLeast : {A : Type 0} → List Miss → Result A ParseFault → Type 0
  AnswersLeast found (Ok x) = found ≡ []
  AnswersLeast found (Err (faults.At offset fault)) = (m : Miss) × IsLeast found m × (offset ≡ offset_of m) × (fault ≡ m.fault)
  AnswersLeast found (Err faults.NoMemory) = Unit {0}

-- where the first pass finds no fault, those of the second stand one before the other
abbrev pub FaultsAscend : List ℕ → ℕ → List NodeText → List (List ℕ) → Type 0
FaultsAscend text unit cluster sets = IfOk (whole_at cluster text) (λ spelled. EachPair (ComesBefore (length text)) (all_faults unit [] spelled sets))

-- where the first pass finds no fault, the least of the second is answered
abbrev pub LeastFault : {A : Type 0} → List ℕ → ℕ → List NodeText → List (List ℕ) → Result A ParseFault → Type 0
LeastFault text unit cluster sets result = IfOk (whole_at cluster text) (λ spelled. AnswersLeast (length text) (all_faults unit [] spelled sets) result)
