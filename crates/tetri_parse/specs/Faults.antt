-- All faults that the second pass may find, each by itself, in the order of the text.
use Rattle.std.specs.Prelude.{◌≡◌, ℕ, ◌*◌, ◌%◌, ◌-◌, length, option_map, ◌==◌, ◌&&◌, Bool, not, nat_lt, max, if◌then◌else◌, List, [], ◌∷◌, ◌++◌, Option, Some, None, Result, Ok, Err, IfOk}
use Rattle.std.specs.List.{list_any}
use Rattle.tetri_strl.specs.Tree.{Operator, greatest, least, added}
use Rattle.tetri_strl.specs.WellMade.{PEAK, peak_joined}
use Rattle.tetri_cluster.specs.Sets.{set_added}
use Rattle.tetri_parse.specs.declared.fault.Fault.{Fault}
use Rattle.tetri_parse.specs.declared.fault.Fault.TheVariants.{UnknownSet, Uneven, Mixed, TooRich, TooManySets}
use Rattle.tetri_parse.specs.declared.fault.Miss.{Miss}
use Rattle.tetri_parse.specs.declared.fault.ParseFault.{ParseFault}
use Rattle.tetri_parse.specs.declared.fault.ParseFault.TheVariants as faults
use Rattle.tetri_parse.specs.LeafText.{LeafText}
use Rattle.tetri_parse.specs.Phrase.{Phrase, Phrases, asked, joined, scaled, barred, nothing, followed}
use Rattle.tetri_cluster.specs.declared.cluster.NodeText.{NodeText}
use Rattle.tetri_parse.specs.Grammar.{whole_at}
use Rattle.tetri_parse.specs.Settling.{first_start_of, peak_of, peaks_of, settled}

-- a fault where so many bytes are left, if there is one
abbrev pub fault_if : Bool → Fault → ℕ → List Miss
fault_if b fault left = if b then record { fault = fault; left = left } ∷ [] else []

abbrev pub added_faults : ℕ → Option (ℕ × List (List ℕ)) → List Miss
added_faults left None = record { fault = TooManySets; left = left } ∷ []
added_faults left (Some x) = []

-- a set that names what is not there, or that is one too many
abbrev pub set_faults : ℕ → Option (List ℕ) → List (List ℕ) → List Miss
set_faults left None sets = record { fault = UnknownSet; left = left } ∷ []
set_faults left (Some nodes) sets = added_faults left (set_added nodes sets)

abbrev pub sets_with : Option (ℕ × List (List ℕ)) → List (List ℕ) → List (List ℕ)
sets_with None sets = sets
sets_with (Some x) sets = x.1

-- the sets behind a set text
abbrev pub sets_behind : Option (List ℕ) → List (List ℕ) → List (List ℕ)
sets_behind None sets = sets
sets_behind (Some nodes) sets = sets_with (set_added nodes sets) sets

-- the first leaf below each `min` and `sum` around has one of these starts
abbrev pub starts_below : Operator → List ℕ → ℕ → List ℕ
starts_below greatest starts start = starts
starts_below least starts start = start ∷ starts
starts_below added starts start = start ∷ starts

module _ (unit : ℕ) where
  -- a leaf that starts in another slot than the first one below some `min` or `sum` around it is mixed
  abbrev pub leaf_faults : List ℕ → LeafText → List (List ℕ) → List Miss
  leaf_faults starts l sets =
      fault_if (list_any (λ s. not (s == l.start)) starts) Mixed l.left ++ (fault_if (nat_lt PEAK (l.v * unit)) TooRich l.left ++ (set_faults l.set_left l.nodes sets ++ fault_if (l.linear && not (l.v * unit % l.k == 0)) Uneven l.value_left))

  abbrev mutual
    -- the sets behind an expression
    pub sets_past : Phrase → List (List ℕ) → List (List ℕ)
    sets_past (asked l) sets = sets_behind l.nodes sets
    sets_past (joined op left ps) sets = sets_past_all ps sets
    sets_past (scaled left p s) sets = sets_past p sets
    sets_past (barred left p v) sets = sets_past p sets

    pub sets_past_all : Phrases → List (List ℕ) → List (List ℕ)
    sets_past_all nothing sets = sets
    sets_past_all (followed p ps) sets = sets_past_all ps (sets_past p sets)

  abbrev mutual
    pub all_faults : List ℕ → Phrase → List (List ℕ) → List Miss
    all_faults starts (asked l) sets = leaf_faults starts l sets
    all_faults starts (joined op left ps) sets = fault_if (nat_lt PEAK (peak_joined op (peaks_of unit ps))) TooRich left ++ faults_of_all (starts_below op starts (first_start_of ps)) ps sets
    all_faults starts (scaled left p s) sets = fault_if (nat_lt PEAK (s * peak_of unit p)) TooRich left ++ all_faults starts p sets
    all_faults starts (barred left p v) sets = fault_if (nat_lt PEAK (max (v * unit) (peak_of unit p))) TooRich left ++ all_faults starts p sets

    pub faults_of_all : List ℕ → Phrases → List (List ℕ) → List Miss
    faults_of_all starts nothing sets = []
    faults_of_all starts (followed p ps) sets = all_faults starts p sets ++ faults_of_all starts ps (sets_past p sets)

-- a result that is the first of these faults, and Ok where there is none
abbrev pub IsFirstOf : {A : Type 0} → List Miss → Result A Miss → Type 0
IsFirstOf [] (Ok x) = Unit {0}
IsFirstOf [] (Err e) = ⊥
IsFirstOf (m ∷ ms) (Ok x) = ⊥
IsFirstOf (m ∷ ms) (Err e) = e ≡ m

-- where the first pass finds no fault, reading a text meets the first of all faults of the second
abbrev pub MeetsFirst : List ℕ → ℕ → ℕ → List NodeText → List (List ℕ) → Type 0
MeetsFirst text unit arrival cluster sets = IfOk (whole_at cluster text) (λ spelled. IsFirstOf (all_faults unit [] spelled sets) (settled unit arrival None spelled sets))

abbrev pub first_of : List Miss → Option Miss
first_of [] = None
first_of (m ∷ ms) = Some m

abbrev pub fault_behind : ℕ → List (List ℕ) → Result Phrase Miss → Option Miss
fault_behind unit sets (Ok spelled) = first_of (all_faults unit [] spelled sets)
fault_behind unit sets (Err m) = Some m

-- the first fault of a text: that of its grammar, and else the first of all others
abbrev pub first_fault : List ℕ → ℕ → List NodeText → List (List ℕ) → Option Miss
first_fault text unit cluster sets = fault_behind unit sets (whole_at cluster text)

-- what is answered to a text with this first fault, unless memory ran out
abbrev pub AnswersFault : {A : Type 0} → List ℕ → Option Miss → Result A ParseFault → Type 0
AnswersFault text found (Ok x) = found ≡ None
AnswersFault text found (Err (faults.At offset fault)) = option_map {U = ℕ × Fault} (λ m. (length text - m.left, m.fault)) found ≡ Some (offset, fault)
AnswersFault text found (Err faults.NoMemory) = Unit {0}
