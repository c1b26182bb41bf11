-- What the words of the command line ask for.
use Rattle.std.specs.Prelude.{ℕ, ◌^◌, ◌<◌, List, [], ◌∷◌, map, Option, Some, None, option_map, if◌then◌else◌, bytes_eq, codes, String, string_bytes}
use Rattle.std.specs.declared.alloc.Global.{Global}
use Rattle.tetri_io.specs.Numbers.{digits_below}
use Rattle.tetri_run.specs.declared.words.Request.{Request}
use Rattle.tetri_run.specs.declared.words.Request.TheVariants.{Plan, Check, Load, Parts, Tight, Admit}

-- to plan the trace of this name, to check a report against a trace, to run the trace that is made
-- of this number, to plan the trace of this name part by part, to plan it and tighten its bounds by
-- cuts, or to ask which of its first jobs can be served together
pub data Asked : Type 0 where
  to_plan : (trace : List ℕ) → Asked
  to_check : (trace report : List ℕ) → Asked
  to_load : (number : ℕ) → Asked
  to_parts : (trace : List ℕ) → Asked
  to_tight : (trace : List ℕ) → Asked
  to_admit : (trace : List ℕ) → Asked

-- `plan`, `parts`, `tight` or `admit` and one more word; `load` and 1 to 10 digits of a number
-- below 2^31; or `check` and two more words
abbrev pub asked : List (List ℕ) → Option Asked
asked (verb ∷ word ∷ []) =
    if bytes_eq verb (codes "plan") then Some (to_plan word)
    else (if bytes_eq verb (codes "load") then option_map to_load (digits_below (2 ^ 31) word)
    else (if bytes_eq verb (codes "parts") then Some (to_parts word)
    else (if bytes_eq verb (codes "tight") then Some (to_tight word)
    else (if bytes_eq verb (codes "admit") then Some (to_admit word) else None))))
asked (verb ∷ trace ∷ report ∷ []) = if bytes_eq verb (codes "check")
    then Some (to_check trace report) else None
asked words = None

-- the same of names that are kept
abbrev pub asked_of : Request → Asked
asked_of (Plan trace) = to_plan trace.now
asked_of (Check trace report) = to_check trace.now report.now
asked_of (Load number) = to_load number
asked_of (Parts trace) = to_parts trace.now
asked_of (Tight trace) = to_tight trace.now
asked_of (Admit trace) = to_admit trace.now

-- a number that is kept is below 2^31
abbrev pub IsSmall : Request → Type 0
IsSmall (Plan trace) = Unit {0}
IsSmall (Check trace report) = Unit {0}
IsSmall (Load number) = number < 2 ^ 31
IsSmall (Parts trace) = Unit {0}
IsSmall (Tight trace) = Unit {0}
IsSmall (Admit trace) = Unit {0}

-- the words as bytes
abbrev pub texts : List (String Global) → List (List ℕ)
texts words = map (λ w. string_bytes w) words
