-- What the ask of an arrival says, with texts for its sets.
use Rattle.std.specs.Prelude.{ℕ, ◌*◌, ◌&&◌, List, Bool, false, not, bytes_eq, is_some, if◌then◌else◌, Option, Some, None, IfSome, option_map, option_and_then, ok_or, Result, Ok, Err, codes}
use Rattle.serde_json.specs.Data.{Data}
use Rattle.serde_json.specs.Find.{get, as_bool, as_object, as_str}
use Rattle.tetri_base.specs.ResultSteps.{◌>>=◌}
use Rattle.tetri_request.specs.declared.ask.Ask.{Ask}
use Rattle.tetri_request.specs.declared.ask.Prefer.{Prefer}
use Rattle.tetri_request.specs.declared.ask.Class.{Class}
use Rattle.tetri_request.specs.declared.ask.Class.TheVariants.{Steady, Decay}
use Rattle.tetri_request.specs.Options.{IsSoundAsk, IsSoundPrefer}
use Rattle.tetri_strl.specs.WellMade.{PEAK}
use Rattle.tetri_notice.specs.Fields.{has_key, number_in, optional, required, slot_in, within}
use Rattle.tetri_notice.specs.declared.asks.AskText as code
use Rattle.tetri_notice.specs.declared.asks.PreferText as code_prefer
use Rattle.tetri_notice.specs.declared.fault.Field.TheVariants as fields
use Rattle.tetri_notice.specs.declared.fault.TraceWhy.{TraceWhy}
use Rattle.tetri_notice.specs.declared.fault.TraceWhy.TheVariants.{MissingField, BadField}

-- where an ask would rather run, and for how long
pub record PreferText : Type 0 where
  pub set : List ℕ
  pub dur : ℕ

pub record AskText : Type 0 where
  pub k : ℕ
  pub set : List ℕ
  pub dur : ℕ
  pub value : ℕ
  pub deadline : ℕ
  pub prefer : Option PreferText
  pub class : Class
  pub elastic : Bool

abbrev pub prefer_text : code_prefer.PreferText → PreferText
prefer_text p = record { set = p.set.now; dur = p.dur }

abbrev pub ask_text : code.AskText → AskText
ask_text a = record {
  k = a.k;
  set = a.set.now;
  dur = a.dur;
  value = a.value;
  deadline = a.deadline;
  prefer = option_map prefer_text a.prefer;
  class = a.class;
  elastic = a.elastic;
}

-- First, the keys that have to be there.

-- what is preferred, where it is an object, has a set
abbrev pub prefer_keys : Option Data → Result (Unit {0}) TraceWhy
prefer_keys None = Ok tt
prefer_keys (Some d) = if is_some (as_object d) && not (has_key (codes "set") d) then Err (MissingField fields.PreferSet) else Ok tt

unfoldable pub ask_keys : Data → Result (Unit {0}) TraceWhy
ask_keys d = do
  k ← required fields.K (codes "k") d
  dur ← required fields.Dur (codes "dur") d
  value ← required fields.Value (codes "value") d
  deadline ← required fields.Deadline (codes "deadline") d
  prefer_keys (get (codes "prefer") d)

-- what is asked for, where it is an object, has all of them
abbrev pub object_keys : Data → Result (Unit {0}) TraceWhy
object_keys d = if is_some (as_object d) then ask_keys d else Ok tt

-- Then, what they hold.

-- the number that a key holds, within its limits
abbrev pub number_at : List ℕ → ℕ → ℕ → Data → Option ℕ
number_at key low high d = option_and_then (number_in low high) (get key d)

-- all nodes where no set is given
abbrev pub set_text : Option Data → Option (List ℕ)
set_text None = Some (codes "*")
set_text (Some d) = as_str d

-- a written worth, times the unit: neither is above the greatest peak
abbrev pub worth_in : ℕ → Data → Option ℕ
worth_in unit d = option_and_then (λ v. within 0 PEAK (v * unit)) (option_and_then (within 0 PEAK) (slot_in d))

-- how long a run on the preferred set lasts: as on any other, where it is left out
abbrev pub run_of : ℕ → Option Data → Option ℕ
run_of dur None = Some dur
run_of dur (Some d) = number_in 1 10000 d

unfoldable pub prefer_at : ℕ → Data → Result PreferText TraceWhy
prefer_at dur d = do
  set ← ok_or (option_and_then as_str (get (codes "set") d)) (BadField fields.PreferSet)
  run ← ok_or (run_of dur (optional (codes "dur") d)) (BadField fields.PreferDur)
  Ok (record { set = set; dur = run })

-- what an ask with runs so long prefers, if anything
abbrev pub prefer_in : ℕ → Option Data → Result (Option PreferText) TraceWhy
prefer_in dur None = Ok None
prefer_in dur (Some d) = if is_some (as_object d) then prefer_at dur d >>= (λ p. Ok (Some p)) else Err (BadField fields.Prefer)

abbrev pub class_named : List ℕ → Option Class
class_named name = if bytes_eq name (codes "steady") then Some Steady else (if bytes_eq name (codes "decay") then Some Decay else None)

-- steady where it is left out
abbrev pub class_of : Option Data → Option Class
class_of None = Some Steady
class_of (Some d) = option_and_then class_named (as_str d)

-- not elastic where it is left out
abbrev pub elastic_of : Option Data → Option Bool
elastic_of None = Some false
elastic_of (Some d) = as_bool d

-- the ask that an object is, whose worth is multiplied by the unit
unfoldable pub ask_at : ℕ → Data → Result AskText TraceWhy
ask_at unit d = do
  k ← ok_or (number_at (codes "k") 1 4096 d) (BadField fields.K)
  set ← ok_or (set_text (optional (codes "set") d)) (BadField fields.Set)
  dur ← ok_or (number_at (codes "dur") 1 10000 d) (BadField fields.Dur)
  value ← ok_or (option_and_then (worth_in unit) (get (codes "value") d)) (BadField fields.Value)
  deadline ← ok_or (number_at (codes "deadline") 1 20000 d) (BadField fields.Deadline)
  prefer ← prefer_in dur (optional (codes "prefer") d)
  class ← ok_or (class_of (optional (codes "class") d)) (BadField fields.Class)
  elastic ← ok_or (elastic_of (optional (codes "elastic") d)) (BadField fields.Elastic)
  Ok (record { k = k; set = set; dur = dur; value = value; deadline = deadline; prefer = prefer; class = class; elastic = elastic })

abbrev pub ask_in : ℕ → Data → Result AskText TraceWhy
ask_in unit d = if is_some (as_object d) then ask_at unit d else Err (BadField fields.Ask)

-- the preferred place, where its set has this number
abbrev pub prefer_with : ℕ → PreferText → Prefer
prefer_with set p = record { set = set; dur = p.dur }

-- the ask, where its set has this number
abbrev pub ask_with : AskText → ℕ → Option Prefer → Ask
ask_with a set prefer = record {
  k = a.k;
  set = set;
  dur = a.dur;
  value = a.value;
  deadline = a.deadline;
  prefer = prefer;
  class = a.class;
  elastic = a.elastic;
}

-- The limits of an ask say nothing of the numbers of its sets.

abbrev pub IsSoundPreferText : PreferText → Type 0
IsSoundPreferText p = IsSoundPrefer (prefer_with 0 p)

abbrev pub IsSoundPreference : Option PreferText → Type 0
IsSoundPreference p = IfSome (option_map (prefer_with 0) p) IsSoundPrefer

abbrev pub IsSoundAskText : AskText → Type 0
IsSoundAskText a = IsSoundAsk (ask_with a 0 (option_map (prefer_with 0) a.prefer))
