-- What an object behind the header says: an event.
use Rattle.std.specs.Prelude.{ℕ, ℤ, List, [], ◌∷◌, ◌++◌, Option, Some, None, ok_or, Result, Ok, Err, codes}
use Rattle.serde_json.specs.Data.{Data}
use Rattle.serde_json.specs.Find.{get, as_str}
use Rattle.tetri_base.specs.ResultSteps.{◌>>=◌}
use Rattle.tetri_notice.specs.Asks.{AskText, ask_text, ask_in, object_keys}
use Rattle.tetri_notice.specs.Fields.{required, optional, name_in, slot_in, late_of}
use Rattle.tetri_notice.specs.declared.event.EventKey.{EventKey}
use Rattle.tetri_notice.specs.declared.event.EventKey.TheVariants.{Arrive, Cancel, Drain, Undrain, Fail}
use Rattle.tetri_notice.specs.declared.event.Notice as code
use Rattle.tetri_notice.specs.declared.event.Notice.TheVariants as notices
use Rattle.tetri_notice.specs.declared.event.WorkText as work
use Rattle.tetri_notice.specs.declared.event.WorkText.TheVariants as works
use Rattle.tetri_notice.specs.declared.fault.Field.TheVariants as fields
use Rattle.tetri_notice.specs.declared.fault.TraceWhy.{TraceWhy}
use Rattle.tetri_notice.specs.declared.fault.TraceWhy.TheVariants.{MissingField, BadField, UnknownEvent}

-- what a job asks for: the text of an expression, or an ask with texts for its sets
pub data DemandText : Type 0 where
  written : List ℕ → DemandText
  asked : AskText → DemandText

abbrev pub demand_text : work.WorkText → DemandText
demand_text (works.Strl text) = written text.now
demand_text (works.Asked a) = asked (ask_text a)

-- what an event says, with names for what has no number yet
pub data Notice : Type 0 where
  arrives : List ℕ → ℤ → DemandText → Notice
  cancels : List ℕ → Notice
  drains : List ℕ → Notice
  undrains : List ℕ → Notice
  fails : List ℕ → Notice

abbrev pub notice : code.Notice → Notice
notice (notices.Arrive name late demand) = arrives name.now late (demand_text demand)
notice (notices.Cancel name) = cancels name.now
notice (notices.Drain name) = drains name.now
notice (notices.Undrain name) = undrains name.now
notice (notices.Fail name) = fails name.now

-- a key that is there, with its value
abbrev pub there : EventKey → Option Data → List (EventKey × Data)
there key None = []
there key (Some d) = (key, d) ∷ []

abbrev pub only : List (EventKey × Data) → Result (EventKey × Data) TraceWhy
only [] = Err UnknownEvent
only (key ∷ []) = Ok key
only (key ∷ another ∷ keys) = Err UnknownEvent

-- the one event key that is there
unfoldable pub event_key : Data → Result (EventKey × Data) TraceWhy
event_key d =
    only
    (there Arrive (get (codes "arrive") d) ++ there Cancel (get (codes "cancel") d) ++ there Drain (get (codes "drain") d) ++ there Undrain (get (codes "undrain") d) ++ there Fail (get (codes "fail") d))

-- an arrival has an expression or an ask
abbrev pub arrival_keys : Option Data → Option Data → Result (Unit {0}) TraceWhy
arrival_keys None None = Err (MissingField fields.Strl)
arrival_keys None (Some ask) = object_keys ask
arrival_keys (Some strl) None = Ok tt
arrival_keys (Some strl) (Some ask) = object_keys ask

-- what the job of an arrival with this expression or this ask asks for, where not both are there
abbrev pub demand_in : ℕ → Option Data → Option Data → Result DemandText TraceWhy
demand_in unit None None = Err (BadField fields.Strl)
demand_in unit None (Some ask) = ask_in unit ask >>= λ a. Ok (asked a)
demand_in unit (Some strl) None = ok_or (as_str strl) (BadField fields.Strl) >>= λ text. Ok (written text)
demand_in unit (Some strl) (Some ask) = Err (BadField fields.Strl)

-- the job that arrives by this value
unfoldable pub arrival_notice : ℕ → Data → Data → Result Notice TraceWhy
arrival_notice unit d value = do
  complete ← arrival_keys (get (codes "strl") d) (get (codes "ask") d)
  name ← ok_or (name_in value) (BadField fields.Arrive)
  late ← ok_or (late_of (optional (codes "late") d)) (BadField fields.Late)
  demand ← demand_in unit (get (codes "strl") d) (get (codes "ask") d)
  Ok (arrives name late demand)

abbrev pub notice_by : ℕ → Data → EventKey → Data → Result Notice TraceWhy
notice_by unit d Arrive value = arrival_notice unit d value
notice_by unit d Cancel value = ok_or (name_in value) (BadField fields.Cancel) >>= λ name. Ok (cancels name)
notice_by unit d Drain value = ok_or (name_in value) (BadField fields.Drain) >>= λ name. Ok (drains name)
notice_by unit d Undrain value = ok_or (name_in value) (BadField fields.Undrain) >>= λ name. Ok (undrains name)
notice_by unit d Fail value = ok_or (name_in value) (BadField fields.Fail) >>= λ name. Ok (fails name)

-- the slot and the notice of an event, where written worths are multiplied by the unit
unfoldable pub event_in : ℕ → Data → Result (ℕ × Notice) TraceWhy
event_in unit d = do
  value ← required fields.At (codes "at") d
  at ← ok_or (slot_in value) (BadField fields.At)
  key ← event_key d
  said ← notice_by unit d key.0 key.1
  Ok (at, said)
