-- Events as an import writes them, key by key in one order: their tokens and the data that these are.
use Rattle.std.specs.Prelude.{◌≡◌, ◌<◌, ◌≤◌, ℕ, ℤ, List, length, true, is_some, Option, Some, None, option_map, Result, Ok, codes}
use Rattle.json.specs.Token.{Token}
use Rattle.json.specs.Json.{members, value}
use Rattle.serde_json.specs.Data.{Data, number, string, object, Members, no_members, put}
use Rattle.serde_json.specs.Find.{as_object, of_integer}
use Rattle.serde_json.specs.Read.{of_json, of_members, converted, read}
use Rattle.tetri_notice.specs.Asks.{AskText, ask_in, object_keys}
use Rattle.tetri_base.specs.ResultSteps.{◌>>=◌}
use Rattle.tetri_notice.specs.Fields.{object_in}
use Rattle.tetri_notice.specs.Objects.{Notice, event_in}
use Rattle.tetri_notice.specs.declared.fault.TraceWhy.{TraceWhy}
use Rattle.tetri_notice.specs.declared.written.Due.{Due}
use Rattle.tetri_notice.specs.declared.written.WrittenAsk.{WrittenAsk}
use Rattle.tetri_notice.specs.declared.written.WrittenCancel.{WrittenCancel}
use Rattle.tetri_notice.specs.declared.written.WrittenJob.{WrittenJob}

-- an integer as data
abbrev pub whole : ℤ → Data
whole z = number (of_integer z)

-- the tokens begin with a value that is d
abbrev pub IsValue : Data → List Token → List Token → Type 0
IsValue d old new = (length new < length old) × ((depth : ℕ) → converted of_json (value depth old) ≡ Some (d, new))

-- Of the members of an object, those that the tokens begin with are put by f to those before them. Values nest at least so deep.
abbrev pub Puts : ℕ → (Members → Members) → List Token → List Token → Type 0
Puts low f old new =
    (length new ≤ length old)
    × ((depth n : ℕ) (found : Members) → low ≤ depth → length old ≤ n
    → (m : ℕ) × (length new ≤ m) × (converted (λ ms. of_members ms found) (members (value depth) n old) ≡ converted (λ ms. of_members ms (f found)) (members (value depth) m new)))

-- the tokens go on with these members and the end of their object
abbrev pub AreMembers : ℕ → Members → List Token → List Token → Type 0
AreMembers low ms old new =
    (length new < length old)
    × ((depth n : ℕ) → low ≤ depth → length old ≤ n → converted (λ found. of_members found no_members) (members (value depth) n old) ≡ Some (ms, new))

-- a set is written unless all nodes may serve
abbrev pub with_set : Option (List ℕ) → Members → Members
with_set None ms = ms
with_set (Some set) ms = put (codes "set") (string set) ms

abbrev pub with_due : Due → Members → Members
with_due due ms = put (codes "deadline") (whole due.deadline) (with_set (option_map (λ s. s.now) due.set) ms)

abbrev pub ask_members : WrittenAsk → Members
ask_members a =
    put (codes "class") (string a.class.now) (with_due a.due (put (codes "value") (whole a.value) (put (codes "dur") (whole a.dur) (put (codes "k") (whole a.k) no_members))))

abbrev pub job_members : WrittenJob → Members
job_members j =
    put (codes "ask") (object (ask_members j.ask)) (put (codes "late") (whole j.late) (put (codes "arrive") (string j.name.now) (put (codes "at") (whole j.at) no_members)))

abbrev pub cancel_members : WrittenCancel → Members
cancel_members c = put (codes "cancel") (string c.name.now) (put (codes "at") (whole c.at) no_members)

-- an ask has its keys, and says this
pub record SaysAsk (unit : ℕ) (d : Data) (a : AskText) : Type 0 where
  pub keys : object_keys d ≡ Ok tt
  pub value : ask_in unit d ≡ Ok a

-- an object is an event that says this
pub record SaysEvent (unit : ℕ) (d : Data) (at : ℕ) (n : Notice) : Type 0 where
  pub object : is_some (as_object d) ≡ true
  pub event : event_in unit d ≡ Ok (at, n)

-- a text is such an object
abbrev pub TextSays : ℕ → List ℕ → ℕ → Notice → Type 0
TextSays unit text at n = (d : Data) × (read text ≡ Some d) × SaysEvent unit d at n

-- the event that a line is
abbrev pub event_on : ℕ → List ℕ → Result (ℕ × Notice) TraceWhy
event_on unit line = object_in line >>= event_in unit
