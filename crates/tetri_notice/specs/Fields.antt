-- What the values of a JSON object say.
use Rattle.std.specs.Prelude.{ℕ, ◌&&◌, ℤ, pos, negsuc, List, [], ◌∷◌, Bool, nat_le, int_le, is_some, if◌then◌else◌, Option, Some, None, option_map, option_and_then, ok_or, Result, Ok, Err, codes}
use Rattle.std.specs.Str.{is_utf8}
use Rattle.tetri_base.specs.ResultSteps.{◌>>=◌}
use Rattle.serde_json.specs.Data.{Data, Items, no_items, item}
use Rattle.serde_json.specs.Read.{read}
use Rattle.serde_json.specs.Find.{get, as_null, as_number, as_i64, as_str, as_array, as_object}
use Rattle.tetri_cluster.specs.Names.{is_name}
use Rattle.tetri_cluster.specs.declared.cluster.NodeText.{NodeText}
use Rattle.tetri_notice.specs.declared.fault.Field.{Field}
use Rattle.tetri_notice.specs.declared.fault.TraceWhy.{TraceWhy}
use Rattle.tetri_notice.specs.declared.fault.TraceWhy.TheVariants.{MissingField, NotJson, NotObject}

-- the object that a line is
unfoldable pub object_in : List ℕ → Result Data TraceWhy
object_in line = do
  value ← if is_utf8 line then ok_or (read line) NotJson else Err NotJson
  if is_some (as_object value) then Ok value else Err NotObject

-- the value of a key that has to be there
abbrev pub required : Field → List ℕ → Data → Result Data TraceWhy
required field key d = ok_or (get key d) (MissingField field)

abbrev pub has_key : List ℕ → Data → Bool
has_key key d = is_some (get key d)

-- null says nothing
abbrev pub unless_null : Data → Option Data
unless_null d = if is_some (as_null d) then None else Some d

-- the value of a key that may be left out, or hold null
abbrev pub optional : List ℕ → Data → Option Data
optional key d = option_and_then unless_null (get key d)

-- the name that a value is
abbrev pub name_in : Data → Option (List ℕ)
name_in d = option_and_then (λ s. if is_name s then Some s else None) (as_str d)

-- the integer that a value is
abbrev pub integer_in : Data → Option ℤ
integer_in d = option_and_then as_i64 (as_number d)

abbrev pub from_zero : ℤ → Option ℕ
from_zero (pos n) = Some n
from_zero (negsuc n) = None

-- the slot that a value is, 0 or more
abbrev pub slot_in : Data → Option ℕ
slot_in d = option_and_then from_zero (integer_in d)

abbrev pub within : ℕ → ℕ → ℕ → Option ℕ
within low high n = if nat_le low n && nat_le n high then Some n else None

-- the number that a value is, within its limits
abbrev pub number_in : ℕ → ℕ → Data → Option ℕ
number_in low high d = option_and_then (within low high) (slot_in d)

-- what written worths are multiplied by, 1 where it is left out
abbrev pub unit_of : Option Data → Option ℕ
unit_of None = Some 1
unit_of (Some d) = number_in 1 1000000 d

abbrev pub not_too_late : ℤ → Option ℤ
not_too_late z = if int_le (negsuc 9999) z && int_le z (pos 10000) then Some z else None

-- how many slots longer than asked for a job runs, 0 where it is left out
abbrev pub late_of : Option Data → Option ℤ
late_of None = Some (pos 0)
late_of (Some d) = option_and_then not_too_late (integer_in d)

-- each item of a list as a name
abbrev pub names_in : Items → Option (List (List ℕ))
names_in no_items = Some []
names_in (item d ds) = option_and_then (λ name. option_map (λ names. name ∷ names) (names_in ds)) (name_in d)

-- the tags of a node, none where they are left out
abbrev pub tags_of : Option Data → Option (List (List ℕ))
tags_of None = Some []
tags_of (Some d) = option_and_then names_in (as_array d)

-- a node, which has a name and may have tags
abbrev pub node_in : Data → Option NodeText
node_in d =
    option_and_then (λ name. option_map (λ tags. record { name = name; tags = tags }) (tags_of (optional (codes "tags") d))) (option_and_then name_in (get (codes "name") d))

-- each item of a list as a node
abbrev pub nodes_in : Items → Option (List NodeText)
nodes_in no_items = Some []
nodes_in (item d ds) = option_and_then (λ n. option_map (λ ns. n ∷ ns) (nodes_in ds)) (node_in d)
