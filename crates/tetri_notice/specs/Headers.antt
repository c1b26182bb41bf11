-- What the header of a trace says, with names for what has no number yet.
use Rattle.std.specs.Prelude.{◌≡◌, ◌≤◌, ◌&&◌, true, All, List, length, nat_le, if◌then◌else◌, Option, Some, None, option_and_then, ok_or, Result, Ok, codes}
use Rattle.tetri_base.specs.ResultSteps.{◌>>=◌}
use Rattle.serde_json.specs.Data.{Data}
use Rattle.serde_json.specs.Find.{get, as_array}
use Rattle.serde_json.specs.View.{view}
use Rattle.tetri_cluster.specs.Cluster.{names_of}
use Rattle.tetri_cluster.specs.Names.{is_name}
use Rattle.tetri_cluster.specs.declared.cluster.NodeText.{NodeText}
use Rattle.tetri_notice.specs.Closures.{closures_of, IsWithinLimits}
use Rattle.tetri_notice.specs.Fields.{number_in, nodes_in, optional, required, unit_of}
use Rattle.tetri_notice.specs.declared.closures.ClosureText.{ClosureText}
use Rattle.tetri_notice.specs.declared.fault.Field.TheVariants as fields
use Rattle.tetri_notice.specs.declared.fault.TraceWhy.{TraceWhy}
use Rattle.tetri_notice.specs.declared.fault.TraceWhy.TheVariants.{NoHeader, BadField}
use Rattle.tetri_notice.specs.declared.header.Header.{Header}
use Rattle.tetri_notice.specs.declared.header.HeaderKeys as code_keys
use Rattle.tetri_notice.specs.declared.header.HeaderText as code

pub record HeaderText : Type 0 where
  pub header : Header
  pub nodes : List NodeText
  pub closures : List ClosureText

abbrev pub header_text : code.HeaderText → HeaderText
header_text h = record { header = h.header; nodes = h.nodes.items; closures = h.closures.items }

-- the values of the keys that have to be there
pub record HeaderKeys : Type 0 where
  pub nodes : Data
  pub window : Data
  pub budget : Data
  pub until : Data

abbrev pub key_values : code_keys.HeaderKeys → HeaderKeys
key_values k = record { nodes = view k.nodes.now; window = view k.window.now; budget = view k.budget.now; until = view k.until.now }

unfoldable pub header_keys : Data → Result HeaderKeys TraceWhy
header_keys d = do
  nodes ← ok_or (get (codes "nodes") d) NoHeader
  window ← required fields.Window (codes "window") d
  budget ← required fields.Budget (codes "budget") d
  until ← required fields.Until (codes "until") d
  Ok (record { nodes = nodes; window = window; budget = budget; until = until })

-- from 1 to 4,096 nodes
abbrev pub some_nodes : List NodeText → Option (List NodeText)
some_nodes nodes = if nat_le 1 (length nodes) && nat_le (length nodes) 4096 then Some nodes else None

abbrev pub cluster_in : Data → Option (List NodeText)
cluster_in d = option_and_then some_nodes (option_and_then nodes_in (as_array d))

-- the limits of a run
unfoldable pub limits_in : HeaderKeys → Data → Result Header TraceWhy
limits_in keys d = do
  window ← ok_or (number_in 1 64 keys.window) (BadField fields.Window)
  budget ← ok_or (number_in 1 10000 keys.budget) (BadField fields.Budget)
  until ← ok_or (number_in 1 10000 keys.until) (BadField fields.Until)
  unit ← ok_or (unit_of (optional (codes "unit") d)) (BadField fields.Unit)
  Ok (record { window = window; budget = budget; until = until; unit = unit })

-- the header that an object is
unfoldable pub header_in : Data → Result HeaderText TraceWhy
header_in d = do
  keys ← header_keys d
  nodes ← ok_or (cluster_in keys.nodes) (BadField fields.Nodes)
  header ← limits_in keys d
  closures ← ok_or (closures_of (optional (codes "closures") d)) (BadField fields.Closures)
  Ok (record { header = header; nodes = nodes; closures = closures })

pub record IsSoundHeader (h : Header) : Type 0 where
  pub some_slots : 1 ≤ h.window
  pub few_slots : h.window ≤ 64
  pub some_budget : 1 ≤ h.budget
  pub small_budget : h.budget ≤ 10000
  pub some_cycles : 1 ≤ h.until
  pub few_cycles : h.until ≤ 10000
  pub some_unit : 1 ≤ h.unit
  pub small_unit : h.unit ≤ 1000000

-- all that a header keeps before names are looked up
pub record IsSoundHeaderText (h : HeaderText) : Type 0 where
  pub header : IsSoundHeader h.header
  pub some_nodes : 1 ≤ length h.nodes
  pub few_nodes : length h.nodes ≤ 4096
  pub node_names : All (λ name. is_name name ≡ true) (names_of h.nodes)
  pub closures : All IsWithinLimits h.closures
  pub few_closures : length h.closures ≤ 4096
