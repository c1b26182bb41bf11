-- What a caller asks for, and what follows from it and the log.
use Rattle.std.specs.Prelude.{ℕ, ◌-◌, ◌/◌, ◌≤◌, ◌&&◌, ◌^◌, max, nat_le, nat_lt, Option, Some, None, unwrap_or, Result, Ok, Err, if◌then◌else◌}
use Rattle.tetri_base.specs.ResultSteps.{◌>>=◌}
use Rattle.tetri_logs.specs.declared.options.Options.{Options}
use Rattle.tetri_logs.specs.declared.options.OptionFault.{OptionFault}
use Rattle.tetri_logs.specs.declared.options.OptionFault.TheVariants as faults
use Rattle.tetri_logs.specs.declared.options.Settings.{Settings}
use Rattle.tetri_logs.specs.declared.reading.Facts.{Facts}
use Rattle.tetri_logs.specs.Reading.{no_facts}

-- the number, if it is within its limits
abbrev pub within : ℕ → ℕ → ℕ → OptionFault → Result ℕ OptionFault
within number low high fault = if nat_le low number && nat_le number high then Ok number else Err fault

abbrev pub node_size : Option ℕ → Option ℕ → ℕ
node_size (Some processors) (Some nodes) = if nat_lt 0 nodes then max (processors / nodes) 1 else 1
node_size (Some processors) None = 1
node_size None nodes = 1

-- the processors of a node: by default so many that the log's nodes have the log's processors
abbrev pub processors_of : Options → Facts → ℕ
processors_of o f = unwrap_or o.processors (node_size f.processors f.nodes)

-- So many nodes that they have the log's processors, where their size is given and the log has processors; else the log's nodes. What the
-- log does not say counts as 0.
abbrev pub cluster_size : Option ℕ → ℕ → Option ℕ → Option ℕ → ℕ
cluster_size (Some given) processors nodes (Some all) = all / processors
cluster_size (Some given) processors nodes None = unwrap_or nodes 0
cluster_size None processors (Some nodes) all = nodes
cluster_size None processors None all = unwrap_or all 0 / processors

-- the number of nodes, of so many processors each: by default what the log says of them
abbrev pub cluster_of : Options → Facts → ℕ → ℕ
cluster_of o f processors = unwrap_or o.nodes (cluster_size o.processors processors f.nodes f.processors)

-- whose number of nodes it is that cannot be
abbrev pub nodes_fault : Option ℕ → OptionFault
nodes_fault (Some nodes) = faults.Nodes
nodes_fault None = faults.LogNodes

-- how jobs become a trace, where slot 0 is not known
unfoldable pub settings_of : Options → Facts → Result Settings OptionFault
settings_of o f = do
  slot ← within o.slot 1 1000000 faults.Slot
  processors ← within (processors_of o f) 1 (2 ^ 32 - 1) faults.Processors
  nodes ← within (cluster_of o f processors) 1 4096 (nodes_fault o.nodes)
  window ← within o.window 1 64 faults.Window
  budget ← within o.budget 1 10000 faults.Budget
  unit ← within o.unit 1 1000000 faults.Unit
  slack ← within o.slack 0 10000 faults.Slack
  Ok (record {
    slot = slot;
    processors = processors;
    nodes = nodes;
    window = window;
    budget = budget;
    unit = unit;
    start = f.start;
    origin = 0;
    from = unwrap_or o.from 0;
    to = unwrap_or o.to (2 ^ 64 - 1);
    most = unwrap_or o.jobs (2 ^ 32 - 1);
    worth = o.worth;
    slack = slack;
    class = o.class;
    whole_nodes_only = o.whole_nodes_only;
  })

-- The first option that cannot be, whatever a log says. Where nothing says how many nodes there are, a log may.
abbrev pub early_of : Result Settings OptionFault → Option OptionFault
early_of (Ok settings) = None
early_of (Err faults.LogNodes) = None
early_of (Err fault) = Some fault

abbrev pub early_fault : Options → Option OptionFault
early_fault o = early_of (settings_of o no_facts)

-- what follows of settings
pub record AreGood (s : Settings) : Type 0 where
  pub some_slot : 1 ≤ s.slot
  pub few_seconds : s.slot ≤ 1000000
  pub some_processors : 1 ≤ s.processors
  pub some_nodes : 1 ≤ s.nodes
  pub few_nodes : s.nodes ≤ 4096
  pub some_unit : 1 ≤ s.unit
  pub small_unit : s.unit ≤ 1000000
  pub short_slack : s.slack ≤ 10000
