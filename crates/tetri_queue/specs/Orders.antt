-- The launches of a cycle as commands.
use Rattle.std.specs.Prelude.{◌≡◌, ℕ, ◌<◌, ◌==◌, ◌&&◌, ◌||◌, Bool, true, nat_le, List, [], ◌++◌, All, drop, flat_map, fold, length, map, if◌then◌else◌, codes}
use Rattle.std.specs.List.{list_all}
use Rattle.tetri_cluster.specs.Cluster.{name_at}
use Rattle.tetri_cycles.specs.Observed.{next}
use Rattle.tetri_report.specs.Block.{Block}
use Rattle.tetri_state.specs.Begin.{begin}
use Rattle.tetri_state.specs.Snapshot.{Snapshot}
use Rattle.tetri_state.specs.declared.pieces.Piece.{Piece}
use Rattle.tetri_trace.specs.Scenario.{Scenario, submission_of}
use Rattle.tetri_cluster.specs.declared.cluster.NodeText.{NodeText}
use Rattle.tetri_queue.specs.declared.ordering.Launch.{Launch}
use Rattle.tetri_queue.specs.declared.ordering.Launches.{Launches}
use Rattle.tetri_queue.specs.declared.ordering.OrderForm.{OrderForm}
use Rattle.tetri_queue.specs.declared.ordering.OrderForm.TheVariants.{Slurm, Json}

-- a digit or _
abbrev pub is_id_byte : ℕ → Bool
is_id_byte b = (nat_le 48 b && nat_le b 57) || b == 95

abbrev pub is_id : List ℕ → Bool
is_id bytes = list_all is_id_byte bytes

abbrev pub launch_of : Piece → Launch
launch_of p = record { job = p.job; nodes = p.nodes }

-- what is kept of a cycle: the pieces that it launches, which stand behind those that ran as it began
abbrev pub KeepsLaunches : Scenario → Snapshot → Block → Launches → Launches → Type 0
KeepsLaunches t s b old new = new.pieces.items ≡ map launch_of (drop (length (begin t s).pieces) (next t s b).pieces)

-- the name of a job
abbrev pub job_name : Scenario → ℕ → List ℕ
job_name t job = (submission_of t job).name

-- A piece is one of the trace: its job is, with a name of digits and _ alone, and so are its nodes, whose names are 1 to 64 letters, digits and _ - . : /
pub record IsOrder (t : Scenario) (l : Launch) : Type 0 where
  pub job : l.job < length t.submissions
  pub id : is_id (job_name t l.job) ≡ true
  pub nodes : All (λ node. node < length t.nodes) l.nodes

-- a name behind a comma, unless it is the first
abbrev pub with_host : List ℕ → List ℕ → List ℕ
with_host hosts name = (if length hosts == 0 then hosts else hosts ++ codes ",") ++ name

-- the names of nodes, with commas between
abbrev pub hosts_text : List NodeText → List ℕ → List ℕ
hosts_text cluster nodes = fold (λ hosts node. with_host hosts (name_at cluster node)) [] nodes

unfoldable pub update_text : List ℕ → List ℕ → List ℕ
update_text job hosts = codes "scontrol update JobId=" ++ (job ++ (codes " ReqNodeList=" ++ hosts))

unfoldable pub release_text : List ℕ → List ℕ
release_text job = codes " && scontrol release " ++ job ++ codes "\n"

-- nothing of a job or a node is in it but names
abbrev pub slurm_line : List ℕ → List ℕ → List ℕ
slurm_line job hosts = update_text job hosts ++ release_text job

unfoldable pub json_line : List ℕ → List ℕ → List ℕ
json_line job hosts = codes "{\"job\":\"" ++ job ++ codes "\",\"nodes\":\"" ++ hosts ++ codes "\"}\n"

abbrev pub order_line : OrderForm → List ℕ → List ℕ → List ℕ
order_line Slurm job hosts = slurm_line job hosts
order_line Json job hosts = json_line job hosts

abbrev pub order_of : OrderForm → Scenario → Launch → List ℕ
order_of form t l = order_line form (job_name t l.job) (hosts_text t.nodes l.nodes)

abbrev pub orders_text : OrderForm → Scenario → List Launch → List ℕ
orders_text form t ls = flat_map (order_of form t) ls
