-- The text of a trace in which jobs arrive and are cancelled.
use Rattle.std.specs.Prelude.{ℕ, ◌+◌, ◌/◌, ◌==◌, List, [], ◌++◌, flat_map, length, slice_get, slice_index_or, Option, Some, None, if◌then◌else◌, codes, decimal}
use Rattle.std.specs.Fmt.{signed_decimal}
use lib.IntN.{ℤ}
use Rattle.std.specs.List.{range_with_len}
use Rattle.tetri_cluster.specs.declared.cluster.NodeText.{NodeText}
use Rattle.tetri_request.specs.declared.ask.Ask.{Ask}
use Rattle.tetri_request.specs.declared.ask.Class.{Class}
use Rattle.tetri_request.specs.declared.ask.Class.TheVariants.{Steady, Decay}
use Rattle.tetri_trace.specs.Scenario.{Demand, Submission, asks, strl}
use Rattle.tetri_trace.specs.declared.trace.Event.{Event}
use Rattle.tetri_trace.specs.declared.trace.Happening.{Happening}
use Rattle.tetri_trace.specs.declared.trace.Happening.TheVariants.{Arrive, Cancel, Drain, Undrain, Fail}
use Rattle.tetri_logs.specs.declared.options.Settings.{Settings}
use Rattle.tetri_workload.specs.Kinds.{are_mixed}
use Rattle.tetri_workload.specs.Taking.{Tally}

-- a node, named by its number from 1 on
unfoldable pub named_text : ℕ → List ℕ
named_text name = codes "{\"name\":\"n" ++ decimal name ++ codes "\"}"

-- with a comma before each but the first
abbrev pub node_text : ℕ → List ℕ
node_text number = (if number == 0 then [] else codes ",") ++ named_text (number + 1)

abbrev pub nodes_text : ℕ → List ℕ
nodes_text count = flat_map node_text (range_with_len 0 count)

unfoldable pub quoted_text : List ℕ → List ℕ
quoted_text tag = codes "\"" ++ tag ++ codes "\""

-- a comma before each but the first
abbrev pub comma_text : ℕ → List ℕ
comma_text place = if place == 0 then [] else codes ","

abbrev pub quoted_at : Option (List ℕ) → List ℕ
quoted_at None = []
quoted_at (Some tag) = quoted_text tag

abbrev pub tag_text : List (List ℕ) → ℕ → List ℕ
tag_text tags place = comma_text place ++ quoted_at (slice_get tags place)

abbrev pub tags_text : List (List ℕ) → List ℕ
tags_text tags = flat_map (tag_text tags) (range_with_len 0 (length tags))

unfoldable pub node_name_text : List ℕ → List ℕ
node_name_text name = codes "{\"name\":\"" ++ name ++ codes "\",\"tags\":["

-- a node with its own name and its tags
unfoldable pub tagged_text : NodeText → List ℕ
tagged_text n = node_name_text n.name ++ tags_text n.tags ++ codes "]}"

abbrev pub tagged_at : Option NodeText → List ℕ
tagged_at None = []
tagged_at (Some node) = tagged_text node

abbrev pub given_text : List NodeText → ℕ → List ℕ
given_text nodes place = comma_text place ++ tagged_at (slice_get nodes place)

abbrev pub all_given_text : List NodeText → List ℕ
all_given_text nodes = flat_map (given_text nodes) (range_with_len 0 (length nodes))

-- the nodes that are given, or so many that are alike
abbrev pub any_nodes_text : List NodeText → ℕ → List ℕ
any_nodes_text nodes count = if are_mixed nodes then all_given_text nodes else nodes_text count

-- the words around the nodes
unfoldable pub opening_text : List ℕ
opening_text = codes "{\"nodes\":["

unfoldable pub limits_text : ℕ → ℕ → List ℕ
limits_text window budget = codes "],\"window\":" ++ (decimal window ++ (codes ",\"budget\":" ++ decimal budget))

unfoldable pub run_text : ℕ → ℕ → List ℕ
run_text until unit = codes ",\"until\":" ++ (decimal until ++ (codes ",\"unit\":" ++ decimal unit))

-- when slot 0 begins, in seconds since 1970, and how many seconds a slot has: keys that the scheduler does not know
unfoldable pub clock_text : ℕ → ℕ → List ℕ
clock_text epoch slot = codes ",\"epoch\":" ++ decimal epoch ++ codes ",\"slot_seconds\":" ++ decimal slot ++ codes "}\n"

-- the nodes and the limits of a run of so many slots
abbrev pub header_text : Settings → List NodeText → ℕ → List ℕ
header_text s nodes until = opening_text ++ any_nodes_text nodes s.nodes ++ limits_text s.window s.budget ++ run_text until s.unit ++ clock_text s.origin s.slot

abbrev pub class_name : Class → List ℕ
class_name Steady = codes "steady"
class_name Decay = codes "decay"

unfoldable pub wanted_text : ℕ → ℕ → ℕ → List ℕ
wanted_text k dur value = codes "{\"k\":" ++ decimal k ++ codes ",\"dur\":" ++ decimal dur ++ codes ",\"value\":" ++ decimal value

unfoldable pub due_text : ℕ → List ℕ → List ℕ
due_text deadline class = codes ",\"deadline\":" ++ decimal deadline ++ codes ",\"class\":\"" ++ class ++ codes "\"}"

unfoldable pub named_set_text : List ℕ → List ℕ
named_set_text set = codes ",\"set\":\"" ++ set ++ codes "\""

-- a set is written unless all nodes may serve
abbrev pub set_text : List ℕ → List ℕ
set_text set = if length set == 0 then [] else named_set_text set

-- what a job asks for, where its worth is written before the unit
abbrev pub ask_text : Settings → List ℕ → Ask → List ℕ
ask_text s set a = wanted_text a.k a.dur (a.value / s.unit) ++ set_text set ++ due_text a.deadline (class_name a.class)

abbrev pub demand_text : Settings → List ℕ → Demand → List ℕ
demand_text s set (strl tree) = []
demand_text s set (asks a) = ask_text s set a

unfoldable pub named_arrival_text : ℕ → List ℕ → List ℕ
named_arrival_text at name = codes "{\"at\":" ++ decimal at ++ codes ",\"arrive\":\"" ++ name ++ codes "\""

unfoldable pub late_text : ℤ → List ℕ
late_text late = codes ",\"late\":" ++ signed_decimal late ++ codes ",\"ask\":"

unfoldable pub closing_text : List ℕ
closing_text = codes "}\n"

abbrev pub arrival_text : Settings → List ℕ → Submission → List ℕ
arrival_text s set j = named_arrival_text j.arrival j.name ++ late_text j.late ++ demand_text s set j.demand ++ closing_text

unfoldable pub named_cancel_text : ℕ → List ℕ → List ℕ
named_cancel_text at name = codes "{\"at\":" ++ decimal at ++ codes ",\"cancel\":\"" ++ name ++ codes "\"}\n"

abbrev pub cancel_text : ℕ → Submission → List ℕ
cancel_text at j = named_cancel_text at j.name

abbrev pub of_job : (Submission → List ℕ) → Option Submission → List ℕ
of_job text None = []
of_job text (Some j) = text j

-- the arrival or the cancellation of a job; nothing else happens in a log
abbrev pub happening_text : Settings → List (List ℕ) → List Submission → ℕ → Happening → List ℕ
happening_text s sets jobs at (Arrive number) = of_job (arrival_text s (slice_index_or sets number [])) (slice_get jobs number)
happening_text s sets jobs at (Cancel number) = of_job (cancel_text at) (slice_get jobs number)
happening_text s sets jobs at (Drain node) = []
happening_text s sets jobs at (Undrain node) = []
happening_text s sets jobs at (Fail node) = []

abbrev pub event_text : Settings → List (List ℕ) → List Submission → Event → List ℕ
event_text s sets jobs e = happening_text s sets jobs e.at e.what

-- the header, and a line for each event
abbrev pub text_of : Settings → List NodeText → Tally → List ℕ
text_of s nodes t = header_text s nodes t.until ++ flat_map (event_text s t.sets t.jobs) t.events
