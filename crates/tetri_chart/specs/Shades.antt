-- The shades of nodes that are drained, failed or closed.
use Rattle.std.specs.Prelude.{ℕ, ◌+◌, ◌==◌, List, [], ◌∷◌, ◌++◌, flat_map, min, if◌then◌else◌, Bool, false, Option, Some, None, codes}
use Rattle.tetri_space.specs.declared.closure.Closure.{Closure}
use Rattle.tetri_trace.specs.Scenario.{Scenario}
use Rattle.tetri_trace.specs.declared.trace.Event.{Event}
use Rattle.tetri_trace.specs.declared.trace.Happening.{Happening}
use Rattle.tetri_trace.specs.declared.trace.Happening.TheVariants.{Arrive, Cancel, Drain, Undrain, Fail}
use Rattle.tetri_cluster.specs.Cluster.{name_at}
use Rattle.tetri_svg.specs.Shade.{shade_text}
use Rattle.tetri_svg.specs.Layout.{Layout}

-- the node that an event drains, brings back or lets fail, if it is of one
abbrev pub node_of : Happening → Option ℕ
node_of (Arrive job) = None
node_of (Cancel job) = None
node_of (Drain node) = Some node
node_of (Undrain node) = Some node
node_of (Fail node) = Some node

abbrev pub is_node : Option ℕ → ℕ → Bool
is_node None node = false
is_node (Some other) node = other == node

-- the slot of the first of these events that is of the node, or this slot where there is none
abbrev pub next_change : List Event → ℕ → ℕ → ℕ
next_change [] node until = until
next_change (e ∷ es) node until = if is_node (node_of e.what) node then e.at else next_change es node until

-- the slot up to which an event shades that is of such a node, if it is of one, where these events follow it
abbrev pub end_of : ℕ → Option ℕ → List Event → ℕ
end_of until None later = until
end_of until (Some node) later = next_change later node until

-- the same of each of the events
abbrev pub ends_of : ℕ → List Event → List ℕ
ends_of until [] = []
ends_of until (e ∷ es) = end_of until (node_of e.what) es ∷ ends_of until es

module _ (t : Scenario) (f : Layout) where
  -- what an event shades, where these follow it: the node from its slot on, up to the next event of the node
  abbrev pub outage_by : Happening → ℕ → List Event → List ℕ
  outage_by (Arrive job) at later = []
  outage_by (Cancel job) at later = []
  outage_by (Drain node) at later = shade_text f (codes "drained") (codes "drained") (name_at t.nodes node) node at (next_change later node t.header.until)
  outage_by (Undrain node) at later = []
  outage_by (Fail node) at later = shade_text f (codes "broken") (codes "failed") (name_at t.nodes node) node at (next_change later node t.header.until)

  abbrev pub outage_text : Event → List Event → List ℕ
  outage_text e later = outage_by e.what e.at later

  abbrev pub outages_text : List Event → List ℕ
  outages_text [] = []
  outages_text (e ∷ es) = outage_text e es ++ outages_text es

  -- a closure, as far as the run goes
  abbrev pub closure_text : Closure → List ℕ
  closure_text c = shade_text f (codes "closed") (codes "closed") (name_at t.nodes c.node) c.node c.from (min (c.to + 1) t.header.until)

  abbrev pub shades_text : List ℕ
  shades_text = outages_text t.events ++ flat_map closure_text t.closures
