-- What the colours of bars tell.
use Rattle.std.specs.Prelude.{ℕ, ◌+◌, ◌%◌, List, [], ◌++◌, flat_map, length, map, min, nat_lt, position, slice_index_or, Option, Some, None, if◌then◌else◌, codes}
use Rattle.std.specs.List.{range_with_len}
use Rattle.tetri_cluster.specs.Names.{is_among}
use Rattle.tetri_cluster.specs.declared.cluster.NodeText.{NodeText}
use Rattle.tetri_request.specs.declared.ask.Class.{Class}
use Rattle.tetri_request.specs.declared.ask.Class.TheVariants.{Steady, Decay}
use Rattle.tetri_svg.specs.Layout.{Layout}
use Rattle.tetri_svg.specs.Style.{grey_text, key_text, note_text}
use Rattle.tetri_trace.specs.Scenario.{Demand, Scenario, asks, strl, submission_of}
use Rattle.tetri_chart.specs.declared.colours.Paint.{Paint}
use Rattle.tetri_chart.specs.declared.colours.Paint.TheVariants.{Job, Ask, Node}
use Rattle.tetri_chart.specs.declared.picture.Span.{Span}
use Rattle.tetri_chart.specs.declared.view.Colours.{Colours}
use Rattle.tetri_chart.specs.declared.view.Colours.TheVariants.{ByJob, ByClass, ByTag}

-- the colour of an ask of a class
abbrev pub ask_colour : Class → ℕ
ask_colour Steady = 1
ask_colour Decay = 2

-- the colour of what a job asks for
abbrev pub class_colour : Demand → ℕ
class_colour (strl e) = 0
class_colour (asks a) = ask_colour a.class

-- the colour of a tag at a place, which begin anew after seven, or where there is none a further one
abbrev pub place_colour : Option ℕ → ℕ
place_colour None = 7
place_colour (Some place) = place % 7

-- the place of the first of these tags that stands among those of a node
abbrev pub first_tag : List (List ℕ) → List (List ℕ) → Option ℕ
first_tag tags own = position (λ tag. is_among tag own) tags

-- the colours of nodes, in their order
abbrev pub node_colours : List (List ℕ) → List NodeText → List ℕ
node_colours tags nodes = map (λ (n : NodeText). place_colour (first_tag tags n.tags)) nodes

-- what the colours go by, with those of the nodes where these matter
abbrev pub paint_of : Scenario → Colours → Paint
paint_of t ByJob = Job
paint_of t ByClass = Ask
paint_of t (ByTag tags) = Node (node_colours tags t.nodes)

-- the colour of a piece on a node
abbrev pub colour_of : Scenario → Paint → Span → ℕ → ℕ
colour_of t Job s node = s.job % 7
colour_of t Ask s node = class_colour (submission_of t s.job).demand
colour_of t (Node colours) s node = slice_index_or colours node 7

-- what the bars are coloured by
abbrev pub by_text : Colours → List ℕ
by_text ByJob = codes "job"
by_text ByClass = codes "class"
by_text (ByTag tags) = codes "tag"

-- the rule of the further colour, where bars may have it
abbrev pub further_text : Colours → List ℕ
further_text ByJob = []
further_text ByClass = []
further_text (ByTag tags) = grey_text

-- how many lines below the legend say what the colours stand for
abbrev pub lines_of : Colours → ℕ
lines_of ByJob = 0
lines_of ByClass = 3
lines_of (ByTag tags) = min (length tags) 8 + 1

-- the line of a tag at a place
abbrev pub tag_key : Layout → List (List ℕ) → ℕ → List ℕ
tag_key f tags place = key_text f (place + 1) place (slice_index_or tags place [])

-- the lines of the first seven tags
abbrev pub tag_keys : Layout → List (List ℕ) → List ℕ
tag_keys f tags = flat_map (tag_key f tags) (range_with_len 0 (min (length tags) 7))

-- a line where there are more
abbrev pub others_text : Layout → List (List ℕ) → List ℕ
others_text f tags = if nat_lt 7 (length tags) then note_text f 8 (codes "and others, in the same colours") else []

-- the lines below the legend
abbrev pub keys_text : Layout → Colours → List ℕ
keys_text f ByJob = []
keys_text f ByClass = key_text f 0 0 (codes "expression") ++ key_text f 1 1 (codes "steady") ++ key_text f 2 2 (codes "decay")
keys_text f (ByTag tags) = key_text f 0 7 (codes "a node without a tag") ++ tag_keys f tags ++ others_text f tags
