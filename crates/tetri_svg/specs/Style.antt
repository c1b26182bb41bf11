-- The style of a picture, and its legend.
use Rattle.std.specs.Prelude.{ℕ, ◌+◌, List, ◌++◌, if◌then◌else◌, codes, decimal}
use Rattle.tetri_svg.specs.Areas.{area_text}
use Rattle.tetri_svg.specs.Layout.{Layout}
use Rattle.tetri_svg.specs.Plain.{coloured_text, legend_at_text}
use Rattle.tetri_svg.specs.Sizes.{is_fine, line_y, use_base_of}
use Rattle.tetri_svg.specs.declared.area.Area.{Area}

-- the first rules of the style
unfoldable pub rules_text : List ℕ
rules_text = codes "<style>\n.grid{stroke:#ccc;fill:none}.axis{fill:#333}.names{fill:#333;text-anchor:end}\n.bar,.swatch{stroke:#222;stroke-width:"

-- the other rules of the style
unfoldable pub colours_text : List ℕ
colours_text = codes "}\n.j0{fill:#e69f00}.j1{fill:#56b4e9}.j2{fill:#009e73}.j3{fill:#f0e442}.j4{fill:#0072b2}.j5{fill:#cc79a7}.j6{fill:#d55e00}\n.label{fill:#000;pointer-events:none}.l4{fill:#fff}.mark{pointer-events:none}\n.over{fill:url(#over)}.cancelled{fill:url(#cancelled)}.failed{fill:url(#failed)}\n.drained{fill:url(#drained)}.broken{fill:url(#broken)}.closed{fill:url(#closed)}\n.waits{fill:#fff;fill-opacity:.85;stroke:#222;stroke-dasharray:4 3}\n.asked{stroke:#000;stroke-width:2;fill:none}.value{fill:#56b4e9}.bound{fill:#000}.queue{fill:#d55e00}.used{fill:#009e73}\n</style>\n"

-- the patterns, and the white ground
unfoldable pub patterns_text : List ℕ
patterns_text = codes "<defs>\n<pattern id=\"over\" width=\"6\" height=\"6\" patternUnits=\"userSpaceOnUse\"><path d=\"M0 6L6 0M-1 1L1 -1M5 7L7 5\" stroke=\"#000\" stroke-width=\"1.5\" fill=\"none\"/></pattern>\n<pattern id=\"cancelled\" width=\"6\" height=\"6\" patternUnits=\"userSpaceOnUse\"><path d=\"M1 0V6M4 0V6\" stroke=\"#000\" stroke-width=\"1.5\" fill=\"none\"/></pattern>\n<pattern id=\"failed\" width=\"6\" height=\"6\" patternUnits=\"userSpaceOnUse\"><path d=\"M0 0L6 6M0 6L6 0\" stroke=\"#000\" stroke-width=\"1.5\" fill=\"none\"/></pattern>\n<pattern id=\"drained\" width=\"8\" height=\"8\" patternUnits=\"userSpaceOnUse\"><rect width=\"8\" height=\"8\" fill=\"#eee\"/><path d=\"M0 0L8 8M-1 7L1 9M7 -1L9 1\" stroke=\"#999\" stroke-width=\"1.5\" fill=\"none\"/></pattern>\n<pattern id=\"broken\" width=\"8\" height=\"8\" patternUnits=\"userSpaceOnUse\"><rect width=\"8\" height=\"8\" fill=\"#ddd\"/><path d=\"M0 0L8 8M0 8L8 0\" stroke=\"#777\" stroke-width=\"1.5\" fill=\"none\"/></pattern>\n<pattern id=\"closed\" width=\"8\" height=\"8\" patternUnits=\"userSpaceOnUse\"><rect width=\"8\" height=\"8\" fill=\"#eee\"/><path d=\"M0 4H8\" stroke=\"#999\" stroke-width=\"1.5\" fill=\"none\"/></pattern>\n</defs>\n<rect width=\"100%\" height=\"100%\" fill=\"#fff\"/>\n"

-- the line of the legend for bars, by what they are coloured
unfoldable pub bars_entry : List ℕ → List ℕ
bars_entry by = codes "<rect class=\"bar j0\" x=\"0\" y=\"24\" width=\"24\" height=\"14\"/><text x=\"32\" y=\"35\">a piece of a job on a node, coloured by " ++ by

-- the other lines of the legend
unfoldable pub entries_text : List ℕ
entries_text = codes "</text>\n<rect class=\"swatch over\" x=\"0\" y=\"48\" width=\"24\" height=\"14\"/><text x=\"32\" y=\"59\">beyond its expected end</text>\n<rect class=\"swatch cancelled\" x=\"0\" y=\"72\" width=\"24\" height=\"14\"/><text x=\"32\" y=\"83\">last slot of a cancelled piece</text>\n<rect class=\"swatch failed\" x=\"0\" y=\"96\" width=\"24\" height=\"14\"/><text x=\"32\" y=\"107\">last slot of a piece whose job failed</text>\n<rect class=\"waits\" x=\"0\" y=\"120\" width=\"24\" height=\"14\"/><text x=\"32\" y=\"131\">planned for a later slot</text>\n<rect class=\"swatch drained\" x=\"290\" y=\"24\" width=\"24\" height=\"14\"/><text x=\"322\" y=\"35\">drained node</text>\n<rect class=\"swatch broken\" x=\"290\" y=\"48\" width=\"24\" height=\"14\"/><text x=\"322\" y=\"59\">failed node</text>\n<rect class=\"swatch closed\" x=\"290\" y=\"72\" width=\"24\" height=\"14\"/><text x=\"322\" y=\"83\">closed node</text>\n<rect class=\"value\" x=\"290\" y=\"96\" width=\"24\" height=\"14\"/><text x=\"322\" y=\"107\">value of a cycle's plan</text>\n<rect class=\"bound\" x=\"290\" y=\"126\" width=\"24\" height=\"2\"/><text x=\"322\" y=\"131\">bound of a cycle's plan</text>\n<rect class=\"queue\" x=\"0\" y=\"144\" width=\"24\" height=\"14\"/><text x=\"32\" y=\"155\">jobs that wait behind a cycle</text>\n<rect class=\"used\" x=\"290\" y=\"144\" width=\"24\" height=\"14\"/><text x=\"322\" y=\"155\">nodes in use</text>\n</g>\n"

-- the style, with a line round each bar where there is room for it, the patterns and a white ground
abbrev pub style_text : Layout → List ℕ
style_text f = rules_text ++ (if is_fine f then codes "1" else codes "0") ++ colours_text ++ patterns_text

-- the rule of a colour beside the seven
unfoldable pub grey_text : List ℕ
grey_text = codes "<style>.j7{fill:#bbb}</style>\n"

-- what the colours and the patterns stand for, where bars are coloured by this
abbrev pub legend_text : Layout → List ℕ → List ℕ
legend_text f by = legend_at_text (use_base_of f) ++ bars_entry by ++ entries_text

-- the words of a line below the legend, which begin at this height
unfoldable pub words_text : ℕ → List ℕ → List ℕ
words_text y words = codes "<text x=\"56\" y=\"" ++ (decimal y ++ (codes "\">" ++ (words ++ codes "</text>\n")))

-- where the colour of a line below the legend stands
abbrev pub swatch_area : Layout → ℕ → Area
swatch_area f line = record { x = 24; y = line_y f line; width = 24; height = 14 }

-- a line below the legend: a colour and what it stands for
abbrev pub key_text : Layout → ℕ → ℕ → List ℕ → List ℕ
key_text f line colour words = coloured_text colour ++ area_text (swatch_area f line) ++ codes "/>" ++ words_text (line_y f line + 11) words

-- a line below the legend, of words alone
abbrev pub note_text : Layout → ℕ → List ℕ → List ℕ
note_text f line words = words_text (line_y f line + 11) words
