-- Texts of given words and numbers.
use Rattle.std.specs.Prelude.{ℕ, ◌/◌, ◌%◌, List, ◌++◌, codes, decimal}

-- the opening of a rectangle of this class
unfoldable pub rect_text : List ℕ → List ℕ
rect_text class = codes "<rect class=\"" ++ class ++ codes "\""

-- the opening of a bar in this colour
unfoldable pub coloured_text : ℕ → List ℕ
coloured_text colour = codes "<rect class=\"bar j" ++ decimal colour ++ codes "\""

-- the opening of a mark of this class
unfoldable pub marked_text : List ℕ → List ℕ
marked_text class = codes "<rect class=\"mark " ++ class ++ codes "\""

-- the first words of the title of a bar
unfoldable pub ran_text : List ℕ → List ℕ → ℕ → ℕ → List ℕ
ran_text job node from last = codes "><title>" ++ job ++ codes " on " ++ node ++ codes ": slots " ++ decimal from ++ codes " to " ++ decimal last

-- the last words of the title of a bar
unfoldable pub fared_text : ℕ → List ℕ → List ℕ
fared_text expected fate = codes ", expected to " ++ decimal expected ++ codes ", " ++ fate

-- the title of a shade
unfoldable pub out_text : List ℕ → List ℕ → ℕ → ℕ → List ℕ
out_text name words from last = codes "><title>" ++ name ++ codes ": " ++ words ++ codes ", slots " ++ decimal from ++ codes " to " ++ decimal last

-- the first words of the title of what waits
unfoldable pub awaited_text : List ℕ → List ℕ → List ℕ
awaited_text job node = codes "><title>" ++ (job ++ (codes " on " ++ (node ++ codes ": planned for ")))

-- some slots
unfoldable pub slots_text : ℕ → ℕ → List ℕ
slots_text from last = codes "slots " ++ decimal from ++ codes " to " ++ decimal last

-- the first words of the title of the numbers of a cycle
unfoldable pub valued_text : ℕ → ℕ → List ℕ
valued_text slot value = codes "><title>cycle " ++ decimal slot ++ codes ": value " ++ decimal value

-- the last words of the title of the numbers of a cycle
unfoldable pub bounded_text : ℕ → List ℕ → List ℕ
bounded_text bound mark = codes ", bound " ++ decimal bound ++ codes ", " ++ mark

-- the title of the jobs that wait behind a cycle
unfoldable pub waiting_text : ℕ → ℕ → List ℕ
waiting_text slot jobs = codes "><title>slot " ++ (decimal slot ++ (codes ": " ++ (decimal jobs ++ codes " jobs wait")))

-- the title of the nodes in use in a slot
unfoldable pub used_text : ℕ → ℕ → ℕ → List ℕ
used_text slot used nodes = codes "><title>slot " ++ (decimal slot ++ (codes ": " ++ (decimal used ++ (codes " of " ++ (decimal nodes ++ codes " nodes in use")))))

-- a name, which ends at this place
unfoldable pub named_text : ℕ → ℕ → List ℕ → List ℕ
named_text x y name = codes "<text class=\"names\" x=\"" ++ decimal x ++ codes "\" y=\"" ++ decimal y ++ codes "\">" ++ name ++ codes "</text>\n"

-- a number, which ends at this place
unfoldable pub number_text : ℕ → ℕ → ℕ → List ℕ
number_text x y number = codes "<text class=\"names\" x=\"" ++ decimal x ++ codes "\" y=\"" ++ decimal y ++ codes "\">" ++ decimal number ++ codes "</text>\n"

-- a name in this colour, which begins at this place
unfoldable pub label_text : ℕ → ℕ → ℕ → List ℕ → List ℕ
label_text colour x y name = codes "<text class=\"label l" ++ decimal colour ++ codes "\" x=\"" ++ decimal x ++ codes "\" y=\"" ++ decimal y ++ codes "\">" ++ name ++ codes "</text>\n"

-- an upright line of the grid
unfoldable pub upright_text : ℕ → ℕ → List ℕ
upright_text x end = codes "<path class=\"grid\" d=\"M" ++ decimal x ++ codes " 39V" ++ decimal end ++ codes "\"/>"

-- a level line of the grid
unfoldable pub level_text : ℕ → ℕ → ℕ → List ℕ
level_text x y end = codes "<path class=\"grid\" d=\"M" ++ decimal x ++ codes " " ++ decimal y ++ codes "H" ++ decimal end ++ codes "\"/>\n"

-- the number of a slot
unfoldable pub slot_text : ℕ → ℕ → List ℕ
slot_text x slot = codes "<text class=\"axis\" x=\"" ++ decimal x ++ codes "\" y=\"36\">" ++ decimal slot ++ codes "</text>\n"

-- the opening of the words at the axis
unfoldable pub axis_at_text : ℕ → List ℕ
axis_at_text x = codes "<text class=\"axis\" x=\"" ++ decimal x ++ codes "\" y=\"36\">"

-- a date, with a space behind it
unfoldable pub date_text : ℕ → ℕ → ℕ → List ℕ
date_text year month day =
    decimal year ++ codes "-" ++ decimal (month / 10) ++ decimal (month % 10) ++ codes "-" ++ decimal (day / 10) ++ decimal (day % 10) ++ codes " "

-- a time of the day, and the end of the words at the axis
unfoldable pub time_text : ℕ → ℕ → List ℕ
time_text hour minute = decimal (hour / 10) ++ decimal (hour % 10) ++ codes ":" ++ decimal (minute / 10) ++ decimal (minute % 10) ++ codes "</text>\n"

-- the line at which a cycle begins
unfoldable pub cycle_line_text : ℕ → ℕ → List ℕ
cycle_line_text x end = codes "<path class=\"asked\" d=\"M" ++ decimal x ++ codes " 39V" ++ decimal end ++ codes "\">"

-- what a picture is of
unfoldable pub counts_text : ℕ → ℕ → ℕ → List ℕ
counts_text pieces nodes slots = decimal pieces ++ codes " pieces on " ++ decimal nodes ++ codes " nodes in " ++ decimal slots ++ codes " slots"

-- what a picture of a part is of
unfoldable pub part_text : ℕ → ℕ → List ℕ
part_text pieces nodes = decimal pieces ++ codes " pieces on " ++ decimal nodes ++ codes " nodes in "

-- of which slots a part is
unfoldable pub of_text : ℕ → List ℕ
of_text slots = codes " of " ++ decimal slots

-- the size of a picture
unfoldable pub size_text : ℕ → ℕ → List ℕ
size_text width height = codes " width=\"" ++ decimal width ++ codes "\" height=\"" ++ decimal height ++ codes "\""

-- what is seen of a picture
unfoldable pub view_text : ℕ → ℕ → List ℕ
view_text width height = codes " viewBox=\"0 0 " ++ (decimal width ++ (codes " " ++ (decimal height ++ codes "\"")))

-- the opening of a picture
unfoldable pub svg_text : List ℕ
svg_text = codes "<svg xmlns=\"http://www.w3.org/2000/svg\""

-- the letters of a picture, and the end of its opening
unfoldable pub font_text : List ℕ
font_text = codes " font-family=\"sans-serif\" font-size=\"11\">\n"

-- the opening of the legend below this place
unfoldable pub legend_at_text : ℕ → List ℕ
legend_at_text base = codes "<g transform=\"translate(24 " ++ decimal base ++ codes ")\">\n"

-- the title of the line at which a cycle begins
unfoldable pub cycle_name_text : ℕ → List ℕ
cycle_name_text cycle = codes "<title>cycle " ++ decimal cycle ++ codes "</title></path>\n"

-- the end of the title of a rectangle
unfoldable pub close_text : List ℕ
close_text = codes "</title></rect>\n"
