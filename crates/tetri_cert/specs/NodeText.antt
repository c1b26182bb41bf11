-- The lines of marks.
use Rattle.std.specs.Prelude.{◌≡◌, ℕ, ◌<◌, ◌≤◌, ◌^◌, ◌++◌, List, [], ◌∷◌, length, Option, Some, None, codes, decimal}
use Rattle.std.specs.Fmt.{signed_decimal}
use Rattle.std.specs.List.{join_with_byte}
use Rattle.tetri_base.specs.OptionSteps.{◌>>=◌}
use Rattle.tetri_io.specs.Codec.{Codec, among, by_tag, first_of_text, four_in, one_in, two_in}
use Rattle.tetri_io.specs.Words.{words_of}
use Rattle.tetri_ip.specs.declared.programs.Weight.{Weight}
use Rattle.tetri_algebra.specs.Range.{IsWithin}
use Rattle.tetri_num.specs.declared.places.Kind.{Kind}
use Rattle.tetri_num.specs.declared.places.Kind.TheVariants as kinds
use Rattle.tetri_num.specs.declared.places.Place.{Place}
use Rattle.tetri_cert.specs.declared.marks.Cell.{Cell}
use Rattle.tetri_cert.specs.declared.marks.FracCell.{FracCell}
use Rattle.tetri_cert.specs.declared.marks.Mark.{Mark}
use Rattle.tetri_cert.specs.declared.marks.Mark.TheVariants.{Split, Close, Whole, Rest}
use Rattle.tetri_cert.specs.declared.marks.Licence.{Licence}
use Rattle.tetri_cert.specs.declared.marks.Licence.TheVariants as licences
use Rattle.tetri_cert.specs.Numbers.{small_number, small_numbers, whole_number, whole_numbers}
use Rattle.tetri_cert.specs.Lists.{lists, list_text, Ascend}
use Rattle.tetri_cert.specs.Pairs.{weight_key, weight_text, weights, IsPlainWeight, cell_key, cell_text, cells, IsPlainCell, frac_cell_key, frac_cell_text, frac_cells, IsPlainFracCell}

-- ---- text
abbrev pub kind_text : Kind → List ℕ
kind_text kinds.Ratio = codes "ratio"
kind_text kinds.Row = codes "row"
kind_text kinds.Entry = codes "entry"
kind_text kinds.Point = codes "point"
kind_text kinds.Lcm = codes "lcm"
kind_text kinds.Weigh = codes "weigh"

abbrev pub all_kinds : List Kind
all_kinds = kinds.Ratio ∷ kinds.Row ∷ kinds.Entry ∷ kinds.Point ∷ kinds.Lcm ∷ kinds.Weigh ∷ []

-- what was formed, after how many pivots, and the row and the column of the table
abbrev pub place_words : Place → List (List ℕ)
place_words p = kind_text p.kind ∷ decimal p.step ∷ decimal p.row ∷ decimal p.column ∷ []

abbrev pub licence_tag : Licence → List ℕ
licence_tag (licences.Point cells) = codes "point"
licence_tag (licences.Past p) = codes "past"
licence_tag licences.Long = codes "long"

-- the words behind the tag
abbrev pub licence_words : Licence → List (List ℕ)
licence_words (licences.Point cells) = list_text frac_cell_text cells ∷ []
licence_words (licences.Past p) = place_words p
licence_words licences.Long = []

abbrev pub node_tag : Mark → List ℕ
node_tag (Split column at licence) = codes "split"
node_tag (Close q ws) = codes "close"
node_tag (Whole q ws worth point) = codes "whole"
node_tag (Rest q ws) = codes "rest"

-- the words behind the tag
abbrev pub node_words : Mark → List (List ℕ)
node_words (Split column at licence) = decimal column ∷ signed_decimal at ∷ licence_tag licence ∷ licence_words licence
node_words (Close q ws) = signed_decimal q ∷ list_text weight_text ws ∷ []
node_words (Whole q ws worth point) = signed_decimal q ∷ list_text weight_text ws ∷ signed_decimal worth ∷ list_text cell_text point ∷ []
node_words (Rest q ws) = signed_decimal q ∷ list_text weight_text ws ∷ []

abbrev pub place_text : Place → List ℕ
place_text p = join_with_byte 32 (place_words p)

unfoldable pub licence_text : Licence → List ℕ
licence_text licence = join_with_byte 32 (licence_tag licence ∷ licence_words licence)

-- the line of a node, without its line feed
unfoldable pub node_text : Mark → List ℕ
node_text m = join_with_byte 32 (node_tag m ∷ node_words m)

-- the same with its line feed
abbrev pub node_line : Mark → List ℕ
node_line m = node_text m ++ codes "\n"

-- ---- plain nodes: lists ascend and hold no 0, and all numbers are in their ranges
abbrev pub ArePlainWeights : List Weight → Type 0
ArePlainWeights ws = Ascend weight_key IsPlainWeight 0 ws

abbrev pub IsPlainPoint : List Cell → Type 0
IsPlainPoint cells = Ascend cell_key IsPlainCell 0 cells

abbrev pub IsPlainLicence : Licence → Type 0
IsPlainLicence (licences.Point cells) = Ascend frac_cell_key IsPlainFracCell 0 cells
IsPlainLicence (licences.Past p) = (p.step < 2 ^ 32) × (p.row < 2 ^ 32) × (p.column < 2 ^ 32)
IsPlainLicence licences.Long = Unit {0}

abbrev pub IsPlain : Mark → Type 0
IsPlain (Split column at licence) = (column < 2 ^ 32) × IsWithin at × IsPlainLicence licence
IsPlain (Close q ws) = IsWithin q × ArePlainWeights ws
IsPlain (Whole q ws worth point) = IsWithin q × ArePlainWeights ws × IsWithin worth × IsPlainPoint point
IsPlain (Rest q ws) = IsWithin q × ArePlainWeights ws

-- Each list of the node has at most this many entries.
abbrev pub HasShortLists : ℕ → Mark → Type 0
HasShortLists most (Split column at (licences.Point cells)) = length cells ≤ most
HasShortLists most (Split column at (licences.Past p)) = Unit {0}
HasShortLists most (Split column at licences.Long) = Unit {0}
HasShortLists most (Close q ws) = length ws ≤ most
HasShortLists most (Whole q ws worth point) = (length ws ≤ most) × (length point ≤ most)
HasShortLists most (Rest q ws) = length ws ≤ most

-- ---- reading
abbrev pub weight_lists : Codec (List Weight)
weight_lists = lists weight_key weights

abbrev pub cell_lists : Codec (List Cell)
cell_lists = lists cell_key cells

abbrev pub frac_cell_lists : Codec (List FracCell)
frac_cell_lists = lists frac_cell_key frac_cells

abbrev pub weights_in : List ℕ → Option (List Weight)
weights_in word = weight_lists.read word

abbrev pub cells_in : List ℕ → Option (List Cell)
cells_in word = cell_lists.read word

abbrev pub frac_cells_in : List ℕ → Option (List FracCell)
frac_cells_in word = frac_cell_lists.read word

unfoldable pub kind_in : List ℕ → Option Kind
kind_in word = first_of_text kind_text all_kinds word

abbrev pub kind_words : Codec Kind
kind_words = record (among kind_text all_kinds) { read = kind_in }

abbrev pub past_of : Kind → ℕ → ℕ → ℕ → Licence
past_of kind step row column = licences.Past (record { kind = kind; step = step; row = row; column = column })

abbrev pub point_in : List (List ℕ) → Option Licence
point_in words = one_in licences.Point frac_cell_lists words

abbrev pub past_in : List (List ℕ) → Option Licence
past_in words = four_in past_of kind_words small_numbers small_numbers small_numbers words

abbrev pub long_in : List (List ℕ) → Option Licence
long_in [] = Some licences.Long
long_in (word ∷ words) = None

-- why a region was split, by a tag and the words behind it
unfoldable pub licence_by_tag : List ℕ → List (List ℕ) → Option Licence
licence_by_tag tag words = by_tag ((codes "point", point_in) ∷ (codes "past", past_in) ∷ (codes "long", long_in) ∷ []) tag words

abbrev pub split_in : List (List ℕ) → Option Mark
split_in (column ∷ at ∷ tag ∷ words) = do
  column ← small_number column
  at ← whole_number at
  licence ← licence_by_tag tag words
  Some (Split column at licence)
split_in words = None

abbrev pub close_in : List (List ℕ) → Option Mark
close_in words = two_in Close whole_numbers weight_lists words

abbrev pub whole_in : List (List ℕ) → Option Mark
whole_in words = four_in Whole whole_numbers weight_lists whole_numbers cell_lists words

abbrev pub rest_in : List (List ℕ) → Option Mark
rest_in words = two_in Rest whole_numbers weight_lists words

-- a node by its tag and the words behind it
unfoldable pub node_by_tag : List ℕ → List (List ℕ) → Option Mark
node_by_tag tag words = by_tag ((codes "split", split_in) ∷ (codes "close", close_in) ∷ (codes "whole", whole_in) ∷ (codes "rest", rest_in) ∷ []) tag words

abbrev pub node_of_words : List (List ℕ) → Option Mark
node_of_words [] = None
node_of_words (tag ∷ words) = node_by_tag tag words

-- the node of a line without its line feed
unfoldable pub node_in : List ℕ → Option Mark
node_in line = node_of_words (words_of line)

-- ---- laws
-- A plain node's line reads back as that node.
abbrev pub ReadsBack : Type 0
ReadsBack = (m : Mark) → IsPlain m → node_in (node_text m) ≡ Some m

-- Only the line of a plain node reads as that node.
abbrev pub ReadsNoOther : Type 0
ReadsNoOther = (line : List ℕ) (m : Mark) → node_in line ≡ Some m → IsPlain m × (line ≡ node_text m)
