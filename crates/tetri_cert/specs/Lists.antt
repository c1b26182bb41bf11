-- Comma lists, in ascending order of a key.
use Rattle.std.specs.Prelude.{ℕ, ◌+◌, ◌≤◌, List, [], ◌∷◌, ◌++◌, flat_map, nat_lt, Option, Some, None, if◌then◌else◌, bytes_eq, codes}
use Rattle.tetri_io.specs.Codec.{Codec}
use Rattle.tetri_io.specs.Words.{parts_at}
use Rattle.tetri_base.specs.OptionSteps.{◌>>=◌}

-- a dash, or the entries with commas between
abbrev pub list_text : {E : Type 0} → (E → List ℕ) → List E → List ℕ
list_text text [] = codes "-"
list_text text (e ∷ es) = text e ++ flat_map (λ f. 44 ∷ text f) es

-- Keys ascend from a number on, and each entry is one that may stand there.
abbrev pub Ascend : {E : Type 0} → (E → ℕ) → (E → Type 0) → ℕ → List E → Type 0
Ascend key IsEntry least [] = Unit {0}
Ascend key IsEntry least (e ∷ es) = (least ≤ key e) × IsEntry e × Ascend key IsEntry (key e + 1) es

-- the parts of a list that are left, where something is
abbrev pub parts_left : Option (List ℕ) → List (List ℕ)
parts_left None = []
parts_left (Some rest) = parts_at 44 rest

-- the entries of these parts, whose keys ascend from a number on
abbrev pub entries_from : {E : Type 0} → (List ℕ → Option E) → (E → ℕ) → ℕ → List (List ℕ) → Option (List E)
entries_from read key least [] = Some []
entries_from read key least (p ∷ ps) = read p >>= λ e. if nat_lt (key e) least then None else (entries_from read key (key e + 1) ps >>= λ es. Some (e ∷ es))

-- the entries of a list
unfoldable pub list_in : {E : Type 0} → (List ℕ → Option E) → (E → ℕ) → List ℕ → Option (List E)
list_in read key word = if bytes_eq word (codes "-") then Some [] else entries_from read key 0 (parts_at 44 word)

abbrev pub lists : {E : Type 0} → (E → ℕ) → Codec E → Codec (List E)
lists key c = record { text = list_text c.text; read = list_in c.read key; IsSuch = Ascend key c.IsSuch 0 }

-- entries behind those that were read
abbrev pub onto : {E : Type 0} → List E → Option (List E) → Option (List E)
onto front o = o >>= λ es. Some (front ++ es)
