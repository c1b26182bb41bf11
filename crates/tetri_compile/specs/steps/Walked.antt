-- What a walk adds to an outline.
use Rattle.std.specs.Prelude.{◌≡◌, ℕ, ◌<◌, List, ◌++◌, length, map}
use Rattle.tetri_strl.specs.declared.expr.Leaf.{Leaf}
use Rattle.tetri_strl.specs.Tree.{Tree, Trees}
use Rattle.tetri_space.specs.Partitions.{Parts, parts_found, parts_in, partitions, available}
use Rattle.tetri_space.specs.Space.{Space, IsLive}
use Rattle.tetri_compile.specs.declared.outline.Outline.{Outline}
use Rattle.tetri_compile.specs.declared.outline.Tally.{Tally}
use Rattle.tetri_compile.specs.Draft.{tallies, tallies_of}
use Rattle.tetri_compile.specs.Forms.{Form, Limit, plain_limit}
use Rattle.tetri_compile.specs.Usable.{usable_by}
use Rattle.tetri_compile.specs.Walk.{uppers, uppers_of, form, forms, rows, rows_of}

-- the outline grew by these columns, rows and tallies
pub record Grows (old new : Outline) (us : List ℕ) (rs : List Limit) (cs : List Tally) : Type 0 where
  pub uppers : new.uppers.items ≡ old.uppers.items ++ us
  pub rows : map plain_limit new.rows.items ≡ map plain_limit old.rows.items ++ rs
  pub tallies : new.tallies.items ≡ old.tallies.items ++ cs

-- the number of the next column
abbrev pub next_column : Outline → ℕ
next_column o = length o.uppers.items

-- of an instance
module _ (s : Space) where
  abbrev pub inside : ℕ → List ℕ
  inside = parts_in s (partitions s)

  abbrev pub usable : ℕ → Leaf → ℕ
  usable = usable_by s (partitions s)

  abbrev pub room : ℕ → ℕ → ℕ
  room = available s (partitions s)

  -- a tree of a job was walked under the indicator i
  pub record IsWalked (job : ℕ) (t : Tree) (i : ℕ) (old new : Outline) (f : Form) : Type 0 where
    pub form : f ≡ form inside usable t i (next_column old)
    pub grows : Grows old new (uppers inside usable t) (rows inside usable t i (next_column old)) (tallies inside usable job t (next_column old))

  -- trees were walked, each under an indicator of its own, from j on
  pub record AreWalked (job : ℕ) (ts : Trees) (j : ℕ) (old new : Outline) (f : Form) : Type 0 where
    pub form : f ≡ forms inside usable ts j (next_column old)
    pub grows : Grows old new (uppers_of inside usable ts) (rows_of inside usable ts j (next_column old)) (tallies_of inside usable job ts (next_column old))

  -- the partitions in the leaf's set were found, and it is live
  pub record IsReady (p : Parts) (l : Leaf) : Type 0 where
    pub known : l.set < length p.inside
    pub parts : parts_found p l.set ≡ inside l.set
    pub live : IsLive s l
