-- What an outline says, in the words in which the program of a cycle is defined.
use Rattle.std.specs.Prelude.{◌≡◌, ℕ, List, ◌++◌, length, map}
use Rattle.tetri_strl.specs.Tree.{Tree, Trees}
use Rattle.tetri_space.specs.Space.{Space}
use Rattle.tetri_compile.specs.declared.outline.Share.{Share}
use Rattle.tetri_compile.specs.declared.outline.Tally.{Tally}
use Rattle.tetri_compile.specs.Draft.{Draft, tallies, tallies_of}
use Rattle.tetri_compile.specs.Forms.{Form, Limit}
use Rattle.tetri_compile.specs.Walk.{uppers, uppers_of, form, forms, rows, rows_of}
use Rattle.tetri_compile.specs.steps.Walked.{inside, usable}
use Rattle.tetri_wide.specs.declared.outline.Holding.{Holding}
use Rattle.tetri_wide.specs.declared.outline.Inequality.{Inequality}
use Rattle.tetri_wide.specs.declared.outline.Multiple.{Multiple}
use Rattle.tetri_wide.specs.declared.outline.Outline.{Outline}

abbrev pub share_of : Multiple → Share
share_of m = record { column = m.column; by = m.by }

abbrev pub form_of : List Multiple → Form
form_of ms = map share_of ms

abbrev pub limit_of : Inequality → Limit
limit_of r = record { most = form_of r.most.items; under = form_of r.under.items; plus = r.plus }

abbrev pub tally_of : Holding → Tally
tally_of h = record { column = h.column; job = h.job; leaf = h.leaf; part = h.part }

-- upper bounds by column, rows, and the columns that count nodes
pub record Sketch : Type 0 where
  pub uppers : List ℕ
  pub rows : List Limit
  pub tallies : List Tally

abbrev pub sketch : Outline → Sketch
sketch o = record { uppers = o.uppers.items; rows = map limit_of o.rows.items; tallies = map tally_of o.holdings.items }

-- what a sketch says, and what its columns earn
abbrev pub sketch_draft : Sketch → Form → Draft
sketch_draft o f = record { uppers = o.uppers; objective = f; rows = o.rows; tallies = o.tallies }

-- the sketch grew by these columns, rows and tallies
pub record Grows (old new : Sketch) (us : List ℕ) (rs : List Limit) (cs : List Tally) : Type 0 where
  pub uppers : new.uppers ≡ old.uppers ++ us
  pub rows : new.rows ≡ old.rows ++ rs
  pub tallies : new.tallies ≡ old.tallies ++ cs

-- the number of the next column
abbrev pub next_column : Sketch → ℕ
next_column o = length o.uppers

-- of an instance
module _ (s : Space) where
  -- a tree of a job was walked under the indicator i
  pub record IsWalked (job : ℕ) (t : Tree) (i : ℕ) (old new : Sketch) (f : Form) : Type 0 where
    pub form : f ≡ form (inside s) (usable s) t i (next_column old)
    pub grows : Grows old new (uppers (inside s) (usable s) t) (rows (inside s) (usable s) t i (next_column old))
        (tallies (inside s) (usable s) job t (next_column old))

  -- trees were walked, each under an indicator of its own, from j on
  pub record AreWalked (job : ℕ) (ts : Trees) (j : ℕ) (old new : Sketch) (f : Form) : Type 0 where
    pub form : f ≡ forms (inside s) (usable s) ts j (next_column old)
    pub grows : Grows old new (uppers_of (inside s) (usable s) ts) (rows_of (inside s) (usable s) ts j (next_column old))
        (tallies_of (inside s) (usable s) job ts (next_column old))
