-- The program of a list of bids, by forms and limits, and the columns that count nodes.
use Rattle.std.specs.Prelude.{ℕ, ◌+◌, Bool, ◌&&◌, ◌==◌, nat_lt, nat_le, List, [], ◌∷◌, ◌++◌, length, map}
use Rattle.std.specs.List.{filter, range_with_len}
use Rattle.tetri_strl.specs.declared.expr.Leaf.{Leaf}
use Rattle.tetri_strl.specs.Tree.{Tree, one, join, scale, barrier, Trees, none, more}
use Rattle.tetri_space.specs.Space.{Bid, Space}
use Rattle.tetri_space.specs.Partitions.{live_bids, partitions, parts_in, available}
use Rattle.tetri_compile.specs.declared.outline.Outline.{Outline}
use Rattle.tetri_compile.specs.declared.outline.Tally.{Tally}
use Rattle.tetri_compile.specs.Forms.{Form, share, Limit, plain_limit}
use Rattle.tetri_compile.specs.Usable.{usable_by}
use Rattle.tetri_compile.specs.Walk.{own_uppers, uppers, width, form, rows}

-- the columns that count the nodes of a leaf by partition, from number n on
abbrev pub leaf_tallies : ℕ → Leaf → List ℕ → ℕ → List Tally
leaf_tallies job l [] n = []
leaf_tallies job l (p ∷ ps) n = record { column = n; job = job; leaf = l; part = p } ∷ leaf_tallies job l ps (n + 1)

-- the column is of that partition, and its leaf uses its nodes in that slot
abbrev pub is_held : ℕ → ℕ → Tally → Bool
is_held p t c = c.part == p && nat_le c.leaf.start t && nat_lt t (c.leaf.start + c.leaf.dur)

abbrev pub tally_form : List Tally → Form
tally_form [] = []
tally_form (c ∷ cs) = share c.column 1 ∷ tally_form cs

-- the columns together are at most m; no row where there is no column
abbrev pub supply_row : List Tally → ℕ → List Limit
supply_row [] m = []
supply_row (c ∷ cs) m = record { most = tally_form (c ∷ cs); under = []; plus = m } ∷ []

-- `inside` gives the partitions in a set, and `usable` how many nodes of a partition a leaf may get
module _ (inside : ℕ → List ℕ) (usable : ℕ → Leaf → ℕ) where
  abbrev mutual
    -- the columns of a walk that count nodes, where its own columns begin at n
    pub tallies : ℕ → Tree → ℕ → List Tally
    tallies job (one l) n = leaf_tallies job l (inside l.set) n
    tallies job (join op ts) n = tallies_of job ts (n + length (own_uppers inside usable op ts))
    tallies job (scale t s) n = tallies job t n
    tallies job (barrier t v) n = tallies job t n

    pub tallies_of : ℕ → Trees → ℕ → List Tally
    tallies_of job none n = []
    tallies_of job (more t ts) n = tallies job t n ++ tallies_of job ts (n + width inside usable t)

  -- each bid has an indicator, and then the columns of its walk
  abbrev pub bid_uppers : List Bid → List ℕ
  bid_uppers [] = []
  bid_uppers (b ∷ bs) = 1 ∷ (uppers inside usable b.expr ++ bid_uppers bs)

  -- the sum of the forms, where the columns begin at n
  abbrev pub objective : List Bid → ℕ → Form
  objective [] n = []
  objective (b ∷ bs) n = form inside usable b.expr n (n + 1) ++ objective bs (n + 1 + width inside usable b.expr)

  abbrev pub bid_rows : List Bid → ℕ → List Limit
  bid_rows [] n = []
  bid_rows (b ∷ bs) n = rows inside usable b.expr n (n + 1) ++ bid_rows bs (n + 1 + width inside usable b.expr)

  abbrev pub bid_tallies : List Bid → ℕ → List Tally
  bid_tallies [] n = []
  bid_tallies (b ∷ bs) n = tallies b.job b.expr (n + 1) ++ bid_tallies bs (n + 1 + width inside usable b.expr)

-- `room` gives how many nodes of a partition are free in a slot
module _ (room : ℕ → ℕ → ℕ) where
  -- the supply of one partition in each of these slots
  abbrev pub part_supply : List Tally → ℕ → List ℕ → List Limit
  part_supply cs p [] = []
  part_supply cs p (t ∷ ts) = supply_row (filter (is_held p t) cs) (room p t) ++ part_supply cs p ts

  -- the supply of each partition
  abbrev pub supply : List Tally → List ℕ → List ℕ → List Limit
  supply cs slots [] = []
  supply cs slots (p ∷ ps) = part_supply cs p slots ++ supply cs slots ps

-- Upper bounds by column, where each lower bound is 0; what the columns earn; the rows; and the columns that count nodes.
pub record Draft : Type 0 where
  pub uppers : List ℕ
  pub objective : Form
  pub rows : List Limit
  pub tallies : List Tally

-- what an outline says, and what its columns earn
abbrev pub outline_draft : Outline → Form → Draft
outline_draft o f = record { uppers = o.uppers.items; objective = f; rows = map plain_limit o.rows.items; tallies = o.tallies.items }

-- The program of these bids over these partitions. Slots after the window need no supply: no leaf starts there, what runs
-- now frees nodes and takes none, and a leaf that would meet a closure there has counts of 0.
abbrev pub draft_of : Space → List Bid → List (List ℕ) → Draft
draft_of s bs parts =
    let inside = parts_in s parts in
    let usable = usable_by s parts in
    let cs = bid_tallies inside usable bs 0 in
    record {
      uppers = bid_uppers inside usable bs;
      objective = objective inside usable bs 0;
      rows = bid_rows inside usable bs 0 ++ supply (available s parts) cs (range_with_len s.now s.window) (range_with_len 0 (length parts));
      tallies = cs;
    }

-- the program of an instance
abbrev pub draft : Space → Draft
draft s = draft_of s (live_bids s) (partitions s)
