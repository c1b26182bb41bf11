-- The second pass: the faults of what a text spells, in the order of the text, and the tree that it makes.
use Rattle.std.specs.Prelude.{ℕ, ◌+◌, ◌*◌, ◌%◌, ◌==◌, ◌&&◌, Bool, false, not, nat_lt, max, if◌then◌else◌, List, [], ◌∷◌, Option, Some, None, Result, Ok, Err}
use Rattle.tetri_strl.specs.declared.expr.Leaf.{Leaf}
use Rattle.tetri_strl.specs.Tree.{Operator, greatest, least, added, Tree, one, join, scale, barrier, row}
use Rattle.tetri_strl.specs.WellMade.{PEAK, peak_joined}
use Rattle.tetri_cluster.specs.Sets.{set_added}
use Rattle.tetri_parse.specs.declared.fault.Fault.{Fault}
use Rattle.tetri_parse.specs.declared.fault.Fault.TheVariants.{UnknownSet, Uneven, Mixed, TooRich, TooManySets}
use Rattle.tetri_parse.specs.declared.fault.Miss.{Miss}
use Rattle.tetri_parse.specs.LeafText.{LeafText}
use Rattle.tetri_base.specs.ResultSteps.{◌>>=◌}
use Rattle.tetri_parse.specs.Phrase.{Phrase, Phrases, asked, joined, scaled, barred, nothing, followed}

-- a fault where so many bytes are left
abbrev pub at : {A : Type 0} → Fault → ℕ → Result A Miss
at fault left = Err (record { fault = fault; left = left })

-- what is made, unless its peak is too great
abbrev pub unless_rich : {A : Type 0} → ℕ → ℕ → Result A Miss → Result A Miss
unless_rich peak left made = if nat_lt PEAK peak then at TooRich left else made

-- what is made of the first part of a result
abbrev pub made_of : {A B S : Type 0} → (A → B) → Result (A × S) Miss → Result (B × S) Miss
made_of f part = part >>= λ x. Ok (f x.0, x.1)

-- the start of the first leaf
abbrev mutual
  pub first_start : Phrase → ℕ
  first_start (asked l) = l.start
  first_start (joined op left ps) = first_start_of ps
  first_start (scaled left p s) = first_start p
  first_start (barred left p v) = first_start p

  pub first_start_of : Phrases → ℕ
  first_start_of nothing = 0
  first_start_of (followed p ps) = first_start p

-- the start that leaves below a join must have: that of the first leaf below the outermost `min` or `sum`. The first leaf below an inner one was held against it before the others.
abbrev pub wanted_below : Operator → Option ℕ → ℕ → Option ℕ
wanted_below greatest wanted start = wanted
wanted_below least None start = Some start
wanted_below least (Some w) start = Some w
wanted_below added None start = Some start
wanted_below added (Some w) start = Some w

-- whether a leaf has another start
abbrev pub is_mixed : Option ℕ → ℕ → Bool
is_mixed None start = false
is_mixed (Some w) start = not (w == start)

-- the number of a leaf's set, and the sets with it
abbrev pub set_in : ℕ → Option (ℕ × List (List ℕ)) → Result (ℕ × List (List ℕ)) Miss
set_in left None = at TooManySets left
set_in left (Some x) = Ok x

abbrev pub settled_set : ℕ → Option (List ℕ) → List (List ℕ) → Result (ℕ × List (List ℕ)) Miss
settled_set left None sets = at UnknownSet left
settled_set left (Some nodes) sets = set_in left (set_added nodes sets)

-- each written worth is multiplied by the unit
module _ (unit : ℕ) where
  abbrev mutual
    -- no worth exceeds it
    pub peak_of : Phrase → ℕ
    peak_of (asked l) = l.v * unit
    peak_of (joined op left ps) = peak_joined op (peaks_of ps)
    peak_of (scaled left p s) = s * peak_of p
    peak_of (barred left p v) = max (v * unit) (peak_of p)

    pub peaks_of : Phrases → List ℕ
    peaks_of nothing = []
    peaks_of (followed p ps) = peak_of p ∷ peaks_of ps

-- and slots are counted from the arrival on
module _ (unit arrival : ℕ) where
  -- a leaf whose set has this number
  abbrev pub leaf_with : ℕ → LeafText → Leaf
  leaf_with set l = record { num = l.num; set = set; k = l.k; start = arrival + l.start; dur = l.dur; v = l.v * unit; linear = l.linear }

  -- the value of a leaf is tried
  abbrev pub settled_value : LeafText → ℕ × List (List ℕ) → Result (Leaf × List (List ℕ)) Miss
  settled_value l set = if l.linear && not (l.v * unit % l.k == 0) then at Uneven l.value_left else Ok (leaf_with set.0 l, set.1)

  -- at its word a leaf is held against the wanted start and the greatest peak; then its set is looked up, and then its value is tried
  unfoldable pub settled_leaf : Option ℕ → LeafText → List (List ℕ) → Result (Leaf × List (List ℕ)) Miss
  settled_leaf wanted l sets =
      if is_mixed wanted l.start then at Mixed l.left else unless_rich (l.v * unit) l.left (settled_set l.set_left l.nodes sets >>= settled_value l)

  abbrev mutual
    -- at its word an expression is held against the greatest peak, and then come its parts
    pub settled : Option ℕ → Phrase → List (List ℕ) → Result (Tree × List (List ℕ)) Miss
    settled wanted (asked l) sets = made_of one (settled_leaf wanted l sets)
    settled wanted (joined op left ps) sets =
        unless_rich (peak_joined op (peaks_of unit ps)) left (made_of (λ ts. join op (row ts)) (settled_all (wanted_below op wanted (first_start_of ps)) ps sets))
    settled wanted (scaled left p s) sets = unless_rich (s * peak_of unit p) left (made_of (λ t. scale t s) (settled wanted p sets))
    settled wanted (barred left p v) sets = unless_rich (max (v * unit) (peak_of unit p)) left (made_of (λ t. barrier t (v * unit)) (settled wanted p sets))

    pub settled_all : Option ℕ → Phrases → List (List ℕ) → Result (List Tree × List (List ℕ)) Miss
    settled_all wanted nothing sets = Ok ([], sets)
    settled_all wanted (followed p ps) sets = settled wanted p sets >>= λ first. made_of (λ ts. first.0 ∷ ts) (settled_all wanted ps first.1)
