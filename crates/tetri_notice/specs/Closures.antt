-- The closures of a header, with the names of their nodes.
use Rattle.std.specs.Prelude.{ℕ, ◌≤◌, List, [], ◌∷◌, length, nat_le, if◌then◌else◌, Option, Some, None, codes}
use Rattle.serde_json.specs.Data.{Data, Items, no_items, item}
use Rattle.serde_json.specs.Find.{get, as_array}
use Rattle.tetri_base.specs.OptionSteps.{◌>>=◌}
use Rattle.tetri_notice.specs.Fields.{name_in, number_in}
use Rattle.tetri_notice.specs.declared.closures.ClosureText.{ClosureText}

-- the slot that a key holds, from `low` to 30,000
unfoldable pub slot_at : List ℕ → ℕ → Data → Option ℕ
slot_at key low d = get key d >>= number_in low 30000

-- the first slot and the last, which is not below the first
unfoldable pub slots_in : Data → Option (ℕ × ℕ)
slots_in d = do
  from ← slot_at (codes "from") 0 d
  to ← slot_at (codes "to") from d
  Some (from, to)

-- a closure, with the name of its node
unfoldable pub closure_in : Data → Option ClosureText
closure_in d = do
  value ← get (codes "node") d
  node ← name_in value
  slots ← slots_in d
  Some (record { node = node; from = slots.0; to = slots.1 })

-- each item of a list as a closure
abbrev pub closures_in : Items → Option (List ClosureText)
closures_in no_items = Some []
closures_in (item d ds) = closure_in d >>= λ c. closures_in ds >>= λ cs. Some (c ∷ cs)

-- at most 4,096 closures
abbrev pub few_closures : List ClosureText → Option (List ClosureText)
few_closures cs = if nat_le (length cs) 4096 then Some cs else None

-- the closures of a header, none where they are left out
abbrev pub closures_of : Option Data → Option (List ClosureText)
closures_of None = Some []
closures_of (Some d) = as_array d >>= closures_in >>= few_closures

-- the limits of the slots of a closure
pub record IsWithinLimits (c : ClosureText) : Type 0 where
  pub some_slots : c.from ≤ c.to
  pub within : c.to ≤ 30000
