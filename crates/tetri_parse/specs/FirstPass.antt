-- The first pass ends at the first fault in the order of the text, whatever stands behind the faulty word.
use Rattle.std.specs.Prelude.{◌≡◌, ℕ, ◌-◌, ◌≤◌, if◌then◌else◌, List, [], ◌∷◌, length, take, drop, Err, IfErr}
use Rattle.std.specs.List.{prefix_len}
use Rattle.tetri_cluster.specs.declared.cluster.NodeText.{NodeText}
use Rattle.tetri_parse.specs.declared.token.Class.TheVariants.{Named}
use Rattle.tetri_parse.specs.Grammar.{whole_at}
use Rattle.tetri_parse.specs.Tokens.{stands}

-- what stands first: a run of a name's bytes, or one other byte
abbrev pub front_word : List ℕ → List ℕ
front_word [] = []
front_word (b ∷ bs) = b ∷ (if stands Named b then take (prefix_len (stands Named) bs) bs else [])

-- another text has the same bytes before this offset, and there the same word
abbrev pub IsSameThrough : ℕ → List ℕ → List ℕ → Type 0
IsSameThrough offset text other = (take offset other ≡ take offset text) × (front_word (drop offset other) ≡ front_word (drop offset text))

-- the fault of the first pass stands in the text
abbrev pub FaultIsWithin : List NodeText → List ℕ → Type 0
FaultIsWithin cluster text = IfErr (whole_at cluster text) (λ m. m.left ≤ length text)

-- each text that is the same through the faulty word has the same fault at the same offset
abbrev pub FaultStays : List NodeText → List ℕ → Type 0
FaultStays cluster text = IfErr (whole_at cluster text) (λ m. (other : List ℕ) → IsSameThrough (length text - m.left) text other → whole_at cluster other ≡ Err (record { fault = m.fault; left = length other - (length text - m.left) }))
