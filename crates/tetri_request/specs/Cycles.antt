-- What holds of the offers of an ask from cycle to cycle.
use Rattle.std.specs.Prelude.{◌≡◌, ℕ, ◌<◌, ◌≤◌, List, All, Contains, Some}
use Rattle.tetri_strl.specs.declared.expr.Leaf.{Leaf}
use Rattle.tetri_strl.specs.Thrifty.{IsThrifty}
use Rattle.tetri_strl.specs.Tree.{Tree, leaves, numbers}
use Rattle.tetri_request.specs.declared.ask.Ask.{Ask}
use Rattle.tetri_request.specs.Options.{HasExpired, offer}

-- in all offers of the ask a number names the same leaf
abbrev pub HasOneLeafByNumber : Ask → ℕ → Type 0
HasOneLeafByNumber a arrival = (now later window longer : ℕ) (t u : Tree) (l m : Leaf) → arrival ≤ now → arrival ≤ later →
    offer a arrival now window ≡ Some t → offer a arrival later longer ≡ Some u →
    Contains (leaves t) l → Contains (leaves u) m → l.num ≡ m.num → l ≡ m

-- until it has expired, its offer has a leaf that starts now and is worth something
abbrev pub OffersUntilExpired : Ask → ℕ → Type 0
OffersUntilExpired a arrival = (now window : ℕ) → arrival ≤ now → 1 ≤ window → (HasExpired a arrival now → ⊥) →
    (t : Tree) × (offer a arrival now window ≡ Some t) × (l : Leaf) × Contains (leaves t) l × (l.start ≡ now) × (0 < l.v)

-- once it has expired, whatever it would offer is worth nothing
abbrev pub EarnsNothingExpired : Ask → ℕ → Type 0
EarnsNothingExpired a arrival = (now later window : ℕ) (t : Tree) → HasExpired a arrival now → now ≤ later →
    offer a arrival later window ≡ Some t → All (λ l. l.v ≡ 0) (leaves t)

-- grants that are thrifty for an offer are so for another one, where each leaf of it that they hold is in
-- the first one too
abbrev pub KeepsThrift : Ask → ℕ → Type 0
KeepsThrift a arrival = (now later window longer : ℕ) (t u : Tree) (value : Leaf → ℕ) (held : List ℕ) →
    arrival ≤ now → arrival ≤ later → later ≤ 10000 → longer ≤ 64 →
    offer a arrival now window ≡ Some t → offer a arrival later longer ≡ Some u →
    ((n : ℕ) → Contains held n → Contains (numbers u) n → Contains (numbers t) n) →
    IsThrifty value held t → IsThrifty value held u
