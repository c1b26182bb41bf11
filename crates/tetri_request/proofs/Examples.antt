-- Asks worked by hand.
use Rattle.std.proofs.Common.{◌≡◌, ℕ, true, false, [], ◌∷◌, map, Some, None, refl}
use Rattle.tetri_strl.specs.declared.expr.Leaf.{Leaf}
use Rattle.tetri_strl.specs.Tree.{greatest, one, join, row}
use Rattle.tetri_request.specs.declared.ask.Ask.{Ask}
use Rattle.tetri_request.specs.declared.ask.Class.TheVariants.{Steady, Decay}
use Rattle.tetri_request.specs.Options.{has_expired, offer, options_between}

-- two nodes for three slots, or for two on the preferred set, decaying to its deadline of 4
abbrev falling : Ask
falling = record { k = 2; set = 0; dur = 3; value = 10; deadline = 4; prefer = Some (record { set = 1; dur = 2 }); class = Decay; elastic = false }

abbrev leaf : ℕ → ℕ → ℕ → ℕ → ℕ → Leaf
leaf num set start dur v = record { num = num; set = set; k = 2; start = start; dur = dur; v = v; linear = false }

falling_offer : offer falling 0 0 4
    ≡ Some (join greatest (row (one (leaf 0 1 0 2 7) ∷ one (leaf 1 0 0 3 5) ∷ one (leaf 2 1 1 2 5) ∷ one (leaf 3 0 1 3 2) ∷ one (leaf 4 1 2 2 2) ∷ [])))
falling_offer = refl

-- two slots later the one leaf that is left has its number and its worth
falling_later : offer falling 0 2 4 ≡ Some (one (leaf 4 1 2 2 2))
falling_later = refl

-- the same, arrived at slot 7
falling_moved : map (λ l. l.num) (options_between falling 7 8 4) ≡ 2 ∷ 3 ∷ 4 ∷ []
falling_moved = refl

falling_waits : has_expired falling 0 2 ≡ false
falling_waits = refl

falling_expires : has_expired falling 0 3 ≡ true
falling_expires = refl

-- no run of two slots ends by a deadline of 1
abbrev hasty : Ask
hasty = record { k = 1; set = 0; dur = 2; value = 5; deadline = 1; prefer = None; class = Steady; elastic = false }

hasty_offers_nothing : offer hasty 0 0 4 ≡ None
hasty_offers_nothing = refl

hasty_expires : has_expired hasty 0 0 ≡ true
hasty_expires = refl

-- three nodes that share the value, the same whole number for each
abbrev shared : ℕ → Ask
shared value = record { k = 3; set = 0; dur = 1; value = value; deadline = 2; prefer = None; class = Steady; elastic = true }

shared_rounds : map (λ l. l.v) (options_between (shared 11) 0 0 4) ≡ 9 ∷ 9 ∷ []
shared_rounds = refl

-- there are options, but none is worth anything
shared_too_little : map (λ l. l.v) (options_between (shared 2) 0 0 4) ≡ 0 ∷ 0 ∷ []
shared_too_little = refl

shared_expires : has_expired (shared 2) 0 0 ≡ true
shared_expires = refl
