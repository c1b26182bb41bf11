-- Tests of consecutive slots.
use Rattle.std.proofs.Common.{◌≡◌, ℕ, zero, suc, ◌+◌, ◌<◌, ◌≤◌, ◌||◌, Bool, true, false, List, [], ◌∷◌, refl, sym, ◌∙◌, arith, true≢false}
use Rattle.std.specs.List.{list_any, range_with_len}
use Rattle.std.proofs.lemmas.Bool.{false_from_ne_true}
use Rattle.tetri_base.specs.Lists.{Each}
use Rattle.tetri_base.proofs.ListLaws.{any_from, range_contains}

-- a slot of these that passes
pub record IsSomeSlot (p : ℕ → Bool) (a n : ℕ) : Type 0 where
  pub slot : ℕ
  pub low : a ≤ slot
  pub high : slot < a + n
  pub passes : p slot ≡ true

pub any_in_range : (p : ℕ → Bool) (a n : ℕ) → list_any p (range_with_len a n) ≡ true → IsSomeSlot p a n
any_in_range p a zero e = absurd (true≢false (sym e))
any_in_range p a (suc n) e = by_first (p a) refl e (any_in_range p (a + 1) n)
  where
    by_first : (b : Bool) → p a ≡ b → (b || list_any p (range_with_len (a + 1) n)) ≡ true → (list_any p (range_with_len (a + 1) n) ≡ true → IsSomeSlot p (a + 1) n) → IsSomeSlot p a (suc n)
    by_first true first h later = record { slot = a; low = omega arith; high = omega arith; passes = first }
    by_first false first h later =
        let at = later h in
        record { slot = at.slot; low = omega (arith, at.low); high = omega (arith, at.high); passes = at.passes }

-- where none passes, one of them fails
pub none_in_range : (p : ℕ → Bool) (a n t : ℕ) → list_any p (range_with_len a n) ≡ false → a ≤ t → t < a + n → p t ≡ false
none_in_range p a n t none low high = false_from_ne_true (p t) (λ e. true≢false (sym (any_from p (range_with_len a n) t (range_contains a n t low high) e) ∙ none))

pub none_of : {X : Type 0} (p : X → Bool) (xs : List X) → list_any p xs ≡ false → Each (λ x. p x ≡ false) xs
none_of p [] e = tt
none_of p (x ∷ xs) e = by_first (p x) refl e (none_of p xs)
  where
    by_first : (b : Bool) → p x ≡ b → (b || list_any p xs) ≡ false → (list_any p xs ≡ false → Each (λ y. p y ≡ false) xs) → (p x ≡ false) × Each (λ y. p y ≡ false) xs
    by_first true first h later = absurd (true≢false h)
    by_first false first h later = (first, later h)
