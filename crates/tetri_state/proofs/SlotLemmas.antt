-- The events of a slot stand together.
use Rattle.std.proofs.Common.{◌≡◌, ◌∙◌, ap, ℕ, ◌+◌, ◌<◌, ◌≤◌, ◌==◌, Bool, true, false, List, [], ◌∷◌, cond, take, drop, length, filter, arith, refl, suc, zero, get_or, get_or-drop}
use Rattle.std.specs.List.{AllWithin}
use Rattle.std.proofs.lemmas.Bool.Decides.{nat_tests}
use Rattle.tetri_trace.specs.declared.trace.Event.{Event}

abbrev at_slot : ℕ → List Event → List Event
at_slot now es = filter (λ e. e.at == now) es

passed : (now : ℕ) (x : Event) (ys : List Event) (b : Bool) → (x.at == now) ≡ b → x.at < now → ys ≡ cond b (x ∷ ys) ys
passed now x ys true e h = let no : ⊥ = grind (arith, nat_tests) in absurd no
passed now x ys false e h = refl

skip_all : (now : ℕ) (xs : List Event) (i : ℕ) → AllWithin (λ e. e.at < now) xs 0 i → i ≤ length xs → at_slot now (drop i xs) ≡ at_slot now xs
skip_all now [] zero a r = refl
skip_all now [] (suc i) a r = refl
skip_all now (x ∷ xs) zero a r = refl
skip_all now (x ∷ xs) (suc i) a r =
    skip_all now xs i (λ k d lo hi. a (suc k) d (omega arith) (omega arith)) (omega arith)
    ∙ passed now x (at_slot now xs) (x.at == now) refl (a 0 x (omega arith) (omega arith))

later : (now : ℕ) (x : Event) (ys : List Event) (b : Bool) → (x.at == now) ≡ b → now < x.at → [] ≡ ys → [] ≡ cond b (x ∷ ys) ys
later now x ys true e h r = let no : ⊥ = grind (arith, nat_tests) in absurd no
later now x ys false e h r = r

none_left : (now : ℕ) (xs : List Event) → AllWithin (λ e. now < e.at) xs 0 (length xs) → [] ≡ at_slot now xs
none_left now [] a = refl
none_left now (x ∷ xs) a =
    later now x (at_slot now xs) (x.at == now) refl (a 0 x (omega arith) (omega arith))
    (none_left now xs (λ k d lo hi. a (suc k) d (omega arith) (omega arith)))

here : (now : ℕ) (x : Event) (ys zs : List Event) (b : Bool) → (x.at == now) ≡ b → x.at ≡ now → ys ≡ zs → x ∷ ys ≡ cond b (x ∷ zs) zs
here now x ys zs true e h r = ap (λ l. x ∷ l) r
here now x ys zs false e h r = let no : ⊥ = grind (arith, nat_tests) in absurd no

all_at : (now : ℕ) (xs : List Event) (n : ℕ) → AllWithin (λ e. e.at ≡ now) xs 0 n → AllWithin (λ e. now < e.at) xs n (length xs) → n ≤ length xs →
    take n xs ≡ at_slot now xs
all_at now [] zero a b r = refl
all_at now [] (suc n) a b r = refl
all_at now (x ∷ xs) zero a b r = none_left now (x ∷ xs) b
all_at now (x ∷ xs) (suc n) a b r =
    here now x (take n xs) (at_slot now xs) (x.at == now) refl (a 0 x (omega arith) (omega arith))
    (all_at now xs n (λ k d lo hi. a (suc k) d (omega arith) (omega arith)) (λ k d lo hi. b (suc k) d (omega arith) (omega arith)) (omega arith))

-- where `i` events are of earlier slots, and of those behind them `n` are of this one or an earlier one
pub stand_together : (now : ℕ) (xs ys : List Event) (i n : ℕ) → ys ≡ drop i xs → length ys + i ≤ length xs →
    AllWithin (λ e. e.at < now) xs 0 i → AllWithin (λ e. now ≤ e.at) xs i (length xs) → i ≤ length xs →
    AllWithin (λ e. e.at ≤ now) ys 0 n → AllWithin (λ e. now < e.at) ys n (length ys) → n ≤ length ys → take n ys ≡ at_slot now xs
stand_together now xs ys i n e len a f r b p s =
    all_at now ys n
    (λ k d lo hi.
    let low : (get_or ys k d).at ≤ now = b k d lo hi in
    let high : now ≤ (get_or xs (i + k) d).at = f (i + k) d (omega arith) (omega arith) in
    let same : (get_or ys k d).at ≡ (get_or xs (i + k) d).at = ap (λ l. l.at) (ap (λ z. get_or z k d) e ∙ get_or-drop i xs k d) in
    omega arith)
    p s ∙ (ap (at_slot now) e ∙ skip_all now xs i a r)
