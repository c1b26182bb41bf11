use Rattle.std.proofs.Common.{◌≡◌, ◌≢◌, ℕ, ◌+◌, ◌-◌, ◌<◌, ◌≤◌, List, ◌∷◌, ◌++◌, length, get_or, take, drop, All, sym, ap, ◌∙◌, arith}
use Rattle.std.proofs.lemmas.List.{take_all, take-append-drop, get_or-take, length-drop, length-take-le, drop_more}
use Rattle.std.proofs.lemmas.List.Elements.{All-from_get_or}
use Rattle.tetri_io.proofs.words.halves_at.Goals as goal

-- a list, around the byte at a place
around : (xs : List ℕ) (i mark : ℕ) → i < length xs → get_or xs i 0 ≡ mark → xs ≡ take i xs ++ mark ∷ take (length xs - (i + 1)) (drop (i + 1) xs)
around xs i mark lt e =
    let rest : take (length xs - (i + 1)) (drop (i + 1) xs) ≡ drop (i + 1) xs = take_all (length xs - (i + 1)) (drop (i + 1) xs) (omega (arith, length-drop (i + 1) xs)) in
    sym (take-append-drop i xs) ∙ ap (λ ys. take i xs ++ ys) (drop_more xs i 0 lt ∙ ap (λ b. b ∷ drop (i + 1) xs) e ∙ ap (λ ys. mark ∷ ys) (sym rest))

avoided : (xs : List ℕ) (i mark : ℕ) → i ≤ length xs → ((k : ℕ) → k < i → get_or xs k 0 ≡ mark → ⊥) → All (λ b. b ≢ mark) (take i xs)
avoided xs i mark le h =
    All-from_get_or (λ b. b ≢ mark) (take i xs) 0 (λ k lt. let small : k < i = omega (arith, length-take-le i xs le) in λ e. h k small (sym (get_or-take i xs k 0 small) ∙ e))

pub returns-then-b-mark : goal.returns-then-b-mark
returns-then-b-mark c =
    (around c.args.bytes.now c.loop-i.i c.args.mark c.loop-i-test.true c.if-b-mark.true, avoided c.args.bytes.now c.loop-i.i c.args.mark c.loop-i.auto.i-end c.loop-i.invariant)

pub returns : goal.returns
returns c =
    All-from_get_or (λ b. b ≢ c.args.mark) c.args.bytes.now 0 (λ k lt. let small : k < c.loop-i.i = omega arith in c.loop-i.invariant k small)
