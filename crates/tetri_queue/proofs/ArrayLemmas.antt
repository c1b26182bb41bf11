-- What a limit is where only what is counted changes.
use Rattle.std.proofs.Common.{◌≡◌, ℕ, suc, zero, List, [], ◌∷◌, map, set, get_or, refl, ap}
use Rattle.tetri_queue.specs.declared.arrays.Limit.{Limit}

pub most_kept : (ls : List Limit) (i : ℕ) (l d : Limit) → l.most ≡ (get_or ls i d).most → map (λ m. m.most) (set ls i l) ≡ map (λ m. m.most) ls
most_kept [] i l d same = refl
most_kept (x ∷ xs) zero l d same = ap (λ n. n ∷ map (λ m. m.most) xs) same
most_kept (x ∷ xs) (suc i) l d same = ap (λ ns. x.most ∷ ns) (most_kept xs i l d same)
