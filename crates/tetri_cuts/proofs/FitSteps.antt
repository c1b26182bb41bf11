-- The sum of a row's sizes, term by term.
use Rattle.std.proofs.Common.{◌≡◌, ℕ, ◌+◌, ◌*◌, ◌<◌, ◌≤◌, ap, ◌∙◌, arith, List, length, get_or, drop}
use Rattle.std.specs.Prelude.{unsigned_abs, IsTrue, ◌↔◌, false}
use Rattle.std.proofs.lemmas.List.{drop_all}
use Rattle.std.proofs.lemmas.List.Sums.{sum_by-drop_more}
use Rattle.tetri_ip.specs.declared.programs.Program.{Program}
use Rattle.tetri_ip.specs.declared.programs.Term.{Term}
use Rattle.tetri_ip.specs.Points.{reach, size_at}

-- what stands from a term on is its product and what stands behind it
pub reach_more : (p : Program) (ts : List Term) (i : ℕ) (d : Term) (a b sum total : ℕ) → i < length ts → a ≡ unsigned_abs (get_or ts i d).by → b ≡ size_at p (get_or ts i d).column →
    sum + reach p (drop i ts) ≡ total → sum + a * b + reach p (drop (i + 1) ts) ≡ total
reach_more p ts i d a b sum total l ae be so =
    let e : reach p (drop i ts) ≡ unsigned_abs (get_or ts i d).by * size_at p (get_or ts i d).column + reach p (drop (i + 1) ts) = sum_by-drop_more (λ (t : Term). unsigned_abs t.by * size_at p t.column) ts i d l in
    let f : a * b ≡ unsigned_abs (get_or ts i d).by * size_at p (get_or ts i d).column = ap (λ y. y * b) ae ∙ ap (λ y. unsigned_abs (get_or ts i d).by * y) be in
    regroup sum (a * b) _ (reach p (drop i ts)) (reach p (drop (i + 1) ts)) total e f so
  where
    regroup : (s x y r t z : ℕ) → r ≡ y + t → x ≡ y → s + r ≡ z → s + x + t ≡ z
    regroup s x y r t z e f g = omega (arith, e, f, g)

pub reach_done : (p : Program) (ts : List Term) (i : ℕ) → length ts ≤ i → reach p (drop i ts) ≡ 0
reach_done p ts i l = ap (λ us. reach p us) (drop_all i ts l)

-- what does not hold is told by `false`
pub not_so : (A : Type 0) → (A → ⊥) → IsTrue false ↔ A
not_so A n = (λ (t : IsTrue false). cc, λ a. absurd (n a))
