-- The left side of a row at a point in the box stays in range.
use Rattle.std.proofs.Common.{◌≡◌, ℕ, ◌+◌, ◌*◌, ◌^◌, ◌<◌, ◌≤◌, max, sym, ap, ◌∙◌, subst, arith, List, [], ◌∷◌, length, get_or, drop}
use Prim.Native.Nat.{suc}
use Rattle.std.specs.Prelude.{unsigned_abs, ◌≤ℤ◌}
use Rattle.std.proofs.Math.Nat.{mul-le-mul_left}
use Rattle.std.proofs.Math.Seq.{drop-cons}
use Rattle.std.proofs.lemmas.List.Sums.{sum_by-cons}
use Rattle.std.proofs.lemmas.Int.{fits_signed_from_abs, ints, unsigned_abs-mul}
use lib.IntN.{ℤ, ◌+ℤ◌, ◌*ℤ◌}
use mir.Val.{SFits}
use mir.Syntax.{w128}
use Rattle.tetri_ip.specs.declared.programs.Program.{Program}
use Rattle.tetri_ip.specs.declared.programs.Term.{Term}
use Rattle.tetri_ip.specs.Points.{IsBetween, column_at, left_side, number_at, reach, size_at, sizes}

pub sizes-cons : (t : Term) (ts : List Term) (point : List ℤ) → sizes (t ∷ ts) point ≡ unsigned_abs t.by * unsigned_abs (number_at point t.column) + sizes ts point
sizes-cons t ts point = sum_by-cons (λ (u : Term). unsigned_abs u.by * unsigned_abs (number_at point u.column)) t ts

reach-cons : (p : Program) (t : Term) (ts : List Term) → reach p (t ∷ ts) ≡ unsigned_abs t.by * size_at p t.column + reach p ts
reach-cons p t ts = sum_by-cons (λ (u : Term). unsigned_abs u.by * size_at p u.column) t ts

pub size_between : (l x u : ℤ) → l ≤ℤ x → x ≤ℤ u → unsigned_abs x ≤ max (unsigned_abs l) (unsigned_abs u)
size_between l x u h k = omega (arith, ints)

-- at a point in the box the sizes are within the reach
pub sizes-reach : (p : Program) (point : List ℤ) (ts : List Term) → IsBetween (length p.costs.items) p.lower.items point p.upper.items →
    ((k : ℕ) → k < length ts → column_at ts k < length p.costs.items) → sizes ts point ≤ reach p ts
sizes-reach p point [] b h = omega arith
sizes-reach p point (t ∷ ts) b h =
    let m = b t.column (h 0 (omega arith)) in
    let s = size_between (number_at p.lower.items t.column) (number_at point t.column) (number_at p.upper.items t.column) m.0 m.1 in
    let a = mul-le-mul_left (unsigned_abs t.by) s in
    let r = sizes-reach p point ts b (λ k l. h (suc k) (omega arith)) in
    both _ _ _ _ _ _ (sizes-cons t ts point) (reach-cons p t ts) a r
  where
    both : (m n a b c d : ℕ) → m ≡ a + c → n ≡ b + d → a ≤ b → c ≤ d → m ≤ n
    both m n a b c d e f h k = omega arith

-- what one more term leaves of the sum
pub record AddsTerm (sum part : ℤ) (rest : ℕ) (left whole : ℤ) : Type 0 where
  pub part_fits : SFits w128 part
  pub sum_fits : SFits w128 (sum +ℤ part)
  pub in_range : unsigned_abs (sum +ℤ part) + rest < 2 ^ 127
  pub value : (sum +ℤ part) +ℤ left ≡ whole

pub add_part : (sum part : ℤ) (n rest : ℕ) (left whole : ℤ) → unsigned_abs part ≤ n → unsigned_abs sum + (n + rest) < 2 ^ 127 → sum +ℤ (part +ℤ left) ≡ whole → AddsTerm sum part rest left whole
add_part sum part n rest left whole e h v =
    let r : unsigned_abs (sum +ℤ part) + rest < 2 ^ 127 = omega (arith, ints) in
    record {
      part_fits = fits_signed_from_abs w128 part (omega arith);
      sum_fits = fits_signed_from_abs w128 (sum +ℤ part) (omega arith);
      in_range = r;
      value = assoc sum part left ∙ v;
    }
  where
    assoc : (a b c : ℤ) → (a +ℤ b) +ℤ c ≡ a +ℤ (b +ℤ c)
    assoc a b c = omega (arith, ints)

pub adds_term : (ts : List Term) (point : List ℤ) (i : ℕ) (d : Term) (sum whole a x : ℤ) → i < length ts → a ≡ (get_or ts i d).by → x ≡ number_at point (get_or ts i d).column →
    unsigned_abs sum + sizes (drop i ts) point < 2 ^ 127 → sum +ℤ left_side (drop i ts) point ≡ whole →
    AddsTerm sum (a *ℤ x) (sizes (drop (i + 1) ts) point) (left_side (drop (i + 1) ts) point) whole
adds_term ts point i d sum whole a x l ae xe h v =
    let t = get_or ts i d in
    let s : suc i ≡ i + 1 = omega arith in
    let e : drop i ts ≡ t ∷ drop (i + 1) ts = drop-cons ts i d l ∙ ap (λ k. t ∷ drop k ts) s in
    let pe : t.by *ℤ number_at point t.column ≡ a *ℤ x = ap (λ z. z *ℤ number_at point t.column) (sym ae) ∙ ap (λ z. a *ℤ z) (sym xe) in
    let n : unsigned_abs (a *ℤ x) ≡ unsigned_abs t.by * unsigned_abs (number_at point t.column) = ap unsigned_abs (sym pe) ∙ unsigned_abs-mul t.by (number_at point t.column) in
    add_part sum (a *ℤ x) (unsigned_abs t.by * unsigned_abs (number_at point t.column)) (sizes (drop (i + 1) ts) point) (left_side (drop (i + 1) ts) point) whole (omega arith)
    (subst (λ (k : ℕ). unsigned_abs sum + k < 2 ^ 127) (ap (λ (us : List Term). sizes us point) e ∙ sizes-cons t (drop (i + 1) ts) point) h)
    (ap (λ z. sum +ℤ (z +ℤ left_side (drop (i + 1) ts) point)) (sym pe) ∙ sym (ap (λ (us : List Term). sum +ℤ left_side us point) e) ∙ v)

-- the same, as the code's numbers are written
pub term_added : (ts : List Term) (point : List ℤ) (i : ℕ) (d : Term) (sum whole a x part next : ℤ) → i < length ts → a ≡ (get_or ts i d).by → x ≡ number_at point (get_or ts i d).column →
    unsigned_abs sum + sizes (drop i ts) point < 2 ^ 127 → sum +ℤ left_side (drop i ts) point ≡ whole →
    (SFits w128 (a *ℤ x) → part ≡ a *ℤ x) → (SFits w128 (sum +ℤ part) → next ≡ sum +ℤ part) →
    (unsigned_abs next + sizes (drop (i + 1) ts) point < 2 ^ 127) × (next +ℤ left_side (drop (i + 1) ts) point ≡ whole)
term_added ts point i d sum whole a x part next l ae xe h v pe ne =
    let r = adds_term ts point i d sum whole a x l ae xe h v in
    let p = pe r.part_fits in
    let n = ne (subst (λ (z : ℤ). SFits w128 (sum +ℤ z)) (sym p) r.sum_fits) in
    let e : sum +ℤ a *ℤ x ≡ next = sym (n ∙ ap (λ z. sum +ℤ z) p) in (
      subst (λ (z : ℤ). unsigned_abs z + sizes (drop (i + 1) ts) point < 2 ^ 127) e r.in_range,
      ap (λ z. z +ℤ left_side (drop (i + 1) ts) point) (sym e) ∙ r.value,
    )
