-- The two sides of a split lie in the program's box.
use Rattle.std.proofs.Common.{◌≡◌, ℕ, refl, sym, ap, ◌∙◌, subst, arith, List, [], ◌∷◌}
use Prim.Native.Nat.{zero, suc}
use Rattle.std.specs.Prelude.{◌≤ℤ◌, ◌<ℤ◌, slice_set}
use Rattle.std.proofs.lemmas.Int.{ints}
use Rattle.std.proofs.lemmas.List.{length-set}
use lib.IntN.{ℤ, pos, ◌+ℤ◌}
use Rattle.tetri_ip.specs.declared.programs.Program.{Program}
use Rattle.tetri_ip.specs.Points.{Bounds, IsInBox, number_at}
use Rattle.tetri_cert.specs.declared.marks.Mark.{Mark}
use Rattle.tetri_cert.specs.declared.marks.Mark.TheVariants.{Split, Close, Whole, Rest}
use Rattle.tetri_cert.specs.NodeBounds.{HasSides, high_side, low_side, sides_before}
use Rattle.tetri_cert.specs.Walks.{AreInBox}

-- a fact of the number at a place, after another one was put at a place
pub set_keeps : (P : ℤ → Type 0) (xs : List ℤ) (j : ℕ) (v : ℤ) (k : ℕ) → (k ≡ j → P v) → P (number_at xs k) → P (number_at (slice_set xs j v) k)
set_keeps P [] j v k f g = g
set_keeps P (x ∷ xs) zero v zero f g = f refl
set_keeps P (x ∷ xs) zero v (suc k) f g = g
set_keeps P (x ∷ xs) (suc j) v zero f g = g
set_keeps P (x ∷ xs) (suc j) v (suc k) f g = set_keeps P xs j v k (λ e. f (ap suc e)) g

above_next : (a b at : ℤ) → a ≤ℤ b → b ≤ℤ at → a ≤ℤ (at +ℤ pos 1)
above_next a b at h k = omega (arith, ints)

next_below : (at u : ℤ) → at <ℤ u → (at +ℤ pos 1) ≤ℤ u
next_below at u h = omega (arith, ints)

at_below : (at u c : ℤ) → at <ℤ u → u ≤ℤ c → at ≤ℤ c
at_below at u c h k = omega (arith, ints)

pub high_in_box : (p : Program) (b : Bounds) (j : ℕ) (at : ℤ) → IsInBox p b → number_at b.lower j ≤ℤ at → at <ℤ number_at b.upper j → IsInBox p (high_side b j at)
high_in_box p b j at i h k = record {
  lower_count = length-set b.lower j (at +ℤ pos 1) ∙ i.lower_count;
  upper_count = i.upper_count;
  above = λ m l. set_keeps (λ z. number_at p.lower.items m ≤ℤ z) b.lower j (at +ℤ pos 1) m
      (λ e. above_next (number_at p.lower.items m) (number_at b.lower m) at (i.above m l) (subst (λ n. number_at b.lower n ≤ℤ at) (sym e) h)) (i.above m l);
  ordered = λ m l. set_keeps (λ z. z ≤ℤ number_at b.upper m) b.lower j (at +ℤ pos 1) m
      (λ e. subst (λ n. (at +ℤ pos 1) ≤ℤ number_at b.upper n) (sym e) (next_below at (number_at b.upper j) k)) (i.ordered m l);
  below = i.below;
}

pub low_in_box : (p : Program) (b : Bounds) (j : ℕ) (at : ℤ) → IsInBox p b → number_at b.lower j ≤ℤ at → at <ℤ number_at b.upper j → IsInBox p (low_side b j at)
low_in_box p b j at i h k = record {
  lower_count = i.lower_count;
  upper_count = length-set b.upper j at ∙ i.upper_count;
  above = i.above;
  ordered = λ m l. set_keeps (λ z. number_at b.lower m ≤ℤ z) b.upper j at m (λ e. subst (λ n. number_at b.lower n ≤ℤ at) (sym e) h) (i.ordered m l);
  below = λ m l. set_keeps (λ z. z ≤ℤ number_at p.upper.items m) b.upper j at m
      (λ e. at_below at (number_at b.upper m) (number_at p.upper.items m) (subst (λ n. at <ℤ number_at b.upper n) (sym e) k) (i.below m l)) (i.below m l);
}

-- where a node has sides, they lie in the box with the other regions
pub sides_in_box : (p : Program) (b : Bounds) (m : Mark) (bs : List Bounds) → IsInBox p b → HasSides b m → AreInBox p bs → AreInBox p (sides_before b m bs)
sides_in_box p b (Split j at licence) bs i h r = (high_in_box p b j at i h.1 h.2, (low_in_box p b j at i h.1 h.2, r))
sides_in_box p b (Close q ws) bs i h r = r
sides_in_box p b (Whole q ws worth point) bs i h r = r
sides_in_box p b (Rest q ws) bs i h r = r
