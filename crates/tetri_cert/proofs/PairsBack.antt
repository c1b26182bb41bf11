-- Weights and cells read back.
use Rattle.std.proofs.Common.{◌≡◌, ℕ, zero, suc, ◌+◌, ◌*◌, ◌^◌, ◌<◌, refl, sym, ap, ◌∙◌, subst, arith, inr, List, length, cond, Bool, false, eqb, Some, None, decimal, lit≤}
use Rattle.std.specs.Prelude.{◌≢◌, unsigned_abs}
use Rattle.std.proofs.lemmas.Bool.{false≢true}
use Rattle.std.proofs.lemmas.Option.{same_Some}
use lib.IntN.{ℤ, pos, negsuc}
use Rattle.tetri_io.proofs.TextLaws.{Avoids, IsCodec, cond_else, decimal_avoids, image_laws, pair_laws, pair_longer, renamed_laws}
use Rattle.tetri_ip.specs.declared.programs.Weight.{Weight}
use Rattle.tetri_algebra.specs.Range.{IsWithin}
use Rattle.tetri_num.specs.declared.fractions.Frac.{Frac}
use Rattle.tetri_cert.specs.Numbers.{small_numbers}
use Rattle.tetri_cert.specs.Pairs.{IsPair, IsPlainFracCell, cell_key, cells, frac_cell_key, frac_cell_of_parts, frac_cells, pair_of_parts, pairs, weight_key, weights}
use Rattle.tetri_cert.specs.NodeText.{cell_lists, frac_cell_lists, weight_lists}
use Rattle.tetri_cert.specs.declared.marks.Cell.{Cell}
use Rattle.tetri_cert.specs.declared.marks.FracCell.{FracCell}
use Rattle.tetri_cert.proofs.NumbersBack.{frac_laws, not_zero, small_laws, whole_laws}
use Rattle.tetri_cert.proofs.ListsBack.{list_laws}

nonzero_abs : (z : ℤ) → z ≢ pos 0 → eqb (unsigned_abs z) 0 ≡ false
nonzero_abs (pos zero) h = absurd (h refl)
nonzero_abs (pos (suc n)) h = not_zero n
nonzero_abs (negsuc n) h = not_zero n

abs_nonzero : (z : ℤ) → eqb (unsigned_abs z) 0 ≡ false → z ≢ pos 0
abs_nonzero z h = λ (e : z ≡ pos 0). false≢true (sym h ∙ ap (λ (x : ℤ). eqb (unsigned_abs x) 0) e)

-- ---- pairs
smalls : IsCodec 45 (λ (n : ℕ). 39) small_numbers
smalls = small_laws 45 (lit≤ tt)

colonless : (n : ℕ) → n < 2 ^ 32 → Avoids 58 (decimal n)
colonless n h = decimal_avoids 58 n (inr (omega arith)) (omega arith)

pair_only : (p q : ℕ × ℤ) → (p.0 < 2 ^ 32) × IsWithin p.1 → pair_of_parts p ≡ Some q → IsPair q.0 q.1 × (p ≡ q)
pair_only p q h e =
    let c = cond_else (eqb (unsigned_abs p.1) 0) (Some p) q e in
    let f : p ≡ q = same_Some p q c.1 in
    subst (λ (r : ℕ × ℤ). IsPair r.0 r.1 × (p ≡ r)) f (record { narrow = h.0; nonzero = abs_nonzero p.1 c.0; within = h.1 }, refl)

pair_codec : IsCodec 45 (λ (p : ℕ × ℤ). 80) pairs
pair_codec =
    image_laws (pair_laws smalls (whole_laws 45 (lit≤ tt)) 58 (lit≤ tt) colonless) pair_of_parts (λ p. p) (λ p. IsPair p.0 p.1)
    (λ p h. ((h.narrow, h.within), ap (λ (t : Bool). cond t None (Some p)) (nonzero_abs p.1 h.nonzero))) pair_only

-- ---- weights and cells
pub weight_laws : IsCodec 45 (λ (w : Weight). 80) weights
weight_laws = renamed_laws pair_codec (λ p. record { row = p.0; by = p.1 }) (λ w. (w.row, w.by)) (λ w. refl) (λ p. refl)

pub cell_laws : IsCodec 45 (λ (c : Cell). 80) cells
cell_laws = renamed_laws pair_codec (λ p. record { column = p.0; value = p.1 }) (λ c. (c.column, c.value)) (λ c. refl) (λ p. refl)

frac_cell_only : (p : ℕ × Frac) (c : FracCell) → (p.0 < 2 ^ 32) × Unit {0} → frac_cell_of_parts p ≡ Some c → IsPlainFracCell c × (p ≡ (c.column, c.value))
frac_cell_only p c h e =
    let t = cond_else (eqb (unsigned_abs p.1.num) 0) (Some (record { column = p.0; value = p.1 })) c e in
    let f : record { column = p.0; value = p.1 } ≡ c = same_Some _ c t.1 in
    subst (λ (d : FracCell). IsPlainFracCell d × (p ≡ (d.column, d.value))) f (record { narrow = h.0; nonzero = abs_nonzero p.1.num t.0 }, refl)

pub frac_cell_laws : IsCodec 45 (λ (c : FracCell). 121) frac_cells
frac_cell_laws =
    image_laws (pair_laws smalls frac_laws 58 (lit≤ tt) colonless) frac_cell_of_parts (λ c. (c.column, c.value)) IsPlainFracCell
    (λ c h. ((h.narrow, tt), ap (λ (t : Bool). cond t None (Some c)) (nonzero_abs c.value.num h.nonzero))) frac_cell_only

-- ---- lists of them
pub weight_list_laws : IsCodec 44 (λ (ws : List Weight). length ws * 81 + 1) weight_lists
weight_list_laws = list_laws weight_laws weight_key (λ w h. pair_longer smalls (whole_laws 45 (lit≤ tt)) 58 (w.row, w.by) h.narrow)

pub cell_list_laws : IsCodec 44 (λ (cs : List Cell). length cs * 81 + 1) cell_lists
cell_list_laws = list_laws cell_laws cell_key (λ c h. pair_longer smalls (whole_laws 45 (lit≤ tt)) 58 (c.column, c.value) h.narrow)

pub frac_cell_list_laws : IsCodec 44 (λ (cs : List FracCell). length cs * 122 + 1) frac_cell_lists
frac_cell_list_laws = list_laws frac_cell_laws frac_cell_key (λ c h. pair_longer smalls frac_laws 58 (c.column, c.value) h.narrow)
