-- The upper bounds are small, and so is the most that the columns can earn.
use Rattle.std.proofs.Common.{◌≡◌, ℕ, zero, suc, ◌+◌, ◌*◌, ◌/◌, ◌^◌, ◌<◌, ◌≤◌, ◌==◌, min, List, [], ◌∷◌, length, map, refl, sym, ap, ◌∙◌, subst, arith, le_trans}
use Rattle.std.specs.Prelude.{unsigned_abs}
use Rattle.std.specs.List.{range_with_len}
use Rattle.std.proofs.Math.Nat.{mul-le-mul_left, mul-le-mul_right, div-mul-le_self}
use Rattle.std.proofs.lemmas.Bool.{cond_both}
use Rattle.std.proofs.lemmas.List.FromFn.{length-map-range_with_len}
use lib.IntN.{ℤ, pos}
use lib.Signed.{lt_z}
use Rattle.tetri_ip.specs.declared.programs.Program.{Program}
use Rattle.tetri_ip.specs.Points.{number_at}
use Rattle.tetri_strl.specs.declared.expr.Leaf.{Leaf}
use Rattle.tetri_strl.specs.Tree.{greatest, least, added, Tree, one, join, scale, barrier, Trees, none, more}
use Rattle.tetri_strl.specs.WellMade.{peak, peaks, PEAK, IsSound, AreSound}
use Rattle.tetri_strl.specs.Worth.{greatest_of, added_of}
use Rattle.tetri_strl.proofs.ExprLaws.{worth_le_peak}
use Rattle.tetri_base.specs.Lists.{Each, sum_of}
use Rattle.tetri_space.specs.Space.{Bid}
use Rattle.tetri_base.proofs.ListLaws.{Each-all, Each-append, Each-map, sum_of-le}
use Rattle.tetri_compile.specs.Draft.{Draft, bid_uppers, objective}
use Rattle.tetri_compile.specs.Flat.{FlatProgram, coefficient, flat, plain}
use Rattle.tetri_compile.specs.Forms.{Form, Reads, at_point, run, share, times}
use Rattle.tetri_compile.specs.Gain.{gain_at, most_gain}
use Rattle.tetri_compile.specs.Walk.{best, form, forms, ones, uppers, uppers_of, width}
use Rattle.tetri_compile.proofs.FlatLemmas.{at_column, form_at, point_reads}
use Rattle.tetri_compile.proofs.FormLemmas.{Reads-split}
use Rattle.tetri_compile.proofs.FormSizes.{AllBelow, below_added, below_greatest}
use Rattle.tetri_compile.proofs.SmallLemmas.{objective_few, peak_small}

module _ (inside : ℕ → List ℕ) (usable : ℕ → Leaf → ℕ) where
  -- ---- upper bounds
  leaf_uppers : (k : ℕ) (l : Leaf) (ps : List ℕ) → k ≤ PEAK → Each (λ u. u ≤ PEAK) (map (λ p. min k (usable p l)) ps)
  leaf_uppers k s [] le = tt
  leaf_uppers k s (p ∷ ps) le = (omega (arith, le), leaf_uppers k s ps le)

  ones_small : (ts : Trees) → Each (λ u. u ≤ PEAK) (ones ts)
  ones_small none = tt
  ones_small (more t ts) = (omega arith, ones_small ts)

  best_small : (ts : Trees) → IsSound (join least ts) → best (join least ts) ≤ PEAK
  best_small ts sound = le_trans (worth_le_peak (λ l. l.v) (λ l g. omega arith) (join least ts) sound) sound.2

  mutual
    uppers_small : (t : Tree) → IsSound t → Each (λ u. u ≤ PEAK) (uppers inside usable t)
    uppers_small (one l) sound = leaf_uppers l.k l (inside l.set) (omega (arith, sound.0.few_nodes))
    uppers_small (join greatest ts) sound = Each-append (λ u. u ≤ PEAK) (ones ts) (uppers_of inside usable ts) (ones_small ts) (uppers_of_small ts sound.1)
    uppers_small (join least ts) sound = (best_small ts sound, uppers_of_small ts sound.1)
    uppers_small (join added ts) sound = Each-append (λ u. u ≤ PEAK) (ones ts) (uppers_of inside usable ts) (ones_small ts) (uppers_of_small ts sound.1)
    uppers_small (scale t s) sound = uppers_small t sound.0
    uppers_small (barrier t v) sound = uppers_small t sound.0

    uppers_of_small : (ts : Trees) → AreSound ts → Each (λ u. u ≤ PEAK) (uppers_of inside usable ts)
    uppers_of_small none sound = tt
    uppers_of_small (more t ts) sound = Each-append (λ u. u ≤ PEAK) (uppers inside usable t) (uppers_of inside usable ts) (uppers_small t sound.0) (uppers_of_small ts sound.1)

  pub bid_uppers_small : (bs : List Bid) → Each (λ b. IsSound b.expr) bs → Each (λ u. u ≤ PEAK) (bid_uppers inside usable bs)
  bid_uppers_small [] sound = tt
  bid_uppers_small (b ∷ bs) sound =
      (omega arith, Each-append (λ u. u ≤ PEAK) (uppers inside usable b.expr) (bid_uppers inside usable bs) (uppers_small b.expr sound.0) (bid_uppers_small bs sound.1))

  -- ---- what each share earns, where each column is at its upper bound
  module _ (x : ℕ → ℕ) where
    run_gain : (b k m : ℕ) (l : Leaf) (n : ℕ) (ps : List ℕ) → b * k ≤ m → Reads x n (map (λ p. min k (usable p l)) ps) → Each (λ h. h.by * x h.column ≤ m) (run b n ps)
    run_gain b k m s n [] le h = tt
    run_gain b k m s n (p ∷ ps) le h =
        let fits : x n ≤ k = omega (arith, h.0) in
        (le_trans (mul-le-mul_left b fits) le, run_gain b k m s (n + 1) ps le h.1)

    times_gain : (s m : ℕ) (f : Form) → Each (λ h. h.by * x h.column ≤ m) f → Each (λ h. h.by * x h.column ≤ s * m) (times s f)
    times_gain s m [] h = tt
    times_gain s m (p ∷ f) h = (subst (λ k. k ≤ s * m) (spread s p.by (x p.column)) (mul-le-mul_left s h.0), times_gain s m f h.1)
      where
        spread : (a b c : ℕ) → a * (b * c) ≡ (a * b) * c
        spread a b c = omega arith

    one_gain : (v i : ℕ) → x i ≤ 1 → v * x i ≤ v
    one_gain v i le = let h = mul-le-mul_left v le in omega (arith, h)

    mutual
      form_gain : (t : Tree) → IsSound t → (i n : ℕ) → x i ≤ 1 → Reads x n (uppers inside usable t) → Each (λ h. h.by * x h.column ≤ peak t) (form inside usable t i n)
      form_gain (one l) sound i n le h =
          cond_both l.linear (run (l.v / l.k) n (inside l.set)) (share i l.v ∷ []) (λ f. Each (λ s. s.by * x s.column ≤ l.v) f)
          (λ e. run_gain (l.v / l.k) l.k l.v l n (inside l.set) (div-mul-le_self l.v l.k) h) (λ e. (one_gain l.v i le, tt))
      form_gain (join greatest ts) sound i n le h =
          let both = Reads-split x n (length (ones ts)) (ones ts) (uppers_of inside usable ts) refl h in
          forms_gain ts sound.1 (greatest_of (peaks ts)) (below_greatest (peaks ts)) n (n + length (ones ts)) both.0 both.1
      form_gain (join least ts) sound i n le h =
          cond_both (best (join least ts) == 0) [] (share n 1 ∷ []) (λ f. Each (λ s. s.by * x s.column ≤ greatest_of (peaks ts)) f) (λ e. tt)
          (λ e. (omega (arith, h.0, worth_le_peak (λ l. l.v) (λ l g. omega arith) (join least ts) sound), tt))
      form_gain (join added ts) sound i n le h =
          let both = Reads-split x n (length (ones ts)) (ones ts) (uppers_of inside usable ts) refl h in
          forms_gain ts sound.1 (added_of (peaks ts)) (below_added (peaks ts)) n (n + length (ones ts)) both.0 both.1
      form_gain (scale t s) sound i n le h = times_gain s (peak t) (form inside usable t i n) (form_gain t sound.0 i n le h)
      form_gain (barrier t v) sound i n le h = (le_trans (one_gain v i le) (omega arith), tt)

      forms_gain : (ts : Trees) → AreSound ts → (m : ℕ) → AllBelow m (peaks ts) → (j n : ℕ) → Reads x j (ones ts) → Reads x n (uppers_of inside usable ts) → Each (λ h. h.by * x h.column ≤ m) (forms inside usable ts j n)
      forms_gain none sound m below j n h k = tt
      forms_gain (more t ts) sound m below j n h k =
          let both = Reads-split x n (width inside usable t) (uppers inside usable t) (uppers_of inside usable ts) refl k in
          Each-append (λ s. s.by * x s.column ≤ m) (form inside usable t j n) (forms inside usable ts (j + 1) (n + width inside usable t))
          (Each-map (λ s. s.by * x s.column ≤ peak t) (λ s. s.by * x s.column ≤ m) (λ s le. le_trans le below.0) (form inside usable t j n) (form_gain t sound.0 j n (omega (arith, h.0)) both.0))
          (forms_gain ts sound.1 m below.1 (j + 1) (n + width inside usable t) h.1 both.1)

    bids_gain : (bs : List Bid) (n : ℕ) → Each (λ b. IsSound b.expr) bs → Reads x n (bid_uppers inside usable bs) → Each (λ h. h.by * x h.column ≤ PEAK) (objective inside usable bs n)
    bids_gain [] n sound h = tt
    bids_gain (b ∷ bs) n sound h =
        let both = Reads-split x (n + 1) (width inside usable b.expr) (uppers inside usable b.expr) (bid_uppers inside usable bs) refl h.1 in
        Each-append (λ s. s.by * x s.column ≤ PEAK) (form inside usable b.expr n (n + 1)) (objective inside usable bs (n + 1 + width inside usable b.expr))
        (Each-map (λ s. s.by * x s.column ≤ peak b.expr) (λ s. s.by * x s.column ≤ PEAK) (λ s le. le_trans le (peak_small b.expr sound.0)) (form inside usable b.expr n (n + 1))
        (form_gain b.expr sound.0 n (n + 1) (omega (arith, h.0)) both.0))
        (bids_gain bs (n + 1 + width inside usable b.expr) sound.1 both.1)

gain_most : (x : ℕ → ℕ) (f : Form) → Each (λ h. h.by * x h.column ≤ PEAK) f → at_point x f ≤ length f * PEAK
gain_most x [] h = omega arith
gain_most x (s ∷ f) h = omega (arith, h.0, gain_most x f h.1)

past_end : (us : List ℕ) (j : ℕ) → length us ≤ j → at_column (map pos us) j ≡ 0
past_end [] j le = refl
past_end (u ∷ us) zero le = absurd (omega (arith, le))
past_end (u ∷ us) (suc j) le = past_end us j (omega (arith, le))

pub number_of : (g : ℕ → ℕ) (a n k : ℕ) → unsigned_abs (number_at (map (λ j. pos (g j)) (range_with_len a n)) k) ≤ g (a + k)
number_of g a zero k = omega arith
number_of g a (suc n) zero = let e : a ≡ a + 0 = omega arith in subst (λ (j : ℕ). g a ≤ g j) e (omega arith)
number_of g a (suc n) (suc k) = let e : a + 1 + k ≡ a + suc k = omega arith in subst (λ (j : ℕ). unsigned_abs (number_at (map (λ i. pos (g i)) (range_with_len (a + 1) n)) k) ≤ g j) e (number_of g (a + 1) n k)

pub from_zero : (j : ℕ) → 0 + j ≡ j
from_zero j = omega arith

module _ (inside : ℕ → List ℕ) (usable : ℕ → Leaf → ℕ) (bs : List Bid) (sound : Each (λ b. IsSound b.expr) bs) (d : Draft) (few : length (bid_uppers inside usable bs) ≤ 2000)
    (uppers_are : d.uppers ≡ bid_uppers inside usable bs) (earns : d.objective ≡ objective inside usable bs 0) (p : Program) (is : plain p ≡ flat d) where
  pub gain_small : most_gain p < 2 ^ 64
  gain_small =
      let us = bid_uppers inside usable bs in
      let x = at_column (map pos us) in
      let f = objective inside usable bs 0 in
      let n = length us in
      let costs : p.costs.items ≡ map (λ j. pos (coefficient f j)) (range_with_len 0 n) =
      ap (λ (q : FlatProgram). q.costs) is ∙ ap (λ (g : Form). map (λ j. pos (coefficient g j)) (range_with_len 0 (length d.uppers))) earns
      ∙ ap (λ (vs : List ℕ). map (λ j. pos (coefficient f j)) (range_with_len 0 (length vs))) uppers_are in
      let upper : p.upper.items ≡ map pos us = ap (λ (q : FlatProgram). q.upper) is ∙ ap (λ (vs : List ℕ). map pos vs) uppers_are in
      let count : length p.costs.items ≡ n = ap (λ (zs : List ℤ). length zs) costs ∙ length-map-range_with_len (λ j. pos (coefficient f j)) 0 n in
      let each = gain_most x f (bids_gain inside usable x bs 0 sound (point_reads us)) in
      let whole = form_at x n (past_end us) f in
      let below = sum_of-le (gain_at p) (λ j. coefficient f j * x j) (range_with_len 0 n) (Each-all (λ j. gain_at p j ≤ coefficient f j * x j) (λ j.
      cond_both (lt_z (pos 0) (number_at p.costs.items j)) (unsigned_abs (number_at p.costs.items j) * unsigned_abs (number_at p.upper.items j)) 0 (λ g. g ≤ coefficient f j * x j)
      (λ e. le_trans
      (mul-le-mul_right (unsigned_abs (number_at p.upper.items j)) (subst (λ (zs : List ℤ). unsigned_abs (number_at zs j) ≤ coefficient f j) (sym costs) (subst (λ (k : ℕ). unsigned_abs (number_at (map (λ i. pos (coefficient f i)) (range_with_len 0 n)) j) ≤ coefficient f k) (from_zero j) (number_of (coefficient f) 0 n j))))
      (subst (λ (zs : List ℤ). coefficient f j * unsigned_abs (number_at zs j) ≤ coefficient f j * x j) (sym upper) (omega arith)))
      (λ e. omega arith)) (range_with_len 0 n)) in
      let total : most_gain p ≡ sum_of (gain_at p) (range_with_len 0 n) = ap (λ m. sum_of (gain_at p) (range_with_len 0 m)) count in
      omega (arith, each, whole, below, total, objective_few inside usable 2000 (omega arith) bs 0, few)
