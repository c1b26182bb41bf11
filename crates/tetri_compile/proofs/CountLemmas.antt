-- The columns that count nodes ascend, are in the program, and are from 0 to 4096.
use Rattle.std.proofs.Common.{◌≡◌, ℕ, zero, suc, ◌+◌, ◌<◌, ◌≤◌, min, List, [], ◌∷◌, ◌++◌, length, map, refl, sym, ap, ◌∙◌, subst, arith, le_trans}
use Rattle.std.specs.Prelude.{◌≤ℤ◌}
use Rattle.std.proofs.lemmas.Int.{ints}
use Rattle.std.proofs.lemmas.List.{length-append, length-map}
use Rattle.std.proofs.lemmas.List.FromFn.{length-map-range_with_len}
use lib.IntN.{ℤ, pos}
use Rattle.tetri_ip.specs.declared.programs.Program.{Program}
use Rattle.tetri_ip.specs.Points.{number_at}
use Rattle.tetri_strl.specs.declared.expr.Leaf.{Leaf}
use Rattle.tetri_strl.specs.Tree.{Tree, one, join, scale, barrier, Trees, none, more}
use Rattle.tetri_strl.specs.WellMade.{IsSound, AreSound}
use Rattle.tetri_base.specs.Lists.{Each, EachPair, Ascends}
use Rattle.tetri_space.specs.Space.{Bid}
use Rattle.tetri_base.proofs.ListLaws.{Each-across, Each-append, Each-map, EachPair-append}
use Rattle.tetri_compile.specs.declared.compiling.Count.{Count}
use Rattle.tetri_compile.specs.declared.outline.Tally.{Tally}
use Rattle.tetri_compile.specs.Counting.{AreCountsOf}
use Rattle.tetri_compile.specs.Draft.{Draft, bid_tallies, bid_uppers, leaf_tallies, tallies, tallies_of}
use Rattle.tetri_compile.specs.Flat.{FlatProgram, coefficient, count_of, flat, plain}
use Rattle.tetri_compile.specs.Forms.{Reads}
use Rattle.tetri_compile.specs.Walk.{own_uppers, uppers, uppers_of, width}
use Rattle.tetri_compile.proofs.FlatLemmas.{at_column, point_reads}
use Rattle.tetri_compile.proofs.FormLemmas.{Reads-split}

-- the columns ascend, from a on and before b
abbrev pub IsSpan : ℕ → ℕ → List Tally → Type 0
IsSpan a b cs = Each (λ c. (a ≤ c.column) × (c.column < b)) cs × EachPair (λ c d. c.column < d.column) cs

span_wide : (a b d e : ℕ) (cs : List Tally) → d ≤ a → b ≤ e → IsSpan a b cs → IsSpan d e cs
span_wide a b d e cs low high h =
    (Each-map (λ c. (a ≤ c.column) × (c.column < b)) (λ c. (d ≤ c.column) × (c.column < e)) (λ c p. (le_trans low p.0, omega (arith, p.1, high))) cs h.0, h.1)

span_append : (a b e : ℕ) (cs ds : List Tally) → a ≤ b → b ≤ e → IsSpan a b cs → IsSpan b e ds → IsSpan a e (cs ++ ds)
span_append a b e cs ds low high h k = (
  Each-append (λ c. (a ≤ c.column) × (c.column < e)) cs ds (span_wide a b a e cs (omega arith) high h).0 (span_wide b e a e ds low (omega arith) k).0,
  EachPair-append (λ c d. c.column < d.column) cs ds h.1 k.1
      (Each-across (λ c. (a ≤ c.column) × (c.column < b)) (λ d. (b ≤ d.column) × (d.column < e)) (λ c d. c.column < d.column) (λ c d p q. omega (arith, p.1, q.0)) cs ds h.0 k.0),
)

leaf_span : (job : ℕ) (l : Leaf) (ps : List ℕ) (n e : ℕ) → n + length ps ≤ e → IsSpan n e (leaf_tallies job l ps n)
leaf_span job l [] n e le = (tt, tt)
leaf_span job l (p ∷ ps) n e le =
    let rest = leaf_span job l ps (n + 1) e (omega (arith, le)) in (
      ((omega arith, omega (arith, le)), (span_wide (n + 1) e n e (leaf_tallies job l ps (n + 1)) (omega arith) (omega arith) rest).0),
      (Each-map (λ c. (n + 1 ≤ c.column) × (c.column < e)) (λ c. n < c.column) (λ c q. omega (arith, q.0)) (leaf_tallies job l ps (n + 1)) rest.0, rest.1),
    )

module _ (inside : ℕ → List ℕ) (usable : ℕ → Leaf → ℕ) where
  mutual
    tallies_span : (job : ℕ) (t : Tree) (n : ℕ) → IsSpan n (n + width inside usable t) (tallies inside usable job t n)
    tallies_span job (one l) n = leaf_span job l (inside l.set) n (n + width inside usable (one l)) (omega (arith, length-map (inside l.set) (λ p. min l.k (usable p l))))
    tallies_span job (join op ts) n =
        let w = length-append (own_uppers inside usable op ts) (uppers_of inside usable ts) in
        span_wide (n + length (own_uppers inside usable op ts)) (n + length (own_uppers inside usable op ts) + length (uppers_of inside usable ts)) n (n + width inside usable (join op ts))
        (tallies_of inside usable job ts (n + length (own_uppers inside usable op ts))) (omega arith) (omega (arith, w)) (tallies_of_span job ts (n + length (own_uppers inside usable op ts)))
    tallies_span job (scale t s) n = tallies_span job t n
    tallies_span job (barrier t v) n = tallies_span job t n

    tallies_of_span : (job : ℕ) (ts : Trees) (n : ℕ) → IsSpan n (n + length (uppers_of inside usable ts)) (tallies_of inside usable job ts n)
    tallies_of_span job none n = (tt, tt)
    tallies_of_span job (more t ts) n =
        let w = length-append (uppers inside usable t) (uppers_of inside usable ts) in
        span_append n (n + width inside usable t) (n + length (uppers_of inside usable (more t ts))) (tallies inside usable job t n) (tallies_of inside usable job ts (n + width inside usable t))
        (omega arith) (omega (arith, w)) (tallies_span job t n)
        (span_wide (n + width inside usable t) (n + width inside usable t + length (uppers_of inside usable ts)) (n + width inside usable t) (n + length (uppers_of inside usable (more t ts)))
        (tallies_of inside usable job ts (n + width inside usable t)) (omega arith) (omega (arith, w)) (tallies_of_span job ts (n + width inside usable t)))

  bids_span : (bs : List Bid) (n : ℕ) → IsSpan n (n + length (bid_uppers inside usable bs)) (bid_tallies inside usable bs n)
  bids_span [] n = (tt, tt)
  bids_span (b ∷ bs) n =
      let w = length-append (uppers inside usable b.expr) (bid_uppers inside usable bs) in
      let m = n + 1 + width inside usable b.expr in
      let e = n + length (bid_uppers inside usable (b ∷ bs)) in
      span_append n m e (tallies inside usable b.job b.expr (n + 1)) (bid_tallies inside usable bs m) (omega arith) (omega (arith, w))
      (span_wide (n + 1) (n + 1 + width inside usable b.expr) n m (tallies inside usable b.job b.expr (n + 1)) (omega arith) (omega arith) (tallies_span b.job b.expr (n + 1)))
      (span_wide m (m + length (bid_uppers inside usable bs)) m e (bid_tallies inside usable bs m) (omega arith) (omega (arith, w)) (bids_span bs m))

  -- ---- their upper bounds
  module _ (x : ℕ → ℕ) where
    leaf_boxes : (job : ℕ) (l : Leaf) (ps : List ℕ) (n : ℕ) → l.k ≤ 4096 → Reads x n (map (λ p. min l.k (usable p l)) ps) → Each (λ c. x c.column ≤ 4096) (leaf_tallies job l ps n)
    leaf_boxes job l [] n le h = tt
    leaf_boxes job l (p ∷ ps) n le h = (omega (arith, h.0, le), leaf_boxes job l ps (n + 1) le h.1)

    mutual
      boxes : (job : ℕ) (t : Tree) → IsSound t → (n : ℕ) → Reads x n (uppers inside usable t) → Each (λ c. x c.column ≤ 4096) (tallies inside usable job t n)
      boxes job (one l) sound n h = leaf_boxes job l (inside l.set) n sound.0.few_nodes h
      boxes job (join op ts) sound n h =
          boxes_of job ts sound.1 (n + length (own_uppers inside usable op ts)) (Reads-split x n (length (own_uppers inside usable op ts)) (own_uppers inside usable op ts) (uppers_of inside usable ts) refl h).1
      boxes job (scale t s) sound n h = boxes job t sound.0 n h
      boxes job (barrier t v) sound n h = boxes job t sound.0 n h

      boxes_of : (job : ℕ) (ts : Trees) → AreSound ts → (n : ℕ) → Reads x n (uppers_of inside usable ts) → Each (λ c. x c.column ≤ 4096) (tallies_of inside usable job ts n)
      boxes_of job none sound n h = tt
      boxes_of job (more t ts) sound n h =
          let both = Reads-split x n (width inside usable t) (uppers inside usable t) (uppers_of inside usable ts) refl h in
          Each-append (λ c. x c.column ≤ 4096) (tallies inside usable job t n) (tallies_of inside usable job ts (n + width inside usable t))
          (boxes job t sound.0 n both.0) (boxes_of job ts sound.1 (n + width inside usable t) both.1)

    bid_boxes : (bs : List Bid) (n : ℕ) → Each (λ b. IsSound b.expr) bs → Reads x n (bid_uppers inside usable bs) → Each (λ c. x c.column ≤ 4096) (bid_tallies inside usable bs n)
    bid_boxes [] n sound h = tt
    bid_boxes (b ∷ bs) n sound h =
        let both = Reads-split x (n + 1) (width inside usable b.expr) (uppers inside usable b.expr) (bid_uppers inside usable bs) refl h.1 in
        Each-append (λ c. x c.column ≤ 4096) (tallies inside usable b.job b.expr (n + 1)) (bid_tallies inside usable bs (n + 1 + width inside usable b.expr))
        (boxes b.job b.expr sound.0 (n + 1) both.0) (bid_boxes bs (n + 1 + width inside usable b.expr) sound.1 both.1)

-- ---- as counts of a program
each_count : (P : ℕ → Type 0) (cs : List Tally) → Each (λ c. P c.column) cs → Each (λ (c : Count). P c.column) (map count_of cs)
each_count P [] h = tt
each_count P (c ∷ cs) h = (h.0, each_count P cs h.1)

each_column : (P : ℕ → Type 0) (cs : List Tally) → Each (λ c. P c.column) cs → Each P (map (λ (c : Count). c.column) (map count_of cs))
each_column P [] h = tt
each_column P (c ∷ cs) h = (h.0, each_column P cs h.1)

ascending_columns : (cs : List Tally) → EachPair (λ c d. c.column < d.column) cs → Ascends (map (λ (c : Count). c.column) (map count_of cs))
ascending_columns [] h = tt
ascending_columns (c ∷ cs) h = (each_column (λ n. c.column < n) cs h.0, ascending_columns cs h.1)

zero_below : (us : List ℕ) (k : ℕ) → pos 0 ≤ℤ number_at (map (λ (u : ℕ). pos 0) us) k
zero_below [] k = omega (arith, ints)
zero_below (u ∷ us) zero = omega (arith, ints)
zero_below (u ∷ us) (suc k) = zero_below us k

upper_below : (us : List ℕ) (k m : ℕ) → at_column (map pos us) k ≤ m → number_at (map pos us) k ≤ℤ pos m
upper_below [] k m h = omega (arith, ints)
upper_below (u ∷ us) zero m h = omega (arith, ints, h)
upper_below (u ∷ us) (suc k) m h = upper_below us k m h

module _ (inside : ℕ → List ℕ) (usable : ℕ → Leaf → ℕ) (bs : List Bid) (sound : Each (λ b. IsSound b.expr) bs) (d : Draft)
    (uppers_are : d.uppers ≡ bid_uppers inside usable bs) (tallies_are : d.tallies ≡ bid_tallies inside usable bs 0) (p : Program) (is : plain p ≡ flat d) (cs : List Count) (are : cs ≡ map count_of d.tallies) where
  pub counts_are : AreCountsOf p cs
  counts_are =
      let us = bid_uppers inside usable bs in
      let ts = bid_tallies inside usable bs 0 in
      let span = bids_span inside usable bs 0 in
      let same : cs ≡ map count_of ts = are ∙ ap (map count_of) tallies_are in
      let n : length p.costs.items ≡ length us =
      ap (λ (q : FlatProgram). length q.costs) is ∙ length-map-range_with_len (λ j. pos (coefficient d.objective j)) 0 (length d.uppers) ∙ ap (λ (vs : List ℕ). length vs) uppers_are in
      let lower : p.lower.items ≡ map (λ (u : ℕ). pos 0) us = ap (λ (q : FlatProgram). q.lower) is ∙ ap (λ (vs : List ℕ). map (λ (u : ℕ). pos 0) vs) uppers_are in
      let upper : p.upper.items ≡ map pos us = ap (λ (q : FlatProgram). q.upper) is ∙ ap (λ (vs : List ℕ). map pos vs) uppers_are in
      record {
        ascending = subst (λ (xs : List Count). Ascends (map (λ (c : Count). c.column) xs)) (sym same) (ascending_columns ts span.1);
        columns = subst (λ (xs : List Count). Each (λ (c : Count). c.column < length p.costs.items) xs) (sym same)
            (each_count (λ k. k < length p.costs.items) ts (Each-map (λ c. (0 ≤ c.column) × (c.column < 0 + length us)) (λ c. c.column < length p.costs.items) (λ c h. omega (arith, h.1, n)) ts span.0));
        lower = subst (λ (xs : List Count). Each (λ (c : Count). pos 0 ≤ℤ number_at p.lower.items c.column) xs) (sym same)
            (each_count (λ k. pos 0 ≤ℤ number_at p.lower.items k) ts
            (Each-map (λ c. (0 ≤ c.column) × (c.column < 0 + length us)) (λ c. pos 0 ≤ℤ number_at p.lower.items c.column)
            (λ c h. subst (λ (zs : List ℤ). pos 0 ≤ℤ number_at zs c.column) (sym lower) (zero_below us c.column)) ts span.0));
        upper = subst (λ (xs : List Count). Each (λ (c : Count). number_at p.upper.items c.column ≤ℤ pos 4096) xs) (sym same)
            (each_count (λ k. number_at p.upper.items k ≤ℤ pos 4096) ts
            (Each-map (λ c. at_column (map pos us) c.column ≤ 4096) (λ c. number_at p.upper.items c.column ≤ℤ pos 4096)
            (λ c h. subst (λ (zs : List ℤ). number_at zs c.column ≤ℤ pos 4096) (sym upper) (upper_below us c.column 4096 h)) ts
            (bid_boxes inside usable (at_column (map pos us)) bs 0 sound (point_reads us))));
      }
