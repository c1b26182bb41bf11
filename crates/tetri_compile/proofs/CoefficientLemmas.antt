-- A column stands in a form, and on each side of a row, at most as often as the peak of an expression may be.
use Rattle.std.proofs.Common.{◌≡◌, ◌⊎◌, ℕ, suc, ◌+◌, ◌*◌, ◌/◌, ◌<◌, ◌≤◌, ◌==◌, Bool, true, false, cond, List, [], ◌∷◌, ◌++◌, length, refl, ap, subst, arith, inl, inr, le_trans}
use Rattle.std.proofs.Math.Nat.{mul-le-mul_left, div-mul-le_self}
use Rattle.std.specs.List.{filter}
use Rattle.std.proofs.lemmas.Bool.{cond_both, cases_eq}
use Rattle.std.proofs.lemmas.Bool.Decides.{nat_tests}
use Rattle.std.proofs.lemmas.List.{length-append}
use Rattle.tetri_strl.specs.declared.expr.Leaf.{Leaf}
use Rattle.tetri_strl.specs.Tree.{greatest, least, added, Tree, one, join, scale, barrier, Trees, none, more}
use Rattle.tetri_strl.specs.WellMade.{PEAK, peak, peaks, IsSound, AreSound}
use Rattle.tetri_strl.specs.Worth.{greatest_of, added_of}
use Rattle.tetri_strl.proofs.ExprLaws.{worth_le_peak}
use Rattle.tetri_base.specs.Lists.{Each}
use Rattle.tetri_base.proofs.ListLaws.{Each-append, Each-map, sum_of-append, test_from_ne}
use Rattle.tetri_space.specs.Space.{Bid}
use Rattle.tetri_space.proofs.InstanceLaws.{filter_shorter}
use Rattle.tetri_compile.specs.declared.outline.Tally.{Tally}
use Rattle.tetri_compile.specs.Draft.{bid_rows, bid_uppers, is_held, objective, part_supply, supply, supply_row, tally_form}
use Rattle.tetri_compile.specs.Flat.{coefficient}
use Rattle.tetri_compile.specs.Forms.{share, Form, Limit, limit, times, run}
use Rattle.tetri_compile.specs.Walk.{ones, best, uppers, uppers_of, width, form, forms, rows, rows_of, rows_under}
use Rattle.tetri_compile.proofs.FormColumns.{IsAmong, IsOwn, form_own, forms_among, run_between}
use Rattle.tetri_compile.proofs.FormSizes.{AllBelow, below_added, below_greatest}
use Rattle.tetri_compile.proofs.SmallLemmas.{peak_small}

-- ---- how often a column stands in a form
coefficient-append : (f g : Form) (c : ℕ) → coefficient (f ++ g) c ≡ coefficient f c + coefficient g c
coefficient-append f g c = sum_of-append (λ s. cond (s.column == c) s.by 0) f g

-- as often as the form has shares, each at most so many times
pub few_times : (m : ℕ) (f : Form) (c : ℕ) → Each (λ s. s.by ≤ m) f → coefficient f c ≤ length f * m
few_times m [] c h = omega arith
few_times m (s ∷ f) c h =
    let rest = few_times m f c h.1 in
    cond_both (s.column == c) s.by 0 (λ n. n + coefficient f c ≤ suc (length f) * m) (λ e. omega (arith, h.0, rest)) (λ e. omega (arith, rest))

one_time : (i v c : ℕ) → coefficient (share i v ∷ []) c ≤ v
one_time i v c = cond_both (i == c) v 0 (λ n. n + 0 ≤ v) (λ e. omega arith) (λ e. omega arith)

times_times : (s : ℕ) (f : Form) (c : ℕ) → coefficient (times s f) c ≡ s * coefficient f c
times_times s [] c = omega arith
times_times s (p ∷ f) c = by_test (p.column == c) (times_times s f c)
  where
    by_test : (b : Bool) → coefficient (times s f) c ≡ s * coefficient f c → cond b (s * p.by) 0 + coefficient (times s f) c ≡ s * (cond b p.by 0 + coefficient f c)
    by_test true h = omega (arith, h)
    by_test false h = omega (arith, h)

-- a column that the form does not have stands in it 0 times
stands_or_none : (P : ℕ → Type 0) (f : Form) (c : ℕ) → Each (λ s. P s.column) f → (coefficient f c ≡ 0) ⊎ P c
stands_or_none P [] c h = inl refl
stands_or_none P (s ∷ f) c h =
    elim (cases_eq s.column c) [
      | inl e ↦ inr (subst P e h.0)
      | inr ne ↦
          let gone : cond (s.column == c) s.by 0 ≡ 0 = ap (λ b. cond b s.by 0) (test_from_ne s.column c ne) in
          elim (stands_or_none P f c h.1) [ inl z ↦ inl (omega (arith, gone, z)) | inr p ↦ inr p ]
    ]

-- ---- columns that two forms cannot share
not_both : (j k n w v c : ℕ) → j + suc k ≤ n → IsOwn j n w c → IsAmong (j + 1) k (n + w) v c → ⊥
not_both j k n w v c low (inl e) (inl r) = omega (arith, e, r.0)
not_both j k n w v c low (inl e) (inr r) = omega (arith, e, r.0, low)
not_both j k n w v c low (inr p) (inl r) = omega (arith, p.0, r.1, low)
not_both j k n w v c low (inr p) (inr r) = omega (arith, p.1, r.0)

-- each of consecutive columns stands there once
run_times : {X : Type 0} (b n : ℕ) (xs : List X) (c : ℕ) → coefficient (run b n xs) c ≤ b
run_times b n [] c = omega arith
run_times b n (x ∷ xs) c =
    elim (cases_eq n c) [
      | inl e ↦
          elim (stands_or_none (λ j. (n + 1 ≤ j) × (j < n + 1 + length xs)) (run b (n + 1) xs) c (run_between b (n + 1) xs)) [
            | inl z ↦ cond_both (n == c) b 0 (λ m. m + coefficient (run b (n + 1) xs) c ≤ b) (λ t. omega (arith, z)) (λ t. omega (arith, z))
            | inr r ↦ absurd (omega (arith, e, r.0))
          ]
      | inr ne ↦
          let gone : cond (n == c) b 0 ≡ 0 = ap (λ t. cond t b 0) (test_from_ne n c ne) in
          omega (arith, gone, run_times b (n + 1) xs c)
    ]

-- on each side of a row a column stands at most as often as the greatest peak
abbrev pub IsModest : Limit → Type 0
IsModest r = (c : ℕ) → (coefficient r.most c ≤ PEAK) × (coefficient r.under c ≤ PEAK)

module _ (inside : ℕ → List ℕ) (usable : ℕ → Leaf → ℕ) where
  mutual
    form_times : (t : Tree) → IsSound t → (i n : ℕ) → (c : ℕ) → coefficient (form inside usable t i n) c ≤ peak t
    form_times (one l) sound i n c =
        cond_both l.linear (run (l.v / l.k) n (inside l.set)) (share i l.v ∷ []) (λ f. coefficient f c ≤ l.v)
        (λ e. omega (arith, run_times (l.v / l.k) n (inside l.set) c, mul-le-mul_left (l.v / l.k) sound.0.some_nodes, div-mul-le_self l.v l.k)) (λ e. one_time i l.v c)
    form_times (join greatest ts) sound i n c = forms_times ts sound.1 (greatest_of (peaks ts)) (below_greatest (peaks ts)) n (n + length (ones ts)) (omega arith) c
    form_times (join least ts) sound i n c =
        least_times (best (join least ts)) (worth_le_peak (λ l. l.v) (λ l g. omega arith) (join least ts) sound)
      where
        least_times : (b : ℕ) → b ≤ greatest_of (peaks ts) → coefficient (cond (b == 0) [] (share n 1 ∷ [])) c ≤ greatest_of (peaks ts)
        least_times b le = by_test (b == 0) (λ e. some b e)
          where
            some : (k : ℕ) → (k == 0) ≡ false → 1 ≤ k
            some k e = grind (arith, nat_tests)

            by_test : (t : Bool) → (t ≡ false → 1 ≤ b) → coefficient (cond t [] (share n 1 ∷ [])) c ≤ greatest_of (peaks ts)
            by_test true f = omega arith
            by_test false f = omega (arith, one_time n 1 c, f refl, le)
    form_times (join added ts) sound i n c = forms_times ts sound.1 (added_of (peaks ts)) (below_added (peaks ts)) n (n + length (ones ts)) (omega arith) c
    form_times (scale t s) sound i n c = omega (arith, times_times s (form inside usable t i n) c, mul-le-mul_left s (form_times t sound.0 i n c))
    form_times (barrier t v) sound i n c = omega (arith, one_time i v c)

    forms_times : (ts : Trees) → AreSound ts → (m : ℕ) → AllBelow m (peaks ts) → (j n : ℕ) → j + length (ones ts) ≤ n → (c : ℕ) → coefficient (forms inside usable ts j n) c ≤ m
    forms_times none sound m h j n low c = omega arith
    forms_times (more t ts) sound m h j n low c =
        let k = length (ones ts) in
        let w = width inside usable t in
        let v = length (uppers_of inside usable ts) in
        let both = coefficient-append (form inside usable t j n) (forms inside usable ts (j + 1) (n + w)) c in
        let here = form_times t sound.0 j n c in
        let rest = forms_times ts sound.1 m h.1 (j + 1) (n + w) (omega (arith, low)) c in
        elim (stands_or_none (IsOwn j n w) (form inside usable t j n) c (form_own inside usable t j n)) [
          | inl z ↦ omega (arith, both, z, rest)
          | inr p ↦ elim (stands_or_none (IsAmong (j + 1) k (n + w) v) (forms inside usable ts (j + 1) (n + w)) c (forms_among inside usable ts (j + 1) (n + w))) [
            | inl z ↦ omega (arith, both, z, here, h.0)
            | inr q ↦ absurd (not_both j k n w v c low p q)
          ]
        ]

  -- ---- what the columns earn
  objective_from : (bs : List Bid) (n : ℕ) → Each (λ s. n ≤ s.column) (objective inside usable bs n)
  objective_from [] n = tt
  objective_from (b ∷ bs) n =
      let w = width inside usable b.expr in
      Each-append (λ s. n ≤ s.column) (form inside usable b.expr n (n + 1)) (objective inside usable bs (n + 1 + w))
      (Each-map (λ s. IsOwn n (n + 1) w s.column) (λ s. n ≤ s.column) (λ s r. from_own s.column r) (form inside usable b.expr n (n + 1)) (form_own inside usable b.expr n (n + 1)))
      (Each-map (λ s. n + 1 + w ≤ s.column) (λ s. n ≤ s.column) (λ s le. omega (arith, le)) (objective inside usable bs (n + 1 + w)) (objective_from bs (n + 1 + w)))
    where
      from_own : (c : ℕ) → IsOwn n (n + 1) (width inside usable b.expr) c → n ≤ c
      from_own c (inl e) = omega (arith, e)
      from_own c (inr r) = omega (arith, r.0)

  pub objective_times : (bs : List Bid) (n : ℕ) → Each (λ b. IsSound b.expr) bs → (c : ℕ) → coefficient (objective inside usable bs n) c ≤ PEAK
  objective_times [] n sound c = omega arith
  objective_times (b ∷ bs) n sound c =
      let w = width inside usable b.expr in
      let both = coefficient-append (form inside usable b.expr n (n + 1)) (objective inside usable bs (n + 1 + w)) c in
      let here = le_trans (form_times b.expr sound.0 n (n + 1) c) (peak_small b.expr sound.0) in
      let rest = objective_times bs (n + 1 + w) sound.1 c in
      elim (stands_or_none (IsOwn n (n + 1) w) (form inside usable b.expr n (n + 1)) c (form_own inside usable b.expr n (n + 1))) [
        | inl z ↦ omega (arith, both, z, rest)
        | inr p ↦ elim (stands_or_none (λ j. n + 1 + w ≤ j) (objective inside usable bs (n + 1 + w)) c (objective_from bs (n + 1 + w))) [
          | inl z ↦ omega (arith, both, z, here)
          | inr q ↦ absurd (before c p q)
        ]
      ]
    where
      before : (c : ℕ) → IsOwn n (n + 1) (width inside usable b.expr) c → n + 1 + width inside usable b.expr ≤ c → ⊥
      before c (inl e) le = omega (arith, e, le)
      before c (inr r) le = omega (arith, r.1, le)

  -- ---- rows
  ones_modest : {X : Type 0} (n : ℕ) (xs : List X) (c : ℕ) → coefficient (run 1 n xs) c ≤ PEAK
  ones_modest n xs c = omega (arith, run_times 1 n xs c)

  module _ (top : ℕ) (few : top ≤ 2000) where
    mutual
      rows_modest : (t : Tree) → IsSound t → (i n : ℕ) → n + width inside usable t ≤ top → Each IsModest (rows inside usable t i n)
      rows_modest (one l) sound i n le = (
        (λ c. (ones_modest n (inside l.set) c, omega (arith, one_time i l.k c, sound.0.few_nodes))),
        cond_both l.linear [] (limit (share i l.k ∷ []) (run 1 n (inside l.set)) ∷ []) (Each IsModest) (λ e. tt)
            (λ e. ((λ c. (omega (arith, one_time i l.k c, sound.0.few_nodes), ones_modest n (inside l.set) c)), tt)),
      )
      rows_modest (join greatest ts) sound i n le =
          let w = length-append (ones ts) (uppers_of inside usable ts) in (
            (λ c. (ones_modest n (ones ts) c, omega (arith, one_time i 1 c))),
            rows_of_modest ts sound.1 n (n + length (ones ts)) (omega (arith, le, w)),
          )
      rows_modest (join least ts) sound i n le = rows_under_modest ts sound.1 i n (n + 1) (omega (arith, le))
      rows_modest (join added ts) sound i n le =
          let w = length-append (ones ts) (uppers_of inside usable ts) in (
            (λ c. (ones_modest n (ones ts) c, omega (arith, one_time i (length (ones ts)) c, few, le, w))),
            rows_of_modest ts sound.1 n (n + length (ones ts)) (omega (arith, le, w)),
          )
      rows_modest (scale t s) sound i n le = rows_modest t sound.0 i n le
      rows_modest (barrier t v) sound i n le =
          Each-append IsModest (rows inside usable t i n) (limit (share i v ∷ []) (form inside usable t i n) ∷ []) (rows_modest t sound.0 i n le)
          ((λ c. (omega (arith, one_time i v c, sound.1), le_trans (form_times t sound.0 i n c) (peak_small t sound.0))), tt)

      rows_of_modest : (ts : Trees) → AreSound ts → (j n : ℕ) → n + length (uppers_of inside usable ts) ≤ top → Each IsModest (rows_of inside usable ts j n)
      rows_of_modest none sound j n le = tt
      rows_of_modest (more t ts) sound j n le =
          let w = length-append (uppers inside usable t) (uppers_of inside usable ts) in
          Each-append IsModest (rows inside usable t j n) (rows_of inside usable ts (j + 1) (n + width inside usable t))
          (rows_modest t sound.0 j n (omega (arith, le, w))) (rows_of_modest ts sound.1 (j + 1) (n + width inside usable t) (omega (arith, le, w)))

      rows_under_modest : (ts : Trees) → AreSound ts → (i d n : ℕ) → n + length (uppers_of inside usable ts) ≤ top → Each IsModest (rows_under inside usable ts i d n)
      rows_under_modest none sound i d n le = tt
      rows_under_modest (more t ts) sound i d n le =
          let w = length-append (uppers inside usable t) (uppers_of inside usable ts) in
          Each-append IsModest (rows inside usable t i n) (limit (share d 1 ∷ []) (form inside usable t i n) ∷ rows_under inside usable ts i d (n + width inside usable t))
          (rows_modest t sound.0 i n (omega (arith, le, w))) (
            (λ c. (omega (arith, one_time d 1 c), le_trans (form_times t sound.0 i n c) (peak_small t sound.0))),
            rows_under_modest ts sound.1 i d (n + width inside usable t) (omega (arith, le, w)),
          )

    pub bid_rows_modest : (bs : List Bid) (n : ℕ) → Each (λ b. IsSound b.expr) bs → n + length (bid_uppers inside usable bs) ≤ top → Each IsModest (bid_rows inside usable bs n)
    bid_rows_modest [] n sound le = tt
    bid_rows_modest (b ∷ bs) n sound le =
        let w = length-append (uppers inside usable b.expr) (bid_uppers inside usable bs) in
        Each-append IsModest (rows inside usable b.expr n (n + 1)) (bid_rows inside usable bs (n + 1 + width inside usable b.expr))
        (rows_modest b.expr sound.0 n (n + 1) (omega (arith, le, w))) (bid_rows_modest bs (n + 1 + width inside usable b.expr) sound.1 (omega (arith, le, w)))

    module _ (room : ℕ → ℕ → ℕ) (cs : List Tally) (as_few : length cs ≤ top) where
      tally_times : (ds : List Tally) (c : ℕ) → length ds ≤ top → coefficient (tally_form ds) c ≤ PEAK
      tally_times ds c le = omega (arith, few_times 1 (tally_form ds) c (once ds), as_many ds, le, few)
        where
          once : (es : List Tally) → Each (λ s. s.by ≤ 1) (tally_form es)
          once [] = tt
          once (e ∷ es) = (omega arith, once es)

          as_many : (es : List Tally) → length (tally_form es) ≡ length es
          as_many [] = refl
          as_many (e ∷ es) = ap suc (as_many es)

      row_modest : (ds : List Tally) (m : ℕ) → length ds ≤ top → Each IsModest (supply_row ds m)
      row_modest [] m le = tt
      row_modest (d ∷ ds) m le = ((λ c. (tally_times (d ∷ ds) c le, omega arith)), tt)

      part_supply_modest : (p : ℕ) (ts : List ℕ) → Each IsModest (part_supply room cs p ts)
      part_supply_modest p [] = tt
      part_supply_modest p (t ∷ ts) =
          Each-append IsModest (supply_row (filter (is_held p t) cs) (room p t)) (part_supply room cs p ts)
          (row_modest (filter (is_held p t) cs) (room p t) (le_trans (filter_shorter (is_held p t) cs) as_few)) (part_supply_modest p ts)

      pub supply_modest : (slots ps : List ℕ) → Each IsModest (supply room cs slots ps)
      supply_modest slots [] = tt
      supply_modest slots (p ∷ ps) = Each-append IsModest (part_supply room cs p slots) (supply room cs slots ps) (part_supply_modest p slots) (supply_modest slots ps)
