-- The forms and limits of a program of any size have small numbers.
use Rattle.std.proofs.Common.{◌≡◌, ℕ, zero, suc, ◌+◌, ◌/◌, ◌^◌, ◌<◌, ◌≤◌, ◌==◌, min, Bool, List, [], ◌∷◌, ◌++◌, length, get_or, map, refl, ap, arith, le_trans}
use Rattle.std.specs.List.{filter, range_with_len}
use Rattle.std.proofs.lemmas.Bool.{cond_both}
use Rattle.std.proofs.lemmas.List.{length-append, length-map}
use Rattle.std.proofs.lemmas.List.FromFn.{length-range_with_len}
use Rattle.tetri_strl.specs.declared.expr.Leaf.{Leaf}
use Rattle.tetri_strl.specs.Tree.{greatest, least, added, Tree, one, join, scale, barrier, Trees, none, more}
use Rattle.tetri_strl.specs.WellMade.{peak, PEAK, IsSound, AreSound}
use Rattle.tetri_base.specs.Lists.{Each, count}
use Rattle.tetri_space.specs.Free.{is_free}
use Rattle.tetri_space.specs.Partitions.{alike, asked, available, closed_sets, leads, live_bids, part_at, partitions}
use Rattle.tetri_space.specs.Sound.{IsSound as IsSoundSpace}
use Rattle.tetri_space.specs.Space.{Bid, Space}
use Rattle.tetri_base.proofs.ListLaws.{Each-append, Each-filter, Each-map, bit-le}
use Rattle.tetri_space.proofs.InstanceLaws.{filter_shorter}
use Rattle.tetri_compile.specs.declared.outline.Tally.{Tally}
use Rattle.tetri_compile.specs.Draft.{bid_rows, bid_tallies, bid_uppers, is_held, leaf_tallies, objective, part_supply, supply, supply_row, tallies, tallies_of, tally_form}
use Rattle.tetri_compile.specs.Forms.{Form, limit, run, share, times}
use Rattle.tetri_compile.specs.Small.{IsSmallForm, IsSmallLimit}
use Rattle.tetri_compile.specs.Walk.{best, form, forms, ones, own_uppers, rows, rows_of, rows_under, uppers, uppers_of, width}
use Rattle.tetri_compile.proofs.FormColumns.{form_in, run_in}
use Rattle.tetri_compile.proofs.FormSizes.{run_small}
use Rattle.tetri_compile.proofs.SmallLemmas.{form_is_small}

length_run : {X : Type 0} (b n : ℕ) (xs : List X) → length (run b n xs) ≡ length xs
length_run b n [] = refl
length_run b n (x ∷ xs) = ap suc (length_run b (n + 1) xs)

length_times : (s : ℕ) (f : Form) → length (times s f) ≡ length f
length_times s [] = refl
length_times s (p ∷ f) = ap suc (length_times s f)

share_small : (top i b : ℕ) → i < top → b ≤ PEAK → IsSmallForm top (share i b ∷ [])
share_small top i b lt le = record { columns = (lt, tt); numbers = (le, tt); few = omega (arith, lt) }

run_form : {X : Type 0} (top b n : ℕ) (xs : List X) → b ≤ PEAK → n + length xs ≤ top → IsSmallForm top (run b n xs)
run_form top b n xs small le = record {
  columns = run_in b n top xs le;
  numbers = run_small b PEAK n xs small;
  few = omega (arith, length_run b n xs, le);
}

limit_small : (top : ℕ) (f g : Form) → IsSmallForm top f → IsSmallForm top g → IsSmallLimit top (limit f g)
limit_small top f g h k = record { most = h; under = k; plus = omega arith }

module _ (inside : ℕ → List ℕ) (usable : ℕ → Leaf → ℕ) where
  mutual
    form_length : (t : Tree) (i n : ℕ) → length (form inside usable t i n) ≤ width inside usable t + 1
    form_length (one l) i n =
        cond_both l.linear (run (l.v / l.k) n (inside l.set)) (share i l.v ∷ []) (λ f. length f ≤ width inside usable (one l) + 1)
        (λ e. omega (arith, length_run (l.v / l.k) n (inside l.set), length-map (inside l.set) (λ p. min l.k (usable p l)))) (λ e. omega arith)
    form_length (join greatest ts) i n = omega (arith, length-append (ones ts) (uppers_of inside usable ts), forms_length ts n (n + length (ones ts)))
    form_length (join least ts) i n = cond_both (best (join least ts) == 0) [] (share n 1 ∷ []) (λ f. length f ≤ width inside usable (join least ts) + 1) (λ e. omega arith) (λ e. omega arith)
    form_length (join added ts) i n = omega (arith, length-append (ones ts) (uppers_of inside usable ts), forms_length ts n (n + length (ones ts)))
    form_length (scale t s) i n = omega (arith, length_times s (form inside usable t i n), form_length t i n)
    form_length (barrier t v) i n = omega arith

    forms_length : (ts : Trees) (j n : ℕ) → length (forms inside usable ts j n) ≤ length (ones ts) + length (uppers_of inside usable ts)
    forms_length none j n = omega arith
    forms_length (more t ts) j n =
        omega (
          arith,
          length-append (form inside usable t j n) (forms inside usable ts (j + 1) (n + width inside usable t)),
          length-append (uppers inside usable t) (uppers_of inside usable ts),
          form_length t j n,
          forms_length ts (j + 1) (n + width inside usable t),
        )

  module _ (top : ℕ) (few : top < 2 ^ 31) where
    mutual
      rows_small : (t : Tree) → IsSound t → (i n : ℕ) → i < n → n + width inside usable t ≤ top → Each (IsSmallLimit top) (rows inside usable t i n)
      rows_small (one l) sound i n lt le =
          let counts : IsSmallForm top (run 1 n (inside l.set)) = run_form top 1 n (inside l.set) (omega arith) (omega (arith, le, length-map (inside l.set) (λ p. min l.k (usable p l)))) in
          let wanted : IsSmallForm top (share i l.k ∷ []) = share_small top i l.k (omega (arith, lt, le)) (omega (arith, sound.0.few_nodes)) in (
            limit_small top (run 1 n (inside l.set)) (share i l.k ∷ []) counts wanted,
            cond_both l.linear [] (limit (share i l.k ∷ []) (run 1 n (inside l.set)) ∷ []) (Each (IsSmallLimit top)) (λ e. tt)
                (λ e. (limit_small top (share i l.k ∷ []) (run 1 n (inside l.set)) wanted counts, tt)),
          )
      rows_small (join greatest ts) sound i n lt le =
          let w = length-append (ones ts) (uppers_of inside usable ts) in (
            limit_small top (run 1 n (ones ts)) (share i 1 ∷ []) (run_form top 1 n (ones ts) (omega arith) (omega (arith, le, w))) (share_small top i 1 (omega (arith, lt, le)) (omega arith)),
            rows_of_small ts sound.1 n (n + length (ones ts)) (omega arith) (omega (arith, le, w)),
          )
      rows_small (join least ts) sound i n lt le = rows_under_small ts sound.1 i n (n + 1) (omega (arith, lt)) (omega arith) (omega (arith, le))
      rows_small (join added ts) sound i n lt le =
          let w = length-append (ones ts) (uppers_of inside usable ts) in (
            limit_small top (run 1 n (ones ts)) (share i (length (ones ts)) ∷ []) (run_form top 1 n (ones ts) (omega arith) (omega (arith, le, w)))
                (share_small top i (length (ones ts)) (omega (arith, lt, le)) (omega (arith, few, le, w))),
            rows_of_small ts sound.1 n (n + length (ones ts)) (omega arith) (omega (arith, le, w)),
          )
      rows_small (scale t s) sound i n lt le = rows_small t sound.0 i n lt le
      rows_small (barrier t v) sound i n lt le =
          Each-append (IsSmallLimit top) (rows inside usable t i n) (limit (share i v ∷ []) (form inside usable t i n) ∷ []) (rows_small t sound.0 i n lt le)
          (limit_small top (share i v ∷ []) (form inside usable t i n) (share_small top i v (omega (arith, lt, le)) sound.1) (form_is_small inside usable t sound.0 i n top lt le), tt)

      rows_of_small : (ts : Trees) → AreSound ts → (j n : ℕ) → j + length (ones ts) ≤ n → n + length (uppers_of inside usable ts) ≤ top → Each (IsSmallLimit top) (rows_of inside usable ts j n)
      rows_of_small none sound j n low le = tt
      rows_of_small (more t ts) sound j n low le =
          let w = length-append (uppers inside usable t) (uppers_of inside usable ts) in
          Each-append (IsSmallLimit top) (rows inside usable t j n) (rows_of inside usable ts (j + 1) (n + width inside usable t))
          (rows_small t sound.0 j n (omega (arith, low)) (omega (arith, le, w)))
          (rows_of_small ts sound.1 (j + 1) (n + width inside usable t) (omega (arith, low)) (omega (arith, le, w)))

      rows_under_small : (ts : Trees) → AreSound ts → (i c n : ℕ) → i < n → c < n → n + length (uppers_of inside usable ts) ≤ top → Each (IsSmallLimit top) (rows_under inside usable ts i c n)
      rows_under_small none sound i c n lt lc le = tt
      rows_under_small (more t ts) sound i c n lt lc le =
          let w = length-append (uppers inside usable t) (uppers_of inside usable ts) in
          Each-append (IsSmallLimit top) (rows inside usable t i n) (limit (share c 1 ∷ []) (form inside usable t i n) ∷ rows_under inside usable ts i c (n + width inside usable t))
          (rows_small t sound.0 i n lt (omega (arith, le, w))) (
            limit_small top (share c 1 ∷ []) (form inside usable t i n) (share_small top c 1 (omega (arith, lc, le)) (omega arith)) (form_is_small inside usable t sound.0 i n top lt (omega (arith, le, w))),
            rows_under_small ts sound.1 i c (n + width inside usable t) (omega (arith, lt)) (omega (arith, lc)) (omega (arith, le, w)),
          )

    pub bid_rows_small : (bs : List Bid) (n : ℕ) → Each (λ b. IsSound b.expr) bs → n + length (bid_uppers inside usable bs) ≤ top → Each (IsSmallLimit top) (bid_rows inside usable bs n)
    bid_rows_small [] n sound le = tt
    bid_rows_small (b ∷ bs) n sound le =
        let w = length-append (uppers inside usable b.expr) (bid_uppers inside usable bs) in
        Each-append (IsSmallLimit top) (rows inside usable b.expr n (n + 1)) (bid_rows inside usable bs (n + 1 + width inside usable b.expr))
        (rows_small b.expr sound.0 n (n + 1) (omega arith) (omega (arith, le, w)))
        (bid_rows_small bs (n + 1 + width inside usable b.expr) sound.1 (omega (arith, le, w)))

    pub objective_few : (bs : List Bid) (n : ℕ) → length (objective inside usable bs n) ≤ length (bid_uppers inside usable bs)
    objective_few [] n = omega arith
    objective_few (b ∷ bs) n =
        omega (
          arith,
          length-append (form inside usable b.expr n (n + 1)) (objective inside usable bs (n + 1 + width inside usable b.expr)),
          length-append (uppers inside usable b.expr) (bid_uppers inside usable bs),
          form_length b.expr n (n + 1),
          objective_few bs (n + 1 + width inside usable b.expr),
        )

    objective_columns : (bs : List Bid) (n : ℕ) → Each (λ b. IsSound b.expr) bs → n + length (bid_uppers inside usable bs) ≤ top →
        Each (λ s. s.column < top) (objective inside usable bs n) × Each (λ s. s.by ≤ PEAK) (objective inside usable bs n)
    objective_columns [] n sound le = (tt, tt)
    objective_columns (b ∷ bs) n sound le =
        let w = length-append (uppers inside usable b.expr) (bid_uppers inside usable bs) in
        let here = form_is_small inside usable b.expr sound.0 n (n + 1) top (omega arith) (omega (arith, le, w)) in
        let rest = objective_columns bs (n + 1 + width inside usable b.expr) sound.1 (omega (arith, le, w)) in (
          Each-append (λ s. s.column < top) (form inside usable b.expr n (n + 1)) (objective inside usable bs (n + 1 + width inside usable b.expr)) here.columns rest.0,
          Each-append (λ s. s.by ≤ PEAK) (form inside usable b.expr n (n + 1)) (objective inside usable bs (n + 1 + width inside usable b.expr)) here.numbers rest.1,
        )

    pub objective_small : (bs : List Bid) → Each (λ b. IsSound b.expr) bs → length (bid_uppers inside usable bs) ≤ top → IsSmallForm top (objective inside usable bs 0)
    objective_small bs sound le =
        let both = objective_columns bs 0 sound (omega (arith, le)) in
        record { columns = both.0; numbers = both.1; few = omega (arith, objective_few bs 0, le) }

    -- ---- the columns that count nodes
    leaf_tallies_in : (job : ℕ) (l : Leaf) (ps : List ℕ) (n : ℕ) → n + length ps ≤ top → Each (λ c. c.column < top) (leaf_tallies job l ps n)
    leaf_tallies_in job l [] n le = tt
    leaf_tallies_in job l (p ∷ ps) n le = (omega (arith, le), leaf_tallies_in job l ps (n + 1) (omega (arith, le)))

    leaf_tallies_few : (job : ℕ) (l : Leaf) (ps : List ℕ) (n : ℕ) → length (leaf_tallies job l ps n) ≡ length ps
    leaf_tallies_few job l [] n = refl
    leaf_tallies_few job l (p ∷ ps) n = ap suc (leaf_tallies_few job l ps (n + 1))

    mutual
      tallies_in : (job : ℕ) (t : Tree) (n : ℕ) → n + width inside usable t ≤ top → Each (λ c. c.column < top) (tallies inside usable job t n)
      tallies_in job (one l) n le = leaf_tallies_in job l (inside l.set) n (omega (arith, le, length-map (inside l.set) (λ p. min l.k (usable p l))))
      tallies_in job (join op ts) n le =
          tallies_of_in job ts (n + length (own_uppers inside usable op ts)) (omega (arith, le, length-append (own_uppers inside usable op ts) (uppers_of inside usable ts)))
      tallies_in job (scale t s) n le = tallies_in job t n le
      tallies_in job (barrier t v) n le = tallies_in job t n le

      tallies_of_in : (job : ℕ) (ts : Trees) (n : ℕ) → n + length (uppers_of inside usable ts) ≤ top → Each (λ c. c.column < top) (tallies_of inside usable job ts n)
      tallies_of_in job none n le = tt
      tallies_of_in job (more t ts) n le =
          let w = length-append (uppers inside usable t) (uppers_of inside usable ts) in
          Each-append (λ c. c.column < top) (tallies inside usable job t n) (tallies_of inside usable job ts (n + width inside usable t))
          (tallies_in job t n (omega (arith, le, w))) (tallies_of_in job ts (n + width inside usable t) (omega (arith, le, w)))

    mutual
      tallies_few : (job : ℕ) (t : Tree) (n : ℕ) → length (tallies inside usable job t n) ≤ width inside usable t
      tallies_few job (one l) n = omega (arith, leaf_tallies_few job l (inside l.set) n, length-map (inside l.set) (λ p. min l.k (usable p l)))
      tallies_few job (join op ts) n =
          omega (arith, tallies_of_few job ts (n + length (own_uppers inside usable op ts)), length-append (own_uppers inside usable op ts) (uppers_of inside usable ts))
      tallies_few job (scale t s) n = tallies_few job t n
      tallies_few job (barrier t v) n = tallies_few job t n

      tallies_of_few : (job : ℕ) (ts : Trees) (n : ℕ) → length (tallies_of inside usable job ts n) ≤ length (uppers_of inside usable ts)
      tallies_of_few job none n = omega arith
      tallies_of_few job (more t ts) n =
          omega (
            arith,
            length-append (tallies inside usable job t n) (tallies_of inside usable job ts (n + width inside usable t)),
            length-append (uppers inside usable t) (uppers_of inside usable ts),
            tallies_few job t n,
            tallies_of_few job ts (n + width inside usable t),
          )

    pub bid_tallies_in : (bs : List Bid) (n : ℕ) → n + length (bid_uppers inside usable bs) ≤ top → Each (λ c. c.column < top) (bid_tallies inside usable bs n)
    bid_tallies_in [] n le = tt
    bid_tallies_in (b ∷ bs) n le =
        let w = length-append (uppers inside usable b.expr) (bid_uppers inside usable bs) in
        Each-append (λ c. c.column < top) (tallies inside usable b.job b.expr (n + 1)) (bid_tallies inside usable bs (n + 1 + width inside usable b.expr))
        (tallies_in b.job b.expr (n + 1) (omega (arith, le, w))) (bid_tallies_in bs (n + 1 + width inside usable b.expr) (omega (arith, le, w)))

    pub bid_tallies_few : (bs : List Bid) (n : ℕ) → length (bid_tallies inside usable bs n) ≤ length (bid_uppers inside usable bs)
    bid_tallies_few [] n = omega arith
    bid_tallies_few (b ∷ bs) n =
        omega (
          arith,
          length-append (tallies inside usable b.job b.expr (n + 1)) (bid_tallies inside usable bs (n + 1 + width inside usable b.expr)),
          length-append (uppers inside usable b.expr) (bid_uppers inside usable bs),
          tallies_few b.job b.expr (n + 1),
          bid_tallies_few bs (n + 1 + width inside usable b.expr),
        )

    -- ---- the supply
    tally_form_small : (cs : List Tally) → Each (λ c. c.column < top) cs → length cs ≤ top → IsSmallForm top (tally_form cs)
    tally_form_small cs h le = record { columns = in_program cs h; numbers = once cs; few = omega (arith, as_many cs, le) }
      where
        in_program : (ds : List Tally) → Each (λ c. c.column < top) ds → Each (λ s. s.column < top) (tally_form ds)
        in_program [] k = tt
        in_program (d ∷ ds) k = (k.0, in_program ds k.1)

        once : (ds : List Tally) → Each (λ s. s.by ≤ PEAK) (tally_form ds)
        once [] = tt
        once (d ∷ ds) = (omega arith, once ds)

        as_many : (ds : List Tally) → length (tally_form ds) ≡ length ds
        as_many [] = refl
        as_many (d ∷ ds) = ap suc (as_many ds)

    module _ (room : ℕ → ℕ → ℕ) (roomy : (p t : ℕ) → room p t ≤ PEAK) (cs : List Tally) (among : Each (λ c. c.column < top) cs) (as_few : length cs ≤ top) where
      row_small : (ds : List Tally) (m : ℕ) → m ≤ PEAK → Each (λ c. c.column < top) ds → length ds ≤ top → Each (IsSmallLimit top) (supply_row ds m)
      row_small [] m le h k = tt
      row_small (d ∷ ds) m le h k =
          (record { most = tally_form_small (d ∷ ds) h k; under = record { columns = tt; numbers = tt; few = omega arith }; plus = le }, tt)

      part_supply_small : (p : ℕ) (ts : List ℕ) → Each (IsSmallLimit top) (part_supply room cs p ts)
      part_supply_small p [] = tt
      part_supply_small p (t ∷ ts) =
          Each-append (IsSmallLimit top) (supply_row (filter (is_held p t) cs) (room p t)) (part_supply room cs p ts)
          (row_small (filter (is_held p t) cs) (room p t) (roomy p t) (Each-filter (λ c. c.column < top) (is_held p t) cs among) (le_trans (filter_shorter (is_held p t) cs) as_few))
          (part_supply_small p ts)

      pub supply_small : (slots ps : List ℕ) → Each (IsSmallLimit top) (supply room cs slots ps)
      supply_small slots [] = tt
      supply_small slots (p ∷ ps) = Each-append (IsSmallLimit top) (part_supply room cs p slots) (supply room cs slots ps) (part_supply_small p slots) (supply_small slots ps)
