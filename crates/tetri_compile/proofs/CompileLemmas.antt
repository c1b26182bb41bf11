-- The outline of a whole instance is its program's draft, and the draft's numbers are small.
use Rattle.std.proofs.Common.{◌≡◌, ℕ, zero, suc, ◌^◌, ◌<◌, ◌≤◌, All, List, [], ◌∷◌, ◌++◌, length, map, refl, ap, ◌∙◌, subst, arith}
use Rattle.std.specs.List.{range_with_len}
use Rattle.std.proofs.lemmas.List.{append-nil}
use lib.IntN.{pos}
use Rattle.tetri_ip.specs.declared.programs.Program.{Program}
use Rattle.tetri_ip.specs.Points.{IsFit}
use Rattle.tetri_strl.specs.WellMade.{IsSound, PEAK}
use Rattle.tetri_strl.specs.Aligned.{EachLeaf}
use Rattle.tetri_base.specs.Lists.{Each}
use Rattle.tetri_space.specs.Partitions.{ArePartitionsOf, Parts, live_bids, partitions}
use Rattle.tetri_space.specs.Sound.{IsSound as IsSoundSpace}
use Rattle.tetri_space.specs.Space.{Bid, Space}
use Rattle.tetri_base.proofs.ListLaws.{Each-append, Each-map}
use Rattle.tetri_compile.specs.declared.compiling.Count.{Count}
use Rattle.tetri_compile.specs.declared.outline.Outline.{Outline}
use Rattle.tetri_compile.specs.declared.outline.Tally.{Tally}
use Rattle.tetri_compile.specs.Counting.{AreCountsOf}
use Rattle.tetri_compile.specs.Draft.{Draft, bid_rows, bid_tallies, bid_uppers, draft, objective, outline_draft, supply}
use Rattle.tetri_compile.specs.Flat.{column_count, count_of, plain, program_of, row_count}
use Rattle.tetri_compile.specs.Forms.{Form, Limit, plain_limit}
use Rattle.tetri_compile.specs.Gain.{most_gain}
use Rattle.tetri_compile.specs.Small.{HasSmallNumbers, IsSmallForm, IsSmallLimit}
use Rattle.tetri_compile.specs.steps.Walked.{Grows, IsReady, inside, next_column, room, usable}
use Rattle.tetri_compile.proofs.CoefficientLemmas.{IsModest, bid_rows_modest, objective_times, supply_modest}
use Rattle.tetri_compile.proofs.CountLemmas.{counts_are}
use Rattle.tetri_compile.proofs.FitLemmas.{program_fit}
use Rattle.tetri_compile.proofs.GainLemmas.{bid_uppers_small, gain_small}
use Rattle.tetri_compile.proofs.NumberLemmas.{numbers_small}
use Rattle.tetri_compile.proofs.SmallLemmas.{bid_rows_small, bid_tallies_few, bid_tallies_in, free_few, objective_small, supply_small}
use Rattle.tetri_compile.proofs.WidthLemmas.{bids_ready}

abbrev made : List ℕ → Form → List Limit → List Tally → Draft
made us f rs cs = record { uppers = us; objective = f; rows = rs; tallies = cs }

made_same : (us vs : List ℕ) (f g : Form) (rs qs : List Limit) (cs ds : List Tally) → us ≡ vs → f ≡ g → rs ≡ qs → cs ≡ ds → made us f rs cs ≡ made vs g qs ds
made_same us vs f g rs qs cs ds a b c d = ap (λ x. made x f rs cs) a ∙ ap (λ x. made vs x rs cs) b ∙ ap (λ x. made vs g x cs) c ∙ ap (λ x. made vs g qs x) d

module _ (s : Space) (p : Parts) (are : ArePartitionsOf s p) (o walked full : Outline) (f : Form)
    (no_uppers : o.uppers.items ≡ []) (no_rows : o.rows.items ≡ []) (no_tallies : o.tallies.items ≡ [])
    (is : f ≡ objective (inside s) (usable s) p.bids (next_column o))
    (bids : Grows o walked (bid_uppers (inside s) (usable s) p.bids) (bid_rows (inside s) (usable s) p.bids (next_column o)) (bid_tallies (inside s) (usable s) p.bids (next_column o)))
    (supplied : Grows walked full [] (supply (room s) walked.tallies.items (range_with_len s.now s.window) (range_with_len 0 (length (partitions s)))) []) where
  none_yet : next_column o ≡ 0
  none_yet = ap (λ (us : List ℕ). length us) no_uppers

  tallies_are : walked.tallies.items ≡ bid_tallies (inside s) (usable s) (live_bids s) 0
  tallies_are =
      bids.tallies ∙ ap (λ (cs : List Tally). cs ++ bid_tallies (inside s) (usable s) p.bids (next_column o)) no_tallies
      ∙ ap (λ (n : ℕ). bid_tallies (inside s) (usable s) p.bids n) none_yet ∙ ap (λ (bs : List Bid). bid_tallies (inside s) (usable s) bs 0) are.bids

  rows_are : map plain_limit walked.rows.items ≡ bid_rows (inside s) (usable s) (live_bids s) 0
  rows_are =
      bids.rows ∙ ap (λ rs. map plain_limit rs ++ bid_rows (inside s) (usable s) p.bids (next_column o)) no_rows
      ∙ ap (λ (n : ℕ). bid_rows (inside s) (usable s) p.bids n) none_yet ∙ ap (λ (bs : List Bid). bid_rows (inside s) (usable s) bs 0) are.bids

  pub draft_is : outline_draft full f ≡ draft s
  draft_is =
      made_same full.uppers.items (draft s).uppers f (draft s).objective (map plain_limit full.rows.items) (draft s).rows full.tallies.items (draft s).tallies
      (supplied.uppers ∙ append-nil walked.uppers.items ∙ bids.uppers ∙ ap (λ (us : List ℕ). us ++ bid_uppers (inside s) (usable s) p.bids) no_uppers
      ∙ ap (λ (bs : List Bid). bid_uppers (inside s) (usable s) bs) are.bids)
      (is ∙ ap (λ (n : ℕ). objective (inside s) (usable s) p.bids n) none_yet ∙ ap (λ (bs : List Bid). objective (inside s) (usable s) bs 0) are.bids)
      (supplied.rows
      ∙ ap (λ (rs : List Limit). rs ++ supply (room s) walked.tallies.items (range_with_len s.now s.window) (range_with_len 0 (length (partitions s)))) rows_are
      ∙ ap (λ (cs : List Tally). bid_rows (inside s) (usable s) (live_bids s) 0 ++ supply (room s) cs (range_with_len s.now s.window) (range_with_len 0 (length (partitions s)))) tallies_are)
      (supplied.tallies ∙ append-nil walked.tallies.items ∙ tallies_are)

module _ (s : Space) (sound : IsSoundSpace s) (p : Parts) (are : ArePartitionsOf s p) where
  pub sound_bids : Each (λ b. IsSound b.expr) (live_bids s)
  sound_bids =
      Each-map (λ b. IsSound b.expr × EachLeaf (IsReady s p) b.expr) (λ b. IsSound b.expr) (λ b h. h.0) (live_bids s)
      (subst (Each (λ b. IsSound b.expr × EachLeaf (IsReady s p) b.expr)) are.bids (bids_ready s sound p are))

  pub draft_small : column_count s ≤ 2000 → IsSmallForm (column_count s) (draft s).objective × Each (IsSmallLimit (column_count s)) (draft s).rows
  draft_small few =
      let bs = live_bids s in
      let top = column_count s in
      let cs = bid_tallies (inside s) (usable s) bs 0 in (
        objective_small (inside s) (usable s) top few bs sound_bids (omega arith),
        Each-append (IsSmallLimit top) (bid_rows (inside s) (usable s) bs 0) (supply (room s) cs (range_with_len s.now s.window) (range_with_len 0 (length (partitions s))))
            (bid_rows_small (inside s) (usable s) top few bs 0 sound_bids (omega arith))
            (supply_small (inside s) (usable s) top few (room s) (free_few s sound) cs (bid_tallies_in (inside s) (usable s) top few bs 0 (omega arith)) (bid_tallies_few (inside s) (usable s) top few bs 0)
            (range_with_len s.now s.window) (range_with_len 0 (length (partitions s)))),
      )

  draft_modest : column_count s ≤ 2000 → Each IsModest (draft s).rows
  draft_modest few =
      let bs = live_bids s in
      let top = column_count s in
      let cs = bid_tallies (inside s) (usable s) bs 0 in
      Each-append IsModest (bid_rows (inside s) (usable s) bs 0) (supply (room s) cs (range_with_len s.now s.window) (range_with_len 0 (length (partitions s))))
      (bid_rows_modest (inside s) (usable s) top few bs 0 sound_bids (omega arith))
      (supply_modest (inside s) (usable s) top few (room s) cs (bid_tallies_few (inside s) (usable s) top few bs 0) (range_with_len s.now s.window) (range_with_len 0 (length (partitions s))))

  -- ---- the program of this draft
  module _ (few : column_count s ≤ 2000) (few_rows : row_count s ≤ 2000) (q : Program) (is : plain q ≡ program_of s) where
    pub compiled_is_fit : IsFit q
    compiled_is_fit =
        let small = draft_small few in
        program_fit (draft s) (column_count s) few refl few_rows (bid_uppers_small (inside s) (usable s) (live_bids s) sound_bids) small.0 small.1 q is

    pub counts_of_program : (cs : List Count) → cs ≡ map count_of (draft s).tallies → AreCountsOf q cs
    counts_of_program cs are_counts = counts_are (inside s) (usable s) (live_bids s) sound_bids (draft s) refl refl q is cs are_counts

    pub gain_bounded : most_gain q < 2 ^ 64
    gain_bounded = gain_small (inside s) (usable s) (live_bids s) sound_bids (draft s) few refl refl q is

    pub program_numbers : HasSmallNumbers q
    program_numbers =
        numbers_small (draft s) (bid_uppers_small (inside s) (usable s) (live_bids s) sound_bids) (objective_times (inside s) (usable s) (live_bids s) 0 sound_bids) (draft_modest few)
        (Each-map (IsSmallLimit (column_count s)) (λ r. r.plus ≤ PEAK) (λ r h. h.plus) (draft s).rows (draft_small few).1) q is

pub zeros_all : (us : List ℕ) → All (λ z. z ≡ pos 0) (map (λ (u : ℕ). pos 0) us)
zeros_all [] k d lt = absurd (omega (arith, lt))
zeros_all (u ∷ us) zero d lt = refl
zeros_all (u ∷ us) (suc k) d lt = zeros_all us k d (omega (arith, lt))
