-- The outline of a whole instance is its program's draft, and the draft's numbers are small.
use Rattle.std.proofs.Common.{◌≡◌, ℕ, ◌+◌, ◌<◌, ◌^◌, List, [], ◌++◌, length, map, refl, sym, ap, ◌∙◌, arith}
use Rattle.std.specs.List.{range_with_len}
use Rattle.std.specs.Prelude.{pos}
use Rattle.std.proofs.lemmas.List.{append-nil, length-map}
use lib.IntN.{ℤ}
use Rattle.tetri_ip.specs.declared.programs.Program.{Program}
use Rattle.tetri_base.specs.Lists.{Each}
use Rattle.tetri_base.proofs.ListLaws.{Each-append}
use Rattle.tetri_space.specs.Partitions.{ArePartitionsOf, Parts, live_bids, partitions}
use Rattle.tetri_space.specs.Sound.{IsSound as IsSoundSpace}
use Rattle.tetri_space.specs.Space.{Bid, Space}
use Rattle.tetri_compile.specs.declared.outline.Tally.{Tally}
use Rattle.tetri_compile.specs.Draft.{Draft, bid_rows, bid_tallies, bid_uppers, draft, objective, supply}
use Rattle.tetri_compile.specs.Flat.{FlatProgram, column_count, plain, program_of}
use Rattle.tetri_compile.specs.Forms.{Form, Limit}
use Rattle.tetri_compile.specs.Small.{IsSmallForm, IsSmallLimit}
use Rattle.tetri_compile.specs.steps.Walked.{inside, room, usable}
use Rattle.tetri_compile.proofs.CompileLemmas.{sound_bids}
use Rattle.tetri_compile.proofs.SmallLemmas.{free_few}
use Rattle.tetri_wide.specs.Sketch.{Grows, Sketch, next_column, sketch_draft}
use Rattle.tetri_wide.proofs.SmallLemmas.{bid_rows_small, bid_tallies_few, bid_tallies_in, objective_small, supply_small}

abbrev made : List ℕ → Form → List Limit → List Tally → Draft
made us f rs cs = record { uppers = us; objective = f; rows = rs; tallies = cs }

made_same : (us vs : List ℕ) (f g : Form) (rs qs : List Limit) (cs ds : List Tally) → us ≡ vs → f ≡ g → rs ≡ qs → cs ≡ ds → made us f rs cs ≡ made vs g qs ds
made_same us vs f g rs qs cs ds a b c d = ap (λ x. made x f rs cs) a ∙ ap (λ x. made vs x rs cs) b ∙ ap (λ x. made vs g x cs) c ∙ ap (λ x. made vs g qs x) d

module _ (s : Space) (p : Parts) (are : ArePartitionsOf s p) (o walked full : Sketch) (f : Form)
    (no_uppers : o.uppers ≡ []) (no_rows : o.rows ≡ []) (no_tallies : o.tallies ≡ [])
    (is : f ≡ objective (inside s) (usable s) p.bids (next_column o))
    (bids : Grows o walked (bid_uppers (inside s) (usable s) p.bids) (bid_rows (inside s) (usable s) p.bids (next_column o)) (bid_tallies (inside s) (usable s) p.bids (next_column o)))
    (supplied : Grows walked full [] (supply (room s) walked.tallies (range_with_len s.now s.window) (range_with_len 0 (length (partitions s)))) []) where
  none_yet : next_column o ≡ 0
  none_yet = ap (λ (us : List ℕ). length us) no_uppers

  tallies_are : walked.tallies ≡ bid_tallies (inside s) (usable s) (live_bids s) 0
  tallies_are =
      bids.tallies ∙ ap (λ (cs : List Tally). cs ++ bid_tallies (inside s) (usable s) p.bids (next_column o)) no_tallies
      ∙ ap (λ (n : ℕ). bid_tallies (inside s) (usable s) p.bids n) none_yet ∙ ap (λ (bs : List Bid). bid_tallies (inside s) (usable s) bs 0) are.bids

  rows_are : walked.rows ≡ bid_rows (inside s) (usable s) (live_bids s) 0
  rows_are =
      bids.rows ∙ ap (λ (rs : List Limit). rs ++ bid_rows (inside s) (usable s) p.bids (next_column o)) no_rows
      ∙ ap (λ (n : ℕ). bid_rows (inside s) (usable s) p.bids n) none_yet ∙ ap (λ (bs : List Bid). bid_rows (inside s) (usable s) bs 0) are.bids

  pub draft_is : sketch_draft full f ≡ draft s
  draft_is =
      made_same full.uppers (draft s).uppers f (draft s).objective full.rows (draft s).rows full.tallies (draft s).tallies
      (supplied.uppers ∙ append-nil walked.uppers ∙ bids.uppers ∙ ap (λ (us : List ℕ). us ++ bid_uppers (inside s) (usable s) p.bids) no_uppers
      ∙ ap (λ (bs : List Bid). bid_uppers (inside s) (usable s) bs) are.bids)
      (is ∙ ap (λ (n : ℕ). objective (inside s) (usable s) p.bids n) none_yet ∙ ap (λ (bs : List Bid). objective (inside s) (usable s) bs 0) are.bids)
      (supplied.rows
      ∙ ap (λ (rs : List Limit). rs ++ supply (room s) walked.tallies (range_with_len s.now s.window) (range_with_len 0 (length (partitions s)))) rows_are
      ∙ ap (λ (cs : List Tally). bid_rows (inside s) (usable s) (live_bids s) 0 ++ supply (room s) cs (range_with_len s.now s.window) (range_with_len 0 (length (partitions s)))) tallies_are)
      (supplied.tallies ∙ append-nil walked.tallies ∙ tallies_are)

pub draft_small : (s : Space) → IsSoundSpace s → (p : Parts) → ArePartitionsOf s p → column_count s < 2 ^ 31 →
    IsSmallForm (column_count s) (draft s).objective × Each (IsSmallLimit (column_count s)) (draft s).rows
draft_small s sound p are few =
    let bs = live_bids s in
    let top = column_count s in
    let sounds = sound_bids s sound p are in
    let cs = bid_tallies (inside s) (usable s) bs 0 in (
      objective_small (inside s) (usable s) top few bs sounds (omega arith),
      Each-append (IsSmallLimit top) (bid_rows (inside s) (usable s) bs 0) (supply (room s) cs (range_with_len s.now s.window) (range_with_len 0 (length (partitions s))))
          (bid_rows_small (inside s) (usable s) top few bs 0 sounds (omega arith))
          (supply_small (inside s) (usable s) top few (room s) (free_few s sound) cs (bid_tallies_in (inside s) (usable s) top few bs 0 (omega arith)) (bid_tallies_few (inside s) (usable s) top few bs 0)
          (range_with_len s.now s.window) (range_with_len 0 (length (partitions s)))),
    )

-- a program has as many upper bounds as lower ones
pub boxes_long : (s : Space) (q : Program) → plain q ≡ program_of s → length q.upper.items ≡ length q.lower.items
boxes_long s q is =
    ap (λ (r : FlatProgram). length r.upper) is ∙ length-map (draft s).uppers pos ∙ sym (length-map (draft s).uppers (λ (u : ℕ). pos 0))
    ∙ sym (ap (λ (r : FlatProgram). length r.lower) is)
