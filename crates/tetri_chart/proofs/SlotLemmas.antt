-- How a slot that is shown is taken into what is gathered.
use Rattle.std.proofs.Common.{◌≡◌, List, [], ◌∷◌, ◌++◌, length, drop, cond, ap, ◌∙◌}
use Rattle.std.proofs.Math.Seq.{drop-append_seam}
use Rattle.tetri_cycles.specs.Observed.{IsShown}
use Rattle.tetri_cycles.specs.declared.observer.SeenSlot.{SeenSlot}
use Rattle.tetri_report.specs.Block.{Block}
use Rattle.tetri_report.specs.BlockLines.{occurrences_in}
use Rattle.tetri_space.specs.Space.{Space, space}
use Rattle.tetri_state.specs.After.{new_pieces}
use Rattle.tetri_state.specs.Begin.{Occurrences, begin, occurring}
use Rattle.tetri_state.specs.Planning.{instance_at, instance_of}
use Rattle.tetri_state.specs.Snapshot.{Snapshot}
use Rattle.tetri_state.specs.declared.pieces.Piece.{Piece}
use Rattle.tetri_trace.specs.Scenario.{Scenario}
use Rattle.tetri_chart.specs.Gathered.{IsTaken}
use Rattle.tetri_chart.specs.Marks.{mark_in}
use Rattle.tetri_chart.specs.Pieces.{leaving, running, staying}
use Rattle.tetri_chart.specs.Waits.{is_asked, waits_in}
use Rattle.tetri_chart.specs.declared.gathering.Gathering.{Gathering}

module _ (t : Scenario) (s : Snapshot) (b : Block) (state : Snapshot) (old new : Gathering) (slot : SeenSlot) (shown : IsShown t s b state slot) where
  now_is : slot.inst.now.now ≡ s.now
  now_is = ap (λ (i : Space). i.now) shown.instance

  -- the pieces behind those that ran before the launch are those that it launched
  launched : drop slot.held state.pieces ≡ new_pieces t (instance_of t (begin t s)) b.grants
  launched =
      ap (λ n. drop n state.pieces) shown.held ∙ ap (λ (x : Snapshot). drop (length (begin t s).pieces) x.pieces) shown.state
      ∙ drop-append_seam (begin t s).pieces (new_pieces t (instance_of t (begin t s)) b.grants)

  -- the pieces that run behind the launch
  now_running : (stay : List Piece) → stay ≡ staying (occurrences_in b) slot.inst.now.now old.active.items → new.active.items ≡ stay ++ drop slot.held state.pieces →
      new.active.items ≡ running t s old.active.items b
  now_running stay stays active =
      active ∙ ap (λ xs. xs ++ drop slot.held state.pieces)
      (stays ∙ ap (λ (o : Occurrences). staying o slot.inst.now.now old.active.items) shown.right.happened ∙ ap (λ n. staying (occurring t s) n old.active.items) now_is)
      ∙ ap (λ xs. staying (occurring t s) s.now old.active.items ++ xs) launched

  pub taken : (stay : List Piece) → new.asked ≡ old.asked → stay ≡ staying (occurrences_in b) slot.inst.now.now old.active.items →
      new.active.items ≡ stay ++ drop slot.held state.pieces →
      new.spans.items ≡ old.spans.items ++ leaving (occurrences_in b) slot.inst.now.now old.active.items →
      new.cycles.items ≡ old.cycles.items ++ mark_in (space slot.inst.now) new.active.items (length t.nodes) b ∷ [] →
      new.waits.items ≡ old.waits.items ++ cond (is_asked old.asked (space slot.inst.now).now) (waits_in (space slot.inst.now) b.grants) [] → IsTaken t s b old new
  taken stay asked stays active spans cycles waits = record {
    asked = asked;
    active = now_running stay stays active;
    spans =
        spans ∙ ap (λ xs. old.spans.items ++ xs)
        (ap (λ (o : Occurrences). leaving o slot.inst.now.now old.active.items) shown.right.happened ∙ ap (λ n. leaving (occurring t s) n old.active.items) now_is);
    cycles =
        cycles ∙ ap (λ (i : Space). old.cycles.items ++ mark_in i new.active.items (length t.nodes) b ∷ []) shown.instance
        ∙ ap (λ xs. old.cycles.items ++ mark_in (instance_at t s) xs (length t.nodes) b ∷ []) (now_running stay stays active);
    waits = waits ∙ ap (λ (i : Space). old.waits.items ++ cond (is_asked old.asked i.now) (waits_in i b.grants) []) shown.instance;
  }
