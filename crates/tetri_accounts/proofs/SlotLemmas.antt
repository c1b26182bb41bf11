-- How a slot that is shown is taken into a ledger.
use Rattle.std.proofs.Common.{◌≡◌, ℕ, List, [], ◌∷◌, ◌++◌, length, drop, map, filter, ap, ◌∙◌}
use Rattle.std.proofs.Math.Seq.{drop-append_seam}
use Rattle.tetri_base.specs.Lists.{has}
use Rattle.tetri_cycles.specs.Observed.{IsShown}
use Rattle.tetri_cycles.specs.declared.observer.SeenSlot.{SeenSlot}
use Rattle.tetri_report.specs.Block.{Block}
use Rattle.tetri_report.specs.BlockLines.{occurrences_in}
use Rattle.tetri_space.specs.Space.{Bid, Space, space}
use Rattle.tetri_state.specs.After.{new_pieces}
use Rattle.tetri_state.specs.Begin.{Occurrences, begin, occurring}
use Rattle.tetri_state.specs.Launch.{starts_now}
use Rattle.tetri_state.specs.Planning.{instance_at, instance_of}
use Rattle.tetri_state.specs.Snapshot.{Snapshot}
use Rattle.tetri_state.specs.declared.pieces.Piece.{Piece}
use Rattle.tetri_trace.specs.Scenario.{Scenario}
use Rattle.tetri_accounts.specs.Rows.{departing, leaving, row_of, staying}
use Rattle.tetri_accounts.specs.Runs.{launches}
use Rattle.tetri_accounts.specs.Taken.{IsTaken}
use Rattle.tetri_accounts.specs.declared.ledger.Ledger.{Ledger}
use Rattle.tetri_accounts.specs.declared.row.Row.{Row}
use Rattle.tetri_accounts.proofs.LaunchLemmas.{passing_same}

module _ (t : Scenario) (s : Snapshot) (b : Block) (state : Snapshot) (old new : Ledger) (slot : SeenSlot) (shown : IsShown t s b state slot) where
  now_is : slot.inst.now.now ≡ s.now
  now_is = ap (λ (i : Space). i.now) shown.instance

  -- the pieces behind those that ran before the launch are those that it launched
  launched_pieces : drop slot.held state.pieces ≡ new_pieces t (instance_at t s) b.grants
  launched_pieces =
      ap (λ n. drop n state.pieces) shown.held ∙ ap (λ (x : Snapshot). drop (length (begin t s).pieces) x.pieces) shown.state
      ∙ drop-append_seam (begin t s).pieces (new_pieces t (instance_of t (begin t s)) b.grants)

  abbrev rows_by : List Piece → ℕ → List ℕ → Space → List Row
  rows_by pieces now jobs i = map (row_of b.grants pieces now) (filter (λ d. has jobs d.job) i.bids)

  launches_are : rows_by (drop slot.held state.pieces) slot.inst.now.now b.launched (space slot.inst.now) ≡ launches t s b
  launches_are =
      ap (λ ps. rows_by ps slot.inst.now.now b.launched (space slot.inst.now)) launched_pieces
      ∙ ap (λ n. rows_by (new_pieces t (instance_at t s) b.grants) n b.launched (space slot.inst.now)) now_is
      ∙ ap (λ js. rows_by (new_pieces t (instance_at t s) b.grants) s.now js (space slot.inst.now)) shown.right.launched
      ∙ ap (rows_by (new_pieces t (instance_at t s) b.grants) s.now (map (λ (d : Bid). d.job) (filter (λ d. starts_now (instance_at t s) b.grants d.job) (instance_at t s).bids))) shown.instance
      ∙ ap (map (row_of b.grants (new_pieces t (instance_at t s) b.grants) s.now)) (passing_same (starts_now (instance_at t s) b.grants) (instance_at t s).bids)

  pub taken : new.running.items ≡ staying (occurrences_in b) slot.inst.now.now old.running.items
      ++ map (row_of b.grants (drop slot.held state.pieces) slot.inst.now.now) (filter (λ d. has b.launched d.job) (space slot.inst.now).bids) →
      new.closed.items ≡ old.closed.items ++ leaving (occurrences_in b) slot.inst.now.now old.running.items →
      new.gone.items ≡ old.gone.items ++ departing (occurrences_in b) slot.inst.now.now →
      new.cycles.items ≡ old.cycles.items ++ record { jobs = length (space slot.inst.now).bids; value = b.value; bound = b.bound; mark = b.mark; nodes = b.nodes } ∷ [] →
      IsTaken t s b old new
  taken running closed gone cycles = record {
    running =
        running ∙ ap (λ xs. xs ++ rows_by (drop slot.held state.pieces) slot.inst.now.now b.launched (space slot.inst.now))
        (ap (λ (o : Occurrences). staying o slot.inst.now.now old.running.items) shown.right.happened ∙ ap (λ n. staying (occurring t s) n old.running.items) now_is)
        ∙ ap (λ xs. staying (occurring t s) s.now old.running.items ++ xs) launches_are;
    closed =
        closed ∙ ap (λ xs. old.closed.items ++ xs)
        (ap (λ (o : Occurrences). leaving o slot.inst.now.now old.running.items) shown.right.happened ∙ ap (λ n. leaving (occurring t s) n old.running.items) now_is);
    gone =
        gone ∙ ap (λ xs. old.gone.items ++ xs)
        (ap (λ (o : Occurrences). departing o slot.inst.now.now) shown.right.happened ∙ ap (λ n. departing (occurring t s) n) now_is);
    cycles = cycles ∙ ap (λ (i : Space). old.cycles.items ++ record { jobs = length i.bids; value = b.value; bound = b.bound; mark = b.mark; nodes = b.nodes } ∷ []) shown.instance;
  }
