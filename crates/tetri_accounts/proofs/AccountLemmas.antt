-- What an account says of a run that a ledger saw.
use Rattle.std.proofs.Common.{◌≡◌, ℕ, ◌==◌, cond, List, [], ◌∷◌, ◌++◌, length, refl, sym, ap, ◌∙◌, subst}
use Rattle.std.specs.Prelude.{flat_map, find}
use Rattle.std.specs.List.{range_with_len}
use Rattle.std.specs.List.Sorted.{IsNonDecreasingBy, IsPermutation}
use Rattle.std.proofs.lemmas.List.Sorted.{IsPermutation-append, IsPermutation-refl, IsPermutation-trans, list_any-IsPermutation}
use Rattle.tetri_policy.specs.Run.{HasSeenRun}
use Rattle.tetri_policy.specs.declared.policy.Policy.{Policy}
use Rattle.tetri_report.specs.Block.{Block}
use Rattle.tetri_run.specs.CheckEnds.{HasSeen}
use Rattle.tetri_run.specs.Run.{in_order}
use Rattle.tetri_state.specs.Snapshot.{opening_state}
use Rattle.tetri_trace.specs.Scenario.{Scenario}
use Rattle.tetri_cycles.specs.Observed.{Observed}
use Rattle.tetri_accounts.specs.Accounted.{TellsPolicy, TellsReport, TellsRun}
use Rattle.tetri_accounts.specs.Rows.{has_row, idle_by, idle_row, idle_rows}
use Rattle.tetri_accounts.specs.Runs.{AreRows, departures, launch_rows, notes, place_of}
use Rattle.tetri_accounts.specs.Taken.{IsFresh, IsTaken}
use Rattle.tetri_accounts.specs.declared.account.Account.{Account}
use Rattle.tetri_accounts.specs.declared.ledger.Ledger.{Ledger}
use Rattle.tetri_accounts.specs.declared.row.Departure.{Departure}
use Rattle.tetri_accounts.specs.declared.row.Row.{Row}
use Rattle.tetri_accounts.proofs.RunLemmas.{coming, ledger_gone, ledger_holds, ledger_notes}

-- the jobs without a row are the same where the same jobs have rows
idle_same : (a b : List Row) (gone : List Departure) → ((job : ℕ) → has_row a job ≡ has_row b job) → (jobs : List ℕ) → flat_map (idle_row a gone) jobs ≡ flat_map (idle_row b gone) jobs
idle_same a b gone same [] = refl
idle_same a b gone same (job ∷ jobs) =
    ap (λ c. cond c [] (idle_by job (find (λ d. d.job == job) gone) ∷ []) ++ flat_map (idle_row a gone) jobs) (same job)
    ∙ ap (λ xs. idle_row b gone job ++ xs) (idle_same a b gone same jobs)

module _ (t : Scenario) (bs : List Block) (first last : Ledger) (fresh : IsFresh first) (seen : Observed IsTaken t (opening_state t) bs first last) where
  launched : List Row
  launched = launch_rows t (opening_state t) bs

  gone : List Departure
  gone = departures t (opening_state t) bs

  all_launched : IsPermutation launched (last.closed.items ++ last.running.items)
  unfolding launched
  all_launched =
      subst (λ xs. IsPermutation xs (last.closed.items ++ last.running.items))
      (ap (λ xs. xs ++ coming t (opening_state t) bs first.running.items) fresh.closed ∙ ap (coming t (opening_state t) bs) fresh.running)
      (ledger_holds t (opening_state t) bs first last seen)

  all_gone : last.gone.items ≡ gone
  unfolding gone
  all_gone = ledger_gone t (opening_state t) bs first last seen ∙ ap (λ xs. xs ++ departures t (opening_state t) bs) fresh.gone

  all_noted : last.cycles.items ≡ notes t (opening_state t) bs
  all_noted = ledger_notes t (opening_state t) bs first last seen ∙ ap (λ xs. xs ++ notes t (opening_state t) bs) fresh.cycles

  pub rows_told : (joined told rows : List Row) → joined ≡ last.closed.items ++ last.running.items →
      told ≡ joined ++ idle_rows (length t.submissions) joined last.gone.items → IsPermutation told rows → IsNonDecreasingBy place_of rows → AreRows t bs rows
  unfolding launched gone
  rows_told joined told rows joins tells permuted ascends =
      let n : ℕ = length t.submissions in
      let moved : IsPermutation launched joined = subst (IsPermutation launched) (sym joins) all_launched in
      let idle : List Row = idle_rows n launched gone in
      let same : idle_rows n joined last.gone.items ≡ idle =
      ap (idle_rows n joined) all_gone ∙ sym (idle_same launched joined gone (λ job. list_any-IsPermutation (λ (r : Row). r.job == job) launched joined moved) (range_with_len 0 n)) in
      record {
        one_each =
            IsPermutation-trans _ _ _ (IsPermutation-append launched joined idle idle moved (IsPermutation-refl idle))
            (subst (λ xs. IsPermutation xs rows) (tells ∙ ap (λ xs. joined ++ xs) same) permuted);
        in_order = ascends;
      }

  pub run_told : (a : Account) → AreRows t bs a.rows.items → a.cycles.items ≡ last.cycles.items → TellsRun t bs a
  run_told a rows cycles = record { rows = rows; cycles = cycles ∙ all_noted }

-- the account of a report that was seen
pub report_told : (t : Scenario) (report : List ℕ) (first last : Ledger) (a : Account) → IsFresh first → HasSeen IsTaken t report first last →
    ((l : Ledger) (bs : List Block) → IsFresh l → Observed IsTaken t (opening_state t) bs l last → TellsRun t bs a) → TellsReport t report a
report_told t report first last a fresh seen closes = record {
  accepted = seen.assured.accepted;
  tells = closes first (in_order seen.assured.accepted.past) fresh seen.observed;
}

-- the account of a run by a policy that was seen
pub policy_told : (p : Policy) (t : Scenario) (first last : Ledger) (a : Account) → IsFresh first → HasSeenRun IsTaken p t first last →
    ((l : Ledger) (bs : List Block) → IsFresh l → Observed IsTaken t (opening_state t) bs l last → TellsRun t bs a) → TellsPolicy p t a
policy_told p t first last a fresh seen closes = record {
  cycles = seen.cycles;
  run = seen.run;
  whole = seen.whole;
  tells = closes first seen.cycles fresh seen.observed;
}
