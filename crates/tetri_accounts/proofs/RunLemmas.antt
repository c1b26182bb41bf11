-- What a ledger holds of the launches of a run.
use Rattle.std.proofs.Common.{◌≡◌, Bool, true, false, cond, List, [], ◌∷◌, ◌++◌, map, filter, not, refl, sym, ap, ◌∙◌, subst, append_assoc}
use Rattle.std.specs.List.Sorted.{IsPermutation}
use Rattle.std.proofs.lemmas.List.{append-nil, map-append}
use Rattle.std.proofs.lemmas.List.Sorted.{IsPermutation-refl, IsPermutation-trans, IsPermutation-append_comm, IsPermutation-append_left, IsPermutation-append_right, IsPermutation-map, IsPermutation-filter_both}
use Rattle.tetri_report.specs.Block.{Block}
use Rattle.tetri_state.specs.Begin.{occurring}
use Rattle.tetri_state.specs.Snapshot.{Snapshot}
use Rattle.tetri_trace.specs.Scenario.{Scenario}
use Rattle.tetri_cycles.specs.Observed.{Observed, next}
use Rattle.tetri_accounts.specs.Rows.{closed_as, departing, goes_on, leaving, outcome_of, staying}
use Rattle.tetri_accounts.specs.Runs.{departures, finished, launch_rows, launches, note_of, notes}
use Rattle.tetri_accounts.specs.Taken.{IsTaken}
use Rattle.tetri_accounts.specs.declared.ledger.Ledger.{Ledger}
use Rattle.tetri_accounts.specs.declared.row.Row.{Row}

module _ (t : Scenario) where
  abbrev on : Snapshot → Row → Bool
  on s r = goes_on (outcome_of (occurring t s) s.now r)

  module _ (s : Snapshot) (b : Block) (bs : List Block) where
    of_staying : (rs : List Row) → map (finished t s (b ∷ bs)) (filter (on s) rs) ≡ map (finished t (next t s b) bs) (filter (on s) rs)
    of_staying [] = refl
    of_staying (r ∷ rs) = by_test (on s r) refl (of_staying rs)
      where
        rest : List Row
        rest = filter (on s) rs

        by_test : (c : Bool) → on s r ≡ c → map (finished t s (b ∷ bs)) rest ≡ map (finished t (next t s b) bs) rest →
            map (finished t s (b ∷ bs)) (cond c (r ∷ rest) rest) ≡ map (finished t (next t s b) bs) (cond c (r ∷ rest) rest)
        by_test true is others =
            ap (λ c. cond c (finished t (next t s b) bs r) (closed_as s.now (outcome_of (occurring t s) s.now r) r) ∷ map (finished t s (b ∷ bs)) rest) is
            ∙ ap (λ xs. finished t (next t s b) bs r ∷ xs) others
        by_test false is others = others

    of_leaving : (rs : List Row) → map (finished t s (b ∷ bs)) (filter (λ r. not (on s r)) rs) ≡ leaving (occurring t s) s.now rs
    of_leaving [] = refl
    of_leaving (r ∷ rs) = by_test (on s r) refl (of_leaving rs)
      where
        rest : List Row
        rest = filter (λ q. not (on s q)) rs

        close : Row → Row
        close q = closed_as s.now (outcome_of (occurring t s) s.now q) q

        by_test : (c : Bool) → on s r ≡ c → map (finished t s (b ∷ bs)) rest ≡ map (λ q. closed_as s.now (outcome_of (occurring t s) s.now q) q) rest →
            map (finished t s (b ∷ bs)) (cond (not c) (r ∷ rest) rest) ≡ map (λ q. closed_as s.now (outcome_of (occurring t s) s.now q) q) (cond (not c) (r ∷ rest) rest)
        by_test false is others =
            ap (λ c. cond c (finished t (next t s b) bs r) (closed_as s.now (outcome_of (occurring t s) s.now r) r) ∷ map (finished t s (b ∷ bs)) rest) is
            ∙ ap (λ xs. closed_as s.now (outcome_of (occurring t s) s.now r) r ∷ xs) others
        by_test true is others = others

    -- what runs before a slot leaves or stays
    parted : (rs : List Row) →
        IsPermutation (map (finished t s (b ∷ bs)) rs) (leaving (occurring t s) s.now rs ++ map (finished t (next t s b) bs) (staying (occurring t s) s.now rs))
    parted rs =
        let f : Row → Bool = on s in
        let g : Row → Bool = λ r. not (on s r) in
        let left : List Row = leaving (occurring t s) s.now rs in
        let both : IsPermutation (map (finished t s (b ∷ bs)) rs) (map (finished t s (b ∷ bs)) (filter f rs ++ filter g rs)) =
        IsPermutation-map (finished t s (b ∷ bs)) rs (filter f rs ++ filter g rs) (IsPermutation-filter_both f g (λ r. refl) rs) in
        let apart : map (finished t s (b ∷ bs)) (filter f rs ++ filter g rs) ≡ map (finished t (next t s b) bs) (filter f rs) ++ left =
        map-append (finished t s (b ∷ bs)) (filter f rs) (filter g rs) ∙ ap (λ xs. xs ++ map (finished t s (b ∷ bs)) (filter g rs)) (of_staying rs)
        ∙ ap (λ xs. map (finished t (next t s b) bs) (filter f rs) ++ xs) (of_leaving rs) in
        IsPermutation-trans _ _ _ (subst (IsPermutation (map (finished t s (b ∷ bs)) rs)) apart both) (IsPermutation-append_comm (map (finished t (next t s b) bs) (filter f rs)) left)

  unmoved : (s : Snapshot) (rs : List Row) → map (finished t s []) rs ≡ rs
  unmoved s [] = refl
  unmoved s (r ∷ rs) = ap (λ xs. r ∷ xs) (unmoved s rs)

  -- what is to come of the launches that run and of those of the cycles
  abbrev pub coming : Snapshot → List Block → List Row → List Row
  coming s bs running = map (finished t s bs) running ++ launch_rows t s bs

  -- one cycle goes from those that are to come to what is taken
  taken_holds : (s : Snapshot) (b : Block) (bs : List Block) (old new : Ledger) → IsTaken t s b old new →
      IsPermutation (old.closed.items ++ coming s (b ∷ bs) old.running.items) (new.closed.items ++ coming (next t s b) bs new.running.items)
  taken_holds s b bs old new k =
      let stay : List Row = staying (occurring t s) s.now old.running.items in
      let left : List Row = leaving (occurring t s) s.now old.running.items in
      let fresh : List Row = launches t s b in
      let f : Row → Row = finished t (next t s b) bs in
      let later : List Row = launch_rows t (next t s b) bs in
      let moved : IsPermutation (map (finished t s (b ∷ bs)) old.running.items ++ (map f fresh ++ later)) ((left ++ map f stay) ++ (map f fresh ++ later)) =
      IsPermutation-append_left (map f fresh ++ later) (map (finished t s (b ∷ bs)) old.running.items) (left ++ map f stay) (parted s b bs old.running.items) in
      let behind : IsPermutation (old.closed.items ++ (map (finished t s (b ∷ bs)) old.running.items ++ (map f fresh ++ later))) (old.closed.items ++ ((left ++ map f stay) ++ (map f fresh ++ later))) =
      IsPermutation-append_right old.closed.items (map (finished t s (b ∷ bs)) old.running.items ++ (map f fresh ++ later)) ((left ++ map f stay) ++ (map f fresh ++ later)) moved in
      let is : old.closed.items ++ ((left ++ map f stay) ++ (map f fresh ++ later)) ≡ new.closed.items ++ coming (next t s b) bs new.running.items =
      ap (λ xs. old.closed.items ++ xs) (append_assoc left (map f stay) (map f fresh ++ later) ∙ ap (λ xs. left ++ xs) (sym (append_assoc (map f stay) (map f fresh) later)))
      ∙ sym (append_assoc old.closed.items left ((map f stay ++ map f fresh) ++ later))
      ∙ ap (λ xs. xs ++ ((map f stay ++ map f fresh) ++ later)) (sym k.closed)
      ∙ ap (λ xs. new.closed.items ++ (xs ++ later)) (sym (map-append f stay fresh) ∙ ap (map f) (sym k.running)) in
      subst (IsPermutation (old.closed.items ++ (map (finished t s (b ∷ bs)) old.running.items ++ (map f fresh ++ later)))) is behind

  -- behind the last cycle all launches are in the ledger
  pub ledger_holds : (s : Snapshot) (bs : List Block) (old new : Ledger) → Observed IsTaken t s bs old new →
      IsPermutation (old.closed.items ++ coming s bs old.running.items) (new.closed.items ++ new.running.items)
  ledger_holds s [] old new seen =
      subst (λ xs. IsPermutation xs (new.closed.items ++ new.running.items))
      (ap (λ (l : Ledger). l.closed.items ++ l.running.items) seen ∙ ap (λ xs. old.closed.items ++ xs) (sym (unmoved s old.running.items) ∙ sym (append-nil (map (finished t s []) old.running.items))))
      (IsPermutation-refl (new.closed.items ++ new.running.items))
  ledger_holds s (b ∷ bs) old new seen = IsPermutation-trans _ _ _ (taken_holds s b bs old seen.0 seen.1.0) (ledger_holds (next t s b) bs seen.0 new seen.1.1)

  -- and so are the departures
  pub ledger_gone : (s : Snapshot) (bs : List Block) (old new : Ledger) → Observed IsTaken t s bs old new → new.gone.items ≡ old.gone.items ++ departures t s bs
  ledger_gone s [] old new seen = ap (λ (l : Ledger). l.gone.items) seen ∙ sym (append-nil old.gone.items)
  ledger_gone s (b ∷ bs) old new seen =
      ledger_gone (next t s b) bs seen.0 new seen.1.1 ∙ ap (λ xs. xs ++ departures t (next t s b) bs) seen.1.0.gone
      ∙ append_assoc old.gone.items (departing (occurring t s) s.now) (departures t (next t s b) bs)

  -- and what is noted of the cycles
  pub ledger_notes : (s : Snapshot) (bs : List Block) (old new : Ledger) → Observed IsTaken t s bs old new → new.cycles.items ≡ old.cycles.items ++ notes t s bs
  ledger_notes s [] old new seen = ap (λ (l : Ledger). l.cycles.items) seen ∙ sym (append-nil old.cycles.items)
  ledger_notes s (b ∷ bs) old new seen =
      ledger_notes (next t s b) bs seen.0 new seen.1.1 ∙ ap (λ xs. xs ++ notes t (next t s b) bs) seen.1.0.cycles
      ∙ append_assoc old.cycles.items (note_of t s b ∷ []) (notes t (next t s b) bs)
