-- How a report is gathered cycle by cycle.
use Rattle.std.proofs.Common.{◌≡◌, ℕ, ◌+◌, List, [], ◌∷◌, ◌++◌, length, sym, ap, ◌∙◌, append_assoc, arith}
use Rattle.std.specs.Prelude.{Option}
use Rattle.tetri_cycles.specs.Observed.{Observed, behind, next}
use Rattle.tetri_report.specs.Block.{Block}
use Rattle.tetri_state.specs.Begin.{occurring}
use Rattle.tetri_state.specs.Snapshot.{Snapshot}
use Rattle.tetri_state.specs.declared.pieces.Piece.{Piece}
use Rattle.tetri_trace.specs.Scenario.{Scenario}
use Rattle.tetri_chart.specs.Gathered.{IsTaken, picture_with}
use Rattle.tetri_chart.specs.Marks.{mark_of, marks_from}
use Rattle.tetri_chart.specs.Picture.{Picture}
use Rattle.tetri_chart.specs.Pieces.{leaving, pieces_from, running}
use Rattle.tetri_chart.specs.Waits.{waits_from, waits_of}
use Rattle.tetri_chart.specs.declared.gathering.Gathering.{Gathering}
use Rattle.tetri_chart.specs.declared.picture.CycleMark.{CycleMark}
use Rattle.tetri_chart.specs.declared.picture.Span.{Span}
use Rattle.tetri_chart.specs.declared.picture.Wait.{Wait}

-- a picture is given by its parts
same_picture : {a b : List Span} {c d : List CycleMark} {m n : Option ℕ} {e f : List Wait} → a ≡ b → c ≡ d → m ≡ n → e ≡ f →
    ◌≡◌ {A = Picture} (record { spans = a; cycles = c; asked = m; waits = e }) (record { spans = b; cycles = d; asked = n; waits = f })
same_picture spans cycles asked waits = cc

module _ (t : Scenario) where
  -- a cycle that is taken goes from those that are to come to what is gathered
  taken_shows : (s : Snapshot) (old new : Gathering) (b : Block) (bs : List Block) → IsTaken t s b old new → picture_with t s old (b ∷ bs) ≡ picture_with t (next t s b) new bs
  taken_shows s old new b bs k =
      let left : List Span = leaving (occurring t s) s.now old.active.items in
      let on : List Piece = running t s old.active.items b in
      let waits : List Wait = waits_of t old.asked s b in
      same_picture
      (sym (append_assoc old.spans.items left (pieces_from t (next t s b) on bs))
      ∙ ap (λ xs. xs ++ pieces_from t (next t s b) on bs) (sym k.spans)
      ∙ ap (λ xs. new.spans.items ++ pieces_from t (next t s b) xs bs) (sym k.active))
      (sym (append_assoc old.cycles.items (mark_of t s old.active.items b ∷ []) (marks_from t (next t s b) on bs))
      ∙ ap (λ xs. xs ++ marks_from t (next t s b) on bs) (sym k.cycles)
      ∙ ap (λ xs. new.cycles.items ++ marks_from t (next t s b) xs bs) (sym k.active))
      (sym k.asked)
      (sym (append_assoc old.waits.items waits (waits_from t old.asked (next t s b) bs))
      ∙ ap (λ xs. xs ++ waits_from t old.asked (next t s b) bs) (sym k.waits)
      ∙ ap (λ o. new.waits.items ++ waits_from t o (next t s b) bs) (sym k.asked))

  -- behind the last cycle all is gathered
  pub seen_shows : (s : Snapshot) (bs : List Block) (old new : Gathering) → Observed IsTaken t s bs old new → picture_with t s old bs ≡ picture_with t (behind t s bs) new []
  seen_shows s [] old new seen = ap (λ g. picture_with t s g []) (sym seen)
  seen_shows s (b ∷ bs) old new seen = taken_shows s old seen.0 b bs seen.1.0 ∙ seen_shows (next t s b) bs seen.0 new seen.1.1

  -- and the slot is the one behind them
  pub behind_now : (s : Snapshot) (bs : List Block) → (behind t s bs).now ≡ s.now + length bs
  behind_now s [] = omega arith
  behind_now s (b ∷ bs) = omega (arith, behind_now (next t s b) bs)
