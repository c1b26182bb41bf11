-- How the pieces of a slot are parted, one after another.
use Rattle.std.proofs.Common.{◌≡◌, ℕ, Bool, true, false, cond, List, [], ◌∷◌, ◌++◌, map, filter, not, refl, ap, ◌∙◌, append_assoc}
use Rattle.tetri_state.specs.Begin.{Occurrences}
use Rattle.tetri_state.specs.declared.pieces.Piece.{Piece}
use Rattle.tetri_svg.specs.declared.fate.Fate.{Fate}
use Rattle.tetri_chart.specs.Pieces.{fate_of, leaving, runs_on, span_of, staying}
use Rattle.tetri_chart.specs.declared.picture.Span.{Span}

module _ (o : Occurrences) (now : ℕ) (p : Piece) (ps : List Piece) (fate : Fate) (is : fate ≡ fate_of o now p) where
  pub stays : (old new : List Piece) → new ≡ old ++ cond (runs_on fate) (p ∷ []) [] → new ++ staying o now ps ≡ old ++ staying o now (p ∷ ps)
  stays old new placed =
      ap (λ xs. xs ++ staying o now ps) placed ∙ append_assoc old (cond (runs_on fate) (p ∷ []) []) (staying o now ps)
      ∙ ap (λ xs. old ++ xs) (by_test (runs_on fate) ∙ ap (λ f. cond (runs_on f) (p ∷ staying o now ps) (staying o now ps)) is)
    where
      by_test : (b : Bool) → cond b (p ∷ []) [] ++ staying o now ps ≡ cond b (p ∷ staying o now ps) (staying o now ps)
      by_test true = refl
      by_test false = refl

  pub leaves : (old new : List Span) → new ≡ old ++ cond (runs_on fate) [] (span_of now fate p ∷ []) → new ++ leaving o now ps ≡ old ++ leaving o now (p ∷ ps)
  leaves old new placed =
      ap (λ xs. xs ++ leaving o now ps) placed ∙ append_assoc old (cond (runs_on fate) [] (span_of now fate p ∷ [])) (leaving o now ps)
      ∙ ap (λ xs. old ++ xs)
      (ap (λ f. cond (runs_on f) [] (span_of now f p ∷ []) ++ leaving o now ps) is ∙ by_test (runs_on (fate_of o now p)))
    where
      rest : List Piece
      rest = filter (λ q. not (runs_on (fate_of o now q))) ps

      by_test : (b : Bool) → cond b [] (span_of now (fate_of o now p) p ∷ []) ++ leaving o now ps ≡ map (λ q. span_of now (fate_of o now q) q) (cond (not b) (p ∷ rest) rest)
      by_test true = refl
      by_test false = refl
