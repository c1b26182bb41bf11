-- A text is answered with its first fault.
use Rattle.std.proofs.Common.{◌≡◌, ℕ, ◌-◌, List, [], ◌∷◌, length, Some, None, Result, Ok, Err, refl, ap}
use Rattle.std.specs.Prelude.{IfOk, option_map}
use Rattle.tetri_base.specs.ResultSteps.{◌>>=◌}
use Rattle.tetri_cluster.specs.declared.cluster.NodeText.{NodeText}
use Rattle.tetri_strl.specs.declared.expr.Expr.{Expr}
use Rattle.tetri_strl.specs.Tree.{Tree}
use Rattle.tetri_parse.specs.Answers.{Stops, fault_in}
use Rattle.tetri_parse.specs.Expression.{expression_left}
use Rattle.tetri_parse.specs.Faults.{all_faults, fault_behind, first_fault, first_of, AnswersFault, IsFirstOf}
use Rattle.tetri_parse.specs.Grammar.{whole_at}
use Rattle.tetri_parse.specs.Phrase.{Phrase}
use Rattle.tetri_parse.specs.Settling.{settled}
use Rattle.tetri_parse.specs.declared.fault.Fault.{Fault}
use Rattle.tetri_parse.specs.declared.fault.Miss.{Miss}
use Rattle.tetri_parse.specs.declared.fault.Stop.{Stop}
use Rattle.tetri_parse.specs.declared.fault.Stop.TheVariants as stops
use Rattle.tetri_parse.proofs.FirstMet.{whole_met}

first_none : {A : Type 0} (ms : List Miss) (r : Result A Miss) (x : A) → IsFirstOf ms r → r ≡ Ok x → first_of ms ≡ None
first_none [] r x met h = refl
first_none (m ∷ ms) (Ok y) x met h = absurd met
first_none (m ∷ ms) (Err e) x met h = absurd (cc)

first_some : {A : Type 0} (ms : List Miss) (r : Result A Miss) (miss : Miss) → IsFirstOf ms r → r ≡ Err miss → first_of ms ≡ Some miss
first_some [] (Ok y) miss met h = absurd (cc)
first_some [] (Err e) miss met h = absurd met
first_some (m ∷ ms) (Ok y) miss met h = absurd met
first_some (m ∷ ms) (Err e) miss met h = cc

module _ (text : List ℕ) (unit arrival : ℕ) (cluster : List NodeText) (sets : List (List ℕ)) where
  abbrev Met : Result Phrase Miss → Type 0
  Met w = IfOk w (λ p. IsFirstOf (all_faults unit [] p sets) (settled unit arrival None p sets))

  passes : (w : Result Phrase Miss) (x : Tree × List (List ℕ)) → Met w → (w >>= λ p. settled unit arrival None p sets) ≡ Ok x → fault_behind unit sets w ≡ None
  passes (Ok p) x met h = first_none (all_faults unit [] p sets) (settled unit arrival None p sets) x met h
  passes (Err m) x met h = absurd (cc)

  misses : (w : Result Phrase Miss) (miss : Miss) → Met w → (w >>= λ p. settled unit arrival None p sets) ≡ Err miss → fault_behind unit sets w ≡ Some miss
  misses (Ok p) miss met h = first_some (all_faults unit [] p sets) (settled unit arrival None p sets) miss met h
  misses (Err m) miss met h = cc

  pub faultless : (x : Tree × List (List ℕ)) → expression_left text unit arrival cluster sets ≡ Ok x → first_fault text unit cluster sets ≡ None
  unfolding expression_left
  faultless x h = passes (whole_at cluster text) x (whole_met cluster unit arrival text sets) h

  pub refused_first : (stop : Stop) → Stops stop (expression_left text unit arrival cluster sets) → AnswersFault {A = Expr} text (first_fault text unit cluster sets) (Err (fault_in text stop))
  unfolding expression_left
  refused_first (stops.Missed miss) h = ap (option_map {U = ℕ × Fault} (λ (m : Miss). (length text - m.left, m.fault))) (misses (whole_at cluster text) miss (whole_met cluster unit arrival text sets) h)
  refused_first stops.NoMemory h = tt
