-- Parts that are settled one after the other, as a loop does.
use Rattle.std.proofs.Common.{◌≡◌, ℕ, ◌+◌, ◌<◌, ◌≤◌, List, [], ◌∷◌, ◌++◌, drop, take, length, get_or, Option, Result, Ok, Err, refl, sym, ap, ◌∙◌, subst, append_assoc, add-one, drop-cons, length-take, length-drop, arith}
use Rattle.std.proofs.lemmas.List.{take-take}
use Rattle.tetri_base.specs.ResultSteps.{◌>>=◌}
use Rattle.tetri_cluster.specs.declared.cluster.NodeText.{NodeText}
use Rattle.tetri_strl.specs.Tree.{Tree}
use Rattle.tetri_parse.specs.declared.fault.Miss.{Miss}
use Rattle.tetri_parse.specs.declared.fault.Stop.{Stop}
use Rattle.tetri_parse.specs.declared.fault.Stop.TheVariants as stops
use Rattle.tetri_parse.specs.declared.syntax.Syntax.{Syntax}
use Rattle.tetri_parse.specs.Answers.{Stops}
use Rattle.tetri_parse.specs.Phrase.{line_up, phrase, phrases}
use Rattle.tetri_parse.specs.Settling.{made_of, settled, settled_all}
use Rattle.tetri_parse.specs.Written.{AreWritten}

-- what was kept before is kept after one part more
pub kept_on : (first sets more : List (List ℕ)) → take (length first) sets ≡ first → take (length sets) more ≡ sets → take (length first) more ≡ first
kept_on first sets more before now =
    let le : length first ≤ length sets = omega (arith, ap length before, length-take (length first) sets) in
    sym (take-take (length first) (length sets) more le) ∙ ap (take (length first)) now ∙ before

module _ (cluster : List NodeText) (parts : List Syntax) (i : ℕ) (lt : i < length parts) where
  ahead : (d : Syntax) → drop i parts ≡ get_or parts i d ∷ drop (i + 1) parts
  ahead d = rw add-one (drop-cons parts i d lt)

  -- the part at this place, behind which the others stand
  here : (p : Syntax) → p ≡ get_or parts i p → drop i parts ≡ p ∷ drop (i + 1) parts
  here p is = ahead p ∙ ap (λ q. q ∷ drop (i + 1) parts) (sym is)

  pub written_on : AreWritten (line_up (phrases cluster (drop i parts))) → AreWritten (line_up (phrases cluster (drop (i + 1) parts)))
  written_on h = by_drop (drop i parts) refl h
    where
      by_drop : (ps : List Syntax) → drop i parts ≡ ps → AreWritten (line_up (phrases cluster ps)) → AreWritten (line_up (phrases cluster (drop (i + 1) parts)))
      by_drop [] e g = absurd (omega (arith, lt, length-drop i parts, ap length e))
      by_drop (p ∷ ps) e g = (subst (λ qs. AreWritten (line_up (phrases cluster qs))) (sym e ∙ ahead p) g).1

  module _ (unit arrival : ℕ) (wanted : Option ℕ) (made : List Tree) (sets : List (List ℕ)) (total : Result (List Tree × List (List ℕ)) Miss)
      (so_far : (settled_all unit arrival wanted (line_up (phrases cluster (drop i parts))) sets >>= λ x. Ok (made ++ x.0, x.1)) ≡ total) where
    turn : (p : Syntax) → p ≡ get_or parts i p → settled_all unit arrival wanted (line_up (phrases cluster (drop i parts))) sets
        ≡ (settled unit arrival wanted (phrase cluster p) sets >>= λ first. made_of (λ ts. first.0 ∷ ts) (settled_all unit arrival wanted (line_up (phrases cluster (drop (i + 1) parts))) first.1))
    turn p is = ap (λ ps. settled_all unit arrival wanted (line_up (phrases cluster ps)) sets) (here p is)

    pub part_stops : (p : Syntax) → p ≡ get_or parts i p → (e : Stop) → Stops e (settled unit arrival wanted (phrase cluster p) sets) → Stops e total
    part_stops p is stops.NoMemory h = tt
    part_stops p is (stops.Missed m) h =
        sym so_far
        ∙ ap (λ r. r >>= λ x. Ok (made ++ x.0, x.1)) (turn p is ∙ ap (λ r. r >>= λ first. made_of (λ ts. first.0 ∷ ts) (settled_all unit arrival wanted (line_up (phrases cluster (drop (i + 1) parts))) first.1)) h)

    pub part_goes : (p : Syntax) → p ≡ get_or parts i p → (t : Tree) (more : List (List ℕ)) → settled unit arrival wanted (phrase cluster p) sets ≡ Ok (t, more)
        → (settled_all unit arrival wanted (line_up (phrases cluster (drop (i + 1) parts))) more >>= λ x. Ok ((made ++ t ∷ []) ++ x.0, x.1)) ≡ total
    part_goes p is t more h =
        regroup (settled_all unit arrival wanted (line_up (phrases cluster (drop (i + 1) parts))) more)
        ∙ sym (ap (λ r. r >>= λ x. Ok (made ++ x.0, x.1)) (turn p is ∙ ap (λ r. r >>= λ first. made_of (λ ts. first.0 ∷ ts) (settled_all unit arrival wanted (line_up (phrases cluster (drop (i + 1) parts))) first.1)) h))
        ∙ so_far
      where
        regroup : (r : Result (List Tree × List (List ℕ)) Miss) → Path (Result (List Tree × List (List ℕ)) Miss) (r >>= λ x. Ok ((made ++ t ∷ []) ++ x.0, x.1)) (made_of (λ ts. t ∷ ts) r >>= λ x. Ok (made ++ x.0, x.1))
        regroup (Ok x) = ap (λ ts. Ok (ts, x.1)) (simp append_assoc)
        regroup (Err m) = refl
