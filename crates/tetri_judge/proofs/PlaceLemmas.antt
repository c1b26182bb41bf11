-- The line that a verdict refuses is one of the cycle's.
use Rattle.std.proofs.Common.{◌≡◌, ℕ, ◌<◌, ◌≤◌, List, [], ◌∷◌, length, min, refl, sym, ◌∙◌, subst, arith, inl, inr, ◌⊎◌, ⊎_elim}
use Rattle.std.specs.Prelude.{Option, Some, None, slice_get}
use Rattle.std.specs.Option.{IsSomeAnd}
use Rattle.std.proofs.lemmas.List.{length-map}
use Rattle.std.proofs.lemmas.Option.{slice_get_within}
use Rattle.tetri_strl.specs.declared.grants.Grant.{Grant}
use Rattle.tetri_strl.specs.Trim.{first_waste}
use Rattle.tetri_cert.specs.declared.certificate.Certificate.{Certificate}
use Rattle.tetri_cert.specs.declared.certificate.Certificate.TheVariants.{Tops, Tree}
use Rattle.tetri_cert.specs.declared.faults.TreeWhy.{TreeWhy}
use Rattle.tetri_cert.proofs.TreeBoundLaws.{faults_name_nodes}
use Rattle.tetri_report.specs.Block.{Block}
use Rattle.tetri_report.specs.BlockLines.{certificate_lines, end_place, plan_place}
use Rattle.tetri_report.specs.declared.line.ReportLine.TheVariants as lines
use Rattle.tetri_space.specs.Space.{Bid, Space}
use Rattle.tetri_judge.specs.Places.{place_of}
use Rattle.tetri_judge.specs.PlanOf.{planned}
use Rattle.tetri_judge.specs.Verdict.{FailsAt, IsFirstFailed, LeavesRangeAt, Shows}
use Rattle.tetri_judge.specs.Wasted.{first_wasted, lesser}
use Rattle.tetri_judge.specs.declared.verdict.Verdict.{Verdict}
use Rattle.tetri_judge.specs.declared.verdict.Verdict.TheVariants as verdicts
use Rattle.tetri_judge.proofs.WastedLemmas.{waste_within}

some_place : {X : Type 0} (xs : List X) (k : ℕ) (P : X → Type 0) → IsSomeAnd (slice_get xs k) P → k < length xs
some_place {X = X} xs k P h = by_item (slice_get xs k) refl h
  where
    by_item : (o : Option X) → slice_get xs k ≡ o → IsSomeAnd o P → k < length xs
    by_item None e h = absurd h
    by_item (Some x) e h = slice_get_within xs k x e

wasted_within : (bs : List Bid) (a : List Grant) (place : ℕ) → first_wasted bs a ≡ Some place → place < length a
wasted_within [] a place e = absurd cc
wasted_within (b ∷ bs) a place e = by_both (λ rest is. wasted_within bs a rest is) (first_waste a b.job b.expr) (first_wasted bs a) refl refl e
  where
    by_both : ((rest : ℕ) → first_wasted bs a ≡ Some rest → rest < length a) → (o p : Option ℕ) → first_waste a b.job b.expr ≡ o → first_wasted bs a ≡ p →
        lesser o p ≡ Some place → place < length a
    by_both later None p here is e = later place (is ∙ e)
    by_both later (Some m) None here is e = waste_within a b.job place b.expr (here ∙ e)
    by_both later (Some m) (Some n) here is e =
        let least : min m n ≡ place = some_number e in
        omega (arith, waste_within a b.job m b.expr here, later n is, least)
      where
        some_number : Some (min m n) ≡ Some place → min m n ≡ place
        some_number e = cc

-- a tree's fault is at one of its lines
fails_within : (i : Space) (c : Certificate) (node : ℕ) (why : TreeWhy) → FailsAt i c node why → node ≤ length (certificate_lines c)
fails_within i (Tops columns rows) node why h = omega (arith, h.0)
fails_within i (Tree marks) node why (inl h) = omega (arith, h.0)
fails_within i (Tree marks) node why (inr h) =
    ⊎_elim (λ lt. omega (arith, lt, length-map marks lines.Node)) (λ first. omega (arith, first)) ((faults_name_nodes h.1.0 marks node).0 why h.1.2)

past_within : (i : Space) (c : Certificate) (node column : ℕ) → LeavesRangeAt i c node column → node ≤ length (certificate_lines c)
past_within i (Tops columns rows) node column h = absurd h
past_within i (Tree marks) node column h = omega (arith, (faults_name_nodes h.1.0 marks node).1 column h.1.2, length-map marks lines.Node)

place_within : (i : Space) (carried budget : ℕ) (b : Block) (v : Verdict) → Shows i carried budget (planned b) v → place_of b v ≤ end_place b
place_within i carried budget b (verdicts.Unlawful u) shown = omega (arith, some_place b.grants u.grant _ shown.rule)
place_within i carried budget b (verdicts.WrongValue printed found) shown = omega arith
place_within i carried budget b (verdicts.WasteGrant place) shown = omega (arith, wasted_within i.bids b.grants place shown)
place_within i carried budget b (verdicts.BelowCarry printed carry) shown = omega arith
place_within i carried budget b (verdicts.BadTree node why) shown = omega (arith, fails_within i b.certificate node why shown)
place_within i carried budget b (verdicts.Past node column) shown = omega (arith, past_within i b.certificate node column shown)
place_within i carried budget b (verdicts.WrongBound printed found) shown = omega arith
place_within i carried budget b verdicts.WrongMark shown = omega arith
place_within i carried budget b verdicts.NoMemory shown = absurd shown

pub verdict_within : (i : Space) (carried budget : ℕ) (b : Block) (v : Verdict) → (v ≡ verdicts.NoMemory) ⊎ IsFirstFailed i carried budget (planned b) v → place_of b v ≤ end_place b
verdict_within i carried budget b v (inl e) = subst (λ w. place_of b w ≤ end_place b) (sym e) (omega arith)
verdict_within i carried budget b v (inr failed) = place_within i carried budget b v failed.fails

-- no line that is refused stands before the plan
pub plan_first : (b : Block) (v : Verdict) → plan_place b ≤ place_of b v
plan_first b (verdicts.Unlawful u) = omega arith
plan_first b (verdicts.WrongValue printed found) = omega arith
plan_first b (verdicts.WasteGrant place) = omega arith
plan_first b (verdicts.BelowCarry printed carry) = omega arith
plan_first b (verdicts.BadTree node why) = omega arith
plan_first b (verdicts.Past node column) = omega arith
plan_first b (verdicts.WrongBound printed found) = omega arith
plan_first b verdicts.WrongMark = omega arith
plan_first b verdicts.NoMemory = omega arith
