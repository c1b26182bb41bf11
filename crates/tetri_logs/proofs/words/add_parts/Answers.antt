use Rattle.std.proofs.Common.{◌≡◌, ◌+◌, ◌-◌, ◌∙◌, ◌++◌, List, ℕ, Bor, drop, length, map, min, ap, refl, arith}
use Rattle.std.specs.Prelude.{◌==◌}
use Rattle.std.specs.List.{position_or_len}
use Rattle.std.proofs.lemmas.List.{map_push}
use Rattle.std.proofs.lemmas.Nat.{and_le_r}
use Rattle.tetri_io.specs.Words.{parts_at}
use Rattle.tetri_logs.proofs.ScanLemmas.{all_left, first_left, left, next_left, none_left, part_next}
use lib.Count.{count_trailing_zeros}
use Rattle.tetri_logs.proofs.words.add_parts.Goals as goal

pub loop-found-init : goal.loop-found-init
loop-found-init c =
    let p = λ (b : ℕ). b == c.args.mark in
    let xs = c.args.line.now in
    let at = c.args.at in
    let none : 0 ≡ c.args.begin - at = omega arith in
    let there : at ≡ at + (c.args.begin - at) = omega arith in
    record {
      inside = omega arith;
      found = c.marks_from-found.ensures ∙ all_left p xs at (omega arith) ∙ ap (λ j. left p xs at j (min (at + 64) (length xs))) none;
      next = c.requires.next ∙ ap (λ i. i + position_or_len p (drop i xs)) there;
      same = refl;
    }

pub slice_bounds-push-count : goal.slice_bounds-push-count
slice_bounds-push-count c =
    let xs = c.args.line.now in
    let gone = c.loop-found.begin - c.args.at in
    let inv = c.loop-found.invariant in
    let first = first_left (λ b. b == c.args.mark) xs c.args.at gone (min (c.args.at + 64) (length xs)) c.loop-found.found (omega arith) (omega arith) (omega arith) inv.found c.loop-found-test.true c.loop-found.auto.found-fits.fits in
    omega (arith, first, inv.next)

pub slice_bounds-push-start : goal.slice_bounds-push-start
slice_bounds-push-start c =
    let xs = c.args.line.now in
    let gone = c.loop-found.begin - c.args.at in
    let inv = c.loop-found.invariant in
    let first = first_left (λ b. b == c.args.mark) xs c.args.at gone (min (c.args.at + 64) (length xs)) c.loop-found.found (omega arith) (omega arith) (omega arith) inv.found c.loop-found-test.true c.loop-found.auto.found-fits.fits in
    omega (arith, first, inv.next)

pub slice_bounds-push-end : goal.slice_bounds-push-end
slice_bounds-push-end c =
    let xs = c.args.line.now in
    let gone = c.loop-found.begin - c.args.at in
    let inv = c.loop-found.invariant in
    let first = first_left (λ b. b == c.args.mark) xs c.args.at gone (min (c.args.at + 64) (length xs)) c.loop-found.found (omega arith) (omega arith) (omega arith) inv.found c.loop-found-test.true c.loop-found.auto.found-fits.fits in
    omega (arith, first, inv.next)

pub loop-found-preserved : goal.loop-found-preserved
loop-found-preserved c =
    let p = λ (b : ℕ). b == c.args.mark in
    let xs = c.args.line.now in
    let at = c.args.at in
    let begin = c.loop-found.begin in
    let found = c.loop-found.found in
    let stop = min (at + 64) (length xs) in
    let inv = c.loop-found.invariant in
    let first = first_left p xs at (begin - at) stop found (omega arith) (omega arith) (omega arith) inv.found c.loop-found-test.true c.loop-found.auto.found-fits.fits in
    let next = next_left p xs at (begin - at) stop found (omega arith) (omega arith) (omega arith) inv.found c.loop-found-test.true c.loop-found.auto.found-fits.fits in
    let end = at + count_trailing_zeros 64 found in
    let gone : count_trailing_zeros 64 found + 1 ≡ end + 1 - at = omega arith in
    let there : end + 1 ≡ at + (end + 1 - at) = omega arith in
    let shown = map (λ (x : Bor (List ℕ)). x.now) in
    let before = c.loop-found.parts.items in
    record {
      inside = omega (arith, first);
      found = next ∙ ap (λ j. left p xs at j stop) gone;
      next = ap (λ i. i + position_or_len p (drop i xs)) there;
      same = ap (λ ws. ws ++ parts_at c.args.mark (drop (end + 1) xs)) (ap shown c.in_ok-push.ensures.items ∙ map_push (λ x. x.now) before _)
          ∙ part_next p xs begin end (shown before) _ (omega arith) (omega (arith, first, inv.next)) (omega (arith, first)) inv.same;
    }

pub loop-found-smaller : goal.loop-found-smaller
loop-found-smaller c = omega (arith, and_le_r c.loop-found.found (c.loop-found.found - 1), c.loop-found-test.true)

pub returns-clause-next : goal.returns-clause-next
returns-clause-next c =
    let xs = c.args.line.now in
    let gone = c.loop-found.begin - c.args.at in
    let inv = c.loop-found.invariant in
    inv.next ∙ none_left (λ b. b == c.args.mark) xs c.args.at gone (min (c.args.at + 64) (length xs)) c.loop-found.found (omega arith) (omega arith) (omega arith) inv.found c.loop-found-test.false
