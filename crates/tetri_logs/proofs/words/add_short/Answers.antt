use Rattle.std.proofs.Common.{◌+◌, ◌∙◌, ◌++◌, List, ℕ, Bor, drop, map, ap, arith}
use Rattle.std.specs.Prelude.{◌==◌}
use Rattle.std.proofs.lemmas.List.{map_push}
use Rattle.tetri_io.specs.Words.{parts_at}
use Rattle.tetri_logs.proofs.ScanLemmas.{part_last, part_next}
use Rattle.tetri_logs.proofs.words.add_short.Goals as goal

abbrev shown : List (Bor (List ℕ)) → List (List ℕ)
shown parts = map (λ x. x.now) parts

pub loop-end-preserved : goal.loop-end-preserved
loop-end-preserved c =
    let xs = c.args.line.now in
    let mark = c.args.mark in
    let end = c.loop-end.end in
    let before = c.loop-end.parts.items in
    let inv = c.loop-end.invariant in
    record {
      inside = omega arith;
      next = c.next_place-end-in-loop-end.ensures;
      same = ap (λ ws. ws ++ parts_at mark (drop (end + 1) xs)) (ap shown c.in_ok-push.ensures.items ∙ map_push (λ x. x.now) before _)
          ∙ part_next (λ b. b == mark) xs c.loop-end.begin end (shown before) _ inv.inside inv.next c.loop-end-test.true inv.same;
    }

pub returns-clause-parts : goal.returns-clause-parts
returns-clause-parts c =
    let inv = c.loop-end.invariant in
    part_last (λ b. b == c.args.mark) c.args.line.now c.loop-end.begin (shown c.loop-end.parts.items) _ inv.inside (omega (arith, inv.next, c.loop-end-test.false)) inv.same
