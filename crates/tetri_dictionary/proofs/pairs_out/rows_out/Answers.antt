use Rattle.std.proofs.Common.{◌≡◌, ◌<◌, [], length, sym, subst, ◌∙◌, arith}
use Rattle.std.proofs.lemmas.List.{length-map}
use Rattle.tetri_dictionary.specs.Mirrors.{row_from}
use Rattle.tetri_dictionary.specs.Mixed.{mixed_row, mixed_rows}
use Rattle.tetri_dictionary.specs.Pairs.{table_of}
use Rattle.tetri_dictionary.proofs.WholeStart.{sound_push}
use Rattle.tetri_dictionary.proofs.WrittenOut.{pushed_next}
use Rattle.tetri_dictionary.proofs.pairs_out.rows_out.Goals as goal

pub loop-i-preserved : goal.loop-i-preserved
loop-i-preserved c =
    let t = c.args.t.now in
    let n = length t.nonbasic.items in
    let e : c.len-i-end.result ≡ length t.origins.items = c.len-i-end.ensures ∙ t.origins.ok.0 in
    let l : c.loop-i.i < length t.origins.items = omega (arith, e, c.loop-i-test.true, c.loop-i.auto.i-end) in
    record {
      front = pushed_next mixed_row ((table_of t).rows) c.loop-i.i c.loop-i.rows.items c.push.new.self.items c.in_ok-row_out.field-0 [] (subst (λ z. c.loop-i.i < z) (sym (length-map t.origins.items (row_from n (mixed_rows t.rows.items)))) l) c.in_ok-push.ensures.items
          c.in_ok-row_out.ensures.same c.loop-i.invariant.front;
      sound = sound_push n c.loop-i.rows.items c.push.new.self.items c.in_ok-row_out.field-0 c.in_ok-push.ensures.items c.loop-i.invariant.sound c.in_ok-row_out.ensures.sound;
    }
