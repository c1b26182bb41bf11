use Rattle.std.proofs.Common.{◌<◌, List, ℕ, [], length, ap, ◌∙◌, sym, map, string_bytes, arith}
use Rattle.std.specs.Prelude.{pos}
use Rattle.tetri_compile.specs.Flat.{FlatRow, plain_row}
use Rattle.tetri_export.specs.Lines.{right_line}
use Rattle.tetri_export.specs.Lp.{name_at, row_at}
use Rattle.tetri_export.proofs.TextLemmas.{at_map, text_next}
use Rattle.tetri_export.proofs.mps.add_rights.Goals as goal

pub loop-place-preserved : goal.loop-place-preserved
loop-place-preserved c =
    let l = c.loop-place in
    let names = map string_bytes c.args.names.now in
    let rs = c.args.rows.now in
    let row = c.index-rows-place.result in
    let short : l.place < length rs = omega (arith, c.loop-place-test.true, c.loop-place.auto.place-end) in
    let nothing : FlatRow = record { terms = []; right = pos 0 } in
    let there = at_map plain_row nothing rs l.place row short c.index-rows-place.is in
    text_next (λ k. right_line (name_at names k) (row_at (map plain_row rs) k).right) l.place
    (string_bytes c.args.out.now) (string_bytes l.out) (string_bytes c.add_right_of.new.out) _ l.invariant c.in_ok-add_right_of.ensures
    (ap (λ (n : List ℕ). right_line n row.right) c.name_at.ensures ∙ ap (λ (r : FlatRow). right_line (name_at names l.place) r.right) (sym there))
