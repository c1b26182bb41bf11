use Rattle.std.proofs.Common.{◌<◌, List, ℕ, length, rules, ap, sym, ◌∙◌, map, string_bytes, arith}
use Rattle.std.proofs.lemmas.Int.{to_z-of_z}
use mir.Val.{SFits, of_z, to_z}
use mir.Syntax.{w128}
use lib.IntN.{ℤ}
use Rattle.tetri_ip.specs.Points.{number_at}
use Rattle.tetri_export.specs.declared.entries.Entry.{Entry}
use Rattle.tetri_export.specs.Lp.{name_at}
use Rattle.tetri_export.specs.Mps.{column_text, entries_at}
use Rattle.tetri_export.proofs.EntryLemmas.{list_is}
use Rattle.tetri_export.proofs.TextLemmas.{text_next}
use Rattle.tetri_export.proofs.mps.add_columns.Goals as goal

pub loop-place-preserved : goal.loop-place-preserved
loop-place-preserved c =
    let l = c.loop-place in
    let names = map string_bytes c.args.names.now in
    let columns = map string_bytes c.args.columns.now in
    let costs = c.args.costs.now in
    let es = c.args.entries.now in
    let lists = c.in_ok-lists.lists.items in
    let fits : SFits w128 (number_at costs l.place) = search rules in
    let short : l.place < length costs = omega (arith, c.loop-place-test.true, c.loop-place.auto.place-end) in
    let within : l.place < length lists = omega (arith, short, c.in_ok-lists.ensures.count) in
    let mine = c.as_slice-mine.ensures.value ∙ sym (list_is lists l.place c.index.result.now within c.index.ensures) ∙ c.in_ok-lists.ensures.columns l.place (omega (arith, short)) in
    text_next (λ k. column_text names (name_at columns k) (number_at costs k) (entries_at es k)) l.place
    (string_bytes c.args.out.now) (string_bytes l.out) (string_bytes c.add_column.new.out) _ l.invariant c.in_ok-add_column.ensures
    (ap (λ (z : ℤ). column_text names c.name_at.result.now z c.as_slice-mine.result.now) (to_z-of_z _ _ fits)
    ∙ ap (λ (n : List ℕ). column_text names n (number_at costs l.place) c.as_slice-mine.result.now) c.name_at.ensures
    ∙ ap (λ (ds : List Entry). column_text names (name_at columns l.place) (number_at costs l.place) ds) mine)
