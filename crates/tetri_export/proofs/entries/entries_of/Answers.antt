use Rattle.std.proofs.Common.{◌+◌, ◌++◌, ◌<◌, List, length, get_or, drop, ap, sym, ◌∙◌, map, append_assoc, arith}
use Rattle.std.proofs.lemmas.List.{drop_more}
use Rattle.tetri_ip.specs.declared.programs.Row.{Row}
use Rattle.tetri_ip.specs.declared.programs.Term.{Term}
use Rattle.tetri_compile.specs.Flat.{plain_row}
use Rattle.tetri_export.specs.declared.entries.Entry.{Entry}
use Rattle.tetri_export.specs.Mps.{entries_from, row_entries}
use Rattle.tetri_export.proofs.entries.entries_of.Goals as goal

pub loop-row-preserved : goal.loop-row-preserved
loop-row-preserved c =
    let rs = c.args.rows.now in
    let k = c.loop-row.row in
    let r = c.index-rows-row.result in
    let old : List Entry = c.loop-row.entries.items in
    let lt : k < length rs = omega (arith, c.loop-row-test.true, c.loop-row.auto.row-end) in
    let rest : List Entry = entries_from (k + 1) (map plain_row (drop (k + 1) rs)) in
    ap (λ (es : List Entry). es ++ rest) (c.in_ok-add_entries.ensures ∙ ap (λ (ts : List Term). old ++ row_entries k ts) c.deref.ensures.value)
    ∙ append_assoc old (row_entries k (get_or rs k r).terms.items) rest
    ∙ ap (λ (qs : List Row). old ++ entries_from k (map plain_row qs)) (sym (drop_more rs k r lt)) ∙ c.loop-row.invariant
