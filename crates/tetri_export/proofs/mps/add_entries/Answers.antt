use Rattle.std.proofs.Common.{◌+◌, ◌++◌, List, ℕ, drop, ap, sym, ◌∙◌, map, string_bytes, append_assoc}
use Rattle.std.specs.Prelude.{flat_map, pos}
use Rattle.std.proofs.lemmas.List.{drop_more}
use Rattle.tetri_export.specs.declared.entries.Entry.{Entry}
use Rattle.tetri_export.specs.Mps.{entry_text}
use Rattle.tetri_export.proofs.mps.add_entries.Goals as goal

abbrev other : Entry
other = record { row = 0; column = 0; by = pos 0 }

pub loop-entry-preserved : goal.loop-entry-preserved
loop-entry-preserved c =
    let es = c.args.entries.now in
    let i = c.loop-entry.entry-index in
    let f = entry_text (map string_bytes c.args.names.now) c.args.name.now in
    let old = string_bytes c.loop-entry.out in
    let rest : List ℕ = flat_map f (drop (i + 1) es) in
    ap (λ (xs : List ℕ). xs ++ rest) c.in_ok-add_entry_of.ensures ∙ append_assoc old _ rest
    ∙ ap (λ (ys : List Entry). old ++ flat_map f ys) (sym (drop_more es i other c.loop-entry-test.true)) ∙ c.loop-entry.invariant
