use Rattle.std.proofs.Common.{◌≡◌, ◌++◌, ℕ, List, length, ap, ◌∙◌, map, string_bytes, arith}
use Rattle.std.specs.Prelude.{codes}
use Rattle.std.proofs.lemmas.List.{length-map}
use lib.IntN.{ℤ}
use Rattle.tetri_ip.specs.declared.programs.Row.{Row}
use Rattle.tetri_compile.specs.Flat.{plain_row}
use Rattle.tetri_export.specs.declared.entries.Entry.{Entry}
use Rattle.tetri_export.specs.Mps.{bounds_section, columns_section, entries_from, mps_text, rights_section, rows_section}
use Rattle.tetri_export.proofs.TextLemmas.{after}
use Rattle.tetri_export.proofs.mps.add_mps.Goals as goal

pub returns : goal.returns
unfolding mps_text
returns c =
    let columns = map string_bytes c.args.columns.now in
    let names = map string_bytes c.args.names.now in
    let p = c.args.program.now in
    let rows = map plain_row p.rows.items in
    let es = entries_from 0 rows in
    let s0 = string_bytes c.args.out.now in
    let s1 = string_bytes c.add_rows_section.new.out in
    let s2 = string_bytes c.add_columns_section.new.out in
    let s3 = string_bytes c.add_rights_section.new.out in
    let s4 = string_bytes c.add_bounds_section.new.out in
    let s5 = string_bytes c.push_str.new.self in
    let t1 = rows_section names (length rows) in
    let t2 = columns_section columns names p.costs.items es in
    let t3 = rights_section names rows in
    let t4 = bounds_section columns p.lower.items p.upper.items in
    let t5 = codes "ENDATA\n" in
    let count : c.len.result ≡ length rows = omega (arith, c.len.ensures, p.rows.ok.0, length-map p.rows.items plain_row) in
    let made : c.in_ok-entries.entries.items ≡ es = c.in_ok-entries.ensures ∙ ap (λ (rs : List Row). entries_from 0 (map plain_row rs)) c.deref.ensures.value in
    let e1 : s1 ≡ s0 ++ t1 = c.in_ok-add_rows_section.ensures ∙ ap (λ (n : ℕ). s0 ++ rows_section names n) count in
    let e2 : s2 ≡ s1 ++ t2 = c.in_ok-add_columns_section.ensures
    ∙ ap (λ (cs : List ℤ). s1 ++ columns_section columns names cs c.deref-3.result.now) c.deref-2.ensures.value
    ∙ ap (λ (ds : List Entry). s1 ++ columns_section columns names p.costs.items ds) (c.deref-3.ensures.value ∙ made) in
    let e3 : s3 ≡ s2 ++ t3 = c.in_ok-add_rights_section.ensures ∙ ap (λ (rs : List Row). s2 ++ rights_section names (map plain_row rs)) c.deref-4.ensures.value in
    let e4 : s4 ≡ s3 ++ t4 = c.in_ok-add_bounds_section.ensures
    ∙ ap (λ (ls : List ℤ). s3 ++ bounds_section columns ls c.deref-6.result.now) c.deref-5.ensures.value
    ∙ ap (λ (us : List ℤ). s3 ++ bounds_section columns p.lower.items us) c.deref-6.ensures.value in
    let e5 : s5 ≡ s4 ++ t5 = c.in_ok-push_str.ensures.bytes in
    after s0 s4 s5 (t1 ++ t2 ++ t3 ++ t4) t5
    (after s0 s3 s4 (t1 ++ t2 ++ t3) t4 (after s0 s2 s3 (t1 ++ t2) t3 (after s0 s1 s2 t1 t2 e1 e2) e3) e4)
    e5
