use Rattle.std.proofs.Common.{◌≡◌, ◌++◌, ℕ, List, length, ap, ◌∙◌, map, string_bytes, arith}
use Rattle.std.specs.Prelude.{codes}
use lib.IntN.{ℤ}
use Rattle.tetri_ip.specs.declared.programs.Row.{Row}
use Rattle.tetri_compile.specs.Flat.{plain_row}
use Rattle.tetri_export.specs.Lp.{bounds_text, generals_text, limits_text, lp_text, objective_text}
use Rattle.tetri_export.proofs.TextLemmas.{after}
use Rattle.tetri_export.proofs.lp.add_lp.Goals as goal

pub returns : goal.returns
unfolding lp_text
returns c =
    let columns = map string_bytes c.args.columns.now in
    let names = map string_bytes c.args.names.now in
    let p = c.args.program.now in
    let s0 = string_bytes c.args.out.now in
    let s1 = string_bytes c.add_objective.new.out in
    let s2 = string_bytes c.add_limits.new.out in
    let s3 = string_bytes c.add_bounds.new.out in
    let s4 = string_bytes c.add_generals.new.out in
    let s5 = string_bytes c.push_str.new.self in
    let t1 = objective_text columns p.costs.items in
    let t2 = limits_text columns names (map plain_row p.rows.items) in
    let t3 = bounds_text columns p.lower.items p.upper.items in
    let t4 = generals_text columns (length p.costs.items) in
    let t5 = codes "End\n" in
    let e1 : s1 ≡ s0 ++ t1 = c.in_ok-add_objective.ensures ∙ ap (λ (cs : List ℤ). s0 ++ objective_text columns cs) c.deref.ensures.value in
    let e2 : s2 ≡ s1 ++ t2 = c.in_ok-add_limits.ensures ∙ ap (λ (rs : List Row). s1 ++ limits_text columns names (map plain_row rs)) c.deref-2.ensures.value in
    let e3 : s3 ≡ s2 ++ t3 = c.in_ok-add_bounds.ensures
    ∙ ap (λ (ls : List ℤ). s2 ++ bounds_text columns ls c.deref-4.result.now) c.deref-3.ensures.value
    ∙ ap (λ (us : List ℤ). s2 ++ bounds_text columns p.lower.items us) c.deref-4.ensures.value in
    let count : c.len.result ≡ length p.costs.items = omega (arith, c.len.ensures, p.costs.ok.0) in
    let e4 : s4 ≡ s3 ++ t4 = c.in_ok-add_generals.ensures ∙ ap (λ (n : ℕ). s3 ++ generals_text columns n) count in
    let e5 : s5 ≡ s4 ++ t5 = c.in_ok-push_str.ensures.bytes in
    after s0 s4 s5 (t1 ++ t2 ++ t3 ++ t4) t5
    (after s0 s3 s4 (t1 ++ t2 ++ t3) t4 (after s0 s2 s3 (t1 ++ t2) t3 (after s0 s1 s2 t1 t2 e1 e2) e3) e4)
    e5
