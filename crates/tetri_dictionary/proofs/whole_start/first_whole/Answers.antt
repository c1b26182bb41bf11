use Rattle.std.proofs.Common.{◌≡◌, ◌+◌, List, length, map, sym, ap, subst, ◌∙◌, arith}
use Rattle.std.proofs.lemmas.List.{length-map, map-append}
use lib.IntN.{ℤ}
use Rattle.tetri_algebra.specs.Rational.{whole_ℚ}
use Rattle.tetri_ip.specs.Points.{bounds_of}
use Rattle.tetri_dictionary.specs.declared.mixed.MixedRow.{MixedRow}
use Rattle.tetri_dictionary.specs.declared.whole.Whole.{Whole}
use Rattle.tetri_dictionary.specs.Below.{below_of}
use Rattle.tetri_dictionary.specs.Holders.{AreHolders}
use Rattle.tetri_dictionary.specs.Mixed.{mixed_row, mixed_rows, AreMixedRows}
use Rattle.tetri_dictionary.specs.Start.{first_rows, objective_row}
use Rattle.tetri_dictionary.proofs.FirstTable.{wholes}
use Rattle.tetri_dictionary.proofs.WholeStart.{first_is, rows_are, sized, sound_push, whole_sound}
use Rattle.tetri_dictionary.proofs.whole_start.first_whole.Goals as goal

pub below_of-requires : goal.below_of-requires
below_of-requires c =
    let p = c.args.p.now in
    let ne : c.len-columns.result ≡ length p.costs.items = c.len-columns.ensures ∙ p.costs.ok.0 in
    subst (λ (us : List MixedRow). AreMixedRows c.len-columns.result us) (sym c.deref-3.ensures.value) (subst (λ n. AreMixedRows n c.push.new.self.items) (sym ne)
    (sound_push (length p.costs.items) c.in_ok-rows.rows.items c.push.new.self.items _ c.in_ok-push.ensures.items c.in_ok-rows.ensures.sound c.in_ok-objective.ensures.sound))

pub holders_of-requires : goal.holders_of-requires
holders_of-requires c =
    let p = c.args.p.now in
    let ne : c.len-columns.result ≡ length p.costs.items = c.len-columns.ensures ∙ p.costs.ok.0 in
    subst (λ (us : List MixedRow). AreMixedRows c.len-columns.result us) (sym c.deref-4.ensures.value) (subst (λ n. AreMixedRows n c.push.new.self.items) (sym ne)
    (sound_push (length p.costs.items) c.in_ok-rows.rows.items c.push.new.self.items _ c.in_ok-push.ensures.items c.in_ok-rows.ensures.sound c.in_ok-objective.ensures.sound))

pub returns-clause-table : goal.returns-clause-table
returns-clause-table c =
    let p = c.args.p.now in
    let b = bounds_of c.args.r.now in
    let n = c.len-columns.result in
    let ne : n ≡ length p.costs.items = c.len-columns.ensures ∙ p.costs.ok.0 in
    let ke : c.len.result + n ≡ length p.rows.items + length p.costs.items = omega (arith, ne, c.len.ensures, p.rows.ok.0) in
    let g : mixed_rows c.push.new.self.items ≡ wholes (first_rows p b) =
    rows_are p b c.deref.result.now (mixed_rows c.in_ok-slacks.slacks.items) (mixed_rows c.in_ok-rows.rows.items) (mixed_rows c.push.new.self.items) (mixed_row c.in_ok-objective.field-0) (c.deref.ensures.value ∙ c.in_ok-start.ensures.corner) c.in_ok-slacks.ensures.numbers c.in_ok-rows.ensures.numbers
    (c.in_ok-objective.ensures.numbers ∙ ap (λ (s : List ℤ). map whole_ℚ (objective_row p.costs.items s)) (c.deref-2.ensures.value ∙ sym c.deref.ensures.value)) (ap mixed_rows c.in_ok-push.ensures.items ∙ map-append mixed_row c.in_ok-rows.rows.items _) in
    first_is p b n (c.len.result + n) c.in_ok-nonbasic.nonbasic.items c.in_ok-basic.basic.items (mixed_rows c.push.new.self.items) ne ke c.in_ok-nonbasic.ensures c.in_ok-basic.ensures g

pub returns-clause-sound : goal.returns-clause-sound
returns-clause-sound c =
    let p = c.args.p.now in
    let b = bounds_of c.args.r.now in
    let n = c.len-columns.result in
    let ne : n ≡ length p.costs.items = c.len-columns.ensures ∙ p.costs.ok.0 in
    let ke : c.len.result + n ≡ length p.rows.items + length p.costs.items = omega (arith, ne, c.len.ensures, p.rows.ok.0) in
    let g : mixed_rows c.push.new.self.items ≡ wholes (first_rows p b) =
    rows_are p b c.deref.result.now (mixed_rows c.in_ok-slacks.slacks.items) (mixed_rows c.in_ok-rows.rows.items) (mixed_rows c.push.new.self.items) (mixed_row c.in_ok-objective.field-0) (c.deref.ensures.value ∙ c.in_ok-start.ensures.corner) c.in_ok-slacks.ensures.numbers c.in_ok-rows.ensures.numbers
    (c.in_ok-objective.ensures.numbers ∙ ap (λ (s : List ℤ). map whole_ℚ (objective_row p.costs.items s)) (c.deref-2.ensures.value ∙ sym c.deref.ensures.value)) (ap mixed_rows c.in_ok-push.ensures.items ∙ map-append mixed_row c.in_ok-rows.rows.items _) in
    let t : Whole = record { nonbasic = c.in_ok-nonbasic.nonbasic; basic = c.in_ok-basic.basic; rows = c.push.new.self; below = c.in_ok-below.below; holders = c.in_ok-holders.holders; terms = c.new.result } in
    whole_sound p t
    (sized p b n (c.len.result + n) (length c.push.new.self.items) c.in_ok-nonbasic.nonbasic.items c.in_ok-basic.basic.items (mixed_rows c.push.new.self.items) c.requires.fit c.requires.in_box ne ke c.in_ok-nonbasic.ensures c.in_ok-basic.ensures g (length-map c.push.new.self.items mixed_row))
    (sound_push (length p.costs.items) c.in_ok-rows.rows.items c.push.new.self.items _ c.in_ok-push.ensures.items c.in_ok-rows.ensures.sound c.in_ok-objective.ensures.sound)
    (c.in_ok-below.ensures ∙ ap (λ (us : List MixedRow). below_of (mixed_rows us)) c.deref-3.ensures.value)
    (subst (λ k. AreHolders k c.in_ok-holders.holders.items (mixed_rows c.push.new.self.items)) ne (subst (λ (us : List MixedRow). AreHolders n c.in_ok-holders.holders.items (mixed_rows us)) c.deref-4.ensures.value c.in_ok-holders.ensures))
