use Rattle.std.proofs.Common.{◌≡◌, ◌+◌, ◌<◌, ◌≤◌, ◌∷◌, length, refl, set, sym, ap, subst, ◌∙◌, arith, rules}
use Rattle.std.proofs.lemmas.Int.{to_z-of_z}
use lib.IntN.{ℤ, pos, ◌*ℤ◌, neg_ℤ}
use mir.Val.{SFits, to_z, of_z}
use mir.Syntax.{w64, w128}
use Rattle.tetri_ip.specs.declared.programs.Term.{Term}
use Rattle.tetri_ip.specs.Points.{column_at, number_at, term_at}
use Rattle.tetri_ip.proofs.IntegerProgramLaws.{item_is}
use Rattle.tetri_rows.proofs.RowLaws.{short_word}
use Rattle.tetri_rows.specs.Small.{IsShort}
use Rattle.tetri_dictionary.specs.Start.{direction, slack_from}
use Rattle.tetri_dictionary.proofs.FirstRows.{all_written, first_written, term_written, written_sound}
use Rattle.tetri_dictionary.proofs.Numbers.{number_read}
use Rattle.tetri_dictionary.proofs.first_rows.short_slack.Goals as goal

pub loop-k-init : goal.loop-k-init
loop-k-init c =
    let cs = c.args.p.now.costs.items in
    let w = short_word c.in-Some.constant c.in-Some.ensures.short in
    first_written c.args.row.now.terms.items cs c.in_ok-numbers.numbers.items _ c.len.result (to_z w64 (of_z w64 c.in-Some.constant)) (c.len.ensures ∙ c.args.p.now.costs.ok.0) (c.in_ok-numbers.ensures.items_if_clones_equal (λ y e. e))
    refl (subst IsShort (sym w) c.in-Some.ensures.short)

pub index_mut-requires-in-loop-k : goal.index_mut-requires-in-loop-k
index_mut-requires-in-loop-k c =
    let ts = c.args.row.now.terms.items in
    let k = c.loop-k.k in
    let l : k < length ts = omega (arith, c.len-k-end.ensures, c.args.row.now.terms.ok.0) in
    let e : c.index-term.result.now ≡ term_at ts k = item_is ts k c.index-term.result.now (record { column = 0; by = pos 0 }) l c.index-term.ensures in
    let m : c.index-term.result.now.column < length c.args.p.now.costs.items = subst (λ (t : Term). t.column < length c.args.p.now.costs.items) (sym e) (c.requires.row.columns k l) in
    let w = c.loop-k.invariant.wide in
    omega (arith, m, w, c.loop-k.numbers.ok.0)

pub loop-k-preserved : goal.loop-k-preserved
loop-k-preserved c =
    let cs = c.args.p.now.costs.items in
    let ts = c.args.row.now.terms.items in
    let k = c.loop-k.k in
    let l : k < length ts = omega (arith, c.len-k-end.ensures, c.args.row.now.terms.ok.0) in
    let e : c.index-term.result.now ≡ term_at ts k = item_is ts k c.index-term.result.now (record { column = 0; by = pos 0 }) l c.index-term.ensures in
    let f : SFits w128 c.index-term.result.now.by = search rules in
    let ce : c.index-term.result.now.column ≡ column_at ts k = ap (λ (t : Term). t.column) e in
    let n = c.in-Some-short.number in
    let s = c.in-Some-short.ensures.short in
    let w : to_z w64 (of_z w64 n) ≡ n = short_word n s in
    let value : n ≡ neg_ℤ ((term_at ts k).by *ℤ direction (number_at cs (column_at ts k))) =
    c.in-Some-short.ensures.value ∙ number_read c.slack_number.result c.slack_number.ensures.within ∙ c.slack_number.ensures.value
    ∙ ap (λ (z : ℤ). neg_ℤ (z *ℤ direction (number_at cs c.index-term.result.now.column))) (to_z-of_z _ _ f ∙ ap (λ (t : Term). t.by) e)
    ∙ ap (λ j. neg_ℤ ((term_at ts k).by *ℤ direction (number_at cs j))) ce in
    term_written ts cs c.loop-k.numbers.items _ (to_z w64 (of_z w64 c.in-Some.constant)) (to_z w64 (of_z w64 n)) k c.index-term.result.now.column c.requires.row.ascending l (c.requires.row.columns k l) ce c.loop-k.invariant (subst IsShort (sym w) s) (w ∙ value) refl

pub returns-clause-numbers : goal.returns-clause-numbers
returns-clause-numbers c =
    let ts = c.args.row.now.terms.items in
    let h : length ts ≤ c.loop-k.k = omega (arith, c.len-k-end.ensures, c.args.row.now.terms.ok.0) in
    let g : c.loop-k.k ≤ length ts = omega (arith, c.len-k-end.ensures, c.args.row.now.terms.ok.0) in
    all_written c.args.p.now ts c.args.row.now.right (to_z w64 (of_z w64 c.in-Some.constant)) c.loop-k.k c.loop-k.numbers.items c.requires.row h g c.loop-k.invariant
    ∙ ap (λ (z : ℤ). z ∷ slack_from ts 0 c.args.p.now.costs.items) (short_word c.in-Some.constant c.in-Some.ensures.short ∙ c.in-Some.ensures.value ∙ number_read c.slack_at.result c.slack_at.ensures.within ∙ c.slack_at.ensures.value)

pub returns-clause-sound : goal.returns-clause-sound
returns-clause-sound c = written_sound c.args.row.now.terms.items c.args.p.now.costs.items (to_z w64 (of_z w64 c.in-Some.constant)) c.loop-k.k c.loop-k.numbers.items c.loop-k.invariant
