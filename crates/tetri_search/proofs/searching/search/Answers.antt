use Rattle.std.proofs.Common.{◌≡◌, ℕ, sym, subst, arith, length, List}
use Rattle.tetri_cert.specs.declared.marks.Mark.{Mark}
use Rattle.tetri_search.specs.Follow.{IsEarned, last_whole}
use Rattle.tetri_search.specs.Laws.{IsBestPoint}
use Rattle.tetri_search.specs.Nodes.{AreWholePoints}
use Rattle.tetri_search.proofs.LastLemmas.{last_columns, last_in_box, last_worth}
use Rattle.tetri_search.proofs.ProperLemmas.{earned_wholes}
use Rattle.tetri_search.proofs.RiseLemmas.{wholes_rise}
use Rattle.tetri_search.proofs.searching.search.Goals as goal

pub bound_of-requires-clause-earned : goal.bound_of-requires-clause-earned
bound_of-requires-clause-earned c = (
  c.args.low,
  c.args.budget,
  subst (λ (ms : List Mark). IsEarned c.args.c.now.program c.args.low c.args.budget ms) (sym c.as_slice.ensures) c.in_ok-marks.ensures.earned,
)

pub last_point-requires : goal.last_point-requires
last_point-requires c = λ cells h.
    let p = c.args.c.now.program in
    let n : c.len-columns.result ≡ length p.costs.items = omega (arith, c.len-columns.ensures, p.costs.ok.0) in
    let w = earned_wholes p c.args.low c.args.budget c.in_ok-marks.field-0.marks c.requires.fit c.in_ok-marks.ensures.earned in
    last_columns p c.len-columns.result c.as_slice-2.result.now cells n (subst (λ (ms : List Mark). AreWholePoints p ms) (sym c.as_slice-2.ensures) w) h

pub returns-clause-point : goal.returns-clause-point
returns-clause-point c =
    let p = c.args.c.now.program in
    let n : c.len-columns.result ≡ length p.costs.items = omega (arith, c.len-columns.ensures, p.costs.ok.0) in
    let w = earned_wholes p c.args.low c.args.budget c.in_ok-marks.field-0.marks c.requires.fit c.in_ok-marks.ensures.earned in
    last_in_box p c.len-columns.result c.as_slice-2.result.now c.in_ok-last.last n (subst (λ (ms : List Mark). AreWholePoints p ms) (sym c.as_slice-2.ensures) w) c.in_ok-last.ensures

pub returns-clause-worth : goal.returns-clause-worth
returns-clause-worth c =
    let p = c.args.c.now.program in
    let n : c.len-columns.result ≡ length p.costs.items = omega (arith, c.len-columns.ensures, p.costs.ok.0) in
    let ms = c.in_ok-marks.field-0.marks in
    let w = wholes_rise p c.args.low c.args.budget ms c.requires.fit c.in_ok-marks.ensures.earned in
    let b : IsBestPoint p c.args.low (last_whole ms) c.in_ok-marks.field-0.best = subst (λ (k : ℕ). IsBestPoint p c.args.low (last_whole ms) k) (sym c.in_ok-marks.ensures.best) w in
    last_worth p c.len-columns.result c.args.low c.in_ok-marks.field-0.best c.as_slice-2.result.now c.in_ok-last.last n
    (subst (λ (xs : List Mark). IsBestPoint p c.args.low (last_whole xs) c.in_ok-marks.field-0.best) (sym c.as_slice-2.ensures) b) c.in_ok-last.ensures
