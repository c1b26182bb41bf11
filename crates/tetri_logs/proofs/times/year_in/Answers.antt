use Rattle.std.proofs.Common.{rules, ◌≡◌, sym, Some, None}
use Rattle.tetri_logs.specs.Times.{part}
use Rattle.tetri_logs.proofs.TimeLemmas.{is_year, no_year}
use Rattle.tetri_logs.proofs.times.year_in.Goals as goal

pub returns-in_err-year : goal.returns-in_err-year
returns-in_err-year c =
    let text = c.args.text.now in
    let century : part text 0 2 ≡ Some c.in_ok-century.century = search (rules, c.pair.ensures.value, c.in_ok-century.was) in
    let none : part text 2 4 ≡ None = search (rules, c.pair-2.ensures.value, c.in_err-year.was) in
    search (rules, no_year text c.in_ok-century.century c.requires century none)

pub returns : goal.returns
returns c =
    let text = c.args.text.now in
    let century : part text 0 2 ≡ Some c.in_ok-century.century = search (rules, c.pair.ensures.value, c.in_ok-century.was) in
    let year : part text 2 4 ≡ Some c.in_ok-year.year = search (rules, c.pair-2.ensures.value, c.in_ok-year.was) in
    sym (is_year text c.in_ok-century.century c.in_ok-year.year c.requires century year)
