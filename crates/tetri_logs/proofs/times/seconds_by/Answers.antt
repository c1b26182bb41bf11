use Rattle.std.proofs.Common.{rules, ◌≡◌, ◌∙◌, List, ℕ, Option, Some, None, length, take, true, ap, sym, arith}
use Rattle.std.proofs.lemmas.List.{length-take-le}
use Rattle.tetri_base.specs.OptionSteps.{◌>>=◌}
use Rattle.tetri_logs.specs.Times.{day_start, has_marks, on_day, seconds_in}
use Rattle.tetri_logs.proofs.DayLemmas.{by_day, has_length}
use Rattle.tetri_logs.proofs.times.seconds_by.Goals.{then-not-is_same_day+in_ok-start, else-not-is_same_day}
use Rattle.tetri_logs.proofs.times.seconds_by.Goals as goal

-- the seconds to a moment, where those to its day are known
known_day : (xs : List ℕ) (start : Option ℕ) → has_marks xs ≡ true → day_start (take 10 xs) ≡ start → (start >>= λ s. on_day s xs) ≡ seconds_in xs
known_day xs start marks is = sym (by_day xs marks ∙ ap (λ o. o >>= λ s. on_day s xs) is)

pub returns-in_err-start-clause-value : goal.returns-in_err-start-clause-value
returns-in_err-start-clause-value c =
    let xs = c.args.text.now in
    c.from_residual.ensures ∙ known_day xs None (sym c.if-not-has_marks.ensures) (sym c.day_start.ensures.value ∙ c.in_err-start.was)

pub returns-clause-value : goal.returns-clause-value
returns-clause-value c =
    let xs = c.args.text.now in
    let last = c.if-not-is_same_day.last in
    let marks = sym c.if-not-has_marks.ensures in
    let known : day_start (take 10 xs) ≡ Some last.start = elim c.if-not-is_same_day.branch [
      | then-not-is_same_day+in_ok-start w ↦ sym w.day_start.ensures.value ∙ w.in_ok-start.was ∙ ap (λ d. Some d.start) (sym w.last-is)
      | else-not-is_same_day w ↦
          let same : take 10 xs ≡ c.args.last.now.text.now = search (rules, c.is_same_day.ensures, w.if-not-is_same_day.ensures) in
          let ten : length (take 10 xs) ≡ 10 = length-take-le 10 xs (omega (arith, has_length xs marks)) in
          ap day_start same ∙ c.requires.0 (sym (ap length same) ∙ ten) ∙ ap (λ d. Some d.start) (sym w.last-is)
    ] in
    c.on_day.ensures ∙ known_day xs (Some last.start) marks known
