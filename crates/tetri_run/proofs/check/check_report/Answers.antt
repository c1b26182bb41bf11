use Rattle.std.proofs.Common.{◌≡◌, ℕ, List, ◌<◌, ◌≤◌, ◌∙◌, [], drop, length, map, ap, inr, refl, subst, sym, arith}
use Rattle.std.specs.Prelude.{Result, Ok, Err}
use Rattle.std.proofs.lemmas.Result.{err_from_is_err_and}
use Rattle.tetri_cycles.specs.Observed.{Observed}
use Rattle.tetri_io.specs.Line.{IsLineAt, IsPlacedAfter}
use Rattle.tetri_io.specs.LineReader.{place}
use Rattle.tetri_io.specs.Lines.{line_of, lines_from}
use Rattle.tetri_io.specs.declared.line.Line.TheVariants.{Text}
use Rattle.tetri_report.specs.Block.{Block}
use Rattle.tetri_state.specs.Snapshot.{opening_state}
use Rattle.tetri_trace.specs.Scenario.{scenario}
use Rattle.tetri_run.specs.Check.{ComesTo, IsPassed, lines_in, unchecked}
use Rattle.tetri_run.specs.Checked.{AnswersLine, AnswersReport, SawEnded}
use Rattle.tetri_run.specs.Run.{in_order}
use Rattle.tetri_run.specs.declared.halt.CheckHalt.{CheckHalt}
use Rattle.tetri_run.specs.declared.why.Why.TheVariants.{LineTooLong}
use Rattle.tetri_run.proofs.StepLemmas.{comes_to_end, comes_too_long, end_accepted, end_refused, line_ends, passed_lines, saw_on, text_read}
use Rattle.tetri_run.proofs.check.check_report.Goals as goal

pub lines-preserved : goal.lines-preserved
lines-preserved g c =
    let t = scenario c.args.trace.now in
    let inv = c.lines.invariant in
    let next = c.in_ok-check_line-in-Ok-Text.ensures.answer inv.checking inv.at in
    let bytes = c.in-Ok-Text.bytes.items in
    let passed : IsPassed t inv.checking bytes next.0 = subst (λ l. IsPassed t inv.checking l next.0) c.deref.ensures.value next.1 in
    let behind : IsPlacedAfter (place c.lines.reader) (Text c.in-Ok-Text.bytes c.in-Ok-Text._next) = rw c.in-Ok-Text.field-0-is at c.in-Ok-Text.ensures.place in
    let moved : place c.next_line.new.self ≡ c.in-Ok-Text._next = rw c.in-Ok-Text.field-0-is at c.in-Ok-Text.ensures.next in
    record {
      checking = next.0;
      at = next.2;
      observed = saw_on g.O.Observer.saw t inv.checking next.0 c.deref.result.now next.1 c.args.observer.now c.lines.observer c.check_line.new.observer inv.observed
          (c.in_ok-check_line-in-Ok-Text.ensures.saw inv.checking next.1.ended inv.at next.1.reads);
      rest = λ content told outcome comes.
          let at : IsLineAt 1048576 (place c.lines.reader) content bytes c.in-Ok-Text._next = rw c.in-Ok-Text.field-0-is at (c.in-Ok-Text.ensures.line content (ap (λ f. f c.args.name.now) inv.same ∙ told)) in
          let further = subst (λ n. ComesTo t next.0 (map (λ l. l.0) (lines_from n (drop n content))) outcome) moved comes in
          inv.rest content told outcome (subst (λ ls. ComesTo t inv.checking (map (λ l. l.0) ls) outcome) (sym at.lines) (inr (next.0, passed, further)));
      number = omega (arith, inv.number, passed_lines t inv.checking next.0 c.lines.progress c.check_line.new.progress bytes inv.at passed next.2);
      counted = omega (arith, inv.counted, behind.0, moved);
      small = omega (arith, behind.1, moved);
      ahead = λ content told. c.next_line.ensures.ahead content (ap (λ f. f c.args.name.now) inv.same ∙ told);
      same = c.next_line.ensures.same ∙ inv.same;
      later = λ other. omega (arith, inv.later other, c.next_line.ensures.later other);
    }

pub returns-in-Err-TooLong-clause-answer : goal.returns-in-Err-TooLong-clause-answer
returns-in-Err-TooLong-clause-answer g c = λ content told.
    let t = scenario c.args.trace.now in
    let inv = c.lines.invariant in
    let long : 1048576 < length (line_of (drop (place c.lines.reader) content)) = rw c.in-Err-TooLong.field-0-is at (c.in-Err-TooLong.ensures.line content (ap (λ f. f c.args.name.now) inv.same ∙ told)) in
    inv.rest content told (Err (c.lines.number, LineTooLong)) (comes_too_long t inv.checking c.lines.progress content (place c.lines.reader) c.lines.number inv.at inv.number long)

pub returns-clause-answer : goal.returns-clause-answer
returns-clause-answer g c = λ content told.
    let t = scenario c.args.trace.now in
    let inv = c.lines.invariant in
    let past : length content ≤ (place c.lines.reader) = rw c.in-Ok-End.field-0-is at (c.in-Ok-End.ensures.line content (ap (λ f. f c.args.name.now) inv.same ∙ told)) in (
      inv.checking.past,
      (
        inv.rest content told (Ok inv.checking.past)
            (comes_to_end t inv.checking content (place c.lines.reader) (Ok inv.checking.past) past (end_accepted t inv.checking c.lines.progress _ inv.at c.in_ok-finish.ensures)),
        inv.observed,
      ),
    )

pub returns-in_err-finish-clause-answer : goal.returns-in_err-finish-clause-answer
returns-in_err-finish-clause-answer g c = λ content told.
    let t = scenario c.args.trace.now in
    let inv = c.lines.invariant in
    let past : length content ≤ (place c.lines.reader) = rw c.in-Ok-End.field-0-is at (c.in-Ok-End.ensures.line content (ap (λ f. f c.args.name.now) inv.same ∙ told)) in
    let err = err_from_is_err_and c.from_residual-in_err-finish.result c.from_residual-in_err-finish.ensures.1 in
    rw (err.1, err.2)
    (end_refused t inv.checking c.lines.progress content (place c.lines.reader) c.in_err-finish.field-0.0 inv.at past c.in_err-finish.ensures (ComesTo t unchecked (lines_in content))
    (λ past. Observed g.O.Observer.saw t (opening_state t) (in_order past) c.args.observer.now c.lines.observer)
    (λ outcome comes. inv.rest content told outcome comes))

pub returns-in_err-check_line-in-Ok-Text-clause-answer : goal.returns-in_err-check_line-in-Ok-Text-clause-answer
returns-in_err-check_line-in-Ok-Text-clause-answer g c = λ content told.
    let t = scenario c.args.trace.now in
    let inv = c.lines.invariant in
    let bytes = c.in-Ok-Text.bytes.items in
    let next = c.in-Ok-Text._next in
    let new = c.check_line.new.progress in
    let halt = c.in_err-check_line-in-Ok-Text.field-0.0 in
    let at : IsLineAt 1048576 (place c.lines.reader) content bytes next = rw c.in-Ok-Text.field-0-is at (c.in-Ok-Text.ensures.line content (ap (λ f. f c.args.name.now) inv.same ∙ told)) in
    let rest : List (List ℕ) = map (λ (l : List ℕ × ℕ). l.0) (lines_from next (drop next content)) in
    let err = err_from_is_err_and c.from_residual-in_err-check_line-in-Ok-Text.result c.from_residual-in_err-check_line-in-Ok-Text.ensures.1 in
    rw (err.1, err.2)
    (line_ends t inv.checking new bytes rest halt
    (subst (λ l. AnswersLine {U = Unit {0}} (Err halt) t inv.checking new l) c.deref.ensures.value (c.in_err-check_line-in-Ok-Text.ensures.answer inv.checking inv.at))
    (ComesTo t unchecked (lines_in content))
    (λ past. Observed g.O.Observer.saw t (opening_state t) (in_order past) c.args.observer.now c.check_line.new.observer)
    (λ outcome comes. inv.rest content told outcome (subst (λ ls. ComesTo t inv.checking (map (λ l. l.0) ls) outcome) (sym at.lines) comes)))

pub returns-in_err-reader-clause-answer : goal.returns-in_err-reader-clause-answer
returns-in_err-reader-clause-answer g c = λ content told.
    let p = err_from_is_err_and c.from_residual-in_err-reader.result c.from_residual-in_err-reader.ensures.1 in
    rw (p.1, p.2) tt

pub returns-in_err-finish-clause-read : goal.returns-in_err-finish-clause-read
returns-in_err-finish-clause-read g c =
    let err = err_from_is_err_and c.from_residual-in_err-finish.result c.from_residual-in_err-finish.ensures.1 in
    rw (err.1, err.2) (λ e. absurd (text_read c.in_err-finish.field-0.0 _ refl e))
