use Rattle.std.proofs.Common.{◌≡◌, ◌∙◌, ◌∷◌, ◌<◌, ℕ, List, ap, drop, length, subst, sym}
use Rattle.std.specs.Prelude.{option_map}
use Rattle.tetri_io.specs.LineReader.{place}
use Rattle.tetri_io.specs.Lines.{line_of, lines_from}
use Rattle.tetri_trace.specs.Answers.{Fails}
use Rattle.tetri_trace.specs.Draft.{so_far}
use Rattle.tetri_trace.specs.Lines.{from_lines, scenario_in}
use Rattle.tetri_trace.proofs.Ends.{goes_too_long, never_read, refused_line}
use Rattle.tetri_trace.proofs.read.read_lines.Goals as goal

pub returns-in-Err-TooLong-clause-exact : goal.returns-in-Err-TooLong-clause-exact
returns-in-Err-TooLong-clause-exact g c = λ content told.
    let long : 1048576 < length (line_of (drop (place c.lines.reader) content)) = rw c.in-Err-TooLong.field-0-is at (c.in-Err-TooLong.ensures.line content (ap (λ f. f c.args.name.now) c.lines.invariant.same ∙ told)) in
    rw c.fault_at-in-Err-TooLong.ensures (c.lines.invariant.lines content told ∙ goes_too_long (option_map so_far c.lines.draft) c.lines.line content (place c.lines.reader) long)

pub returns-in-Err-clause-exact : goal.returns-in-Err-clause-exact
returns-in-Err-clause-exact g c = λ content told.
    let here = rw c.in-Ok-Text.field-0-is at (c.in-Ok-Text.ensures.line content (ap (λ f. f c.args.name.now) c.lines.invariant.same ∙ told)) in
    let next = c.in-Ok-Text.next in
    let first : lines_from (place c.lines.reader) (drop (place c.lines.reader) content) ≡ (c.deref.result.now, next) ∷ lines_from next (drop next content) =
    here.lines ∙ ap (λ (b : List ℕ). (b, next) ∷ lines_from next (drop next content)) (sym c.deref.ensures.value) in
    subst (λ f. Fails f (scenario_in content)) (sym c.fault_at.ensures)
    (refused_line c.in-Err.stop (option_map so_far c.lines.draft) c.lines.line (c.deref.result.now, next) (lines_from next (drop next content)) (scenario_in content)
    (c.lines.invariant.lines content told ∙ ap (from_lines (option_map so_far c.lines.draft) c.lines.line) first) c.in-Err.ensures.gives)

pub returns-in-Err-clause-read : goal.returns-in-Err-clause-read
returns-in-Err-clause-read g c = λ e. absurd (never_read c.lines.line c.in-Err.stop c.fault_at.result c.fault_at.ensures e)
