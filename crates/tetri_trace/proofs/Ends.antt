-- Lines that are refused, and the end of a content.
use Rattle.std.proofs.Common.{◌≡◌, ℕ, ◌+◌, ◌<◌, ◌≤◌, ◌==◌, true, false, cond, List, [], ◌∷◌, ◌++◌, length, drop, refl, ap, ◌∙◌, Ok, Err, arith, lt-ltb}
use Rattle.std.specs.Prelude.{Option, Result}
use Rattle.std.proofs.lemmas.Bool.{le-ltb}
use Rattle.tetri_io.specs.Lines.{line_of, lines_from, onto}
use Rattle.tetri_io.proofs.TextLaws.{first_line, line_of-le, some_line}
use Rattle.tetri_notice.specs.Answers.{Stops}
use Rattle.tetri_trace.specs.Answers.{Fails, fault_at}
use Rattle.tetri_trace.specs.Lines.{add_line, from_lines}
use Rattle.tetri_trace.specs.Scenario.{Scenario}
use Rattle.tetri_notice.specs.declared.fault.Stop.{Stop}
use Rattle.tetri_notice.specs.declared.fault.Stop.TheVariants as stops
use Rattle.tetri_notice.specs.declared.fault.TraceFault.{TraceFault}
use Rattle.tetri_notice.specs.declared.fault.TraceFault.TheVariants as faults
use Rattle.tetri_notice.specs.declared.fault.TraceWhy.{TraceWhy}
use Rattle.tetri_notice.specs.declared.fault.TraceWhy.TheVariants.{LineTooLong}

-- a line with too many bytes is refused
too_long : (so_far : Option Scenario) (line : ℕ) (l : List ℕ × ℕ) (others : List (List ℕ × ℕ)) → 1048576 < length l.0 → from_lines so_far line (l ∷ others) ≡ Err (line, LineTooLong)
unfolding add_line
too_long so_far line l others h = rw (lt-ltb 1048576 (length l.0) h) refl

-- the next line has too many bytes
pub goes_too_long : (so_far : Option Scenario) (line : ℕ) (content : List ℕ) (offset : ℕ) → 1048576 < length (line_of (drop offset content)) → from_lines so_far line (lines_from offset (drop offset content)) ≡ Err (line, LineTooLong)
goes_too_long so_far line content offset h =
    let found = some_line offset (drop offset content) (omega (arith, h, line_of-le (drop offset content))) in
    let first = first_line offset (drop offset content) found.0.0 found.0.1 found.1 found.2 in
    ap (from_lines so_far line) found.2 ∙ too_long so_far line found.0 found.1 (omega (arith, h, ap length first.bytes_are))

-- a line that is refused is the first faulty one
pub refused_line : (stop : Stop) (so_far : Option Scenario) (line : ℕ) (l : List ℕ × ℕ) (others : List (List ℕ × ℕ)) (whole : Result Scenario (ℕ × TraceWhy)) → whole ≡ from_lines so_far line (l ∷ others) → Stops stop (add_line so_far l) → Fails (fault_at line stop) whole
refused_line (stops.Because why) so_far line l others whole e h = e ∙ rw h refl
refused_line stops.NoMemory so_far line l others whole e h = tt

-- no step stops for a read
pub never_read : {T : Type 0} (line : ℕ) (stop : Stop) (f : TraceFault) → f ≡ fault_at line stop → ◌≡◌ {A = Result T TraceFault} (Err f) (Err faults.Read) → ⊥
never_read line (stops.Because why) f e h = cc
never_read line stops.NoMemory f e h = cc
