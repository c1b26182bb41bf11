-- A reading that keeps its certificate beside it.
use Rattle.std.proofs.Common.{◌≡◌, ℕ, List, refl, sym, ap, ◌∙◌, subst}
use Rattle.std.specs.Prelude.{Option, Some, None, Ok, Err}
use Rattle.tetri_cert.specs.declared.certificate.Certificate.{Certificate}
use Rattle.tetri_trace.specs.Scenario.{Scenario}
use Rattle.tetri_report.specs.Line.{line_in}
use Rattle.tetri_report.specs.Reading.{Reading, behind_line, fitting, line_answer, reading_behind, unless_refused}
use Rattle.tetri_report.specs.Strips.{BeginsBare, Telling, answer_told, bare, block_told, certificate_with, certified_reading, strip_behind, told_answer, telling_of}
use Rattle.tetri_report.specs.declared.line.ReportLine.{ReportLine}
use Rattle.tetri_report.proofs.StripLemmas.{bare_behind, begins_bare_behind, certificate_behind, line_as_told, told_bare}

module _ (t : Scenario) (s : Reading) (c : Certificate) (line : List ℕ) where
  -- the reading that both are
  abbrev whole : Reading
  whole = certified_reading s c

  told_whole : told_answer t s line ≡ told_answer t whole line
  told_whole = sym (told_bare t s line) ∙ told_bare t whole line

  behind_whole : strip_behind t s line ≡ bare (behind_line t whole line)
  behind_whole = sym (bare_behind t s line) ∙ bare_behind t whole line

  -- a line that is told, with the block that it ends
  pub told_block : (told : Telling) → told_answer t s line ≡ Ok told → line_answer t whole line ≡ Ok (block_told c told)
  told_block told answer =
      line_as_told t whole line ∙ ap (answer_told c) (sym told_whole ∙ answer)

  pub told_behind : (told : Telling) (behind : Reading) → BeginsBare whole → told_answer t s line ≡ Ok told → behind ≡ strip_behind t s line →
      certified_reading behind (certificate_with c told) ≡ behind_line t whole line
  told_behind told behind begins answer is =
      ap (λ (r : Reading). certified_reading r (certificate_with c told)) (is ∙ behind_whole)
      ∙ ap (certified_reading (bare (behind_line t whole line))) (sym (certificate_behind t whole line told begins (sym told_whole ∙ answer)))

  -- a line that is refused, and leaves the certificate
  pub refused_line : (number : ℕ) → told_answer t s line ≡ Err number → line_answer t whole line ≡ Err number
  refused_line number answer =
      line_as_told t whole line ∙ ap (answer_told c) (sym told_whole ∙ answer)

  refused_certificate : (number : ℕ) → told_answer t whole line ≡ Err number → (behind_line t whole line).block.certificate ≡ c
  refused_certificate number answer = by_fault whole.fault (fitting whole.stage (line_in t line)) answer
    where
      by_fault : (fault : Option ℕ) (o : Option ReportLine) → unless_refused fault (λ n. Err n) (telling_of whole o) ≡ Err number →
          (unless_refused fault (λ n. whole) (reading_behind whole o)).block.certificate ≡ c
      by_fault (Some n) o e = refl
      by_fault None None e = refl
      by_fault None (Some l) e = absurd cc

  pub refused_behind : (number : ℕ) (behind : Reading) → told_answer t s line ≡ Err number → behind ≡ strip_behind t s line →
      certified_reading behind c ≡ behind_line t whole line
  refused_behind number behind answer is =
      ap (λ (r : Reading). certified_reading r c) (is ∙ behind_whole)
      ∙ ap (certified_reading (bare (behind_line t whole line))) (sym (refused_certificate number (sym told_whole ∙ answer)))

  -- what was begun stays so
  pub begins_behind : (behind : Reading) → BeginsBare whole → behind ≡ behind_line t whole line → BeginsBare behind
  begins_behind behind begins is = subst BeginsBare (sym is) (begins_bare_behind t whole line begins)
