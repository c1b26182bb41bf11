use Rattle.std.proofs.Common.{◌≡◌, ◌-◌, ◌∙◌, ℕ, List, Bool, true, false, ap, sym, cond, length, map, take, vec_len, arith}
use Rattle.std.proofs.lemmas.List.{length-map, take-map}
use Rattle.tetri_io.specs.Words.{parts_at}
use Rattle.tetri_logs.specs.Lines.{ends_empty, log_lines}
use Rattle.tetri_logs.proofs.lines.log_lines.Goals.{then-ends_empty, else-ends_empty}
use Rattle.tetri_logs.proofs.lines.log_lines.Goals as goal

-- the lines, where it is known whether the last part is empty
lines_by : (log : List ℕ) (ps : List (List ℕ)) (b : Bool) → ps ≡ parts_at 10 log → ends_empty ps ≡ b → cond b (take (length ps - 1) ps) ps ≡ log_lines log
lines_by log ps b e f = ap (λ t. cond t (take (length ps - 1) ps) ps) (sym f) ∙ ap (λ qs. cond (ends_empty qs) (take (length qs - 1) qs) qs) e

pub returns : goal.returns
returns c =
    let items = c.in_ok-parts.parts.items in
    let all = map (λ x. x.now) items in
    let is : all ≡ parts_at 10 c.args.log.now = c.in_ok-parts.ensures in
    let test : ends_empty all ≡ c.ends_empty.result = ap (λ ys. ends_empty (map (λ x. x.now) ys)) (sym c.deref.ensures.value) ∙ sym c.ends_empty.ensures in
    let count : length all ≡ vec_len c.in_ok-parts.parts = length-map items (λ x. x.now) ∙ ap length (sym c.deref.ensures.value) ∙ c.deref.ensures.len in
    elim c.if-ends_empty.branch [
      | then-ends_empty w ↦
          let size : w.len.result - 1 ≡ length all - 1 = omega (arith, count, w.len.ensures) in
          ap (λ v. map (λ x. x.now) v.items) w.parts-is
          ∙ ap (map (λ x. x.now)) w.truncate.ensures.items
          ∙ sym (take-map (λ x. x.now) (w.len.result - 1) items)
          ∙ ap (λ n. take n all) size
          ∙ lines_by c.args.log.now all true is (test ∙ w.if-ends_empty.true)
      | else-ends_empty w ↦ ap (λ v. map (λ x. x.now) v.items) w.parts-is ∙ lines_by c.args.log.now all false is (test ∙ w.if-ends_empty.false)
    ]
