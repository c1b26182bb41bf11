use Rattle.std.proofs.Common.{◌≡◌, rules, w64, codes, option_map, refl, sym, ap, ◌∙◌}
use mir.Val.{to_z, of_z}
use Rattle.std.specs.Prelude.{unwrap_or}
use Rattle.tetri_notice.proofs.WrittenLemmas.{ask_read, star_or}
use Rattle.tetri_notice.proofs.written.ask_said.Goals as goal

pub returns-clause-says : goal.returns-clause-says
returns-clause-says c =
    let ask = c.args.ask in
    let set : c.unwrap_or.result.now ≡ unwrap_or (option_map (λ s. s.now) ask.due.set) (codes "*") = ap (λ s. s.now) c.unwrap_or.ensures ∙ star_or ask.due.set _ refl in
    let k : to_z w64 (of_z w64 c.args.ask.k) ≡ c.args.ask.k = search rules in
    let dur : to_z w64 (of_z w64 c.args.ask.dur) ≡ c.args.ask.dur = search rules in
    let value : to_z w64 (of_z w64 c.args.ask.value) ≡ c.args.ask.value = search rules in
    let deadline : to_z w64 (of_z w64 c.args.ask.due.deadline) ≡ c.args.ask.due.deadline = search rules in
    rw set
    (ask_read c.args.unit c.in_ok-k.k c.in_ok-dur.dur c.in_ok-value.value c.in_ok-deadline.deadline c.in_ok-class.class (option_map (λ s. s.now) ask.due.set) ask.k ask.dur ask.value ask.due.deadline ask.class.now
    (sym (rw k at c.in_ok-k.ensures.value)) (sym (rw dur at c.in_ok-dur.ensures.value)) (sym (rw value at c.in_ok-value.ensures.value)) (sym (rw deadline at c.in_ok-deadline.ensures.value)) (sym c.in_ok-class.ensures))
