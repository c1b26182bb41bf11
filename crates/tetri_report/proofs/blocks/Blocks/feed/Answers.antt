use Rattle.std.proofs.Common.{rules, ◌≡◌, ◌∙◌, ap}
use Rattle.std.specs.Prelude.{Ok}
use Rattle.tetri_cert.specs.declared.certificate.Certificate.TheVariants.{Tops}
use Rattle.tetri_report.specs.Block.{headed}
use Rattle.tetri_report.specs.Reading.{Reading, behind_line, with_node}
use Rattle.tetri_report.specs.Strips.{certified_reading, ended, node, told_answer, tops}
use Rattle.tetri_report.proofs.BlockLemmas.{begins_behind, told_behind}
use Rattle.tetri_trace.specs.Scenario.{scenario}
use Rattle.tetri_report.proofs.blocks.Blocks.feed.Goals as goal

pub invariant_of-self-else-is_err : goal.invariant_of-self-else-is_err
invariant_of-self-else-is_err c =
    let t = scenario c.args.trace.now in
    let line = c.args.line.now in
    let s = c.self.inside.strips in
    let k = c.self.inside.certificate in
    let pushed : c.push_node.new.certificate ≡ with_node k c.in-Ok-Node.mark = search rules in
    let told : told_answer t s line ≡ Ok (node c.in-Ok-Node.mark) = rw c.in-Ok-Node.field-0-is at c.in-Ok-Node.ensures.answer in
    begins_behind t s k line (certified_reading c.feed.new.self c.push_node.new.certificate) c.self.invariant
    (ap (certified_reading c.feed.new.self) pushed
    ∙ told_behind t s k line (node c.in-Ok-Node.mark) c.feed.new.self c.self.invariant told c.in-Ok-Node.ensures.left)

pub invariant_of-self-in-Ok-Tops : goal.invariant_of-self-in-Ok-Tops
invariant_of-self-in-Ok-Tops c =
    let t = scenario c.args.trace.now in
    let line = c.args.line.now in
    let s = c.self.inside.strips in
    let k = c.self.inside.certificate in
    let told : told_answer t s line ≡ Ok (tops c.in-Ok-Tops.columns c.in-Ok-Tops.rows) = rw c.in-Ok-Tops.field-0-is at c.in-Ok-Tops.ensures.answer in
    begins_behind t s k line (certified_reading c.feed.new.self (Tops c.in-Ok-Tops.columns c.in-Ok-Tops.rows)) c.self.invariant
    (told_behind t s k line (tops c.in-Ok-Tops.columns c.in-Ok-Tops.rows) c.feed.new.self c.self.invariant told c.in-Ok-Tops.ensures.left)

pub returns-in-Ok-Block-clause-left : goal.returns-in-Ok-Block-clause-left
returns-in-Ok-Block-clause-left c =
    let t = scenario c.args.trace.now in
    let line = c.args.line.now in
    let s = c.self.inside.strips in
    let k = c.self.inside.certificate in
    let told : told_answer t s line ≡ Ok (ended (headed c.in-Ok-Block.head (Tops 0 0))) = rw c.in-Ok-Block.field-0-is at c.in-Ok-Block.ensures.answer in
    ap (certified_reading c.feed.new.self) c.replace-certificate.ensures.after
    ∙ told_behind t s k line (ended (headed c.in-Ok-Block.head (Tops 0 0))) c.feed.new.self c.self.invariant told c.in-Ok-Block.ensures.left
    ∙ ap (λ (r : Reading). behind_line t r line) c.self.view_is
