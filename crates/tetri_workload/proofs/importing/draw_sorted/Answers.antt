use Rattle.std.proofs.lemmas.Result.{IfErr-weaker, IfOk-weaker}
use Rattle.tetri_logs.specs.Reading.{entries}
use Rattle.tetri_workload.specs.Import.{IsDrawn, IsRefused}
use Rattle.tetri_workload.specs.Kinds.{are_mixed}
use Rattle.tetri_workload.proofs.ImportLemmas.{all_lines}
use Rattle.tetri_workload.proofs.importing.draw_sorted.Goals as goal

pub returns-clause-drawn : goal.returns-clause-drawn
returns-clause-drawn c =
    let a = c.args in
    let es = entries (are_mixed a.nodes.now) a.format a.log.now in
    let read = c.in_ok-log.ensures in
    IfOk-weaker c.draw_listed.result _ (IsDrawn es a.nodes.now a.options.now)
    (λ drawn given. given es (all_lines (are_mixed a.nodes.now) c.are_mixed.result a.format a.log.now c.in_ok-log.log c.are_mixed.ensures read.jobs read.left read.facts read.comments))
    c.draw_listed.ensures.drawn

pub returns-clause-refused : goal.returns-clause-refused
returns-clause-refused c =
    let a = c.args in
    let es = entries (are_mixed a.nodes.now) a.format a.log.now in
    let read = c.in_ok-log.ensures in
    IfErr-weaker c.draw_listed.result _ (IsRefused es a.nodes.now a.options.now)
    (λ fault given. given es (all_lines (are_mixed a.nodes.now) c.are_mixed.result a.format a.log.now c.in_ok-log.log c.are_mixed.ensures read.jobs read.left read.facts read.comments))
    c.draw_listed.ensures.refused
