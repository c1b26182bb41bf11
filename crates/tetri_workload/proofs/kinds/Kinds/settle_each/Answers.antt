use Rattle.std.proofs.Common.{◌≡◌, ◌+◌, ◌<◌, ◌∙◌, ◌++◌, length, map, take, drop, set, ap, sym, subst, rules, arith}
use Rattle.std.specs.Prelude.{Some}
use Rattle.std.proofs.lemmas.List.Edits.{map_over_more}
use Rattle.std.proofs.lemmas.List.{take_all, drop_all, get_or_default}
use Rattle.tetri_workload.specs.Kinds.{members, settled}
use Rattle.tetri_workload.proofs.kinds.Kinds.settle_each.Goals as goal

pub loop-i-preserved : goal.loop-i-preserved
loop-i-preserved c =
    let nodes = c.args.nodes.now in
    let all = c.args.jobs.items in
    let now = c.loop-i.jobs.items in
    let i = c.loop-i.i in
    let job = c.index_mut.result.now in
    let within : i < length now = omega arith in
    let read : c.index.result.now ≡ job = c.index.ensures ∙ get_or_default now i c.index.result.now job within ∙ sym c.index_mut.ensures.value in
    let size : c.in_ok-room.room ≡ length (members nodes job.set) =
    c.in_ok-room.ensures.room ∙ ap (λ text. length (members nodes text)) (c.as_bytes.ensures.value ∙ c.text.ensures ∙ ap (λ j. j.set) read) in
    record {
      known = c.in_ok-room.ensures.known;
      same = subst (λ n. set now i (record job { account = record job.account { room = Some n } }) ≡ map (settled nodes) (take (i + 1) all) ++ drop (i + 1) all) (sym size)
          (map_over_more (settled nodes) all now i job (omega arith) c.loop-i.invariant.same c.index_mut.ensures.value);
      count = search rules;
    }

pub returns-clause-jobs : goal.returns-clause-jobs
returns-clause-jobs c = search (rules, take_all, drop_all)
