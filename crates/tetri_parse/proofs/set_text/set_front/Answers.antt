use Rattle.std.proofs.Common.{Ok, take, ap, ◌∙◌, sym}
use Rattle.std.proofs.lemmas.Result.{err_from_is_err_and}
use Rattle.tetri_parse.specs.SetText.{nodes_in}
use Rattle.tetri_parse.proofs.Fronts.{front_named, front_stops}
use Rattle.tetri_parse.proofs.NodeSets.{nodes_in_good}
use Rattle.tetri_parse.proofs.set_text.set_front.Goals as goal

pub returns-in_err-rest-clause-value : goal.returns-in_err-rest-clause-value
returns-in_err-rest-clause-value c =
    let p = err_from_is_err_and c.from_residual.result c.from_residual.ensures.1 in
    rw (p.1, p.2) (front_stops c.args.cluster.now c.args.text.now c.in_err-rest.field-0.0 c.in_err-rest.ensures)

pub returns-clause-value : goal.returns-clause-value
returns-clause-value c =
    let cluster = c.args.cluster.now in
    let rest = c.in_ok-rest.rest.now in
    front_named cluster c.args.text.now rest c.in_ok-rest.ensures
    ∙ ap (λ t. Ok (nodes_in cluster t, rest)) (sym (c.split_at.ensures.front ∙ ap (λ n. take n c.args.text.now) c.saturating_sub.ensures))

pub returns-clause-good : goal.returns-clause-good
returns-clause-good c = nodes_in_good c.args.cluster.now c.split_at.result.0.now
