use Rattle.std.proofs.Common.{◌∙◌, ◌≡◌, ap, Some}
use Rattle.tetri_cluster.proofs.Repeats.{Tries, names_at, taken_at, fresh_at}
use Rattle.tetri_cluster.proofs.cluster.Cluster.number_names.Goals as goal

pub returns-then-not-branch-clause-taken : goal.returns-then-not-branch-clause-taken
returns-then-not-branch-clause-taken c = λ place e.
    let same : c.loop-place.place ≡ place = cc in
    let tries : Tries c.args.nodes.now c.loop-place.place c.index-nodes-place.result c.bytes.result.now c.loop-place.names c.in_ok-add.field-0 = record {
      within = c.loop-place-test.true;
      node = c.index-nodes-place.is;
      name_is = c.bytes.ensures.value;
      names_are = c.loop-place.invariant.names;
      test = c.in_ok-add.ensures.fresh;
    } in
    c.loop-place.invariant.repeated ∙ taken_at _ _ _ _ _ _ tries c.if-not-branch.true ∙ ap Some same

pub loop-place-preserved : goal.loop-place-preserved
loop-place-preserved c =
    let tries : Tries c.args.nodes.now c.loop-place.place c.index-nodes-place.result c.bytes.result.now c.loop-place.names c.in_ok-add.field-0 = record {
      within = c.loop-place-test.true;
      node = c.index-nodes-place.is;
      name_is = c.bytes.ensures.value;
      names_are = c.loop-place.invariant.names;
      test = c.in_ok-add.ensures.fresh;
    } in
    record {
      names = names_at _ _ _ _ _ _ tries _ c.in_ok-add.ensures.ok c.if-not-branch.false;
      repeated = c.loop-place.invariant.repeated ∙ fresh_at _ _ _ _ _ _ tries c.if-not-branch.false;
    }
