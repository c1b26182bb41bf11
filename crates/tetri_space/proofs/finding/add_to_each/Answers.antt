use Rattle.std.proofs.Common.{◌≡◌, ◌<◌, ◌++◌, ◌∷◌, [], Bool, false, cond, length, drop, get_or, ap, sym, ◌∙◌, arith}
use Rattle.std.proofs.lemmas.List.{append-nil, length-set}
use Rattle.tetri_base.specs.Lists.{has, list_at}
use Rattle.tetri_space.proofs.FindingLemmas.{past_lists, put_next}
use Rattle.tetri_space.proofs.finding.add_to_each.Goals as goal

pub returns-then-place-len-clause-added : goal.returns-then-place-len-clause-added
returns-then-place-len-clause-added c j lt =
    let k = c.loop-place.place-index in
    let none : has (drop k c.args.places.now) j ≡ false =
    past_lists c.args.places.now k (length c.loop-place.lists.items) j c.requires c.loop-place-test.true (omega (arith, c.if-place-len.true, c.len.ensures)) (omega (arith, lt, c.loop-place.invariant.count)) in
    sym (append-nil (list_at c.loop-place.lists.items j))
    ∙ ap (λ (b : Bool). list_at c.loop-place.lists.items j ++ cond b (c.args.number ∷ []) []) (sym none)
    ∙ c.loop-place.invariant.added j lt

pub loop-place-preserved : goal.loop-place-preserved
loop-place-preserved c =
    let within : get_or c.args.places.now c.loop-place.place-index 0 < length c.loop-place.lists.items = omega (arith, c.if-place-len.false, c.len.ensures) in
    record {
      count = length-set _ _ _ ∙ c.loop-place.invariant.count;
      added = λ j lt.
          put_next c.loop-place.lists.items c.args.places.now c.loop-place.place-index j c.args.number c.index_mut.result.now c.push.new.self c.requires c.loop-place-test.true
          within c.index_mut.ensures.value c.in_ok-push.ensures.items
          ∙ c.loop-place.invariant.added j lt;
    }
