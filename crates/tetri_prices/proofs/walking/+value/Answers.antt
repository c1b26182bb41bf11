use Rattle.std.proofs.Common.{◌≡◌, ◌≤◌, ◌+◌, ◌*◌, ◌<◌, ◌^◌, max, List, refl, rules, sym, ◌∙◌, ap, drop, length, subst, arith}
use Rattle.std.proofs.lemmas.List.{length-append}
use Rattle.tetri_strl.specs.declared.expr.Expr.{Expr}
use Rattle.tetri_strl.specs.declared.expr.Leaf.{Leaf}
use Rattle.tetri_strl.specs.Aligned.{EachLeafOf}
use Rattle.tetri_strl.specs.Tree.{added, greatest, join, least, leaves, leaves_of, more, scale, Tree, tree, Trees, trees}
use Rattle.tetri_strl.specs.WellMade.{AreSound, IsSound, peak, peaks}
use Rattle.tetri_strl.proofs.ExprLaws.{tree-Max, tree-Min, tree-Scale}
use Rattle.tetri_strl.specs.Worth.{added_of, greatest_of, worths_by}
use Rattle.tetri_space.specs.Partitions.{parts_of, partitions}
use Rattle.tetri_space.specs.Space.{space}
use Rattle.tetri_compile.specs.steps.Walked.{IsReady}
use Rattle.tetri_compile.specs.Walk.{best}
use Rattle.tetri_compile.proofs.ProgramLaws.{kids_next}
use Rattle.tetri_prices.specs.declared.values.Value.{Value}
use Rattle.tetri_prices.specs.Gain.{gain, gains_of, least_cost, least_costs}
use Rattle.tetri_prices.specs.Priced.{cost_for, gain_for, listed}
use Rattle.tetri_prices.specs.Prices.{rows_of}
use Rattle.tetri_prices.specs.steps.Values.{costs, gains, IsValue, tops}
use Rattle.tetri_prices.proofs.WalkLemmas.{added_fits, factor_gain, few_rest, greatest_fits, grown, grown_costs, joined_small, scaled_fits, scaled_value, some_values, sum_few}
use Rattle.tetri_prices.proofs.walking.+value.Goals as goal

pub values_of-loop-kid-preserved : goal.values_of-loop-kid-preserved
values_of-loop-kid-preserved t c =
    let s = space c.args.inst.now in
    let price = listed s.now (rows_of c.args.prices.now) in
    let own_costs = cost_for s (partitions s) price in
    let own_gains = gain_for s (partitions s) price in
    let es = c.args.kids.now in
    let k = c.loop-kid.kid-index in
    let e = c.kid-item.result in
    let rest = trees (drop (k + 1) es) in
    let cut : trees (drop k es) ≡ more (tree e) rest = kids_next es k e c.loop-kid-test.true c.kid-item.is in
    let h = c.loop-kid.invariant in
    let old = c.loop-kid.values.items in
    let new = c.push.new.self.items in
    let v = c.in_ok-value.value in
    let is = c.in_ok-value.ensures.value in
    let pushed = c.in_ok-push.ensures.items in
    let few : c.args.times * max (peak (tree e)) (greatest_of (peaks rest)) ≤ 2 ^ 80 = subst (λ (ts : Trees). c.args.times * greatest_of (peaks ts) ≤ 2 ^ 80) cut h.few in
    let many = ap (λ (ts : Trees). length (leaves_of ts)) cut in
    let split = length-append (leaves (tree e)) (leaves_of rest) in
    record {
      sound = (subst AreSound cut h.sound).1;
      ready = (subst (EachLeafOf (IsReady s (parts_of c.args.parts.now))) cut h.ready).1;
      few = (few_rest c.args.times (peak (tree e)) (greatest_of (peaks rest)) (2 ^ 80) few).1;
      few_leaves = omega (arith, h.few_leaves, many, split);
      all_tops = grown (λ (w : Value). w.top) old new v (best (tree e)) (worths_by (λ (x : Leaf). x.v) (trees (drop k es))) (worths_by (λ (x : Leaf). x.v) rest)
          (worths_by (λ (x : Leaf). x.v) (trees es)) pushed is.top (ap (worths_by (λ (x : Leaf). x.v)) cut) h.all_tops;
      all_gains = grown (λ (w : Value). w.gain) old new v (gain own_costs own_gains (tree e) c.args.times) (gains_of own_costs own_gains (trees (drop k es)) c.args.times) (gains_of own_costs own_gains rest c.args.times)
          (gains_of own_costs own_gains (trees es) c.args.times) pushed is.gain (ap (λ (ts : Trees). gains_of own_costs own_gains ts c.args.times) cut) h.all_gains;
      all_costs = grown (λ (w : Value). w.cost) old new v (least_cost own_costs (tree e)) (least_costs own_costs (trees (drop k es))) (least_costs own_costs rest)
          (least_costs own_costs (trees es)) pushed is.cost (ap (least_costs own_costs) cut) h.all_costs;
      small = omega (arith, h.small, grown_costs old new v pushed, c.in_ok-value.ensures.small, many, split);
    }

pub value_of-lowest-requires-clause-top : goal.value_of-lowest-requires-clause-top
value_of-lowest-requires-clause-top t c =
    let s = space c.args.inst.now in
    let rows = rows_of c.args.prices.now in
    let ts = trees c.deref-in-Min.result.now in
    let same : tree c.args.e.now ≡ join least ts = ap tree c.in-Min.is ∙ tree-Min c.in-Min.kids ∙ ap (λ es. join least (trees es)) (sym c.deref-in-Min.ensures.value) in
    let sound : IsSound (join least ts) = subst IsSound same c.requires.tree_sound in
    let few : c.args.times * peak (join least ts) ≤ 2 ^ 80 = subst (λ (x : Tree). c.args.times * peak x ≤ 2 ^ 80) same c.requires.few in
    let vs = c.in_ok-values-in-Min.values.items in
    let are = c.in_ok-values-in-Min.ensures.values in
    subst (λ (ws : List Value). greatest_of (tops ws) < 2 ^ 64) (sym c.deref-in-Min-2.ensures.value) (greatest_fits s rows ts c.args.times vs are sound few).0

pub value_of-lowest-requires-clause-gain : goal.value_of-lowest-requires-clause-gain
value_of-lowest-requires-clause-gain t c =
    let s = space c.args.inst.now in
    let rows = rows_of c.args.prices.now in
    let ts = trees c.deref-in-Min.result.now in
    let same : tree c.args.e.now ≡ join least ts = ap tree c.in-Min.is ∙ tree-Min c.in-Min.kids ∙ ap (λ es. join least (trees es)) (sym c.deref-in-Min.ensures.value) in
    let sound : IsSound (join least ts) = subst IsSound same c.requires.tree_sound in
    let few : c.args.times * peak (join least ts) ≤ 2 ^ 80 = subst (λ (x : Tree). c.args.times * peak x ≤ 2 ^ 80) same c.requires.few in
    let vs = c.in_ok-values-in-Min.values.items in
    let are = c.in_ok-values-in-Min.ensures.values in
    subst (λ (ws : List Value). greatest_of (gains ws) ≤ 2 ^ 80) (sym c.deref-in-Min-2.ensures.value) (greatest_fits s rows ts c.args.times vs are sound few).1

pub value_of-returns-in_ok-values-in-Max-clause-small : goal.value_of-returns-in_ok-values-in-Max-clause-small
value_of-returns-in_ok-values-in-Max-clause-small t c =
    let s = space c.args.inst.now in
    let rows = rows_of c.args.prices.now in
    let ts = trees c.deref.result.now in
    let same : tree c.args.e.now ≡ join greatest ts = ap tree c.in-Max.is ∙ tree-Max c.in-Max.kids ∙ ap (λ es. join greatest (trees es)) (sym c.deref.ensures.value) in
    let sound : IsSound (join greatest ts) = subst IsSound same c.requires.tree_sound in
    let few : c.args.times * peak (join greatest ts) ≤ 2 ^ 80 = subst (λ (x : Tree). c.args.times * peak x ≤ 2 ^ 80) same c.requires.few in
    let vs = c.in_ok-values-in-Max.values.items in
    let are = c.in_ok-values-in-Max.ensures.values in
    let small : added_of (costs c.deref-in-Max.result.now) ≤ length (leaves_of ts) * 2 ^ 82 =
    subst (λ (ws : List Value). added_of (costs ws) ≤ length (leaves_of ts) * 2 ^ 82) (sym c.deref-in-Max.ensures.value) c.in_ok-values-in-Max.ensures.small in
    subst (λ (x : Tree). c.greatest.result.cost ≤ length (leaves x) * 2 ^ 82) (sym same)
    (joined_small greatest c.deref-in-Max.result.now c.greatest.result (length (leaves_of ts) * 2 ^ 82) c.greatest.ensures small)

pub value_of-overflow_mul-result : goal.value_of-overflow_mul-result
value_of-overflow_mul-result t c =
    let s = space c.args.inst.now in
    let rows = rows_of c.args.prices.now in
    let kid = tree c.deref-in-Scale.result.now in
    let by = c.in-Scale.by in
    let same : tree c.args.e.now ≡ scale kid by = ap tree c.in-Scale.is ∙ tree-Scale c.in-Scale.kid by ∙ ap (λ (x : Expr). scale (tree x) by) (sym c.deref-in-Scale.ensures) in
    let sound : IsSound (scale kid by) = subst IsSound same c.requires.tree_sound in
    let few : c.args.times * (by * peak kid) ≤ 2 ^ 80 = subst (λ (x : Tree). c.args.times * peak x ≤ 2 ^ 80) same c.requires.few in
    let v = c.in_ok-value-in-Scale.value in
    let is = c.in_ok-value-in-Scale.ensures.value in
    omega (arith, scaled_fits s rows kid by sound v.top is.top)

pub value_of-returns-in_ok-value-in-Scale-clause-value : goal.value_of-returns-in_ok-value-in-Scale-clause-value
value_of-returns-in_ok-value-in-Scale-clause-value t c =
    let s = space c.args.inst.now in
    let rows = rows_of c.args.prices.now in
    let kid = tree c.deref-in-Scale.result.now in
    let by = c.in-Scale.by in
    let same : tree c.args.e.now ≡ scale kid by = ap tree c.in-Scale.is ∙ tree-Scale c.in-Scale.kid by ∙ ap (λ (x : Expr). scale (tree x) by) (sym c.deref-in-Scale.ensures) in
    let sound : IsSound (scale kid by) = subst IsSound same c.requires.tree_sound in
    let few : c.args.times * (by * peak kid) ≤ 2 ^ 80 = subst (λ (x : Tree). c.args.times * peak x ≤ 2 ^ 80) same c.requires.few in
    let v = c.in_ok-value-in-Scale.value in
    let is = c.in_ok-value-in-Scale.ensures.value in
    let w : Value = record { top = by * v.top; gain = v.gain; cost = v.cost } in
    let gained = factor_gain s (listed s.now rows) kid sound.0 c.args.times by c.factor-more.result c.factor-more.ensures.whole c.factor-more.ensures.past few in
    subst (λ (x : Tree). IsValue s rows x c.args.times w) (sym same) (scaled_value s rows kid c.args.times by c.factor-more.result v w is gained refl refl refl)

pub sum_value-values_of-requires : goal.sum_value-values_of-requires
sum_value-values_of-requires t c =
    let few = sum_few c.args.times (trees c.args.kids.now) (2 ^ 80) c.requires.few in (
      search rules,
      (
        c.requires.sound,
        (c.requires.partitions, (c.requires.capacities, (c.requires.prices, (c.requires.sum_sound.1, (c.requires.ready, (few, c.requires.few_leaves)))))),
      ),
    )

pub sum_value-added-requires-clause-some : goal.sum_value-added-requires-clause-some
sum_value-added-requires-clause-some t c =
    let s = space c.args.inst.now in
    let rows = rows_of c.args.prices.now in
    let ts = trees c.args.kids.now in
    let vs = c.in_ok-values.values.items in
    let are = c.in_ok-values.ensures.values in
    omega (arith, some_values s rows ts c.args.times vs are c.requires.sum_sound.0, ap (λ (ws : List Value). length ws) c.deref.ensures.value)

pub sum_value-added-requires-clause-top : goal.sum_value-added-requires-clause-top
sum_value-added-requires-clause-top t c =
    let s = space c.args.inst.now in
    let rows = rows_of c.args.prices.now in
    let ts = trees c.args.kids.now in
    let vs = c.in_ok-values.values.items in
    let are = c.in_ok-values.ensures.values in
    subst (λ (ws : List Value). added_of (tops ws) < 2 ^ 64) (sym c.deref.ensures.value) (added_fits s rows ts c.args.times vs are c.requires.sum_sound c.requires.few).0

pub sum_value-added-requires-clause-gain : goal.sum_value-added-requires-clause-gain
sum_value-added-requires-clause-gain t c =
    let s = space c.args.inst.now in
    let rows = rows_of c.args.prices.now in
    let ts = trees c.args.kids.now in
    let vs = c.in_ok-values.values.items in
    let are = c.in_ok-values.ensures.values in
    subst (λ (ws : List Value). added_of (gains ws) ≤ 2 ^ 80) (sym c.deref.ensures.value) (added_fits s rows ts c.args.times vs are c.requires.sum_sound c.requires.few).1

pub sum_value-returns-clause-small : goal.sum_value-returns-clause-small
sum_value-returns-clause-small t c =
    let s = space c.args.inst.now in
    let rows = rows_of c.args.prices.now in
    let ts = trees c.args.kids.now in
    let vs = c.in_ok-values.values.items in
    let are = c.in_ok-values.ensures.values in
    let small : added_of (costs c.deref.result.now) ≤ length (leaves_of ts) * 2 ^ 82 =
    subst (λ (ws : List Value). added_of (costs ws) ≤ length (leaves_of ts) * 2 ^ 82) (sym c.deref.ensures.value) c.in_ok-values.ensures.small in
    joined_small added c.deref.result.now c.added.result (length (leaves_of ts) * 2 ^ 82) c.added.ensures small
