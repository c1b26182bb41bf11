use Rattle.std.proofs.Common.{◌≡◌, ◌++◌, ◌∷◌, [], cond, false, bytes_eq, map, sym, ap, ◌∙◌, arith}
use Rattle.std.specs.List.{list_any}
use Rattle.tetri_space.specs.steps.Finding.{has_some}
use Rattle.tetri_base.specs.Lists.{list_at}
use Rattle.tetri_space.proofs.FindingLemmas.{skip_node, join_node, new_node, list_is, some_from, none_of_empty}
use Rattle.tetri_space.proofs.finding.group_nodes.Goals as goal
use Rattle.tetri_space.proofs.finding.group_nodes.Goals.{then-not-is_empty+in-Some+in_ok-push-in-Some, then-not-is_empty+in-None+in_ok-from_slice-in-None+in_ok-insert-in-None+in_ok-push-in-None+in_ok-push-in-None-2, else-not-is_empty}

pub index_mut-requires : goal.index_mut-requires
index_mut-requires c =
    let sigs = c.args.signatures.now in
    let n = c.loop-node.node in
    let t = c.as_slice-signature.result.now in
    let is : t ≡ list_at sigs n = c.as_slice-signature.ensures.value ∙ sym (list_is sigs n c.index-signatures-node.result c.loop-node-test.true c.index-signatures-node.is) in
    let step = join_node sigs n c.loop-node.found.keys c.loop-node.groups.items c.loop-node.invariant.signatures c.loop-node.invariant.groups t c.in-Some.place [] []
    is (some_from t (sym c.is_empty.ensures ∙ c.if-not-is_empty.true)) (sym c.in-Some.ensures.index) in
    omega (arith, step.0, c.loop-node.groups.ok.0)

pub loop-node-preserved : goal.loop-node-preserved
loop-node-preserved c =
    let sigs = c.args.signatures.now in
    let n = c.loop-node.node in
    let keys = c.loop-node.found.keys in
    let groups = c.loop-node.groups.items in
    let t = c.as_slice-signature.result.now in
    let is : t ≡ list_at sigs n = c.as_slice-signature.ensures.value ∙ sym (list_is sigs n c.index-signatures-node.result c.loop-node-test.true c.index-signatures-node.is) in
    elim c.if-not-is_empty.branch [
      | then-not-is_empty+in-Some+in_ok-push-in-Some w ↦
          let step = join_node sigs n keys groups c.loop-node.invariant.signatures c.loop-node.invariant.groups t w.in-Some.place w.index_mut.result.now w.push.new.self
          is (some_from t (sym c.is_empty.ensures ∙ w.if-not-is_empty.true)) (sym w.in-Some.ensures.index) in
          let next = step.1 w.index_mut.ensures.value w.in_ok-push-in-Some.ensures.ok in
          record { signatures = ap (λ f. map (λ v. v.items) f.keys) w.found-is ∙ next.0; groups = ap (λ v. v.items) w.groups-is ∙ next.1 }
      | then-not-is_empty+in-None+in_ok-from_slice-in-None+in_ok-insert-in-None+in_ok-push-in-None+in_ok-push-in-None-2 w ↦
          let key = w.in_ok-from_slice-in-None.field-0 in
          let absent : list_any (λ v. bytes_eq t v.items) keys ≡ false = sym w.in-None.ensures.found in
          let next = new_node sigs n keys groups c.loop-node.invariant.signatures c.loop-node.invariant.groups t key is w.in_ok-from_slice-in-None.ensures.items
          (some_from t (sym c.is_empty.ensures ∙ w.if-not-is_empty.true)) absent in
          let keys_are = w.in_ok-insert-in-None.ensures.keys
          ∙ ap (λ b. cond b keys (keys ++ key ∷ [])) (ap (λ u. list_any (λ v. bytes_eq u v.items) keys) w.in_ok-from_slice-in-None.ensures.items ∙ absent) in
          record {
            signatures = ap (λ f. map (λ v. v.items) f.keys) w.found-is ∙ ap (map (λ v. v.items)) keys_are ∙ next.0;
            groups = ap (λ v. v.items) w.groups-is ∙ w.in_ok-push-in-None-2.ensures.items ∙ ap (λ g. groups ++ g ∷ []) (w.in_ok-push-in-None.ensures.ok ∙ ap (λ g. g ++ n ∷ []) w.new-group.ensures) ∙ next.1;
          }
      | else-not-is_empty w ↦
          let step = skip_node sigs n keys groups c.loop-node.invariant.signatures c.loop-node.invariant.groups (ap has_some (sym is) ∙ none_of_empty t (sym c.is_empty.ensures ∙ w.if-not-is_empty.false)) in
          record { signatures = ap (λ f. map (λ v. v.items) f.keys) w.found-is ∙ step.0; groups = ap (λ v. v.items) w.groups-is ∙ step.1 }
    ]
