use Rattle.std.proofs.Common.{◌≡◌, Some, ok_or, refl, sym, ap, ◌∙◌, true}
use Rattle.std.proofs.lemmas.Result.{err_from_is_err_and}
use Rattle.std.proofs.lemmas.List.Elements.{All-nil}
use Rattle.tetri_cluster.specs.Names.{is_name}
use Rattle.serde_json.specs.Find.{as_array}
use Rattle.serde_json.specs.View.{view, items_view}
use Rattle.tetri_notice.specs.Fields.{node_in, nodes_in}
use Rattle.tetri_notice.specs.declared.fault.Field.TheVariants as fields
use Rattle.tetri_notice.specs.declared.fault.TraceWhy.TheVariants.{BadField}
use Rattle.tetri_notice.proofs.ItemLemmas.{named_more, read_none, read_more, read_stops, read_all}
use Rattle.tetri_notice.proofs.Options.{some_from_ok, stops_first}
use Rattle.tetri_notice.proofs.header.nodes_in.Goals as goal

pub loop-item-init : goal.loop-item-init
loop-item-init c = record {
  named = rw c.new-nodes.ensures.items (All-nil (λ name. is_name name ≡ true));
  found = read_none _ _ c.new-nodes.ensures.items;
}

pub loop-item-preserved : goal.loop-item-preserved
loop-item-preserved c =
    let l = c.loop-item in
    let n = c.in_ok-node_in.field-0 in
    record {
      named = rw c.in_ok-push.ensures.items (named_more l.nodes.items n l.invariant.named c.in_ok-node_in.ensures.named);
      found =
          read_more nodes_in node_in _ l.nodes.items _ c.deref-item-items.result.now l.item-index c.item-item.result n (λ d ds. refl) c.loop-item-test.true c.item-item.is (some_from_ok _ _ _ c.in_ok-node_in.ensures.value) c.in_ok-push.ensures.items
          l.invariant.found;
    }

pub returns-in_err-node_in : goal.returns-in_err-node_in
returns-in_err-node_in c =
    let p = err_from_is_err_and c.from_residual-in_err-node_in.result c.from_residual-in_err-node_in.ensures.1 in
    let l = c.loop-item in
    let a : as_array (view c.args.value.now) ≡ Some (items_view c.deref-item-items.result.now) = some_from_ok _ _ _ c.in_ok-list.ensures ∙ ap (λ vs. Some (items_view vs)) (sym c.deref-item-items.ensures.value) in
    rw (p.1, p.2) (record {
      named = tt;
      value = rw a (read_stops nodes_in node_in _ l.nodes.items c.deref-item-items.result.now l.item-index c.item-item.result _ _ (λ d ds. refl) c.loop-item-test.true c.item-item.is c.in_err-node_in.ensures.value l.invariant.found);
    })

pub returns-in_err-list : goal.returns-in_err-list
returns-in_err-list c =
    let p = err_from_is_err_and c.from_residual.result c.from_residual.ensures.1 in
    rw (p.1, p.2) (record { named = tt; value = stops_first _ nodes_in _ _ c.in_err-list.ensures })

pub returns : goal.returns
returns c =
    let l = c.loop-item in
    let a : as_array (view c.args.value.now) ≡ Some (items_view c.deref-item-items.result.now) = some_from_ok _ _ _ c.in_ok-list.ensures ∙ ap (λ vs. Some (items_view vs)) (sym c.deref-item-items.ensures.value) in
    record {
      named = l.invariant.named;
      value = rw a (ap (λ o. ok_or o (BadField fields.Nodes)) (read_all nodes_in _ l.nodes.items c.deref-item-items.result.now l.item-index refl c.loop-item-test.false l.invariant.found));
    }
