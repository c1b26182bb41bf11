use Rattle.std.proofs.Common.{◌≡◌, ◌∷◌, [], Some, ok_or, refl, sym, ap, ◌∙◌}
use Rattle.std.proofs.lemmas.Result.{err_from_is_err_and}
use Rattle.std.proofs.lemmas.List.Elements.{All-append, All-cons, All-nil}
use Rattle.serde_json.specs.Find.{as_array}
use Rattle.serde_json.specs.View.{view, items_view}
use Rattle.tetri_notice.specs.Closures.{closure_in, closures_in, IsWithinLimits}
use Rattle.tetri_notice.specs.declared.fault.Field.TheVariants as fields
use Rattle.tetri_notice.specs.declared.fault.TraceWhy.TheVariants.{BadField}
use Rattle.tetri_notice.proofs.ItemLemmas.{reads_on, read_none, read_more, read_stops, read_all}
use Rattle.tetri_notice.proofs.Options.{some_from_ok}
use Rattle.tetri_notice.proofs.closures.closures_in.Goals as goal

pub loop-item-init : goal.loop-item-init
loop-item-init c = record {
  within = rw c.new-closures.ensures.items (All-nil IsWithinLimits);
  found = read_none _ _ c.new-closures.ensures.items;
}

pub loop-item-preserved : goal.loop-item-preserved
loop-item-preserved c =
    let l = c.loop-item in
    let x = c.in_ok-closure_in.field-0 in
    record {
      within = rw c.in_ok-push.ensures.items (All-append IsWithinLimits l.closures.items (x ∷ []) l.invariant.within (All-cons IsWithinLimits x [] c.in_ok-closure_in.ensures.within (All-nil IsWithinLimits)));
      found =
          read_more closures_in closure_in _ l.closures.items _ c.deref-item-items.result.now l.item-index c.item-item.result x (λ d ds. reads_on (closure_in d) (closures_in ds)) c.loop-item-test.true c.item-item.is
          (some_from_ok _ _ _ c.in_ok-closure_in.ensures.value) c.in_ok-push.ensures.items l.invariant.found;
    }

pub returns-in_err-closure_in : goal.returns-in_err-closure_in
returns-in_err-closure_in c =
    let p = err_from_is_err_and c.from_residual.result c.from_residual.ensures.1 in
    let l = c.loop-item in
    let a : as_array (view c.args.value.now) ≡ Some (items_view c.deref-item-items.result.now) = sym c.in-Some.ensures ∙ ap (λ vs. Some (items_view vs)) (sym c.deref-item-items.ensures.value) in
    rw (p.1, p.2) (record {
      within = tt;
      value =
          rw a
          (read_stops closures_in closure_in _ l.closures.items c.deref-item-items.result.now l.item-index c.item-item.result _ _ (λ d ds. reads_on (closure_in d) (closures_in ds)) c.loop-item-test.true c.item-item.is
          c.in_err-closure_in.ensures.value l.invariant.found);
    })

pub returns : goal.returns
returns c =
    let l = c.loop-item in
    let a : as_array (view c.args.value.now) ≡ Some (items_view c.deref-item-items.result.now) = sym c.in-Some.ensures ∙ ap (λ vs. Some (items_view vs)) (sym c.deref-item-items.ensures.value) in
    record {
      within = l.invariant.within;
      value = rw a (ap (λ o. ok_or o (BadField fields.Closures)) (read_all closures_in _ l.closures.items c.deref-item-items.result.now l.item-index refl c.loop-item-test.false l.invariant.found));
    }
