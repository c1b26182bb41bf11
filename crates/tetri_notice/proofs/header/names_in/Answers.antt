use Rattle.std.proofs.Common.{◌++◌, ◌∷◌, [], ok_or, refl, ap, ◌∙◌}
use Rattle.std.proofs.lemmas.Result.{err_from_is_err_and}
use Rattle.tetri_notice.specs.Fields.{name_in, names_in}
use Rattle.tetri_notice.specs.declared.fault.Field.TheVariants as fields
use Rattle.tetri_notice.specs.declared.fault.TraceWhy.TheVariants.{BadField}
use Rattle.tetri_notice.proofs.ItemLemmas.{read_none, read_more, read_stops, read_all}
use Rattle.tetri_notice.proofs.Options.{some_from_ok}
use Rattle.tetri_notice.proofs.header.names_in.Goals as goal

pub loop-item-init : goal.loop-item-init
loop-item-init c = read_none _ _ c.new-names.ensures

pub loop-item-preserved : goal.loop-item-preserved
loop-item-preserved c =
    let l = c.loop-item in
    read_more names_in name_in _ l.names _ c.args.list.now l.item-index c.item-item.result c.in_ok-name.name.now (λ d ds. refl) c.loop-item-test.true c.item-item.is (some_from_ok _ _ _ c.in_ok-name.ensures.value)
    (c.in_ok-push.ensures.ok ∙ ap (λ name. l.names ++ name ∷ []) c.in_ok-read_name.ensures) l.invariant

pub returns-in_err-name : goal.returns-in_err-name
returns-in_err-name c =
    let p = err_from_is_err_and c.from_residual.result c.from_residual.ensures.1 in
    let l = c.loop-item in
    rw (p.1, p.2) (read_stops names_in name_in _ l.names c.args.list.now l.item-index c.item-item.result _ _ (λ d ds. refl) c.loop-item-test.true c.item-item.is c.in_err-name.ensures.value l.invariant)

pub returns : goal.returns
returns c =
    let l = c.loop-item in
    ap (λ o. ok_or o (BadField fields.Nodes)) (read_all names_in _ l.names c.args.list.now l.item-index refl c.loop-item-test.false l.invariant)
