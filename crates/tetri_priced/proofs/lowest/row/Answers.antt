use Rattle.std.proofs.Common.{◌<◌, get_or, length, List, [], ℕ, ap, ◌∙◌, sym, arith}
use Rattle.std.proofs.lemmas.List.{length-map}
use Rattle.tetri_space.proofs.InstanceLaws.{list_is}
use Rattle.tetri_priced.proofs.lowest.row.Goals as goal

pub bounds-rows-part : goal.bounds-rows-part
bounds-rows-part c = omega (arith, length-map c.rows.result.now (λ v. v.items), ap length c.rows.ensures)

pub returns : goal.returns
returns c =
    let vs = c.rows.result.now in
    let there : c.args.part < length vs = omega (arith, length-map vs (λ v. v.items), ap length c.rows.ensures) in
    c.as_slice.ensures.value ∙ sym (list_is vs c.args.part c.index-rows-part.result there c.index-rows-part.is) ∙ ap (λ (rows : List (List ℕ)). get_or rows c.args.part []) c.rows.ensures
