use Rattle.std.proofs.Common.{◌<◌, ◌^◌, All, subst, sym}
use Rattle.std.proofs.lemmas.Result.{IfOk-weaker}
use Rattle.tetri_state.specs.declared.happened.PieceId.{PieceId}
use Rattle.tetri_state.proofs.ToldLemmas.{all_in_order}
use Rattle.tetri_state.proofs.told.over.Goals as goal

pub returns-clause-leaves : goal.returns-clause-leaves
returns-clause-leaves c =
    let ordered = all_in_order (λ a. a.leaf < 2 ^ 32) c.loop-piece.ids.items c.loop-piece.invariant.leaves in
    IfOk-weaker c.sorted.result _ (λ v. All (λ (a : PieceId). a.leaf < 2 ^ 32) v.items)
    (λ v is. subst (All (λ (a : PieceId). a.leaf < 2 ^ 32)) (sym is) ordered) c.sorted.ensures.order
