use Rattle.std.proofs.Common.{◌<◌, ◌^◌, ◌∙◌, sym, arith}
use Rattle.tetri_search.proofs.PlainLemmas.{unmet_fits}
use Rattle.tetri_swift.proofs.single.mark_at.Goals as goal

pub overflow_cast-row : goal.overflow_cast-row
overflow_cast-row c =
    let h : c.in-Some.row < 2 ^ 32 = unmet_fits c.args.p.now c.deref.result.now c.in-Some.row c.requires.fit (sym c.first_unmet.ensures ∙ c.in-Some.is) in
    omega arith
