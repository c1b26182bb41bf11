use Rattle.std.proofs.Common.{◌++◌, ◌∙◌, ap, sym}
use Rattle.std.proofs.lemmas.List.{append-nil, drop_all}
use Rattle.std.specs.List.{filter}
use Rattle.tetri_strl.specs.Trim.{earns}
use Rattle.tetri_strl.proofs.trimming.trim_into.Goals as goal

pub returns : goal.returns
returns c =
    let left = ap (λ gs. c.loop-grant.made ++ filter (earns c.args.job c.in_ok-idle.idle.items) gs)
    (drop_all c.loop-grant.grant-index c.args.grants.now c.loop-grant-test.false) in
    sym (append-nil c.loop-grant.made) ∙ sym left ∙ c.loop-grant.invariant
    ∙ ap (λ ns. c.args.made.now ++ filter (earns c.args.job ns) c.args.grants.now) c.in_ok-idle.ensures
