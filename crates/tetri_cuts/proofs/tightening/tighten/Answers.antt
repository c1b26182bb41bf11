use Rattle.std.proofs.Common.{◌≡◌, arith, length}
use Rattle.tetri_cuts.proofs.RoundLemmas.{first_holds, is_less, next_holds, next_root, tightened}
use Rattle.tetri_cuts.proofs.tightening.tighten.Goals as goal

pub adding-init : goal.adding-init
adding-init c = first_holds c.args.p.now c.in_ok-current.current c.new-cuts.result.items c.new-cuts.ensures.items c.requires.fit c.requires.lower c.in_ok-current.ensures

pub adding-preserved : goal.adding-preserved
adding-preserved c =
    let n : c.len.result ≡ length c.adding.cuts.items = omega arith in
    next_holds c.args.p.now c.adding.cuts.items c.adding.current c.adding.root c.adding.invariant c.in_ok-round.round.root c.or-root.result c.in_ok-round.round.cut c.in-Some.added c.len.result _ _
    c.in_ok-round.ensures.root c.or-root.ensures n c.in_ok-round.ensures.cut c.in-Some.is c.in_ok-push_row.ensures c.in_ok-push.ensures.items

pub adding-smaller : goal.adding-smaller
adding-smaller c =
    let n : c.len.result ≡ length c.adding.cuts.items = omega arith in
    is_less c.args.p.now c.adding.cuts.items c.adding.current c.adding.root c.adding.invariant c.in_ok-round.round.cut c.in-Some.added c.len.result _ n c.in_ok-round.ensures.cut c.in-Some.is c.in_ok-push.ensures.items

pub returns-in_default-clause-tightened : goal.returns-in_default-clause-tightened
returns-in_default-clause-tightened c =
    let n : c.len.result ≡ length c.adding.cuts.items = omega arith in
    tightened c.args.p.now c.adding.cuts.items c.adding.current c.adding.root c.adding.invariant c.in_ok-round.round.root c.or-root.result c.in_ok-round.round.cut c.len.result
    c.in_ok-round.ensures.root c.or-root.ensures n c.in_ok-round.ensures.cut c.in_default.is

pub returns-in_default-clause-met : goal.returns-in_default-clause-met
returns-in_default-clause-met c = c.adding.invariant.met

pub returns-in_default-clause-bound : goal.returns-in_default-clause-bound
returns-in_default-clause-bound c =
    (next_root c.args.p.now c.adding.cuts.items c.adding.current c.adding.root c.adding.invariant c.in_ok-round.round.root c.or-root.result c.in_ok-round.ensures.root c.or-root.ensures).bound
