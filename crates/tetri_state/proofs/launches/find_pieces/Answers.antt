use Rattle.std.proofs.Common.{◌≡◌, ◌<◌, ◌^◌, ◌∙◌, List, All, ap, arith, length, rules, subst, sym, take}
use Rattle.std.proofs.Math.Seq.{take-length}
use Rattle.std.proofs.lemmas.Grind.{common_steps}
use Rattle.std.proofs.lemmas.List.Elements.{All-contains, All-more}
use Rattle.tetri_space.proofs.InstanceLaws.{leaf_in-within, offered_leaf}
use Rattle.tetri_space.specs.Space.{Bid, space}
use Rattle.tetri_strl.specs.declared.grants.Grant.{Grant}
use Rattle.tetri_trace.specs.Scenario.{scenario}
use Rattle.tetri_state.proofs.launches.find_pieces.Goals as goal

pub piece_of-requires-clause-good : goal.piece_of-requires-clause-good
piece_of-requires-clause-good c =
    let g = c.grant-item.result in
    (offered_leaf (space c.args.inst.now) g.job g.leaf c.in-Some.leaf c.requires.instance (sym c.leaf_named-leaf.ensures.leaf ∙ c.in-Some.is)).0

pub piece_of-requires-clause-known : goal.piece_of-requires-clause-known
piece_of-requires-clause-known c =
    let g = c.grant-item.result in
    let i = space c.args.inst.now in
    let n = length (scenario c.args.trace.now).submissions in
    let b = leaf_in-within i.bids g.job g.leaf c.in-Some.leaf (sym c.leaf_named-leaf.ensures.leaf ∙ c.in-Some.is) in
    subst (λ j. j < n) b.1.of_job (All-contains (λ (d : Bid). d.job < n) i.bids b.0 c.requires.known b.1.pending)

pub loop-grant-preserved : goal.loop-grant-preserved
loop-grant-preserved c = record {
  starts = first_of (search rules, grind (arith, common_steps));
  pieces = first_of (search rules, grind (arith, common_steps));
  leaves =
      All-more (λ (g : Grant). g.leaf < 2 ^ 32) c.args.grants.now c.loop-grant.grant-index c.grant-item.result c.loop-grant-test.true c.loop-grant.invariant.leaves
      (subst (λ (g : Grant). g.leaf < 2 ^ 32) c.grant-item.is c.leaf_named-leaf.ensures.number);
}

pub returns-clause-leaves : goal.returns-clause-leaves
returns-clause-leaves c =
    let end : c.loop-grant.grant-index ≡ length c.args.grants.now = omega arith in
    subst (λ (gs : List Grant). All (λ (g : Grant). g.leaf < 2 ^ 32) gs) (ap (λ n. take n c.args.grants.now) end ∙ take-length c.args.grants.now) c.loop-grant.invariant.leaves
