use Rattle.std.proofs.Common.{ap, arith, length, subst}
use Rattle.tetri_cluster.specs.Sets.{AreSets}
use Rattle.tetri_strl.specs.Tree.{tree}
use Rattle.tetri_trace.specs.Draft.{so_far}
use Rattle.tetri_trace.proofs.Demands.{text_tree_sound}
use Rattle.tetri_trace.proofs.NamedLemmas.{with_named-sets, with_named_sound}
use Rattle.tetri_trace.proofs.happen.with_work.Goals as goal

pub returns-in_ok-expr-in-Strl-clause-good : goal.returns-in_ok-expr-in-Strl-clause-good
returns-in_ok-expr-in-Strl-clause-good c = text_tree_sound c.args.at (length c.expr_of.new.reader.sets) (tree c.in_ok-expr-in-Strl.expr) c.in_ok-expr-in-Strl.ensures.good

pub returns-in_ok-expr-in-Strl-clause-same : goal.returns-in_ok-expr-in-Strl-clause-same
returns-in_ok-expr-in-Strl-clause-same c = with_named-sets (so_far c.args.draft.now) c.expr_of.new.reader c.in_ok-expr-in-Strl.ensures.adds.nodes

pub returns-in_ok-expr-in-Strl-clause-sound : goal.returns-in_ok-expr-in-Strl-clause-sound
returns-in_ok-expr-in-Strl-clause-sound c =
    with_named_sound (so_far c.args.draft.now) c.expr_of.new.reader c.requires.sound c.in_ok-expr-in-Strl.ensures.adds (subst AreSets c.sets.ensures c.len.ensures.are_sets)
    (omega (arith, c.len.ensures.value, c.len.ensures.most, ap length c.sets.ensures))

pub returns-in_ok-ask-in-Asked-clause-same : goal.returns-in_ok-ask-in-Asked-clause-same
returns-in_ok-ask-in-Asked-clause-same c = with_named-sets (so_far c.args.draft.now) c.ask_of.new.reader c.in_ok-ask-in-Asked.ensures.adds.nodes

pub returns-in_ok-ask-in-Asked-clause-sound : goal.returns-in_ok-ask-in-Asked-clause-sound
returns-in_ok-ask-in-Asked-clause-sound c =
    with_named_sound (so_far c.args.draft.now) c.ask_of.new.reader c.requires.sound c.in_ok-ask-in-Asked.ensures.adds (subst AreSets c.sets-in-Asked.ensures c.len-in-Asked.ensures.are_sets)
    (omega (arith, c.len-in-Asked.ensures.value, c.len-in-Asked.ensures.most, ap length c.sets-in-Asked.ensures))

pub returns-in_err-expr-in-Strl-clause-same : goal.returns-in_err-expr-in-Strl-clause-same
returns-in_err-expr-in-Strl-clause-same c = with_named-sets (so_far c.args.draft.now) c.expr_of.new.reader c.in_err-expr-in-Strl.ensures.adds.nodes

pub returns-in_err-ask-in-Asked-clause-same : goal.returns-in_err-ask-in-Asked-clause-same
returns-in_err-ask-in-Asked-clause-same c = with_named-sets (so_far c.args.draft.now) c.ask_of.new.reader c.in_err-ask-in-Asked.ensures.adds.nodes
