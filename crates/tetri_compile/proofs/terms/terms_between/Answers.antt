use Rattle.std.proofs.Common.{◌<◌, sym, subst}
use Rattle.tetri_base.specs.Lists.{Each}
use Rattle.tetri_compile.specs.declared.terms.Entry.{Entry}
use Rattle.tetri_compile.specs.steps.Entries.{AreEntriesOf}
use Rattle.tetri_compile.proofs.terms.terms_between.Goals as goal

pub returns : goal.returns
returns c = λ n p q.
    let same = sym c.deref.ensures.value in
    c.in_ok-terms.ensures c.args.most.now c.args.under.now n
    (subst (AreEntriesOf c.args.most.now c.args.under.now) same c.in_ok-entries.ensures.entries)
    (subst (Each (λ (e : Entry). e.column < n)) same (c.in_ok-entries.ensures.columns n p q))
