use Rattle.std.proofs.Common.{◌<◌, sym, subst}
use Rattle.tetri_base.specs.Lists.{Each}
use Rattle.tetri_wide.specs.declared.terms.Sides.{Sides}
use Rattle.tetri_wide.specs.Entries.{AreEntriesOf}
use Rattle.tetri_wide.specs.Sketch.{form_of}
use Rattle.tetri_wide.proofs.terms.terms_between.Goals as goal

pub returns : goal.returns
returns c = λ n p q.
    let same = sym c.deref.ensures.value in
    c.in_ok-terms.ensures (form_of c.args.most.now) (form_of c.args.under.now) n
    (subst (AreEntriesOf (form_of c.args.most.now) (form_of c.args.under.now)) same c.in_ok-entries.ensures.entries)
    (subst (Each (λ (e : Sides). e.column < n)) same (c.in_ok-entries.ensures.columns n p q))
