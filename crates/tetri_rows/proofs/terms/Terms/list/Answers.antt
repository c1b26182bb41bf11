use Rattle.std.proofs.Common.{◌+◌, get_or, sym, ap, ◌∙◌, subst}
use lib.IntN.{pos}
use mir.Val.{to_z}
use mir.Syntax.{w64}
use Rattle.tetri_rows.specs.declared.terms.Terms.{Terms}
use Rattle.tetri_rows.proofs.Words.{short_word}
use Rattle.tetri_rows.proofs.TermLists.{AreTermsTo, terms_none, terms_skip, terms_pushed}
use Rattle.tetri_rows.proofs.terms.Terms.list.Goals as goal
use Rattle.tetri_rows.proofs.terms.Terms.list.Goals.{then-row-k-ne0+in_ok-push+in_ok-push-2, else-row-k-ne0}

pub loop-k-init : goal.loop-k-init
loop-k-init c = terms_none c.args.row.now c.clear.new.self.items c.clear-2.new.self.items c.clear.ensures.items c.clear-2.ensures.items

pub loop-k-preserved : goal.loop-k-preserved
loop-k-preserved c =
    let k = c.loop-k.k in
    let e = short_word (get_or c.args.row.now k (pos 0)) (c.requires k (pos 0) c.loop-k-test.true) in
    elim c.if-row-k-ne0.branch [
      | then-row-k-ne0+in_ok-push+in_ok-push-2 w ↦ subst (λ (t : Terms). AreTermsTo (k + 1) t.places.items t.numbers.items c.args.row.now) (sym w.self-is)
          (terms_pushed k c.loop-k.self.places.items w.push.new.self.items c.loop-k.self.numbers.items w.push-then-row-k-ne0.new.self.items c.args.row.now _ c.loop-k.invariant w.in_ok-push.ensures.items w.in_ok-push-2.ensures.items (sym e))
      | else-row-k-ne0 w ↦ subst (λ (t : Terms). AreTermsTo (k + 1) t.places.items t.numbers.items c.args.row.now) (sym w.self-is)
          (terms_skip k c.loop-k.self.places.items c.loop-k.self.numbers.items c.args.row.now c.loop-k.invariant (sym e ∙ ap (to_z w64) w.if-row-k-ne0.false))
    ]
