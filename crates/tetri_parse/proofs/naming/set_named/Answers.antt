use Rattle.std.proofs.Common.{sym, ◌∙◌}
use Rattle.std.proofs.lemmas.Slice.Eq.{bytes_eq-Decides}
use Rattle.tetri_parse.proofs.Noted.{looked_up, set_again}
use Rattle.tetri_parse.proofs.naming.set_named.Goals as goal

pub returns-in-Some-clause-value : goal.returns-in-Some-clause-value
returns-in-Some-clause-value c =
    let nodes = c.args.cluster.now in
    let sets = c.args.sets.now in
    let text = c.args.text.now in
    let names = looked_up nodes sets _ text (λ k same. (bytes_eq-Decides text k.items).0 same) c.args.noted.now.entries c.in-Some.set (sym c.get.ensures.value ∙ sym c.copied.ensures ∙ c.in-Some.is) c.requires in
    set_again nodes c.args.left sets text c.in-Some.set names

pub returns-in-Some-clause-number : goal.returns-in-Some-clause-number
returns-in-Some-clause-number c =
    let nodes = c.args.cluster.now in
    let sets = c.args.sets.now in
    let text = c.args.text.now in
    let names = looked_up nodes sets _ text (λ k same. (bytes_eq-Decides text k.items).0 same) c.args.noted.now.entries c.in-Some.set (sym c.get.ensures.value ∙ sym c.copied.ensures ∙ c.in-Some.is) c.requires in
    names.known
