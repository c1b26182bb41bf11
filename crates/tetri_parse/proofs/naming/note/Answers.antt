use Rattle.std.proofs.Common.{sym, subst}
use Rattle.std.proofs.lemmas.Slice.Eq.{bytes_eq-Decides}
use Rattle.tetri_parse.specs.Reader.{NamesSet}
use Rattle.tetri_parse.proofs.Noted.{still_noted}
use Rattle.tetri_parse.proofs.naming.note.Goals as goal

pub returns-in-Ok : goal.returns-in-Ok
returns-in-Ok c = λ nodes sets names index.
    let text = c.in-Ok.text in
    let named = subst (λ t. NamesSet nodes sets t c.args.set) (sym c.in-Ok.ensures.items) names in
    still_noted nodes sets _ text c.args.set (λ k same. (bytes_eq-Decides text.items k.items).0 same) named c.args.noted.now.entries c.insert.new.self.entries c.insert.result c.insert.ensures.entries c.insert.ensures.err index
