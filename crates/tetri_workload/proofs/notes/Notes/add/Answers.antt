use Rattle.std.proofs.Common.{◌≡◌, ap, subst, true}
use Rattle.std.specs.Prelude.{◌&&◌, ◌||◌, not}
use Rattle.tetri_workload.specs.Marks.{is_marked}
use Rattle.tetri_workload.proofs.NoteLemmas.{noted-more}
use Rattle.tetri_workload.proofs.notes.Notes.add.Goals as goal

pub returns-clause-noted : goal.returns-clause-noted
returns-clause-noted c = λ submits names noted.
    let old = c.args.self.now in
    let own = subst (λ place. is_marked c.add.new.self place ≡ true) c.place_of_name.ensures c.add.ensures.own in
    noted-more old _ submits names c.args.name.now c.args.submit c.args.again own c.add.ensures.others c.max-self.ensures
    (ap (λ colon. old.plain && (c.args.again || not colon)) c.has_colon.ensures) c.requires.again noted
