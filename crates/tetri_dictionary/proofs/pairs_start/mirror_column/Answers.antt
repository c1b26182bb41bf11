use Rattle.std.proofs.Common.{[], ◌∷◌, ◌++◌, Some, set, refl, sym, ap, ◌∙◌}
use lib.IntN.{ℤ}
use Rattle.tetri_dictionary.specs.declared.origins.Origin.TheVariants.{Column}
use Rattle.tetri_dictionary.specs.declared.pairs_start.Draft.{Draft}
use Rattle.tetri_dictionary.proofs.Drafts.{column_draft, column_rows}
use Rattle.tetri_dictionary.proofs.MirrorPlaces.{width_short}
use Rattle.tetri_dictionary.proofs.pairs_start.mirror_column.Goals as goal

pub returns-clause-draft : goal.returns-clause-draft
returns-clause-draft c =
    let s = c.args.draft.now in
    column_draft c.args.columns s _ c.args.place c.args.width c.requires.draft c.in_ok-push.ensures.items c.requires.within c.requires.free
    (c.in_ok-push-2.ensures.items ∙ ap (λ (w : ℤ). s.origins.items ++ (Column c.args.place w ∷ [])) (width_short c.args.width c.requires.within.width)) refl refl
    (ap (λ z. set s.columns.items c.args.place (Some z)) (c.len.ensures ∙ s.origins.ok.0))

pub returns-clause-rows : goal.returns-clause-rows
returns-clause-rows c =
    let s = c.args.draft.now in
    let t : Draft = record { rows = s.rows; homes = s.homes; origins = c.push-2.new.self; below = c.push.new.self; columns = s.columns } in
    column_rows c.args.columns s t c.args.place c.args.width
    (c.in_ok-push-2.ensures.items ∙ ap (λ (w : ℤ). s.origins.items ++ (Column c.args.place w ∷ [])) (width_short c.args.width c.requires.within.width)) refl
