use Rattle.std.proofs.Common.{[], ◌∷◌, ◌++◌, refl, ap, ◌∙◌}
use Rattle.tetri_dictionary.specs.declared.origins.Origin.TheVariants.{Kept}
use Rattle.tetri_dictionary.proofs.Drafts.{keep_draft, keep_rows}
use Rattle.tetri_dictionary.proofs.pairs_start.keep.Goals as goal

pub returns-clause-draft : goal.returns-clause-draft
returns-clause-draft c =
    let s = c.args.draft.now in
    keep_draft c.args.columns s _ c.args.row c.is_negative_at.result c.requires.draft c.requires.row c.is_negative_at.ensures c.in_ok-push.ensures.items
    (c.in_ok-push-2.ensures.items ∙ ap (λ z. s.homes.items ++ (z ∷ [])) (c.len.ensures ∙ s.origins.ok.0))
    (c.in_ok-push-3.ensures.items ∙ ap (λ z. s.origins.items ++ (Kept z ∷ [])) (c.len-2.ensures ∙ s.rows.ok.0))
    c.in_ok-push-4.ensures.items refl

pub returns-clause-rows : goal.returns-clause-rows
returns-clause-rows c =
    let s = c.args.draft.now in
    keep_rows c.args.columns s (record { rows = c.push-4.new.self; homes = c.push-2.new.self; origins = c.push-3.new.self; below = c.push.new.self; columns = s.columns }) c.args.row c.requires.draft
    (c.in_ok-push-3.ensures.items ∙ ap (λ z. s.origins.items ++ (Kept z ∷ [])) (c.len-2.ensures ∙ s.rows.ok.0)) c.in_ok-push-4.ensures.items
