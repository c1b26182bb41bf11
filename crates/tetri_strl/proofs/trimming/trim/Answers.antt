use Rattle.std.proofs.Common.{◌≡◌, ◌==◌, ◌++◌, ◌∙◌, not, List, ap, sym, subst}
use Rattle.std.specs.List.{list_any}
use Rattle.tetri_strl.specs.declared.grants.Grant.{Grant}
use Rattle.tetri_strl.specs.Thrifty.{IsThriftyFor}
use Rattle.tetri_strl.specs.Tree.{tree}
use Rattle.tetri_strl.specs.Trim.{idle, trimmed}
use Rattle.tetri_strl.specs.Worth.{leaf_worth, worth_of}
use Rattle.tetri_strl.proofs.PartsApart.{apart_of_pairs}
use Rattle.tetri_strl.proofs.TrimOfOthers.{filter-both}
use Rattle.tetri_strl.proofs.TrimThrift.{trimmed_thrifty}
use Rattle.tetri_strl.proofs.TrimWorth.{trimmed_worth}
use Rattle.tetri_strl.proofs.trimming.trim.Goals as goal

pub returns-clause-list : goal.returns-clause-list
returns-clause-list c =
    c.in_ok-trim_into.ensures ∙ ap (λ (xs : List Grant). xs ++ trimmed c.as_slice.result.now c.args.job (tree c.args.e.now)) c.new-made.ensures
    ∙ ap (λ a. trimmed a c.args.job (tree c.args.e.now)) c.as_slice.ensures

pub returns-clause-part : goal.returns-clause-part
returns-clause-part c =
    let ns = idle (leaf_worth c.args.a.now c.args.job) (tree c.args.e.now) in
    (λ (g : Grant). not (list_any (λ n. n == g.leaf) ns), returns-clause-list c ∙ filter-both (λ g. g.job == c.args.job) (λ g. not (list_any (λ n. n == g.leaf) ns)) c.args.a.now)

pub returns-clause-thrifty : goal.returns-clause-thrifty
returns-clause-thrifty c =
    subst (λ made. IsThriftyFor made c.args.job (tree c.args.e.now)) (sym (returns-clause-list c))
    (trimmed_thrifty c.args.a.now c.args.job (tree c.args.e.now) c.requires.sound (apart_of_pairs (tree c.args.e.now) c.requires.distinct))

pub returns-clause-worth : goal.returns-clause-worth
returns-clause-worth c =
    subst (λ made. worth_of made c.args.job (tree c.args.e.now) ≡ worth_of c.args.a.now c.args.job (tree c.args.e.now)) (sym (returns-clause-list c))
    (trimmed_worth c.args.a.now c.args.job (tree c.args.e.now) c.requires.sound (apart_of_pairs (tree c.args.e.now) c.requires.distinct))
