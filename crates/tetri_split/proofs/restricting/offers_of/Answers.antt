use Rattle.std.proofs.Common.{◌≡◌, ◌∙◌, ◌==◌, ◌∷◌, ◌++◌, [], None, get_or, map, ap, sym}
use Rattle.std.specs.List.{find}
use Rattle.std.proofs.lemmas.List.{append-nil, map_push}
use Rattle.tetri_strl.specs.Tree.{Tree}
use Rattle.tetri_space.specs.Space.{bid}
use Rattle.tetri_split.proofs.RestrictingLemmas.{found_list, none_first, offers_more}
use Rattle.tetri_split.proofs.restricting.offers_of.Goals as goal
use Rattle.tetri_split.proofs.restricting.offers_of.Goals.{in-Some+in_ok-copy_expr+in_ok-push, in_default}

pub loop-job-init : goal.loop-job-init
loop-job-init c = ap (map bid) c.new-made.ensures.items ∙ sym (none_first (map bid c.args.offers.now))

pub loop-job-preserved : goal.loop-job-preserved
loop-job-preserved c =
    let jobs = c.args.jobs.now in
    let i = c.loop-job.job-index in
    let bs = map bid c.args.offers.now in
    let made = map bid c.loop-job.made.items in
    let next = offers_more jobs i bs made (map bid c.match-expr_of.made.items) c.loop-job-test.true c.requires.jobs c.requires.offers c.loop-job.invariant in
    elim c.match-expr_of.branch [
      | in-Some+in_ok-copy_expr+in_ok-push w ↦
          next
          (ap (λ v. map bid v.items) w.made-is ∙ ap (map bid) w.in_ok-push.ensures.items ∙ map_push bid c.loop-job.made.items _
          ∙ ap (λ (t : Tree). made ++ record { job = get_or jobs i 0; expr = t } ∷ []) w.in_ok-copy_expr.ensures ∙ ap (λ o. made ++ found_list o) (sym w.in-Some.ensures))
      | in_default w ↦
          let found : find (λ b. b.job == get_or jobs i 0) bs ≡ None = rw w.in_default.is at c.expr_of.ensures in
          next (ap (λ v. map bid v.items) w.made-is ∙ sym (append-nil made) ∙ ap (λ o. made ++ found_list o) (sym found))
    ]
