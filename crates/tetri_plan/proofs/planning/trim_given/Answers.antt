use mathlib.Core.Path.{fun_ext}
use Rattle.std.proofs.Common.{◌≡◌, ◌∙◌, Bool, List, ap, subst, rules, of_calls}
use Rattle.std.specs.List.Sorted.{IsStableBy}
use Rattle.std.specs.Ordering.{is_lt, nat_cmp}
use Rattle.std.proofs.lemmas.Fn.{always_returns_same}
use Rattle.std.proofs.lemmas.Result.{IfOk-weaker}
use Rattle.tetri_base.proofs.OrderLaws.{test_last}
use Rattle.tetri_strl.specs.declared.grants.Grant.{Grant}
use Rattle.tetri_space.specs.Space.{space}
use Rattle.tetri_space.specs.Trimmed.{all_trimmed}
use Rattle.tetri_plan.proofs.TrimLemmas.{job_first, trimmed_stably}
use Rattle.tetri_plan.proofs.planning.trim_given.Goals as goal

-- the order of the keys
abbrev key_lt : Grant → Grant → Bool
key_lt g h = is_lt (nat_cmp g.job h.job)

-- is that of the jobs
same_order : key_lt ≡ job_first
same_order = fun_ext (λ (g : Grant). fun_ext (λ (h : Grant). test_last g.job h.job))

pub returns : goal.returns
returns c =
    let s = space c.args.inst.now in
    let old = c.into_items-grants.result.items in
    let new = c.sort_by_key.new.self.items in
    let stable : IsStableBy job_first old new =
    subst (λ (lt : Grant → Grant → Bool). IsStableBy lt old new) same_order
    (c.in_ok-sort_by_key.ensures.stable (λ (g : Grant). g.job) (always_returns_same _ _ _ (λ a r f k. search (rules, of_calls)))) in
    let same : all_trimmed s c.of-by_job.result ≡ all_trimmed s c.args.a.now =
    ap (all_trimmed s) c.of-by_job.ensures ∙ trimmed_stably s old new stable ∙ ap (all_trimmed s) (c.into_items-grants.ensures ∙ c.in_ok-copy_grants.ensures) in
    IfOk-weaker c.trim_all.result _ (λ (t : List Grant). t ≡ all_trimmed s c.args.a.now) (λ t e. e ∙ same) c.trim_all.ensures
