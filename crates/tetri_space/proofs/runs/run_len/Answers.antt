use Rattle.std.proofs.Common.{◌≡◌, ℕ, ◌+◌, ◌<◌, ◌≤◌, List, length, get_or, drop, All, subst, ap, arith, length-drop}
use Rattle.std.specs.List.Sorted.{IsNonDecreasingBy}
use Rattle.std.proofs.lemmas.List.{get_or-drop, get_or_read}
use Rattle.std.proofs.lemmas.List.Elements.{All-more}
use Rattle.tetri_strl.specs.declared.grants.Grant.{Grant}
use Rattle.tetri_space.proofs.runs.run_len.Goals as goal

-- from the first grant of a later job on, all are of later jobs
all_past : (gs : List Grant) (len job : ℕ) (g : Grant) → IsNonDecreasingBy (λ (h : Grant). h.job) gs → len < length gs → g ≡ get_or gs len g → job < g.job →
    All (λ (h : Grant). job < h.job) (drop len gs)
all_past gs len job g ascending lt is above k d at =
    let first = ap (λ (h : Grant). h.job) (get_or_read gs len g lt is d) in
    let there = ap (λ (h : Grant). h.job) (get_or-drop len gs k d) in
    let order : (get_or gs len d).job ≤ (get_or gs (len + k) d).job = ascending len (len + k) d (omega arith) (omega (arith, length-drop len gs)) in
    omega (arith, first, there, order)

pub returns-then-grant-job-clause-past : goal.returns-then-grant-job-clause-past
returns-then-grant-job-clause-past c =
    all_past c.args.grants.now c.loop-len.len c.args.job c.index-grants-len.result c.requires c.loop-len-test.true c.index-grants-len.is c.if-grant-job.true

pub loop-len-preserved : goal.loop-len-preserved
loop-len-preserved c =
    All-more (λ (g : Grant). g.job ≤ c.args.job) c.args.grants.now c.loop-len.len c.index-grants-len.result c.loop-len-test.true c.loop-len.invariant
    (subst (λ (g : Grant). g.job ≤ c.args.job) c.index-grants-len.is c.if-grant-job.false)
