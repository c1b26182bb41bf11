use Rattle.std.proofs.Common.{◌≡◌, ℕ, ◌-◌, ◌<◌, List, length, get_or, ap, arith, inl, inr, rules}
use Rattle.std.proofs.lemmas.Bool.{cases_eq}
use Rattle.std.specs.List.Sorted.{IsNonDecreasingBy}
use Rattle.std.proofs.lemmas.List.Sorted.{IsNonDecreasingBy-from_all_adjacent}
use Rattle.tetri_strl.specs.declared.grants.Grant.{Grant}
use Rattle.tetri_space.proofs.runs.ascends_by_job.Goals as goal

-- a grant of an earlier job than the one before it breaks the order
breaks : (gs : List Grant) (i last : ℕ) (g : Grant) → i < length gs → g ≡ get_or gs i g → g.job < last → (i ≡ 0 → last ≡ 0) →
    ((d : Grant) → 0 < i → last ≡ (get_or gs (i - 1) d).job) → IsNonDecreasingBy (λ (h : Grant). h.job) gs → ⊥
breaks gs i last g lt is below first before ascending = elim (cases_eq i 0) [
  | inl start ↦ omega (arith, first start)
  | inr further ↦
      let here = ap (λ (h : Grant). h.job) is in
      let some : 0 < i = omega arith in
      omega (arith, here, before g some, ascending (i - 1) i g (omega arith) lt)
]

pub returns-then-grant-last : goal.returns-then-grant-last
returns-then-grant-last c = (
  λ never. absurd (search (rules, never)),
  λ ascending. absurd (breaks c.args.grants.now c.loop-grant.grant-index c.loop-grant.last c.grant-item.result c.loop-grant-test.true c.grant-item.is
      c.if-grant-last.true c.loop-grant.invariant.first c.loop-grant.invariant.last ascending),
)

pub returns : goal.returns
returns c = (
  λ _. IsNonDecreasingBy-from_all_adjacent (λ (g : Grant). g.job) c.args.grants.now
      (λ k d lt. c.loop-grant.invariant.so_far k d (omega (arith, c.loop-grant-test.false))),
  λ _. search rules,
)
