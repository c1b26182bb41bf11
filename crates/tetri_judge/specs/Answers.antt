-- What the parts of the judge answer.
use Rattle.std.specs.Prelude.{ℕ, Result, Ok, Err}
use Rattle.tetri_cert.specs.declared.certificate.Certificate.{Certificate}
use Rattle.tetri_cert.specs.declared.faults.TreeFault.{TreeFault}
use Rattle.tetri_cert.specs.declared.faults.TreeFault.TheVariants as faults
use Rattle.tetri_claims.specs.Certified.{IsBoundOf, IsOfKind}
use Rattle.tetri_claims.specs.Planned.{Planned}
use Rattle.tetri_space.specs.Space.{Space}
use Rattle.tetri_judge.specs.declared.verdict.Verdict.{Verdict}
use Rattle.tetri_judge.specs.declared.verdict.Verdict.TheVariants.{Unlawful, WrongValue, WasteGrant, BelowCarry, BadTree, Past, WrongBound, WrongMark, NoMemory}
use Rattle.tetri_judge.specs.Verdict.{FailsAt, IsFirstFailed, LeavesRangeAt, PassesBefore, proper}

-- What the tests of the grants answer, whatever the budget: the first four tests are passed, or the first that is failed.
abbrev pub AnswersGrants : {U : Type 0} → Result U Verdict → Space → ℕ → Planned → Type 0
AnswersGrants (Ok u) s carried p = (budget : ℕ) → PassesBefore s carried budget p proper
AnswersGrants (Err v) s carried p = (budget : ℕ) → IsFirstFailed s carried budget p v

-- what is wrong with a tree, as a verdict
abbrev pub verdict_of : TreeFault → Verdict
verdict_of (faults.Bad node why) = BadTree node why
verdict_of (faults.Past node column) = Past node column
verdict_of faults.NoMemory = NoMemory

-- What a certificate answers: the bound that it gives, or how it fails its tests.
abbrev pub AnswersBound : Result ℕ Verdict → Space → Certificate → Type 0
AnswersBound (Ok bound) s c = IsOfKind s c × IsBoundOf s c bound
AnswersBound (Err (Unlawful u)) s c = ⊥
AnswersBound (Err (WrongValue printed found)) s c = ⊥
AnswersBound (Err (WasteGrant place)) s c = ⊥
AnswersBound (Err (BelowCarry printed carry)) s c = ⊥
AnswersBound (Err (BadTree node why)) s c = FailsAt s c node why
AnswersBound (Err (Past node column)) s c = LeavesRangeAt s c node column
AnswersBound (Err (WrongBound printed found)) s c = ⊥
AnswersBound (Err WrongMark) s c = ⊥
AnswersBound (Err NoMemory) s c = Unit {0}
