-- What the judge says of a plan.
use Rattle.std.specs.Prelude.{◌≡◌, ◌≢◌, ◌<◌, ◌≤◌, ◌↔◌, ◌⊎◌, ℕ, Some, Result, Ok, Err}
use Rattle.tetri_cert.specs.declared.certificate.Certificate.{Certificate}
use Rattle.tetri_cert.specs.declared.certificate.Certificate.TheVariants.{Tops, Tree}
use Rattle.tetri_cert.specs.declared.faults.TreeFault.TheVariants as faults
use Rattle.tetri_cert.specs.declared.faults.TreeWhy.{TreeWhy}
use Rattle.tetri_cert.specs.declared.faults.TreeWhy.TheVariants.{Kind}
use Rattle.tetri_cert.specs.declared.plan_mark.PlanMark.TheVariants.{Optimal}
use Rattle.tetri_claims.specs.Certified.{IsBoundOf, IsCutShort, IsOfKind, TreeAnswers, counted_nodes}
use Rattle.tetri_claims.specs.Good.{IsThriftyForAll}
use Rattle.tetri_claims.specs.Planned.{Planned}
use Rattle.tetri_space.specs.Broken.{IsFirstBroken}
use Rattle.tetri_space.specs.Lawful.{IsLawful}
use Rattle.tetri_space.specs.Space.{Space}
use Rattle.tetri_space.specs.Total.{total_in}
use Rattle.tetri_judge.specs.declared.verdict.Verdict.{Verdict}
use Rattle.tetri_judge.specs.declared.verdict.Verdict.TheVariants.{Unlawful, WrongValue, WasteGrant, BelowCarry, BadTree, Past, WrongBound, WrongMark, NoMemory}
use Rattle.tetri_judge.specs.Wasted.{first_wasted}

-- the tests of a plan, in the order in which they are made
pub data Test : Type 0 where
  lawful : Test
  attained : Test
  thrifty : Test
  at_least : Test
  proper : Test
  bound_given : Test
  marked : Test

-- `optimal` stands exactly where value and bound are equal; otherwise `wide` goes with tops, and `spent` with a tree that counts as
-- many nodes as the budget; the nodes are counted rightly
pub record IsRightlyMarked (budget : ℕ) (p : Planned) : Type 0 where
  pub optimal : (p.mark ≡ Optimal) ↔ (p.value ≡ p.bound)
  pub either : (p.mark ≡ Optimal) ⊎ IsCutShort budget p.certificate p
  pub nodes : p.nodes ≡ counted_nodes p.certificate

-- the certificate is of the kind of the instance, and gives a bound: a tree is proper
pub record Stands (s : Space) (c : Certificate) : Type 0 where
  pub kind : IsOfKind s c
  pub bound : ℕ
  pub gives : IsBoundOf s c bound

-- The certificate fails its tests at this node for this cause: it is not of the kind of the instance, or its tree has this
-- first fault.
abbrev pub FailsAt : Space → Certificate → ℕ → TreeWhy → Type 0
FailsAt s (Tops columns rows) node why = (node ≡ 0) × (why ≡ Kind) × (IsOfKind s (Tops columns rows) → ⊥)
FailsAt s (Tree marks) node why =
    ((node ≡ 0) × (why ≡ Kind) × (IsOfKind s (Tree marks) → ⊥)) ⊎ (IsOfKind s (Tree marks) × TreeAnswers s marks (Err (faults.Bad node why)))

-- a number that is formed to weigh at this node leaves the range, first at this column
abbrev pub LeavesRangeAt : Space → Certificate → ℕ → ℕ → Type 0
LeavesRangeAt s (Tops columns rows) node column = ⊥
LeavesRangeAt s (Tree marks) node column = IsOfKind s (Tree marks) × TreeAnswers s marks (Err (faults.Past node column))

-- the test of which a verdict speaks; want of memory speaks of none, and its line here is never used
abbrev pub test_of : Verdict → Test
test_of (Unlawful u) = lawful
test_of (WrongValue printed found) = attained
test_of (WasteGrant place) = thrifty
test_of (BelowCarry printed carry) = at_least
test_of (BadTree node why) = proper
test_of (Past node column) = proper
test_of (WrongBound printed found) = bound_given
test_of WrongMark = marked
test_of NoMemory = proper

-- for an instance, the worth of what is carried over, the budget, and a plan
module _ (s : Space) (carried budget : ℕ) (p : Planned) where
  -- the plan passes this test
  abbrev pub Passes : Test → Type 0
  Passes lawful = IsLawful s p.grants
  Passes attained = total_in s p.grants ≡ p.value
  Passes thrifty = IsThriftyForAll s p.grants
  Passes at_least = carried ≤ p.value
  Passes proper = Stands s p.certificate
  Passes bound_given = IsBoundOf s p.certificate p.bound
  Passes marked = IsRightlyMarked budget p

  -- the plan passes each test that is made before this one
  abbrev pub PassesBefore : Test → Type 0
  PassesBefore lawful = Unit {0}
  PassesBefore attained = Passes lawful
  PassesBefore thrifty = Passes lawful × Passes attained
  PassesBefore at_least = Passes lawful × Passes attained × Passes thrifty
  PassesBefore proper = Passes lawful × Passes attained × Passes thrifty × Passes at_least
  PassesBefore bound_given = Passes lawful × Passes attained × Passes thrifty × Passes at_least × Passes proper
  PassesBefore marked = Passes lawful × Passes attained × Passes thrifty × Passes at_least × Passes proper × Passes bound_given

  -- the plan fails a test as this verdict says
  abbrev pub Shows : Verdict → Type 0
  Shows (Unlawful u) = IsFirstBroken s p.grants u
  Shows (WrongValue printed found) = (printed ≡ p.value) × (found ≡ total_in s p.grants) × (found ≢ printed)
  Shows (WasteGrant place) = first_wasted s.bids p.grants ≡ Some place
  Shows (BelowCarry printed carry) = (printed ≡ p.value) × (carry ≡ carried) × (printed < carry)
  Shows (BadTree node why) = FailsAt s p.certificate node why
  Shows (Past node column) = LeavesRangeAt s p.certificate node column
  Shows (WrongBound printed found) = (printed ≡ p.bound) × IsBoundOf s p.certificate found × (found ≢ printed)
  Shows WrongMark = IsRightlyMarked budget p → ⊥
  Shows NoMemory = ⊥

  -- the plan fails this test, and passes each that is made before
  pub record IsFirstFailed (v : Verdict) : Type 0 where
    pub fails : Shows v
    pub passes : PassesBefore (test_of v)

  -- all tests are passed, or the verdict tells the first that is failed, unless memory ran out
  abbrev pub IsVerdict : {U : Type 0} → Result U Verdict → Type 0
  IsVerdict (Ok u) = (t : Test) → Passes t
  IsVerdict (Err v) = (v ≡ NoMemory) ⊎ IsFirstFailed v
