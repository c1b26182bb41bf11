-- What passes all tests is good and certified, and what fails one does not pass it.
use Rattle.std.proofs.Common.{◌≡◌, ℕ, ◌<◌, Bool, true, false, refl, sym, ap, ◌∙◌, subst, arith, List, Ok, Err, inl, inr, ◌⊎◌, ⊎_elim}
use Rattle.std.specs.Prelude.{nat_lt}
use Rattle.std.proofs.lemmas.Bool.Decides.{nat_tests}
use Rattle.tetri_cert.specs.declared.certificate.Certificate.{Certificate}
use Rattle.tetri_cert.specs.declared.certificate.Certificate.TheVariants.{Tops, Tree}
use Rattle.tetri_cert.specs.declared.faults.TreeFault.{TreeFault}
use Rattle.tetri_cert.specs.declared.faults.TreeFault.TheVariants as faults
use Rattle.tetri_cert.specs.declared.faults.TreeWhy.{TreeWhy}
use Rattle.tetri_cert.specs.declared.marks.Mark.{Mark}
use Rattle.tetri_cert.specs.Trees.{IsTreeAnswer, tree_bound}
use Rattle.tetri_claims.specs.Certified.{IsBoundOf, IsCertified, MayHaveTree, TreeAnswers}
use Rattle.tetri_claims.specs.Good.{IsGood, IsHonest}
use Rattle.tetri_claims.specs.Planned.{Planned}
use Rattle.tetri_claims.proofs.ClaimLaws.{certificates_bound, one_answer, one_bound}
use Rattle.tetri_compile.specs.Flat.{plain, program_of}
use Rattle.tetri_ip.specs.declared.programs.Program.{Program}
use Rattle.tetri_judge.specs.Answers.{AnswersBound, verdict_of}
use Rattle.tetri_judge.specs.Verdict.{FailsAt, IsFirstFailed, LeavesRangeAt, Passes, PassesBefore, Shows, Stands, Test, attained, at_least, bound_given, lawful, marked, proper, test_of, thrifty}
use Rattle.tetri_judge.specs.declared.verdict.Verdict.{Verdict}
use Rattle.tetri_judge.specs.declared.verdict.Verdict.TheVariants.{Unlawful, WrongValue, WasteGrant, BelowCarry, BadTree, Past, WrongBound, WrongMark, NoMemory}
use Rattle.tetri_judge.proofs.WastedLemmas.{none_wasted}
use Rattle.tetri_space.specs.Sound.{IsSound}
use Rattle.tetri_space.specs.Space.{Space}
use Rattle.tetri_space.proofs.InstanceLaws.{broken_first, first_broken_same, lawful_keeps}

module _ (s : Space) where
  -- a tree with a fault has no bound
  no_bound : (marks : List Mark) (f : TreeFault) (bound : ℕ) → TreeAnswers s marks (Err f) → IsBoundOf s (Tree marks) bound → ⊥
  no_bound marks f bound h k = let e = one_answer s marks (Err f) (Ok bound) h k in absurd cc

  fails_not_stands : (c : Certificate) (node : ℕ) (why : TreeWhy) → FailsAt s c node why → Stands s c → ⊥
  fails_not_stands (Tops columns rows) node why h stands = h.2 stands.kind
  fails_not_stands (Tree marks) node why (inl h) stands = h.2 stands.kind
  fails_not_stands (Tree marks) node why (inr h) stands = no_bound marks _ stands.bound h.1 stands.gives

  past_not_stands : (c : Certificate) (node column : ℕ) → LeavesRangeAt s c node column → Stands s c → ⊥
  past_not_stands (Tops columns rows) node column h stands = h
  past_not_stands (Tree marks) node column h stands = no_bound marks _ stands.bound h.1 stands.gives

module _ (s : Space) (carried budget : ℕ) (p : Planned) where
  -- a verdict that is shown speaks of a test that is not passed
  pub not_both : IsSound s → (v : Verdict) → Shows s carried budget p v → Passes s carried budget p (test_of v) → ⊥
  not_both sound (Unlawful u) shown pass = lawful_keeps s p.grants pass u (broken_first s p.grants u shown)
  not_both sound (WrongValue printed found) shown pass = shown.2 (shown.1 ∙ pass ∙ sym shown.0)
  not_both sound (WasteGrant place) shown pass = let none = (none_wasted s sound p.grants).1 pass in absurd cc
  not_both sound (BelowCarry printed carry) shown pass = omega (arith, shown.0, shown.1, shown.2, pass)
  not_both sound (BadTree node why) shown pass = fails_not_stands s p.certificate node why shown pass
  not_both sound (Past node column) shown pass = past_not_stands s p.certificate node column shown pass
  not_both sound (WrongBound printed found) shown pass = shown.2 (one_bound s p.certificate found p.bound shown.1 pass ∙ sym shown.0)
  not_both sound WrongMark shown pass = shown pass
  not_both sound NoMemory shown pass = shown

  pub passing_is_not_refused : IsSound s → (v : Verdict) → IsFirstFailed s carried budget p v → ((t : Test) → Passes s carried budget p t) → ⊥
  passing_is_not_refused sound v failed pass = not_both sound v failed.fails (pass (test_of v))

  pub refused_for_memory : IsSound s → (v : Verdict) → (v ≡ NoMemory) ⊎ IsFirstFailed s carried budget p v → ((t : Test) → Passes s carried budget p t) → v ≡ NoMemory
  refused_for_memory sound v (inl e) pass = e
  refused_for_memory sound v (inr failed) pass = absurd (passing_is_not_refused sound v failed pass)

  -- what passes each test is good and certified
  pub passing_is_certified : ((t : Test) → Passes s carried budget p t) → IsCertified s budget p
  passing_is_certified pass = record { kind = (pass proper).kind; bound = pass bound_given; nodes = (pass marked).nodes; mark = (pass marked).either }

  pub passing_is_honest : ((t : Test) → Passes s carried budget p t) → IsHonest s carried p
  passing_is_honest pass = record { lawful = pass lawful; thrifty = pass thrifty; attained = pass attained; at_least = pass at_least; optimal = (pass marked).optimal }

  pub passing_is_good : IsSound s → ((t : Test) → Passes s carried budget p t) → IsGood s carried p
  passing_is_good sound pass = record { honest = passing_is_honest pass; bounded = certificates_bound s budget p sound (passing_is_certified pass) }

  -- an honest and certified plan passes each test
  pub certified_passes : IsHonest s carried p → IsCertified s budget p → (t : Test) → Passes s carried budget p t
  certified_passes honest cert lawful = honest.lawful
  certified_passes honest cert attained = honest.attained
  certified_passes honest cert thrifty = honest.thrifty
  certified_passes honest cert at_least = honest.at_least
  certified_passes honest cert proper = record { kind = cert.kind; bound = p.bound; gives = cert.bound }
  certified_passes honest cert bound_given = cert.bound
  certified_passes honest cert marked = record { optimal = honest.optimal; either = cert.mark; nodes = cert.nodes }

-- A plan has one verdict.

-- where a test stands among the tests
abbrev rank : Test → ℕ
rank lawful = 0
rank attained = 1
rank thrifty = 2
rank at_least = 3
rank proper = 4
rank bound_given = 5
rank marked = 6

module _ (s : Space) (carried budget : ℕ) (p : Planned) where
  -- a test that is made before one up to which all are passed
  passed_before : (t u : Test) → rank t < rank u → PassesBefore s carried budget p u → Passes s carried budget p t
  passed_before t lawful lt passes = absurd (omega (arith, lt))
  passed_before lawful attained lt passes = passes
  passed_before attained attained lt passes = absurd (omega (arith, lt))
  passed_before thrifty attained lt passes = absurd (omega (arith, lt))
  passed_before at_least attained lt passes = absurd (omega (arith, lt))
  passed_before proper attained lt passes = absurd (omega (arith, lt))
  passed_before bound_given attained lt passes = absurd (omega (arith, lt))
  passed_before marked attained lt passes = absurd (omega (arith, lt))
  passed_before lawful thrifty lt passes = passes.0
  passed_before attained thrifty lt passes = passes.1
  passed_before thrifty thrifty lt passes = absurd (omega (arith, lt))
  passed_before at_least thrifty lt passes = absurd (omega (arith, lt))
  passed_before proper thrifty lt passes = absurd (omega (arith, lt))
  passed_before bound_given thrifty lt passes = absurd (omega (arith, lt))
  passed_before marked thrifty lt passes = absurd (omega (arith, lt))
  passed_before lawful at_least lt passes = passes.0
  passed_before attained at_least lt passes = passes.1
  passed_before thrifty at_least lt passes = passes.2
  passed_before at_least at_least lt passes = absurd (omega (arith, lt))
  passed_before proper at_least lt passes = absurd (omega (arith, lt))
  passed_before bound_given at_least lt passes = absurd (omega (arith, lt))
  passed_before marked at_least lt passes = absurd (omega (arith, lt))
  passed_before lawful proper lt passes = passes.0
  passed_before attained proper lt passes = passes.1
  passed_before thrifty proper lt passes = passes.2
  passed_before at_least proper lt passes = passes.3
  passed_before proper proper lt passes = absurd (omega (arith, lt))
  passed_before bound_given proper lt passes = absurd (omega (arith, lt))
  passed_before marked proper lt passes = absurd (omega (arith, lt))
  passed_before lawful bound_given lt passes = passes.0
  passed_before attained bound_given lt passes = passes.1
  passed_before thrifty bound_given lt passes = passes.2
  passed_before at_least bound_given lt passes = passes.3
  passed_before proper bound_given lt passes = passes.4
  passed_before bound_given bound_given lt passes = absurd (omega (arith, lt))
  passed_before marked bound_given lt passes = absurd (omega (arith, lt))
  passed_before lawful marked lt passes = passes.0
  passed_before attained marked lt passes = passes.1
  passed_before thrifty marked lt passes = passes.2
  passed_before at_least marked lt passes = passes.3
  passed_before proper marked lt passes = passes.4
  passed_before bound_given marked lt passes = passes.5
  passed_before marked marked lt passes = absurd (omega (arith, lt))

  -- a certificate fails in one way
  one_failing : (c : Certificate) (m n : ℕ) (why because : TreeWhy) → FailsAt s c m why → FailsAt s c n because → BadTree m why ≡ BadTree n because
  one_failing (Tops columns rows) m n why because h k = let a = h.0 in let b = h.1 in let c = k.0 in let d = k.1 in cc
  one_failing (Tree marks) m n why because (inl h) (inl k) = let a = h.0 in let b = h.1 in let c = k.0 in let d = k.1 in cc
  one_failing (Tree marks) m n why because (inl h) (inr k) = absurd (h.2 k.0)
  one_failing (Tree marks) m n why because (inr h) (inl k) = absurd (k.2 h.0)
  one_failing (Tree marks) m n why because (inr h) (inr k) = let e = one_answer s marks (Err (faults.Bad m why)) (Err (faults.Bad n because)) h.1 k.1 in cc

  one_leaving : (c : Certificate) (m n i j : ℕ) → LeavesRangeAt s c m i → LeavesRangeAt s c n j → Past m i ≡ Past n j
  one_leaving (Tops columns rows) m n i j h k = absurd h
  one_leaving (Tree marks) m n i j h k = let e = one_answer s marks (Err (faults.Past m i)) (Err (faults.Past n j)) h.1 k.1 in cc

  not_failing_and_leaving : (c : Certificate) (m n i : ℕ) (why : TreeWhy) → FailsAt s c m why → LeavesRangeAt s c n i → ⊥
  not_failing_and_leaving (Tops columns rows) m n i why h k = k
  not_failing_and_leaving (Tree marks) m n i why (inl h) k = h.2 k.0
  not_failing_and_leaving (Tree marks) m n i why (inr h) k = let e = one_answer s marks (Err (faults.Bad m why)) (Err (faults.Past n i)) h.1 k.1 in absurd cc

  -- verdicts on one test
  same_test : (v w : Verdict) → rank (test_of v) ≡ rank (test_of w) → Shows s carried budget p v → Shows s carried budget p w → v ≡ w
  same_test NoMemory w e h k = absurd h
  same_test (Unlawful u) (Unlawful v) e h k = ap Unlawful (first_broken_same s p.grants u v h k)
  same_test (Unlawful u) w e h k = absurd (omega (arith, e))
  same_test (WrongValue printed found) (WrongValue other given) e h k = let a = h.0 in let b = h.1 in let c = k.0 in let d = k.1 in cc
  same_test (WrongValue printed found) w e h k = absurd (omega (arith, e))
  same_test (WasteGrant place) (WasteGrant other) e h k = cc
  same_test (WasteGrant place) w e h k = absurd (omega (arith, e))
  same_test (BelowCarry printed carry) (BelowCarry other given) e h k = let a = h.0 in let b = h.1 in let c = k.0 in let d = k.1 in cc
  same_test (BelowCarry printed carry) w e h k = absurd (omega (arith, e))
  same_test (BadTree node why) NoMemory e h k = absurd k
  same_test (BadTree node why) (BadTree other because) e h k = one_failing p.certificate node other why because h k
  same_test (BadTree node why) (Past other column) e h k = absurd (not_failing_and_leaving p.certificate node other column why h k)
  same_test (BadTree node why) w e h k = absurd (omega (arith, e))
  same_test (Past node column) NoMemory e h k = absurd k
  same_test (Past node column) (BadTree other because) e h k = absurd (not_failing_and_leaving p.certificate other node column because k h)
  same_test (Past node column) (Past other place) e h k = one_leaving p.certificate node other column place h k
  same_test (Past node column) w e h k = absurd (omega (arith, e))
  same_test (WrongBound printed found) (WrongBound other given) e h k =
      let a = h.0 in
      let c = k.0 in
      let same = one_bound s p.certificate found given h.1 k.1 in
      cc
  same_test (WrongBound printed found) w e h k = absurd (omega (arith, e))
  same_test WrongMark WrongMark e h k = refl
  same_test WrongMark w e h k = absurd (omega (arith, e))

  pub one_verdict : IsSound s → (v w : Verdict) → IsFirstFailed s carried budget p v → IsFirstFailed s carried budget p w → v ≡ w
  one_verdict sound v w first second =
      ⊎_elim
      (λ earlier. absurd (not_both s carried budget p sound v first.fails (passed_before (test_of v) (test_of w) earlier second.passes)))
      (λ rest.
      ⊎_elim
      (λ same. same_test v w same first.fails second.fails)
      (λ later. absurd (not_both s carried budget p sound w second.fails (passed_before (test_of w) (test_of v) later first.passes)))
      rest)
      (compared (rank (test_of v)) (rank (test_of w)))
    where
      compared : (m n : ℕ) → (m < n) ⊎ ((m ≡ n) ⊎ (n < m))
      compared m n = by_test (nat_lt m n) refl (nat_lt n m) refl
        where
          by_test : (x : Bool) → nat_lt m n ≡ x → (y : Bool) → nat_lt n m ≡ y → (m < n) ⊎ ((m ≡ n) ⊎ (n < m))
          by_test true is y are = inl (grind (arith, nat_tests))
          by_test false is true are = inr (inr (grind (arith, nat_tests)))
          by_test false is false are = inr (inl (grind (arith, nat_tests)))

-- a tree's fault over the instance's program is the certificate's
pub fault_answers : (s : Space) (marks : List Mark) (p : Program) (f : TreeFault) (v : Verdict) → MayHaveTree s → plain p ≡ program_of s → IsTreeAnswer (Err f) (tree_bound p marks) →
    v ≡ verdict_of f → AnswersBound (Err v) s (Tree marks)
fault_answers s marks p f v may is told e = subst (λ w. AnswersBound (Err w) s (Tree marks)) (sym e) (by_fault f told)
  where
    by_fault : (g : TreeFault) → IsTreeAnswer (Err g) (tree_bound p marks) → AnswersBound (Err (verdict_of g)) s (Tree marks)
    by_fault (faults.Bad node why) told = inr (may, (p, is, told))
    by_fault (faults.Past node column) told = (may, (p, is, told))
    by_fault faults.NoMemory told = tt
