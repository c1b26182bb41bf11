-- What was seen of a certificate answers its tests as the certificate does.
use Rattle.std.proofs.Common.{◌≡◌, ℕ, ◌+◌, ◌≤◌, List, [], ◌∷◌, ◌++◌, length, refl, sym, ap, ◌∙◌, subst, arith, inl, inr, ⊎_elim}
use Rattle.std.specs.Prelude.{◌⊎◌, ◌↔◌, Result, Ok, Err}
use Rattle.std.proofs.lemmas.List.{append-nil, append_assoc, length-append}
use Rattle.tetri_cert.specs.Trees.{IsTreeAnswer, nodes_in, tree_bound}
use Rattle.tetri_cert.specs.Walks.{IsOver, tells}
use Rattle.tetri_cert.specs.declared.certificate.Certificate.{Certificate}
use Rattle.tetri_cert.specs.declared.certificate.Certificate.TheVariants.{Tops, Tree}
use Rattle.tetri_cert.specs.declared.faults.TreeFault.{TreeFault}
use Rattle.tetri_cert.specs.declared.faults.TreeFault.TheVariants as faults
use Rattle.tetri_cert.specs.declared.faults.TreeWhy.TheVariants.{Kind}
use Rattle.tetri_cert.specs.declared.marks.Mark.{Mark}
use Rattle.tetri_cert.specs.declared.marks.Mark.TheVariants.{Split, Close, Whole, Rest}
use Rattle.tetri_cert.specs.declared.walk.Walk.{Walk}
use Rattle.tetri_claims.specs.Certified.{IsCutShort, IsOfKind, MayHaveTree, counted_nodes}
use Rattle.tetri_claims.specs.Planned.{Planned}
use Rattle.tetri_compile.specs.Flat.{column_count, row_count}
use Rattle.tetri_report.specs.declared.line.PlanLine.{PlanLine}
use Rattle.tetri_space.specs.Space.{Space}
use Rattle.tetri_space.specs.Total.{tops_in}
use Rattle.tetri_strl.specs.declared.grants.Grant.{Grant}
use Rattle.tetri_judge.specs.Answers.{AnswersBound, verdict_of}
use Rattle.tetri_judge.specs.PlanOf.{planned_as}
use Rattle.tetri_judge.specs.Seen.{IsCutShortBeside, IsMarkedBeside, Tells, WalksProgram, counted_in}
use Rattle.tetri_judge.specs.Verdict.{IsFirstFailed, IsRightlyMarked, Passes, PassesBefore, Test, attained, at_least, bound_given, lawful, marked, proper, thrifty}
use Rattle.tetri_judge.specs.declared.seen.Seen.{Seen}
use Rattle.tetri_judge.specs.declared.seen.Seen.TheVariants as seen
use Rattle.tetri_judge.specs.declared.tree_walk.ProgramWalk.{ProgramWalk}
use Rattle.tetri_judge.specs.declared.verdict.Verdict.{Verdict}
use Rattle.tetri_judge.specs.declared.verdict.Verdict.TheVariants.{BadTree}
use Rattle.tetri_judge.specs.declared.verdict.Verdict.TheVariants as verdicts
use Rattle.tetri_judge.proofs.VerdictLaws.{fault_answers}

-- The walk

gives_itself : (answer : Result ℕ TreeFault) → IsTreeAnswer answer answer
gives_itself (Ok bound) = refl
gives_itself (Err (faults.Bad node why)) = refl
gives_itself (Err (faults.Past node column)) = refl
gives_itself (Err faults.NoMemory) = tt

pub nodes_in-append : (marks : List Mark) (m : Mark) → nodes_in (marks ++ m ∷ []) ≡ nodes_in marks + nodes_in (m ∷ [])
nodes_in-append [] m = omega arith
nodes_in-append (Split j at licence ∷ ms) m = omega (arith, nodes_in-append ms m)
nodes_in-append (Close q ws ∷ ms) m = omega (arith, nodes_in-append ms m)
nodes_in-append (Whole q ws worth point ∷ ms) m = omega (arith, nodes_in-append ms m)
nodes_in-append (Rest q ws ∷ ms) m = nodes_in-append ms m

pub nodes_few : (marks : List Mark) → nodes_in marks ≤ length marks
nodes_few [] = omega arith
nodes_few (Split j at licence ∷ ms) = omega (arith, nodes_few ms)
nodes_few (Close q ws ∷ ms) = omega (arith, nodes_few ms)
nodes_few (Whole q ws worth point ∷ ms) = omega (arith, nodes_few ms)
nodes_few (Rest q ws ∷ ms) = omega (arith, nodes_few ms)

-- a mark more was fed
pub walks_on : (s : Space) (marks : List Mark) (m : Mark) (w : ProgramWalk) (new : Walk) → WalksProgram s marks w → IsOver w.program new →
    ((rest : List Mark) → tells new w.program rest ≡ tells w.walk w.program (m ∷ rest)) → new.node ≡ w.walk.node + 1 →
    WalksProgram s (marks ++ m ∷ []) (record w { walk = new })
walks_on s marks m w new is over tells_on node = record {
  program = is.program;
  fit = is.fit;
  over = over;
  fed = omega (arith, node, is.fed, length-append marks (m ∷ []));
  tells = λ rest. tells_on rest ∙ is.tells (m ∷ rest) ∙ ap (tree_bound w.program) (sym (append_assoc marks (m ∷ []) rest));
}

module _ (s : Space) where
  pub walk_tells : (marks : List Mark) (w : ProgramWalk) (answer : Result ℕ TreeFault) (nodes : ℕ) → WalksProgram s marks w → answer ≡ tells w.walk w.program [] → nodes ≡ nodes_in marks →
      Tells s (Tree marks) (seen.Tree answer nodes)
  walk_tells marks w answer nodes is e n = λ may. (
    n,
    (w.program, is.program, subst (IsTreeAnswer answer) (e ∙ is.tells [] ∙ ap (tree_bound w.program) (append-nil marks)) (gives_itself answer)),
  )

  -- The tests

  pub tops_bound : (c : Certificate) (columns rows bound : ℕ) → Tells s c (seen.Tops columns rows) → (MayHaveTree s → ⊥) → columns ≡ column_count s → rows ≡ row_count s →
      bound ≡ tops_in s → AnswersBound (Ok bound) s c
  tops_bound (Tops m n) columns rows bound told none cs rs is = ((none, sym told.0 ∙ cs, sym told.1 ∙ rs), is)
  tops_bound (Tree marks) columns rows bound told none cs rs is = absurd told

  pub tops_fail : (c : Certificate) (columns rows : ℕ) → Tells s c (seen.Tops columns rows) → ((MayHaveTree s → ⊥) → columns ≡ column_count s → rows ≡ row_count s → ⊥) →
      AnswersBound (Err (BadTree 0 Kind)) s c
  tops_fail (Tops m n) columns rows told not = (refl, refl, λ kind. not kind.0 (told.0 ∙ kind.1) (told.1 ∙ kind.2))
  tops_fail (Tree marks) columns rows told not = absurd told

  pub tree_misplaced : (c : Certificate) (answer : Result ℕ TreeFault) (nodes : ℕ) → Tells s c (seen.Tree answer nodes) → (MayHaveTree s → ⊥) → AnswersBound (Err (BadTree 0 Kind)) s c
  tree_misplaced (Tops m n) answer nodes told none = absurd told
  tree_misplaced (Tree marks) answer nodes told none = inl (refl, refl, none)

  pub tree_bounds : (c : Certificate) (bound nodes : ℕ) → Tells s c (seen.Tree (Ok bound) nodes) → MayHaveTree s → AnswersBound (Ok bound) s c
  tree_bounds (Tops m n) bound nodes told may = absurd told
  tree_bounds (Tree marks) bound nodes told may = (may, (told may).1)

  pub tree_fails : (c : Certificate) (fault : TreeFault) (nodes : ℕ) (v : Verdict) → Tells s c (seen.Tree (Err fault) nodes) → MayHaveTree s → v ≡ verdict_of fault → AnswersBound (Err v) s c
  tree_fails (Tops m n) fault nodes v told may e = absurd told
  tree_fails (Tree marks) fault nodes v told may e = let gives = (told may).1 in fault_answers s marks gives.0 fault v may gives.1 gives.2 e

  module _ (budget : ℕ) (p : PlanLine) (grants : List Grant) where
    counted_same : (c : Certificate) (w : Seen) → Tells s c w → IsOfKind s c → counted_in w ≡ counted_nodes c
    counted_same (Tops m n) (seen.Tops columns rows) told kind = refl
    counted_same (Tops m n) (seen.Tree answer nodes) told kind = absurd told
    counted_same (Tree marks) (seen.Tops columns rows) told kind = absurd told
    counted_same (Tree marks) (seen.Tree answer nodes) told kind = (told kind).0

    cut_same : (c : Certificate) (w : Seen) → Tells s c w → IsCutShortBeside budget w p ↔ IsCutShort budget c (planned_as p grants c)
    cut_same (Tops m n) (seen.Tops columns rows) told = (λ cut. cut, λ cut. cut)
    cut_same (Tops m n) (seen.Tree answer nodes) told = absurd told
    cut_same (Tree marks) (seen.Tops columns rows) told = absurd told
    cut_same (Tree marks) (seen.Tree answer nodes) told = (λ cut. cut, λ cut. cut)

    pub rightly_marked : (c : Certificate) (w : Seen) → Tells s c w → IsOfKind s c → IsMarkedBeside budget p w ↔ IsRightlyMarked budget (planned_as p grants c)
    rightly_marked c w told kind =
        let same = counted_same c w told kind in
        let cut = cut_same c w told in (
          λ is. record { optimal = is.optimal; either = ⊎_elim inl (λ short. inr (cut.0 short)) is.either; nodes = is.nodes ∙ same },
          λ is. record { optimal = is.optimal; either = ⊎_elim inl (λ short. inr (cut.1 short)) is.either; nodes = is.nodes ∙ sym same },
        )

-- The tests of a plan

module _ (s : Space) (carried budget : ℕ) (p : Planned) where
  -- a certificate that fails its tests is the first to fail, where the grants pass theirs
  pub bound_fails : (v : Verdict) → AnswersBound (Err v) s p.certificate → PassesBefore s carried budget p proper → (v ≡ verdicts.NoMemory) ⊎ IsFirstFailed s carried budget p v
  bound_fails (verdicts.Unlawful u) found passes = absurd found
  bound_fails (verdicts.WrongValue printed value) found passes = absurd found
  bound_fails (verdicts.WasteGrant place) found passes = absurd found
  bound_fails (verdicts.BelowCarry printed carry) found passes = absurd found
  bound_fails (verdicts.BadTree node why) found passes = inr (record { fails = found; passes = passes })
  bound_fails (verdicts.Past node column) found passes = inr (record { fails = found; passes = passes })
  bound_fails (verdicts.WrongBound printed bound) found passes = absurd found
  bound_fails verdicts.WrongMark found passes = absurd found
  bound_fails verdicts.NoMemory found passes = inl refl

  pub passes_all : PassesBefore s carried budget p marked → Passes s carried budget p marked → (t : Test) → Passes s carried budget p t
  passes_all before last lawful = before.0
  passes_all before last attained = before.1
  passes_all before last thrifty = before.2
  passes_all before last at_least = before.3
  passes_all before last proper = before.4
  passes_all before last bound_given = before.5
  passes_all before last marked = last
