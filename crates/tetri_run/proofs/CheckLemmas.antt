-- What is accepted comes to no refusal, and what comes to no refusal is accepted.
use Rattle.std.proofs.Common.{◌≡◌, ℕ, ◌+◌, ◌<◌, ◌≤◌, List, [], ◌∷◌, ◌++◌, length, Bool, true, false, cond, All, refl, sym, ap, ◌∙◌, subst, arith, inl, inr, ⊎_elim}
use Rattle.std.specs.Prelude.{◌⊎◌, Option, Some, None, Result, Ok, Err, ok_or, slice_get}
use Rattle.std.proofs.lemmas.List.{append-nil, append_assoc, length-append}
use Rattle.std.proofs.lemmas.List.Elements.{All-cons, All-head, All-nil, All-tail}
use Rattle.std.proofs.lemmas.Option.{same_Some}
use Rattle.tetri_strl.specs.declared.grants.Grant.{Grant}
use Rattle.tetri_claims.specs.Good.{IsHonest}
use Rattle.tetri_claims.proofs.ClaimLaws.{certificates_bound}
use Rattle.tetri_judge.proofs.VerdictLaws.{certified_passes, passing_is_not_refused}
use Rattle.tetri_report.specs.Block.{Block}
use Rattle.tetri_report.specs.BlockLines.{block_lines}
use Rattle.tetri_judge.specs.PlanOf.{planned}
use Rattle.tetri_report.specs.Line.{line_in}
use Rattle.tetri_report.specs.Reading.{Reading, answer_to, behind_line, block_before, end_answer, fitting, is_between, is_certified, line_answer, may_follow, onto_report, reading_behind, report_from, stage_behind, unless_refused, with_read}
use Rattle.tetri_base.specs.Lists.{with_first}
use Rattle.tetri_base.specs.ResultSteps.{◌>>=◌}
use Rattle.tetri_report.specs.Reading as reading
use Rattle.tetri_report.specs.declared.cycle.Summary.{Summary}
use Rattle.tetri_report.specs.declared.line.ReportLine.{ReportLine}
use Rattle.tetri_report.specs.declared.line.ReportLine.TheVariants as lines
use Rattle.tetri_report.specs.declared.line.Stage.{Stage}
use Rattle.tetri_report.specs.declared.line.Stage.TheVariants as stages
use Rattle.tetri_space.specs.Space.{Space}
use Rattle.tetri_space.specs.Sound.{IsSound as IsSoundSpace}
use Rattle.tetri_space.specs.Total.{total_in}
use Rattle.tetri_state.specs.Begin.{begin}
use Rattle.tetri_state.specs.Planning.{IsCarry, instance_at}
use Rattle.tetri_state.specs.Reached.{IsReached, between}
use Rattle.tetri_state.specs.Snapshot.{Snapshot}
use Rattle.tetri_state.proofs.StateLaws.{begin_reached, early_begun, instance_sound, stands_begun}
use Rattle.tetri_trace.specs.Scenario.{Scenario}
use Rattle.tetri_trace.specs.Sound.{IsSound}
use Rattle.tetri_report.proofs.ReportLaws.{corrected_itself}
use Rattle.tetri_run.specs.Check.{Checking, ComesTo, FitsRun, IsAccepted, IsAssured, IsInPlace, IsRefused, IsRight, IsShort, checked_behind, faulty, lines_in, malformed, out_of_place, too_long, unchecked}
use Rattle.tetri_run.specs.Cycle.{IsCycle}
use Rattle.tetri_run.specs.Faulty.{IsFaulty, planned_badly, corrected_at, told_badly}
use Rattle.tetri_run.specs.Run.{BoundsHold, IsRun, in_order, state_behind, summary_of}
use Rattle.tetri_run.specs.declared.why.Why.{Why}
use Rattle.tetri_run.proofs.RunLemmas.{run_reaches}
use Rattle.tetri_cycles.proofs.CycleLaws.{now_behind}
use Rattle.tetri_run.specs.Telling.{block_cycles}

-- The order of cycles

in_order-append : (xs ys : List Block) → in_order (xs ++ ys) ≡ in_order ys ++ in_order xs
in_order-append [] ys = sym (append-nil (in_order ys))
in_order-append (x ∷ xs) ys = ap (λ l. l ++ x ∷ []) (in_order-append xs ys) ∙ append_assoc (in_order ys) (in_order xs) (x ∷ [])

in_order-twice : (xs : List Block) → in_order (in_order xs) ≡ xs
in_order-twice [] = refl
in_order-twice (x ∷ xs) = in_order-append (in_order xs) (x ∷ []) ∙ ap (λ l. x ∷ l) (in_order-twice xs)

-- a run that goes on with some cycles
goes_on : (past p bs : List Block) → in_order past ≡ in_order p ++ bs → past ≡ in_order bs ++ p
goes_on past p bs e = sym (in_order-twice past) ∙ ap in_order e ∙ in_order-append (in_order p) bs ∙ ap (λ l. in_order bs ++ l) (in_order-twice p)

run_front : (t : Scenario) (xs p : List Block) → IsRun t (xs ++ p) → IsRun t p
run_front t [] p run = run
run_front t (x ∷ xs) p run = run_front t xs p run.2

pub cycles_in_order : (xs : List Block) → length (in_order xs) ≡ length xs
cycles_in_order [] = refl
cycles_in_order (x ∷ xs) = omega (arith, length-append (in_order xs) (x ∷ []), cycles_in_order xs)

one_more : (p bs : List Block) (b : Block) → in_order p ++ b ∷ bs ≡ in_order (b ∷ p) ++ bs
one_more p bs b = sym (append_assoc (in_order p) (b ∷ []) bs)

-- the cycle that follows is one of the run
next_cycle : (t : Scenario) (past p bs : List Block) (b : Block) → in_order past ≡ in_order p ++ b ∷ bs → IsRun t past → IsRun t (b ∷ p)
next_cycle t past p bs b e run = run_front t (in_order bs) (b ∷ p) (subst (IsRun t) (goes_on past (b ∷ p) bs (e ∙ one_more p bs b)) run)

-- Reading

pub ok_same : {A E : Type 0} {x y : A} → ◌≡◌ {A = Result A E} (Ok x) (Ok y) → x ≡ y
ok_same e = cc

pub ok_not_err : {A E : Type 0} {x : A} {e : E} → ◌≡◌ {A = Result A E} (Ok x) (Err e) → ⊥
ok_not_err e = absurd cc

end_summary : (f : Option ℕ) (m : Option Summary) (k : ℕ) (s : Summary) → unless_refused f (λ n. Err n) (ok_or m k) ≡ Ok s → m ≡ Some s
end_summary None None k s e = absurd (ok_not_err (sym e))
end_summary None (Some n) k s e = ap Some (ok_same e)
end_summary (Some n) m k s e = absurd (ok_not_err (sym e))

-- A line that was read: what it says, where it may stand.
pub record ReadLine (t : Scenario) (r : Reading) (line : List ℕ) (ended : Option Block) : Type 0 where
  pub said : ReportLine
  pub behind : behind_line t r line ≡ with_read r said
  pub before : ended ≡ block_before r said
  pub fits : may_follow r.stage said ≡ true

pub read_line : (t : Scenario) (r : Reading) (line : List ℕ) (ended : Option Block) → line_answer t r line ≡ Ok ended → ReadLine t r line ended
read_line t r line ended answer = by_fault r.fault refl
  where
    by_line : r.fault ≡ None → (o : Option ReportLine) → fitting r.stage (line_in t line) ≡ o → answer_to r o ≡ Ok ended → ReadLine t r line ended
    by_line sane None is e = absurd (ok_not_err (sym e))
    by_line sane (Some l) is e = record {
      said = l;
      behind = ap (λ (f : Option ℕ). unless_refused f (λ n. r) (reading_behind r (fitting r.stage (line_in t line)))) sane ∙ ap (reading_behind r) is;
      before = sym (ok_same e);
      fits = may (line_in t line) is;
    }
      where
        may : (o : Option ReportLine) → fitting r.stage o ≡ Some l → may_follow r.stage l ≡ true
        may None e = absurd cc
        may (Some m) e = by_test (may_follow r.stage m) refl e
          where
            by_test : (b : Bool) → may_follow r.stage m ≡ b → cond b (Some m) None ≡ Some l → may_follow r.stage l ≡ true
            by_test true fits same = subst (λ x. may_follow r.stage x ≡ true) (same_Some m l same) fits
            by_test false fails same = absurd cc

    by_fault : (f : Option ℕ) → r.fault ≡ f → ReadLine t r line ended
    by_fault None sane =
        by_line sane (fitting r.stage (line_in t line)) refl
        (sym (ap (λ (f : Option ℕ). unless_refused f (λ n. Err n) (answer_to r (fitting r.stage (line_in t line)))) sane) ∙ answer)
    by_fault (Some n) stopped =
        absurd (ok_not_err (sym (sym (ap (λ (f : Option ℕ). unless_refused f (λ n. Err n) (answer_to r (fitting r.stage (line_in t line)))) stopped) ∙ answer)))

-- what further lines give, once one was read
reads_on : (t : Scenario) (r : Reading) (line : List ℕ) (rest : List (List ℕ)) (ended : Option Block) → line_answer t r line ≡ Ok ended → (bs : List Block) (s : Summary) →
    report_from t r (line ∷ rest) ≡ Ok (bs, s) → (more : List Block) × (bs ≡ with_first ended more) × (report_from t (behind_line t r line) rest ≡ Ok (more, s))
reads_on t r line rest ended answer bs s reads =
    by_rest (report_from t (behind_line t r line) rest) refl
    (sym (ap (λ (a : Result (Option Block) ℕ). a >>= λ o. report_from t (behind_line t r line) rest >>= λ x. Ok (with_first o x.0, x.1)) answer) ∙ reads)
  where
    by_rest : (q : Result (List Block × Summary) ℕ) → report_from t (behind_line t r line) rest ≡ q → onto_report ended q ≡ Ok (bs, s) →
        (more : List Block) × (bs ≡ with_first ended more) × (report_from t (behind_line t r line) rest ≡ Ok (more, s))
    by_rest (Err n) is e = absurd (ok_not_err (sym e))
    by_rest (Ok x) is e =
        let same = ok_same e in
        (x.0, sym (ap (λ (p : List Block × Summary). p.0) same), is ∙ ap (λ m. Ok (x.0, m)) (ap (λ (p : List Block × Summary). p.1) same))

-- no line may follow the summary
pub closed_blocks : (l : ReportLine) → may_follow stages.Closed l ≡ false
closed_blocks (lines.Cycle number) = refl
closed_blocks (lines.End piece) = refl
closed_blocks (lines.Cancel job) = refl
closed_blocks (lines.Fail job) = refl
closed_blocks (lines.Over piece) = refl
closed_blocks (lines.Expire job) = refl
closed_blocks (lines.Plan p) = refl
closed_blocks (lines.Grant grant start) = refl
closed_blocks (lines.Tops columns rows) = refl
closed_blocks (lines.Node mark) = refl
closed_blocks (lines.Launch job) = refl
closed_blocks (lines.Summary s) = refl

pub true_not_false : {b : Bool} → b ≡ true → b ≡ false → ⊥
true_not_false e f = absurd cc

-- the answer of the end
end_read : (t : Scenario) (r : Reading) (bs : List Block) (s : Summary) → report_from t r [] ≡ Ok (bs, s) → (bs ≡ []) × (end_answer r ≡ Ok s)
end_read t r bs s reads = by_end (end_answer r) refl reads
  where
    by_end : (q : Result Summary ℕ) → end_answer r ≡ q → ◌>>=◌ {B = List Block × Summary} q (λ m. Ok ([], m)) ≡ Ok (bs, s) → (bs ≡ []) × (end_answer r ≡ Ok s)
    by_end (Err n) is e = absurd (ok_not_err (sym e))
    by_end (Ok m) is e = let same = ok_same e in (sym (ap (λ (p : List Block × Summary). p.0) same), is ∙ ap Ok (ap (λ (p : List Block × Summary). p.1) same))

-- behind the summary no line is read
closed_end : (t : Scenario) (r : Reading) (m : Summary) (rest : List (List ℕ)) → r.stage ≡ stages.Closed → r.summary ≡ Some m → (bs : List Block) (s : Summary) →
    report_from t r rest ≡ Ok (bs, s) → (bs ≡ []) × (m ≡ s)
closed_end t r m [] closed is bs s reads =
    let end = end_read t r bs s reads in
    (end.0, same_Some _ _ (sym is ∙ end_summary r.fault r.summary (r.lines + 1) s end.1))
closed_end t r m (line ∷ rest) closed is bs s reads = by_answer (line_answer t r line) refl
  where
    by_answer : (q : Result (Option Block) ℕ) → line_answer t r line ≡ q → (bs ≡ []) × (m ≡ s)
    by_answer (Err n) answer =
        absurd (ok_not_err (sym (sym (ap (λ (a : Result (Option Block) ℕ). a >>= λ o. report_from t (behind_line t r line) rest >>= λ x. Ok (with_first o x.0, x.1)) answer) ∙ reads)))
    by_answer (Ok ended) answer =
        let read = read_line t r line ended answer in
        absurd (true_not_false read.fits (ap (λ (g : Stage). may_follow g read.said) closed ∙ closed_blocks read.said))

-- a block is begun, and not ended
abbrev is_within : Stage → Bool
is_within stages.Opened = false
is_within stages.Closed = false
is_within _ = true

-- where a block is begun, a line that ends it follows the certificate
ends_within : (g : Stage) → is_within g ≡ true → is_between g ≡ true → is_certified g ≡ true
ends_within stages.Opened w b = absurd (true_not_false w refl)
ends_within stages.Certified w b = refl
ends_within stages.Tree w b = refl
ends_within stages.Begun w b = b
ends_within stages.Ends w b = b
ends_within stages.Cancels w b = b
ends_within stages.Fails w b = b
ends_within stages.Overs w b = b
ends_within stages.Expires w b = b
ends_within stages.Planned w b = b
ends_within stages.Closed w b = b

-- A line that was read within a block ends it, or the block goes on.
within_line : (l : ReportLine) (r : Reading) → is_within r.stage ≡ true → may_follow r.stage l ≡ true →
    (block_before r l ≡ Some r.block) ⊎ ((is_within (stage_behind l) ≡ true) × (reading.summary_of l ≡ None))
within_line (lines.Cycle number) r w fits = inl (ap (λ (b : Bool). cond b (Some r.block) None) (ends_within r.stage w fits))
within_line (lines.Summary s) r w fits = inl (ap (λ (b : Bool). cond b (Some r.block) None) (ends_within r.stage w fits))
within_line (lines.End piece) r w fits = inr (refl, refl)
within_line (lines.Cancel job) r w fits = inr (refl, refl)
within_line (lines.Fail job) r w fits = inr (refl, refl)
within_line (lines.Over piece) r w fits = inr (refl, refl)
within_line (lines.Expire job) r w fits = inr (refl, refl)
within_line (lines.Plan p) r w fits = inr (refl, refl)
within_line (lines.Grant grant start) r w fits = inr (refl, refl)
within_line (lines.Tops columns rows) r w fits = inr (refl, refl)
within_line (lines.Node mark) r w fits = inr (refl, refl)
within_line (lines.Launch job) r w fits = inr (refl, refl)

-- A line is of a block, or is the summary.
summary_or_block : (l : ReportLine) → ((m : Summary) × (l ≡ lines.Summary m)) ⊎ ((is_within (stage_behind l) ≡ true) × (reading.summary_of l ≡ None))
summary_or_block (lines.Summary s) = inl (s, refl)
summary_or_block (lines.Cycle number) = inr (refl, refl)
summary_or_block (lines.End piece) = inr (refl, refl)
summary_or_block (lines.Cancel job) = inr (refl, refl)
summary_or_block (lines.Fail job) = inr (refl, refl)
summary_or_block (lines.Over piece) = inr (refl, refl)
summary_or_block (lines.Expire job) = inr (refl, refl)
summary_or_block (lines.Plan p) = inr (refl, refl)
summary_or_block (lines.Grant grant start) = inr (refl, refl)
summary_or_block (lines.Tops columns rows) = inr (refl, refl)
summary_or_block (lines.Node mark) = inr (refl, refl)
summary_or_block (lines.Launch job) = inr (refl, refl)

-- a block that is begun is among those that are read
block_comes : (t : Scenario) (r : Reading) (rest : List (List ℕ)) → is_within r.stage ≡ true → r.summary ≡ None → (bs : List Block) (s : Summary) →
    report_from t r rest ≡ Ok (bs, s) → 1 ≤ length bs
block_comes t r [] w none bs s reads =
    let end = end_read t r bs s reads in
    absurd (none_some (sym none ∙ end_summary r.fault r.summary (r.lines + 1) s end.1))
  where
    none_some : {m : Summary} → None ≡ Some m → ⊥
    none_some e = absurd cc
block_comes t r (line ∷ rest) w none bs s reads = by_answer (λ w none more on. block_comes t (behind_line t r line) rest w none more s on) (line_answer t r line) refl
  where
    Next : Type 0
    Next = is_within (behind_line t r line).stage ≡ true → (behind_line t r line).summary ≡ None → (more : List Block) →
        report_from t (behind_line t r line) rest ≡ Ok (more, s) → 1 ≤ length more

    by_answer : Next → (q : Result (Option Block) ℕ) → line_answer t r line ≡ q → 1 ≤ length bs
    by_answer next (Err n) answer =
        absurd (ok_not_err (sym (sym (ap (λ (a : Result (Option Block) ℕ). a >>= λ o. report_from t (behind_line t r line) rest >>= λ x. Ok (with_first o x.0, x.1)) answer) ∙ reads)))
    by_answer next (Ok ended) answer =
        let read = read_line t r line ended answer in
        let on = reads_on t r line rest ended answer bs s reads in
        ⊎_elim
        (λ ends. omega (arith, ap length (on.1 ∙ ap (λ o. with_first o on.0) (read.before ∙ ends))))
        (λ goes.
        let more : 1 ≤ length on.0 =
        next (ap (λ (q : Reading). is_within q.stage) read.behind ∙ goes.0) (ap (λ (q : Reading). q.summary) read.behind ∙ goes.1) on.0 on.2 in
        longer ended on.0 bs on.1 more)
        (within_line read.said r w read.fits)
      where
        longer : (o : Option Block) (more bs : List Block) → bs ≡ with_first o more → 1 ≤ length more → 1 ≤ length bs
        longer None more bs e some = omega (arith, ap length e, some)
        longer (Some b) more bs e some = omega (arith, ap length e)

-- A cycle of a run has no fault.

pub carry_same : (i : Space) (p c d : List Grant) → IsCarry i p c → IsCarry i p d → c ≡ d
carry_same i p c d first second =
    ⊎_elim
    (λ one. ⊎_elim (λ two. one.1 ∙ sym two.1) (λ two. absurd (two.0 one.0)) second)
    (λ one. ⊎_elim (λ two. absurd (one.0 two.0)) (λ two. one.1 ∙ sym two.1) second)
    first

no_correction : (t : Scenario) (s : Snapshot) (b : Block) → IsCycle t s b → b ≡ corrected_at t s b
no_correction t s b cycle = corrected_itself b _ _ _ _ cycle.number cycle.happened cycle.plan.starts cycle.plan.launched

module _ (t : Scenario) (sound : IsSound t) where
  pub instance_good : (s : Snapshot) → IsReached t between s → s.now < t.header.until → IsSoundSpace (instance_at t s)
  instance_good s reached more =
      let there = begin_reached t s reached more in
      instance_sound t (begin t s) sound (stands_begun t (begin t s) sound there) (early_begun t (begin t s) sound there)

  pub right_is_not_faulty : (s : Snapshot) (b : Block) (place : ℕ) (why : Why) → IsReached t between s → s.now < t.header.until → IsCycle t s b → IsFaulty t s b place why → ⊥
  right_is_not_faulty s b place why reached more cycle (planned_badly carry v cause carried failed is) =
      let same : cycle.carry ≡ carry = carry_same (instance_at t s) s.plan cycle.carry carry cycle.carried carried in
      let i = instance_at t s in
      passing_is_not_refused i (total_in i carry) t.header.budget (planned b) (instance_good s reached more) v failed
      (certified_passes i (total_in i carry) t.header.budget (planned b) (subst (λ c. IsHonest i (total_in i c) (planned b)) same cycle.plan.honest) cycle.plan.certified)
  right_is_not_faulty s b place why reached more cycle (told_badly carry at carried tests differ) =
      differ.there (ap (λ c. slice_get (block_lines c) place) (no_correction t s b cycle))

  -- no lawful allotment of a run's instances is worth more than the bounds that are printed for them
  pub run_bounds : (past : List Block) → IsRun t past → BoundsHold t past
  run_bounds [] run = tt
  run_bounds (b ∷ past) run =
      let s = state_behind t past in
      (run.0, certificates_bound (instance_at t s) t.header.budget (planned b) (instance_good s (run_reaches t past run.2) run.0) run.1.plan.certified, run_bounds past run.2)

  pub assured : (bytes : List ℕ) → IsAccepted t bytes → IsAssured t bytes
  assured bytes accepted = record { accepted = accepted; bounds = run_bounds accepted.past accepted.run }

  -- the state behind a run is reached, and each cycle of a run begins before the end
  cycle_not_faulty : (p : List Block) (b : Block) (place : ℕ) (why : Why) → IsRun t (b ∷ p) → IsFaulty t (state_behind t p) b place why → ⊥
  cycle_not_faulty p b place why run = right_is_not_faulty (state_behind t p) b place why (run_reaches t p run.2) run.0 run.1

  -- the whole run that a report reads as, from a check of its front on
  record IsRestOf (past : List Block) (s : Summary) (c : Checking) (rest : List (List ℕ)) (blocks : List Block) : Type 0 where
    pub reads : report_from t c.reading rest ≡ Ok (blocks, s)
    pub order : in_order past ≡ in_order c.past ++ blocks
    pub short : All IsShort rest

  module _ (past : List Block) (s : Summary) (run : IsRun t past) (whole : length past ≡ t.header.until) (counted : s ≡ summary_of t past) where
    order_on : (c : Checking) (ended : Option Block) (more bs : List Block) → in_order past ≡ in_order c.past ++ bs → bs ≡ with_first ended more →
        in_order past ≡ in_order (with_first ended c.past) ++ more
    order_on c None more bs order is = order ∙ ap (λ l. in_order c.past ++ l) is
    order_on c (Some b) more bs order is = order ∙ ap (λ l. in_order c.past ++ l) is ∙ one_more c.past more b

    -- behind a line of the report the check is at its place in the run
    is_in_place : (c : Checking) (line : List ℕ) (rest : List (List ℕ)) (ended : Option Block) (blocks : List Block) → line_answer t c.reading line ≡ Ok ended →
        IsRestOf past s c (line ∷ rest) blocks → IsInPlace t (checked_behind t c line ended)
    is_in_place c line rest ended blocks answer is =
        let read = read_line t c.reading line ended answer in
        let on = reads_on t c.reading line rest ended answer blocks s is.reads in
        let order = order_on c ended on.0 blocks is.order on.1 in
        let r = behind_line t c.reading line in
        let front = with_first ended c.past in
        ⊎_elim
        (λ closed.
        let summary : r.summary ≡ Some closed.0 = ap (λ (q : Reading). q.summary) read.behind ∙ ap reading.summary_of closed.1 in
        let end = closed_end t r closed.0 rest (ap (λ (q : Reading). q.stage) read.behind ∙ ap stage_behind closed.1) summary on.0 s on.2 in
        let same : past ≡ front = goes_on past front on.0 order ∙ ap (λ l. in_order l ++ front) end.0 in
        subst (FitsRun t front) (sym summary) (ap length (sym same) ∙ whole, end.1 ∙ counted ∙ ap (summary_of t) same))
        (λ goes.
        let summary : r.summary ≡ None = ap (λ (q : Reading). q.summary) read.behind ∙ goes.1 in
        let some = block_comes t r rest (ap (λ (q : Reading). is_within q.stage) read.behind ∙ goes.0) summary on.0 s on.2 in
        subst (FitsRun t front) (sym summary)
        (omega (arith, ap length order, length-append (in_order front) on.0, cycles_in_order past, cycles_in_order front, whole, some)))
        (summary_or_block read.said)

    not_refused : (c : Checking) (line : List ℕ) (rest : List (List ℕ)) (blocks : List Block) → IsRestOf past s c (line ∷ rest) blocks → (number : ℕ) (why : Why) →
        IsRefused t c line number why → ⊥
    not_refused c line rest blocks is number why (too_long long) = absurd (omega (arith, long, All-head IsShort line rest is.short))
    not_refused c line rest blocks is number why (malformed n short answer) =
        ok_not_err (sym (sym (ap (λ (a : Result (Option Block) ℕ). a >>= λ o. report_from t (behind_line t c.reading line) rest >>= λ x. Ok (with_first o x.0, x.1)) answer) ∙ is.reads))
    not_refused c line rest blocks is number why (faulty b place because short answer fault) =
        let on = reads_on t c.reading line rest (Some b) answer blocks s is.reads in
        cycle_not_faulty c.past b place because (next_cycle t past c.past on.0 b (is.order ∙ ap (λ l. in_order c.past ++ l) on.1) run) fault
    not_refused c line rest blocks is number why (out_of_place ended short answer right not) = not (is_in_place c line rest ended blocks answer is)

    -- the check of such a report comes to no refusal
    never_refused : (c : Checking) (rest : List (List ℕ)) (blocks : List Block) → IsRestOf past s c rest blocks → (number : ℕ) (why : Why) →
        ComesTo t c rest (Err (number, why)) → ⊥
    never_refused c [] blocks is number why ends =
        let end = end_read t c.reading blocks s is.reads in
        ok_not_err (sym end.1 ∙ ends.1)
    never_refused c (line ∷ rest) blocks is number why comes =
        ⊎_elim (not_refused c line rest blocks is number why)
        (λ on.
        let passed = on.1 in
        let more = reads_on t c.reading line rest passed.ended passed.reads blocks s is.reads in
        never_refused on.0 rest more.0
        (subst (λ (d : Checking). IsRestOf past s d rest more.0) (sym passed.is)
        (record {
          reads = more.2;
          order = order_on c passed.ended more.0 blocks is.order more.1;
          short = All-tail IsShort line rest is.short;
        })) number why on.2)
        comes

  pub accepted_not_refused : (bytes : List ℕ) → IsAccepted t bytes → (number : ℕ) (why : Why) → ComesTo t unchecked (lines_in bytes) (Err (number, why)) → ⊥
  accepted_not_refused bytes accepted =
      never_refused accepted.past (summary_of t accepted.past) accepted.run accepted.whole refl unchecked (lines_in bytes) (in_order accepted.past)
      (record { reads = accepted.reads; order = refl; short = accepted.short })

-- What comes to no refusal is accepted.

-- the run that further lines make of an accepted front
record AcceptsRest (t : Scenario) (c : Checking) (rest : List (List ℕ)) (past : List Block) : Type 0 where
  pub blocks : List Block
  pub run : IsRun t past
  pub whole : length past ≡ t.header.until
  pub order : in_order past ≡ in_order c.past ++ blocks
  pub reads : report_from t c.reading rest ≡ Ok (blocks, summary_of t past)
  pub short : All IsShort rest

fits_before_end : (t : Scenario) (p : List Block) (b : Block) (m : Option Summary) → FitsRun t (b ∷ p) m → length p < t.header.until
fits_before_end t p b None fits = omega (arith, fits)
fits_before_end t p b (Some s) fits = omega (arith, fits.0)

pub run_on : (t : Scenario) (c : Checking) (ended : Option Block) (m : Option Summary) → IsRun t c.past → IsRight t c ended → FitsRun t (with_first ended c.past) m →
    IsRun t (with_first ended c.past)
run_on t c None m run right fits = run
run_on t c (Some b) m run right fits = (omega (arith, fits_before_end t c.past b m fits, now_behind block_cycles t c.past), right, run)

accepts_rest : (t : Scenario) (c : Checking) (rest : List (List ℕ)) (past : List Block) → IsRun t c.past → IsInPlace t c → ComesTo t c rest (Ok past) → AcceptsRest t c rest past
accepts_rest t c [] past run fits ends =
    let summary = end_summary c.reading.fault c.reading.summary (c.reading.lines + 1) ends.1.0 ends.1.1 in
    let closed : FitsRun t c.past (Some ends.1.0) = subst (FitsRun t c.past) summary fits in
    subst (AcceptsRest t c []) (sym ends.0)
    (record {
      blocks = [];
      run = run;
      whole = closed.0;
      order = sym (append-nil (in_order c.past));
      reads = ap (λ (q : Result Summary ℕ). ◌>>=◌ {B = List Block × Summary} q (λ m. Ok ([], m))) ends.1.1 ∙ ap (λ m. Ok ([], m)) closed.1;
      short = All-nil IsShort;
    })
accepts_rest t c (line ∷ rest) past run fits comes =
    ⊎_elim (λ refused. absurd refused)
    (λ on.
    let passed = on.1 in
    let behind = checked_behind t c line passed.ended in
    let place : IsInPlace t behind = subst (IsInPlace t) passed.is passed.in_place in
    let more : AcceptsRest t behind rest past =
    accepts_rest t behind rest past (run_on t c passed.ended behind.reading.summary run passed.right place) place (subst (λ (d : Checking). ComesTo t d rest (Ok past)) passed.is on.2) in
    record {
      blocks = with_first passed.ended more.blocks;
      run = more.run;
      whole = more.whole;
      order = more.order ∙ back passed.ended more.blocks;
      reads = ap (λ (a : Result (Option Block) ℕ). a >>= λ o. report_from t (behind_line t c.reading line) rest >>= λ x. Ok (with_first o x.0, x.1)) passed.reads
          ∙ ap (onto_report passed.ended) more.reads;
      short = All-cons IsShort line rest passed.short more.short;
    })
    comes
  where
    back : (o : Option Block) (bs : List Block) → in_order (with_first o c.past) ++ bs ≡ in_order c.past ++ with_first o bs
    back None bs = refl
    back (Some b) bs = sym (one_more c.past bs b)

-- the cycles that the check comes to are those of the accepted report
pub comes_to_accepted : (t : Scenario) → IsSound t → (bytes : List ℕ) (past : List Block) → ComesTo t unchecked (lines_in bytes) (Ok past) → (a : IsAccepted t bytes) × (a.past ≡ past)
comes_to_accepted t sound bytes past comes =
    let rest = accepts_rest t unchecked (lines_in bytes) past tt (omega (arith, sound.header.some_cycles)) comes in (
      record { past = past; reads = rest.reads ∙ ap (λ bs. Ok (bs, summary_of t past)) (sym rest.order); run = rest.run; whole = rest.whole; short = rest.short },
      refl,
    )
