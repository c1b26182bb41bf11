-- The cut of a divisor, and whether it passes.
use Rattle.std.proofs.Common.{◌≡◌, ℕ, ◌+◌, ◌^◌, ◌<◌, ◌≤◌, refl, sym, ap, ◌∙◌, subst, arith, All, inl, inr, List, length, Option, Some, None, Result, Ok, Err, Bool, true, false, cond}
use Rattle.std.specs.Prelude.{◌≤ℤ◌, ◌<ℤ◌, ◌*ℤ◌, unsigned_abs, nat_lt, IfOk, MatchOption}
use Rattle.std.specs.Int.{int_div_euclid}
use Rattle.std.proofs.lemmas.Bool.{cases_lt}
use Rattle.std.proofs.lemmas.Int.{ints}
use borrow.Author.Tests.{ltb-false}
use lib.IntN.{ℤ, pos}
use mir.Val.{SFits}
use mir.Syntax.{w128}
use Rattle.tetri_algebra.specs.Integers.{mul_positive}
use Rattle.tetri_algebra.specs.Rational.{ℚ}
use Rattle.tetri_ip.specs.declared.programs.Program.{Program}
use Rattle.tetri_ip.specs.declared.programs.Row.{Row}
use Rattle.tetri_ip.specs.declared.programs.Term.{Term}
use Rattle.tetri_ip.specs.declared.programs.Weight.{Weight}
use Rattle.tetri_ip.specs.Forming.{within}
use Rattle.tetri_ip.specs.Points.{IsFitRow}
use Rattle.tetri_algebra.specs.Range.{IsWithin}
use Rattle.tetri_simplex.specs.Ends.{best}
use Rattle.tetri_simplex.specs.Relaxation.{IsWhole}
use Rattle.tetri_ip.proofs.IntegerProgramLaws.{within_is}
use Rattle.tetri_cuts.specs.declared.sums.Sums.{Sums}
use Rattle.tetri_cuts.specs.declared.tightening.Added.{Added}
use Rattle.tetri_cuts.specs.Breaking.{IsBroken}
use Rattle.tetri_cuts.specs.Cuts.{IsCut, cut_right, cut_terms, past_column, quotients}
use Rattle.tetri_cuts.specs.Sums.{AreSums}
use Rattle.tetri_cuts.specs.Tightening.{GoesOn, IsCutBy, IsTaken, NonePasses, Passes, Stops, Takes, root_run}
use Rattle.tetri_cuts.proofs.CutShape.{AreTerms, div_within, quotients_are}
use Rattle.tetri_cuts.proofs.CutSteps.{length-sums_from, within_fits}

-- ---- a product in range or not
pub not_within : (z : ℤ) → within z ≡ None → IsWithin z → ⊥
not_within z e h = by_test (nat_lt (unsigned_abs z) (2 ^ 127)) refl e
  where
    by_test : (t : Bool) → nat_lt (unsigned_abs z) (2 ^ 127) ≡ t → cond t (Some z) None ≡ None → ⊥
    by_test true f g = cc
    by_test false f g = let l = ltb-false _ _ f in omega (arith, h, l)

pub divisor_positive : (q : ℤ) (d : ℕ) → pos 0 <ℤ q → 1 ≤ d → pos 1 ≤ℤ (q *ℤ pos d)
divisor_positive q d h l = least (q *ℤ pos d) (mul_positive q (pos d) h (above d l))
  where
    least : (z : ℤ) → pos 0 <ℤ z → pos 1 ≤ℤ z
    least z k = omega (arith, ints)

    above : (n : ℕ) → 1 ≤ n → pos 0 <ℤ pos n
    above n k = omega (arith, ints)

-- ---- the row of a divisor
module _ (p : Program) (ws : List Weight) (s : Sums) (q : ℤ) (r : Row) (sums : AreSums p ws s) (terms : r.terms.items ≡ quotients q 0 s.columns.items) (right : r.right ≡ int_div_euclid s.right q) where
  pub cut_of_sums : IsCut p q ws r
  cut_of_sums = record { terms = terms ∙ ap (λ (v : List ℤ). quotients q 0 v) sums.columns; right = right ∙ ap (λ (z : ℤ). int_div_euclid z q) sums.right }

  pub terms_of_sums : pos 1 ≤ℤ q → AreTerms 0 (length p.costs.items) r.terms.items
  terms_of_sums h =
      let n : 0 + length s.columns.items ≡ length p.costs.items = omega (arith, ap (λ (v : List ℤ). length v) sums.columns ∙ length-sums_from p.rows.items ws 0 p.costs.items) in
      subst (λ ts. AreTerms 0 (length p.costs.items) ts) (sym terms) (quotients_are q 0 (length p.costs.items) s.columns.items h n sums.columns_within)

  pub right_of_sums : pos 1 ≤ℤ q → IsWithin r.right
  right_of_sums h = subst IsWithin (sym right) (div_within s.right q h sums.right_within)

-- ---- passing
module _ (p : Program) (point : List ℚ) (q : ℤ) (ws : List Weight) (d : ℕ) (divisor : ℤ) (r : Row) (is : divisor ≡ q *ℤ pos d) (row : IsCut p divisor ws r) where
  terms_are : r.terms.items ≡ cut_terms p (q *ℤ pos d) ws
  terms_are = row.terms ∙ ap (λ y. cut_terms p y ws) is

  right_is : r.right ≡ cut_right p (q *ℤ pos d) ws
  right_is = row.right ∙ ap (λ y. cut_right p y ws) is

  pub passes_from : IsWithin divisor → past_column p ws ≡ None → IsFitRow p r.terms.items r.right → IsBroken r.terms.items r.right point → Passes p point q ws d
  passes_from within formed fit broken = record {
    in_range = subst IsWithin is within;
    formed = formed;
    fit = subst (λ (ts : List Term). IsFitRow p ts (cut_right p (q *ℤ pos d) ws)) terms_are (subst (λ (z : ℤ). IsFitRow p r.terms.items z) right_is fit);
    broken = subst (λ (ts : List Term). IsBroken ts (cut_right p (q *ℤ pos d) ws) point) terms_are (subst (λ (z : ℤ). IsBroken r.terms.items z point) right_is broken);
  }

  pub passes_to : Passes p point q ws d → IsFitRow p r.terms.items r.right × IsBroken r.terms.items r.right point
  passes_to h = (
    subst (λ (ts : List Term). IsFitRow p ts r.right) (sym terms_are) (subst (λ (z : ℤ). IsFitRow p (cut_terms p (q *ℤ pos d) ws) z) (sym right_is) h.fit),
    subst (λ (ts : List Term). IsBroken ts r.right point) (sym terms_are) (subst (λ (z : ℤ). IsBroken (cut_terms p (q *ℤ pos d) ws) z point) (sym right_is) h.broken),
  )

-- ---- stopping and going on
module _ (p : Program) (c : ℕ) (point : List ℚ) (q : ℤ) (ws : List Weight) (run : root_run p ≡ best point q ws) where
  same_best : (x : List ℚ) (y : ℤ) (vs : List Weight) → GoesOn p c x y vs → best point q ws ≡ best x y vs
  same_best x y vs goes = sym run ∙ goes.run

  pub stops_whole : All IsWhole point → Stops p c
  stops_whole all x y vs goes d least most passes =
      let e = same_best x y vs goes in
      let f : point ≡ x = cc in
      goes.not_whole (subst (λ zs. All IsWhole zs) f all)

  pub stops_full : 16 ≤ c → Stops p c
  stops_full full x y vs goes d least most passes = absurd (omega (arith, full, goes.few_cuts))

  pub stops_long : 2000 ≤ length p.rows.items → Stops p c
  stops_long many x y vs goes d least most passes = absurd (omega (arith, many, goes.few_rows))

  pub stops_none : NonePasses p point q ws → Stops p c
  stops_none none x y vs goes d least most passes =
      let e = same_best x y vs goes in
      let f : x ≡ point = cc in
      let g : y ≡ q = cc in
      let h : vs ≡ ws = cc in
      none d least most (subst (λ xs. Passes p xs q ws d) f (subst (λ z. Passes p x z ws d) g (subst (λ us. Passes p x y us d) h passes)))

  pub takes_cut : (All IsWhole point → ⊥) → c < 16 → length p.rows.items < 2000 → (a : Added) → IsTaken p point q ws a → Takes p c a
  takes_cut whole few rows a taken = (point, (q, (ws, (record { run = run; not_whole = whole; few_cuts = few; few_rows = rows }, taken))))

-- ---- the divisor, as the code forms it
pub product_is : (o : Option ℤ) (a b q d : ℤ) → o ≡ within (a *ℤ b) → a ≡ q → b ≡ d → o ≡ within (q *ℤ d)
product_is o a b q d e ae be = e ∙ ap (λ x. within (x *ℤ b)) ae ∙ ap (λ x. within (q *ℤ x)) be

pub record IsDivisor (z : ℤ) (q : ℤ) (d : ℕ) : Type 0 where
  pub is : z ≡ q *ℤ pos d
  pub in_range : IsWithin z
  pub positive : pos 1 ≤ℤ z

pub divisor_is : (o : Option ℤ) (q : ℤ) (d : ℕ) (x z : ℤ) → o ≡ within (q *ℤ pos d) → o ≡ Some x → (SFits w128 x → z ≡ x) → pos 0 <ℤ q → 1 ≤ d → IsDivisor z q d
divisor_is o q d x z e some read h l =
    let w = within_is (q *ℤ pos d) x (sym e ∙ some) in
    let r = read (within_fits x w.1) in
    record { is = r ∙ w.0; in_range = subst IsWithin (sym r) w.1; positive = subst (λ y. pos 1 ≤ℤ y) (sym (r ∙ w.0)) (divisor_positive q d h l) }

-- ---- one divisor after the other
pub none_past : (p : Program) (point : List ℚ) (q : ℤ) (ws : List Weight) (j : ℕ) → past_column p ws ≡ Some j → NonePasses p point q ws
none_past p point q ws j e d least most passes = let f = passes.formed in cc

pub below_next : (p : Program) (point : List ℚ) (q : ℤ) (ws : List Weight) (d e : ℕ) → e ≡ d + 1 → ((k : ℕ) → 2 ≤ k → k < d → Passes p point q ws k → ⊥) → (Passes p point q ws d → ⊥) →
    (k : ℕ) → 2 ≤ k → k < e → Passes p point q ws k → ⊥
below_next p point q ws d e is below here k least lt passes = elim (cases_lt k d) [
  | inl less ↦ below k least less passes
  | inr le ↦ let same : k ≡ d = omega (arith, le, lt, is) in here (subst (λ n. Passes p point q ws n) same passes)
]

pub next_of_first : {E : Type 0} → (p : Program) (c : ℕ) (point : List ℚ) (q z : ℤ) (ws : List Weight) → z ≡ q → root_run p ≡ best point q ws → (All IsWhole point → ⊥) → c < 16 → length p.rows.items < 2000 →
    (r : Result (Option Added) E) → IfOk r (λ o. MatchOption o (NonePasses p point z ws) (IsTaken p point z ws)) → IfOk r (λ o. MatchOption o (Stops p c) (Takes p c))
next_of_first p c point q z ws e run whole few rows (Err f) h = h
next_of_first p c point q z ws e run whole few rows (Ok None) h = stops_none p c point q ws run (subst (λ y. NonePasses p point y ws) e h)
next_of_first p c point q z ws e run whole few rows (Ok (Some a)) h = takes_cut p c point q ws run whole few rows a (subst (λ y. IsTaken p point y ws a) e h)

-- a refused divisor, and one that gives the cut
module _ (p : Program) (point : List ℚ) (q z : ℤ) (ws : List Weight) (same : z ≡ q) (d : ℕ) where
  pub refused : (o : Option Added) → MatchOption o (Passes p point z ws d → ⊥) (IsCutBy p point z ws d) → o ≡ None → Passes p point q ws d → ⊥
  refused o h e passes =
      let n : Passes p point z ws d → ⊥ = subst (λ x. MatchOption x (Passes p point z ws d → ⊥) (IsCutBy p point z ws d)) e h in
      n (subst (λ y. Passes p point y ws d) (sym same) passes)

  pub taken_first : (o : Option Added) (a : Added) → MatchOption o (Passes p point z ws d → ⊥) (IsCutBy p point z ws d) → o ≡ Some a → 2 ≤ d → d ≤ 64 →
      ((k : ℕ) → 2 ≤ k → k < d → Passes p point z ws k → ⊥) → IsTaken p point q ws a
  taken_first o a h e least most below =
      let by : IsCutBy p point z ws d a = subst (λ x. MatchOption x (Passes p point z ws d → ⊥) (IsCutBy p point z ws d)) e h in
      subst (λ y. IsTaken p point y ws a) same (record { d = d; least = least; most = most; cut = by; first = below })
