-- The steps of a run.
use Rattle.std.proofs.Common.{◌≡◌, ℕ, ◌+◌, ◌-◌, ◌<◌, refl, sym, ap, ◌∙◌, subst, arith, length, get_or, set, true, false, cond, Option, Some, None, Result, Ok, Err}
use Prim.Native.Nat.{zero, suc}
use Rattle.std.proofs.lemmas.List.{length-set}
use Rattle.std.proofs.lemmas.List.FromFn.{length-range_with_len}
use Rattle.tetri_algebra.specs.Rational.{ℚ}
use Rattle.tetri_num.specs.declared.places.Place.{Place}
use Rattle.tetri_ip.specs.declared.programs.Program.{Program}
use Rattle.tetri_ip.specs.Points.{Bounds}
use Rattle.tetri_dictionary.specs.Tables.{Table, row_at, coefficients_of}
use Rattle.tetri_dictionary.specs.declared.choices.Candidate.{Candidate}
use Rattle.tetri_dictionary.specs.Candidates.{candidate_of}
use Rattle.tetri_dictionary.specs.Choices.{leaving, entering, has_positive}
use Rattle.tetri_simplex.specs.Ends.{End, past, long, is_cut, cut_end, best_end, empty_end}
use Rattle.tetri_simplex.specs.Machine.{Turn, ends, leaves, turn, by_leaving, next, by_entering, at_step, run, machine}
use Rattle.tetri_dictionary.specs.Pivots.{pivoted, pivoted_rows}
use Rattle.tetri_dictionary.specs.Start.{first_table}
use Rattle.tetri_base.specs.ResultSteps.{then_ok}
use Rattle.tetri_dictionary.proofs.DictionaryLaws.{then_ok_is}
use Rattle.tetri_simplex.specs.Turns.{GoesOn, HasPlaces}

-- ---- what a table comes to
pub turn_cut : (p : Program) (b : Bounds) (known : ℕ) (t : Table) → is_cut t known ≡ true → ends (cut_end p b t) ≡ turn p b known t
unfolding turn
turn_cut p b known t e = sym (ap (λ u. cond u (ends (cut_end p b t)) (by_leaving p b t (leaving t))) e)

turn_else : (p : Program) (b : Bounds) (known : ℕ) (t : Table) (o : Option ℕ) → is_cut t known ≡ false → o ≡ leaving t → by_leaving p b t o ≡ turn p b known t
unfolding turn
turn_else p b known t o e f = ap (by_leaving p b t) f ∙ sym (ap (λ u. cond u (ends (cut_end p b t)) (by_leaving p b t (leaving t))) e)

pub turn_best : (p : Program) (b : Bounds) (known : ℕ) (t : Table) → is_cut t known ≡ false → None ≡ leaving t → ends (best_end p b t) ≡ turn p b known t
turn_best p b known t e f = turn_else p b known t None e f

pub turn_leaves : (p : Program) (b : Bounds) (known : ℕ) (t : Table) (i : ℕ) → is_cut t known ≡ false → Some i ≡ leaving t → has_positive (coefficients_of (row_at t i)) ≡ true → leaves i ≡ turn p b known t
turn_leaves p b known t i e f h = sym (ap (λ u. cond u (leaves i) (ends (empty_end p b t i))) h) ∙ turn_else p b known t (Some i) e f

pub turn_empty : (p : Program) (b : Bounds) (known : ℕ) (t : Table) (i : ℕ) → is_cut t known ≡ false → Some i ≡ leaving t → has_positive (coefficients_of (row_at t i)) ≡ false → ends (empty_end p b t i) ≡ turn p b known t
turn_empty p b known t i e f h = sym (ap (λ u. cond u (leaves i) (ends (empty_end p b t i))) h) ∙ turn_else p b known t (Some i) e f

-- ---- the next table
pub next_found : (t : Table) (i : ℕ) (o : Option Candidate) (found : Candidate) → entering t i ≡ Ok (candidate_of o) → o ≡ Some found → pivoted t i found.place ≡ next t i
unfolding next
next_found t i o found e oe = sym (ap (λ r. then_ok r (λ b. by_entering t i b)) (e ∙ ap (λ q. Ok (candidate_of q)) oe))

pub next_none : (t : Table) (i : ℕ) (o : Option Candidate) → entering t i ≡ Ok (candidate_of o) → o ≡ None → next t i ≡ Ok t
unfolding next
next_none t i o e oe = ap (λ r. then_ok r (λ b. by_entering t i b)) (e ∙ ap (λ q. Ok (candidate_of q)) oe)

pub next_past : (t : Table) (i : ℕ) (p : Place) → entering t i ≡ Err p → next t i ≡ Err p
unfolding next
next_past t i p e = ap (λ r. then_ok r (λ b. by_entering t i b)) e

-- ---- the run
abbrev last : ℕ → Turn → End
last s (ends e) = at_step s e
last s (leaves i) = long

abbrev after : Program → Bounds → ℕ → ℕ → ℕ → Result Table Place → End
after p b known k s (Err e) = past (record e { step = s })
after p b known k s (Ok u) = run p b known k (s + 1) u

abbrev onward : Program → Bounds → ℕ → ℕ → ℕ → Table → Turn → End
onward p b known k s t (ends e) = at_step s e
onward p b known k s t (leaves i) = after p b known k s (next t i)

run_last : (p : Program) (b : Bounds) (known s : ℕ) (t : Table) → run p b known zero s t ≡ last s (turn p b known t)
unfolding run
run_last p b known s t = refl

run_onward : (p : Program) (b : Bounds) (known k s : ℕ) (t : Table) → run p b known (suc k) s t ≡ onward p b known k s t (turn p b known t)
unfolding run
run_onward p b known k s t = refl

pub run_ends : (p : Program) (b : Bounds) (known k s : ℕ) (t : Table) (e : End) → ends e ≡ turn p b known t → at_step s e ≡ run p b known k s t
run_ends p b known zero s t e h = sym (run_last p b known s t ∙ ap (last s) (sym h))
run_ends p b known (suc k) s t e h = sym (run_onward p b known k s t ∙ ap (onward p b known k s t) (sym h))

pub run_long : (p : Program) (b : Bounds) (known k s i : ℕ) (t : Table) → leaves i ≡ turn p b known t → s ≡ 10000 → k ≡ 10000 - s → long ≡ run p b known k s t
run_long p b known k s i t h e f =
    let z : 0 ≡ k = omega arith in
    sym (run_last p b known s t ∙ ap (last s) (sym h)) ∙ ap (λ n. run p b known n s t) z

run_more : (p : Program) (b : Bounds) (known s i : ℕ) (t : Table) (r : Result Table Place) → leaves i ≡ turn p b known t → s < 10000 → next t i ≡ r → run p b known (10000 - s) s t ≡ after p b known (10000 - (s + 1)) s r
run_more p b known s i t r h l e =
    let k : 10000 - s ≡ suc (10000 - (s + 1)) = omega arith in
    ap (λ n. run p b known n s t) k ∙ run_onward p b known (10000 - (s + 1)) s t ∙ ap (onward p b known (10000 - (s + 1)) s t) (sym h) ∙ ap (after p b known (10000 - (s + 1)) s) e

below_most : (s : ℕ) → s < 10001 → (s ≡ 10000 → ⊥) → s < 10000
below_most s h d = omega arith

pub run_past : (p : Program) (b : Bounds) (known s i : ℕ) (t : Table) (e : Place) → leaves i ≡ turn p b known t → s < 10001 → (s ≡ 10000 → ⊥) → next t i ≡ Err e → at_step s (past e) ≡ run p b known (10000 - s) s t
run_past p b known s i t e h l d n = sym (run_more p b known s i t (Err e) h (below_most s l d) n)

-- ---- the places
first_places : (p : Program) (b : Bounds) → HasPlaces p (first_table p b)
unfolding first_table
first_places p b = record { columns = length-range_with_len 0 (length p.costs.items); places = length-range_with_len (length p.costs.items) (length p.rows.items + length p.costs.items) }

pub start_places : (p : Program) (b : Bounds) (t : Table) → t ≡ first_table p b → HasPlaces p t
start_places p b t e = subst (HasPlaces p) (sym e) (first_places p b)

record SamePlaces (t u : Table) : Type 0 where
  nonbasic : length u.nonbasic ≡ length t.nonbasic
  basic : length u.basic ≡ length t.basic

pivoted_places : (t u : Table) (i j : ℕ) → pivoted t i j ≡ Ok u → SamePlaces t u
unfolding pivoted
pivoted_places t u i j e =
    let a = then_ok_is (pivoted_rows (length t.nonbasic) i j t.rows) _ u e in
    let made : Table = record { nonbasic = set t.nonbasic j (get_or t.basic i 0); basic = set t.basic i (get_or t.nonbasic j 0); rows = a.0 } in
    let s : made ≡ u = ok_is (Ok made) made u refl a.2 in
    record {
      nonbasic = ap (λ (v : Table). length v.nonbasic) (sym s) ∙ length-set t.nonbasic j (get_or t.basic i 0);
      basic = ap (λ (v : Table). length v.basic) (sym s) ∙ length-set t.basic i (get_or t.nonbasic j 0);
    }
  where
    ok_is : (o : Result Table Place) (v w : Table) → o ≡ Ok v → o ≡ Ok w → v ≡ w
    ok_is o v w e f = cc

next_places : (t u : Table) (i : ℕ) → next t i ≡ Ok u → SamePlaces t u
unfolding next
next_places t u i e = by_found (entering t i) e
  where
    by_found : (o : Result (Option (ℕ × ℚ)) Place) → then_ok o (λ found. by_entering t i found) ≡ Ok u → SamePlaces t u
    by_found (Err x) f = cc
    by_found (Ok None) f = let s : t ≡ u = cc in record { nonbasic = ap (λ (v : Table). length v.nonbasic) (sym s); basic = ap (λ (v : Table). length v.basic) (sym s) }
    by_found (Ok (Some x)) f = pivoted_places t u i x.0 f

pub run_goes_on : (p : Program) (b : Bounds) (known s i : ℕ) (t u : Table) → leaves i ≡ turn p b known t → s < 10001 → (s ≡ 10000 → ⊥) → next t i ≡ Ok u → HasPlaces p t → GoesOn p b known s t u
run_goes_on p b known s i t u h l d n g =
    let m = below_most s l d in
    let k = next_places t u i n in
    record {
      more = m;
      places = record { columns = k.nonbasic ∙ g.columns; places = k.basic ∙ g.places };
      same = run_more p b known s i t (Ok u) h m n;
    }

pub machine_is : (p : Program) (b : Bounds) (known : ℕ) (t : Table) → t ≡ first_table p b → run p b known 10000 0 t ≡ machine p b known
unfolding machine
machine_is p b known t e = ap (run p b known 10000 0) e
