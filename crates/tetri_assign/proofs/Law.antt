-- Of every point of the program, what is assigned grants exactly its counts, is lawful, and is worth no less.
use Rattle.std.proofs.Common.{◌≡◌, ℕ, zero, suc, ◌+◌, ◌<◌, ◌≤◌, List, [], ◌∷◌, length, get_or, map, AllPairs, Contains, refl, sym, ap, ◌∙◌, subst, arith, true, ⊎_elim}
use Rattle.std.specs.Prelude.{◌≤ℤ◌, nat_le, nat_lt, unsigned_abs}
use Rattle.std.proofs.lemmas.Bool.{and_parts, cases_lt}
use Rattle.std.proofs.lemmas.Int.{ints}
use Rattle.std.proofs.lemmas.List.FromFn.{length-map-range_with_len}
use lib.IntN.{ℤ, pos}
use Rattle.tetri_algebra.specs.IntegerRing.{ℤ_ring}
use Rattle.tetri_algebra.specs.Sums.{dot}
use Rattle.tetri_strl.specs.declared.expr.Leaf.{Leaf}
use Rattle.tetri_strl.specs.Prune.{starts_in}
use Rattle.tetri_strl.specs.Tree.{leaves}
use Rattle.tetri_ip.specs.declared.programs.Program.{Program}
use Rattle.tetri_ip.specs.Points.{number_at, objective, box_of, IsPoint}
use Rattle.tetri_space.specs.GrantOrder.{ComesBefore}
use Rattle.tetri_space.specs.Lawful.{IsLawful}
use Rattle.tetri_space.specs.Partitions.{live_bids, asked, closed_sets}
use Rattle.tetri_space.specs.Sound.{IsSound}
use Rattle.tetri_space.specs.Space.{Bid, Space, leaf_in}
use Rattle.tetri_space.specs.Total.{total_in}
use Rattle.tetri_space.proofs.InstanceLaws.{leaf_in-found, IsLeafOf, AllLeavesOf, lefts_good, lefts_jobs, lefts_leaves}
use Rattle.tetri_base.proofs.ListLaws.{Each-at}
use Rattle.tetri_compile.specs.Draft.{draft}
use Rattle.tetri_compile.specs.Flat.{FlatProgram, FlatRow, coefficient, plain, program_of}
use Rattle.tetri_compile.specs.Forms.{Within}
use Rattle.tetri_compile.proofs.ProgramLaws.{RowsMet, at_column, flat_met, flat_objective, goods, le_from_test, live_total, lt_from_test, meets_to, other_jobs}
use Rattle.tetri_assign.specs.Assigned.{assigned}
use Rattle.tetri_assign.specs.Granting.{GrantsCounts}
use Rattle.tetri_assign.proofs.GrantedLemmas.{granted_sum, granted_parts, earns_no_less}
use Rattle.tetri_assign.proofs.GrantsLawful.{made_lawful, made_ordered}
use Rattle.tetri_assign.proofs.Meeting.{IsMeeting}

pos_le : (m n : ℕ) → m ≤ n → pos m ≤ℤ pos n
pos_le m n le = omega (arith, ints)

number_at-past : (xs : List ℤ) (k : ℕ) → length xs ≤ k → number_at xs k ≡ pos 0
number_at-past [] k le = refl
number_at-past (x ∷ xs) zero le = absurd (omega (arith, le))
number_at-past (x ∷ xs) (suc k) le = number_at-past xs k (omega (arith, le))

zeros_at : (us : List ℕ) (k : ℕ) → number_at (map (λ (u : ℕ). pos 0) us) k ≡ pos 0
zeros_at [] k = refl
zeros_at (u ∷ us) zero = refl
zeros_at (u ∷ us) (suc k) = zeros_at us k

pos_at : (us : List ℕ) (k : ℕ) → number_at (map pos us) k ≡ pos (get_or us k 0)
pos_at [] k = refl
pos_at (u ∷ us) zero = refl
pos_at (u ∷ us) (suc k) = pos_at us k

abs_le : (z : ℤ) (n : ℕ) → pos 0 ≤ℤ z → z ≤ℤ pos n → unsigned_abs z ≤ n
abs_le z n low high = omega (arith, ints)

zero_plus : (k : ℕ) → 0 + k ≡ k
zero_plus k = omega arith

within_from : (x : ℕ → ℕ) (n : ℕ) (us : List ℕ) → ((k : ℕ) → k < length us → x (n + k) ≤ get_or us k 0) → Within x n us
within_from x n [] h = tt
within_from x n (u ∷ us) h =
    let first : x (n + 0) ≤ u = h 0 (omega arith) in
    let none : n + 0 ≡ n = omega arith in (
      subst (λ (j : ℕ). x j ≤ u) none first,
      within_from x (n + 1) us (λ k lt. let more : n + suc k ≡ (n + 1) + k = omega arith in subst (λ (j : ℕ). x j ≤ get_or us k 0) more (h (suc k) (omega (arith, lt)))),
    )

module _ (s : Space) (sound : IsSound s) (p : Program) (is : plain p ≡ program_of s) (point : List ℤ) (at : IsPoint p (box_of p) point) where
  abbrev to : ℕ
  to = s.now + s.window

  abbrev us : List ℕ
  us = (draft s).uppers

  costs_are : p.costs.items ≡ (program_of s).costs
  costs_are = ap (λ (q : FlatProgram). q.costs) is

  columns : length p.costs.items ≡ length us
  columns = ap length costs_are ∙ length-map-range_with_len (λ j. pos (coefficient (draft s).objective j)) 0 (length us)

  long : length point ≡ length us
  long = at.count ∙ columns

  within_box : (k : ℕ) → k < length us → (pos 0 ≤ℤ number_at point k) × (number_at point k ≤ℤ pos (get_or us k 0))
  within_box k lt =
      let both = at.inside k (omega (arith, lt, columns)) in
      let low : number_at p.lower.items k ≡ pos 0 = ap (λ (q : FlatProgram). number_at q.lower k) is ∙ zeros_at us k in
      let high : number_at p.upper.items k ≡ pos (get_or us k 0) = ap (λ (q : FlatProgram). number_at q.upper k) is ∙ pos_at us k in
      (subst (λ z. z ≤ℤ number_at point k) low both.0, subst (λ z. number_at point k ≤ℤ z) high both.1)

  whole : (k : ℕ) → pos 0 ≤ℤ number_at point k
  whole k =
      ⊎_elim (λ lt. (within_box k lt).0) (λ ge. subst (λ z. pos 0 ≤ℤ z) (sym (number_at-past point k (omega (arith, ge, long)))) (omega (arith, ints))) (cases_lt k (length us))

  leaf_of : (b : Bid) (l : Leaf) → Contains (live_bids s) b → Contains (leaves b.expr) l → IsLeafOf s.now to s.bids b.job l
  leaf_of b l among below = Each-at (AllLeavesOf s.now to s.bids) (live_bids s) b (lefts_leaves s.now to s.bids) among l below

  in_window : (l : Leaf) → starts_in s.now to l ≡ true → (s.now ≤ l.start) × (l.start < to)
  in_window l e = let both = and_parts (nat_le s.now l.start) (nat_lt l.start to) e in (le_from_test s.now l.start both.0, lt_from_test l.start to both.1)

  pub meeting : IsMeeting s (live_bids s) (asked s (live_bids s)) (closed_sets s) (at_column point)
  meeting = record {
    sound = lefts_good s.now to s.bids (goods s sound);
    jobs = lefts_jobs s.now to s.bids (other_jobs s sound);
    live = λ b l among below. in_window l (leaf_of b l among below).in_range;
    found = λ b l among below.
        let k = leaf_of b l among below in
        ap (λ j. leaf_in s.bids j l.num) (sym k.job) ∙ leaf_in-found s k.bid l sound k.among k.below;
    box = within_from (at_column point) 0 us (λ k lt.
        let both = within_box k lt in
        subst (λ (j : ℕ). at_column point j ≤ get_or us k 0) (sym (zero_plus k)) (abs_le (number_at point k) (get_or us k 0) both.0 both.1));
    met = flat_met (draft s) point long whole (subst (λ (rs : List FlatRow). RowsMet rs point) (ap (λ (q : FlatProgram). q.rows) is) (meets_to p.rows.items point at.met));
  }

  pub assigned_counts : GrantsCounts s point (assigned s point)
  assigned_counts = record {
    leaves = granted_sum s (live_bids s) (asked s (live_bids s)) (closed_sets s) (at_column point) meeting;
    parts = granted_parts s (live_bids s) (asked s (live_bids s)) (closed_sets s) (at_column point) meeting;
  }

  pub assigned_lawful : IsLawful s (assigned s point)
  assigned_lawful = made_lawful s (live_bids s) (asked s (live_bids s)) (closed_sets s) (at_column point) meeting

  pub assigned_ordered : AllPairs ComesBefore (assigned s point)
  assigned_ordered = made_ordered s (live_bids s) (asked s (live_bids s)) (closed_sets s) (at_column point) meeting

  pub assigned_worth : objective p point ≤ℤ pos (total_in s (assigned s point))
  assigned_worth =
      let worth = earns_no_less s (live_bids s) (asked s (live_bids s)) (closed_sets s) (at_column point) meeting in
      let total = live_total s sound (assigned s point) assigned_lawful in
      subst (λ cs. dot ℤ_ring cs point ≤ℤ pos (total_in s (assigned s point))) (sym costs_are)
      (subst (λ z. z ≤ℤ pos (total_in s (assigned s point))) (sym (flat_objective (draft s) point long whole)) (pos_le _ (total_in s (assigned s point)) (omega (arith, worth, total))))
