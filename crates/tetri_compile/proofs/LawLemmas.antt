-- Every lawful allotment has a point of the program that is worth no less.
use Rattle.std.proofs.Common.{◌≡◌, ℕ, ◌≤◌, List, length, sym, ap, ◌∙◌, subst, arith}
use Rattle.std.specs.Prelude.{◌≤ℤ◌}
use Rattle.std.proofs.lemmas.Int.{ints}
use Rattle.std.proofs.lemmas.List.{length-map}
use Rattle.std.proofs.lemmas.List.FromFn.{length-map-range_with_len}
use lib.IntN.{pos}
use Rattle.tetri_algebra.specs.IntegerRing.{ℤ_ring}
use Rattle.tetri_algebra.specs.Sums.{dot}
use Rattle.tetri_strl.specs.declared.grants.Grant.{Grant}
use Rattle.tetri_strl.proofs.ExprLaws.{AreBelow}
use Rattle.tetri_ip.specs.declared.programs.Program.{Program}
use Rattle.tetri_ip.specs.Points.{number_at, objective, box_of, IsPoint}
use Rattle.tetri_space.specs.Lawful.{IsLawful}
use Rattle.tetri_space.specs.Partitions.{live_bids, partitions}
use Rattle.tetri_space.specs.Sound.{IsSound}
use Rattle.tetri_space.specs.Space.{Space}
use Rattle.tetri_space.specs.Total.{total_in}
use Rattle.tetri_compile.specs.Allotted.{allotted, earning, point_of}
use Rattle.tetri_compile.specs.Draft.{draft}
use Rattle.tetri_compile.specs.Flat.{FlatProgram, coefficient, plain, program_of}
use Rattle.tetri_compile.proofs.BoxLemmas.{point_below}
use Rattle.tetri_compile.proofs.FairLemmas.{first_law}
use Rattle.tetri_compile.proofs.FlatLemmas.{at_column, RowsMet, point_reads, point_between, point_whole, below_length, meets_from, met_flat, flat_objective}
use Rattle.tetri_compile.proofs.LawfulLemmas.{fair, live_total}

pos_le : (m n : ℕ) → m ≤ n → pos m ≤ℤ pos n
pos_le m n le = omega (arith, ints)

module _ (s : Space) (sound : IsSound s) (a : List Grant) (lawful : IsLawful s a) where
  below : AreBelow (allotted s a) (draft s).uppers
  below = point_below s (live_bids s) (partitions s) a (earning s a) (fair s sound a lawful)

  long : length (point_of s a) ≡ length (draft s).uppers
  long = length-map (allotted s a) pos ∙ below_length (allotted s a) (draft s).uppers below

  module _ (p : Program) (is : plain p ≡ program_of s) where
    costs_are : p.costs.items ≡ (program_of s).costs
    costs_are = ap (λ (q : FlatProgram). q.costs) is

    pub allotment_has_point : IsPoint p (box_of p) (point_of s a) × (pos (total_in s a) ≤ℤ objective p (point_of s a))
    allotment_has_point =
        let law = first_law s (live_bids s) (partitions s) a (earning s a) (fair s sound a lawful) (at_column (point_of s a)) (point_reads (allotted s a)) in
        let met = met_flat (draft s) (point_of s a) long (point_whole (allotted s a)) law.0 in
        let worth = flat_objective (draft s) (point_of s a) long (point_whole (allotted s a)) in (
          record {
            count = long ∙ sym (ap length costs_are ∙ length-map-range_with_len (λ j. pos (coefficient (draft s).objective j)) 0 (length (draft s).uppers));
            inside = λ k lt.
                let both = point_between (allotted s a) (draft s).uppers k below in (
                  subst (λ zs. number_at zs k ≤ℤ number_at (point_of s a) k) (sym (ap (λ (q : FlatProgram). q.lower) is)) both.0,
                  subst (λ zs. number_at (point_of s a) k ≤ℤ number_at zs k) (sym (ap (λ (q : FlatProgram). q.upper) is)) both.1,
                );
            met = meets_from p.rows.items (point_of s a) (subst (λ rs. RowsMet rs (point_of s a)) (sym (ap (λ (q : FlatProgram). q.rows) is)) met);
          },
          subst (λ cs. pos (total_in s a) ≤ℤ dot ℤ_ring cs (point_of s a)) (sym costs_are)
              (subst (λ z. pos (total_in s a) ≤ℤ z) (sym worth) (pos_le (total_in s a) _ (omega (arith, law.1, live_total s sound a lawful)))),
        )
