-- The program of an instance is fit, and earns little.
use Rattle.std.proofs.Common.{◌≡◌, ◌+◌, ◌<◌, map, length, refl, ap, ◌∙◌, arith, []}
use Rattle.std.specs.List.{range_with_len}
use Rattle.std.proofs.lemmas.Int.{ints}
use Rattle.std.proofs.lemmas.List.{get_or-map}
use Rattle.std.proofs.lemmas.List.Elements.{All-contains}
use Rattle.std.proofs.lemmas.List.FromFn.{get_or-range_with_len, length-map-range_with_len, length-range_with_len}
use Rattle.tetri_ip.specs.declared.programs.Program.{Program}
use Rattle.tetri_ip.specs.Points.{IsFit}
use Rattle.tetri_cert.proofs.TreeBoundLaws.{bounds_proper_trees}
use Rattle.tetri_compile.specs.Flat.{plain, program_of}
use Rattle.tetri_compile.proofs.ProgramLaws.{compiled_is_fit}
use Rattle.tetri_assign.specs.Assigned.{assigned}
use Rattle.tetri_assign.proofs.AssignLaws.{assigned_lawful, assigned_worth}
use Rattle.tetri_space.specs.Partitions.{ArePartitionsOf, Parts, live_bids, partitions, parts_in, sets_in}
use Rattle.tetri_space.specs.Sound.{IsSound}
use Rattle.tetri_space.specs.Space.{Space}
use Rattle.tetri_space.proofs.InstanceLaws.{live_within, tops_limit, total_le_tops}
use Rattle.tetri_claims.specs.Certified.{MayHaveTree}
use Rattle.tetri_claims.specs.Laws.{BoundsAreOfProperTrees, ProgramsEarnLittle}

pub programs_earn_little : ProgramsEarnLittle
programs_earn_little s p sound is point at =
    let lawful = assigned_lawful s sound p is point at in
    omega (arith, ints, assigned_worth s sound p is point at, total_le_tops s sound (assigned s point) lawful.grants, tops_limit s sound)

-- the partitions of an instance, as they are found
abbrev found : Space → Parts
found s = record { bids = live_bids s; groups = partitions s; inside = map (parts_in s (partitions s)) (range_with_len 0 (length s.sets)) }

module _ (s : Space) (sound : IsSound s) where
  are_found : ArePartitionsOf s (found s)
  are_found = record {
    bids = refl;
    groups = refl;
    inside = λ k at.
        let f = parts_in s (partitions s) in
        let n = length s.sets in
        let lt : k < n = All-contains (λ m. m < n) (sets_in (live_bids s)) k (live_within s sound) at in
        let here : 0 + k ≡ k = omega arith in
        record {
          known = omega (arith, lt, length-map-range_with_len f 0 n);
          parts = get_or-map f (range_with_len 0 n) k 0 [] (omega (arith, lt, length-range_with_len 0 n)) ∙ ap f (get_or-range_with_len 0 n k 0 lt ∙ here);
        };
  }

  program_is_fit : MayHaveTree s → (p : Program) → plain p ≡ program_of s → IsFit p
  program_is_fit may p is = compiled_is_fit s sound (found s) are_found may.columns may.rows p is

pub bounds_are_of_proper_trees : BoundsAreOfProperTrees
bounds_are_of_proper_trees s marks bound sound may = (
  λ told. (told.0, told.1, (bounds_proper_trees told.0 marks bound (program_is_fit s sound may told.0 told.1)).0 told.2),
  λ proper. (proper.0, proper.1, (bounds_proper_trees proper.0 marks bound (program_is_fit s sound may proper.0 proper.1)).1 proper.2),
)
