-- A certificate's bound holds for every lawful allotment, and marks have one answer.
use Rattle.std.proofs.Common.{◌≡◌, ℕ, ◌-◌, ◌^◌, ◌<◌, ◌≤◌, inl, Bool, true, false, nat_lt, List, [], ◌∷◌, length, map, refl, sym, ap, ◌∙◌, arith, Ok}
use Rattle.std.specs.Prelude.{pos}
use Rattle.std.proofs.lemmas.Bool.Decides.{nat_tests}
use Rattle.std.proofs.lemmas.Int.{ints}
use Rattle.std.proofs.lemmas.List.{length-map}
use Prim.Native.Nat.{zero, suc}
use lib.IntN.{ℤ}
use Rattle.tetri_strl.specs.declared.grants.Grant.{Grant}
use Rattle.tetri_ip.specs.declared.programs.Program.{Program}
use Rattle.tetri_ip.specs.declared.programs.Row.{Row}
use Rattle.tetri_ip.specs.declared.programs.Term.{Term}
use Rattle.tetri_ip.specs.Points.{right_of, terms_of}
use Rattle.tetri_cert.specs.declared.certificate.Certificate.{Certificate}
use Rattle.tetri_cert.specs.declared.certificate.Certificate.TheVariants.{Tops, Tree}
use Rattle.tetri_cert.specs.declared.marks.Mark.{Mark}
use Rattle.tetri_ip.specs.SamePrograms.{SameRows, SaysSame}
use Rattle.tetri_cert.proofs.TreeBoundLaws.{same_programs, tree_bound_holds}
use Rattle.tetri_compile.specs.Allotted.{point_of}
use Rattle.tetri_compile.specs.Flat.{FlatProgram, FlatRow, plain, plain_row}
use Rattle.tetri_compile.proofs.ProgramLaws.{allotment_has_point}
use Rattle.tetri_space.specs.Lawful.{IsLawful}
use Rattle.tetri_space.specs.Sound.{IsSound}
use Rattle.tetri_space.specs.Space.{Space}
use Rattle.tetri_space.specs.Total.{total_in}
use Rattle.tetri_space.proofs.InstanceLaws.{tops_limit, total_le_tops}
use Rattle.tetri_claims.specs.Certified.{IsBoundOf, TreeAnswers}
use Rattle.tetri_claims.specs.Laws.{CertificatesBound, TreesHaveOneAnswer}

-- ---- the bound of a tree
module _ (s : Space) (sound : IsSound s) (a : List Grant) (lawful : IsLawful s a) where
  -- no total is as great as the cap of a tree's floors
  total_small : total_in s a < 2 ^ 64 - 1
  total_small = omega (arith, total_le_tops s sound a lawful.grants, tops_limit s sound)

  tree_bounds : (marks : List Mark) (bound : ℕ) → TreeAnswers s marks (Ok bound) → total_in s a ≤ bound
  tree_bounds marks bound (p, is, e) = by_test (nat_lt bound (2 ^ 64 - 1)) refl
    where
      by_test : (t : Bool) → nat_lt bound (2 ^ 64 - 1) ≡ t → total_in s a ≤ bound
      by_test true lt =
          let law = allotment_has_point s sound a lawful p is in
          let below : bound < 2 ^ 64 - 1 = grind (arith, nat_tests) in
          omega (arith, ints, law.1, tree_bound_holds p marks bound e (inl below) (point_of s a) law.0)
      by_test false le = let above : 2 ^ 64 - 1 ≤ bound = grind (arith, nat_tests) in omega (arith, total_small, above)

  bound_holds : (c : Certificate) (bound : ℕ) → IsBoundOf s c bound → total_in s a ≤ bound
  bound_holds (Tops columns rows) bound is = omega (arith, is, total_le_tops s sound a lawful.grants)
  bound_holds (Tree marks) bound is = tree_bounds marks bound is

pub certificates_bound : CertificatesBound
certificates_bound s budget p sound certified a lawful = bound_holds s sound a lawful p.certificate p.bound certified.bound

-- ---- programs that say the same
abbrev flat_terms : List FlatRow → ℕ → List Term
flat_terms [] k = []
flat_terms (r ∷ rs) zero = r.terms
flat_terms (r ∷ rs) (suc k) = flat_terms rs k

abbrev flat_right : List FlatRow → ℕ → ℤ
flat_right [] k = pos 0
flat_right (r ∷ rs) zero = r.right
flat_right (r ∷ rs) (suc k) = flat_right rs k

terms_are : (rs : List Row) (k : ℕ) → terms_of rs k ≡ flat_terms (map plain_row rs) k
terms_are [] k = refl
terms_are (r ∷ rs) zero = refl
terms_are (r ∷ rs) (suc k) = terms_are rs k

rights_are : (rs : List Row) (k : ℕ) → right_of rs k ≡ flat_right (map plain_row rs) k
rights_are [] k = refl
rights_are (r ∷ rs) zero = refl
rights_are (r ∷ rs) (suc k) = rights_are rs k

same_rows : (rs ss : List Row) → map plain_row rs ≡ map plain_row ss → SameRows rs ss
same_rows rs ss e = record {
  count = sym (length-map rs plain_row) ∙ ap length e ∙ length-map ss plain_row;
  terms = λ k. terms_are rs k ∙ ap (λ (fs : List FlatRow). flat_terms fs k) e ∙ sym (terms_are ss k);
  rights = λ k. rights_are rs k ∙ ap (λ (fs : List FlatRow). flat_right fs k) e ∙ sym (rights_are ss k);
}

pub says_same : (p q : Program) → plain p ≡ plain q → SaysSame p q
says_same p q e = record {
  costs = ap (λ (f : FlatProgram). f.costs) e;
  lower = ap (λ (f : FlatProgram). f.lower) e;
  upper = ap (λ (f : FlatProgram). f.upper) e;
  rows = same_rows p.rows.items q.rows.items (ap (λ (f : FlatProgram). f.rows) e);
}

pub one_answer : TreesHaveOneAnswer
one_answer s marks answer other (p, is, e) (q, are, f) = sym e ∙ same_programs p q marks (says_same p q (is ∙ sym are)) ∙ f

-- a certificate gives one bound
pub one_bound : (s : Space) (c : Certificate) (bound other : ℕ) → IsBoundOf s c bound → IsBoundOf s c other → bound ≡ other
one_bound s (Tops columns rows) bound other h k = h ∙ sym k
one_bound s (Tree marks) bound other h k = let e = one_answer s marks (Ok bound) (Ok other) h k in cc
