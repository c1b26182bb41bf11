-- Lists of lawful grants, joined and cut.
use Rattle.std.proofs.Common.{List, [], ◌∷◌, ◌++◌, AllPairs, Contains, Bool, arith, suc, refl}
use Rattle.std.specs.List.{filter}
use Rattle.std.proofs.lemmas.List.Elements.{All-append, All-filter, Contains-get_or}
use Rattle.std.proofs.lemmas.List.Kept.{AllPairs-cons, AllPairs-filter}
use Rattle.tetri_strl.specs.declared.grants.Grant.{Grant}
use Rattle.tetri_space.specs.Space.{Space}
use Rattle.tetri_space.specs.Lawful.{IsLawfulGrant, AreApart, IsLawful}

module _ {X : Type 0} (R : X → X → Type 0) where
  pub AllPairs-append : (xs ys : List X) → AllPairs R xs → AllPairs R ys → ((x y : X) → Contains xs x → Contains ys y → R x y) → AllPairs R (xs ++ ys)
  AllPairs-append [] ys left right across = right
  AllPairs-append (x ∷ xs) ys left right across =
      AllPairs-cons R x (xs ++ ys)
      (All-append (R x) xs ys (λ k d lt. left 0 (suc k) d (omega arith) (omega arith)) (λ k d lt. across x _ (0, omega arith, refl) (Contains-get_or ys k d lt)))
      (AllPairs-append xs ys (λ i j d lt within. left (suc i) (suc j) d (omega arith) (omega arith)) right
      (λ y z at. across y z (suc at.0, omega (arith, at.1), at.2)))

module _ (s : Space) where
  -- two lawful allotments of which each grant is apart from each of the other are lawful together
  pub IsLawful-append : (a b : List Grant) → IsLawful s a → IsLawful s b → ((g h : Grant) → Contains a g → Contains b h → AreApart s g h) →
      IsLawful s (a ++ b)
  IsLawful-append a b first second across = record {
    grants = All-append (IsLawfulGrant s) a b first.grants second.grants;
    apart = AllPairs-append (AreApart s) a b first.apart second.apart across;
  }

  -- any part of a lawful allotment is lawful
  pub IsLawful-filter : (keeps : Grant → Bool) (a : List Grant) → IsLawful s a → IsLawful s (filter keeps a)
  IsLawful-filter keeps a lawful = record {
    grants = All-filter keeps (IsLawfulGrant s) a lawful.grants;
    apart = AllPairs-filter (AreApart s) keeps a lawful.apart;
  }
