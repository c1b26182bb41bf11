-- Steps that were taken.
use Rattle.std.proofs.Common.{◌≡◌, ℕ, ◌≤◌, Bool, true, false, nat_lt, if◌then◌else◌, List, Option, Some, None, Result, Ok, Err, refl, arith}
use Rattle.std.proofs.lemmas.Bool.Decides.{nat_tests}
use Rattle.tetri_strl.specs.WellMade.{PEAK}
use Rattle.tetri_cluster.specs.Sets.{set_added}
use Rattle.tetri_parse.specs.declared.fault.Fault.TheVariants.{TooRich}
use Rattle.tetri_parse.specs.declared.fault.Miss.{Miss}
use Rattle.tetri_base.specs.ResultSteps.{◌>>=◌}
use Rattle.tetri_parse.specs.Settling.{unless_rich, made_of, settled_set, set_in}

pub both : {A B : Type 0} (r : Result A Miss) (f : A → Result B Miss) (y : B) → (r >>= f) ≡ Ok y → (x : A) × (r ≡ Ok x) × (f x ≡ Ok y)
both (Ok x) f y h = (x, refl, h)
both (Err m) f y h = absurd (cc)

-- what passed a test that refuses
pub passed : {A : Type 0} (b : Bool) (m : Miss) (r : Result A Miss) (y : A) → (if b then Err m else r) ≡ Ok y → (b ≡ false) × (r ≡ Ok y)
passed true m r y h = absurd (cc)
passed false m r y h = (refl, h)

pub same_ok : {A : Type 0} (x y : A) → Path (Result A Miss) (Ok x) (Ok y) → x ≡ y
same_ok x y h = cc

pub not_rich : {A : Type 0} (peak left : ℕ) (r : Result A Miss) (y : A) → unless_rich peak left r ≡ Ok y → (peak ≤ PEAK) × (r ≡ Ok y)
not_rich peak left r y h =
    let p = passed (nat_lt PEAK peak) (record { fault = TooRich; left = left }) r y h in
    (grind (arith, nat_tests, p.0), p.1)

pub made : {A B S : Type 0} (f : A → B) (r : Result (A × S) Miss) (y : B × S) → made_of f r ≡ Ok y → (x : A × S) × (r ≡ Ok x) × ((f x.0, x.1) ≡ y)
made f (Ok x) y h = (x, refl, same_ok (f x.0, x.1) y h)
made f (Err m) y h = absurd (cc)

pub set_found : (left : ℕ) (o : Option (List ℕ)) (sets : List (List ℕ)) (y : ℕ × List (List ℕ)) → settled_set left o sets ≡ Ok y → (nodes : List ℕ) × (o ≡ Some nodes) × (set_added nodes sets ≡ Some y)
set_found left None sets y h = absurd (cc)
set_found left (Some nodes) sets y h = (nodes, refl, in_set (set_added nodes sets) h)
  where
    in_set : (o : Option (ℕ × List (List ℕ))) → set_in left o ≡ Ok y → o ≡ Some y
    in_set None g = absurd (cc)
    in_set (Some z) g = cc
