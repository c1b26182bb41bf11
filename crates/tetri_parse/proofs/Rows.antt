-- Reading items one after the other, as a loop does.
use Rattle.std.proofs.Common.{◌≡◌, ℕ, suc, ◌-◌, ◌+◌, ◌≤◌, ◌<◌, Bool, true, false, List, [], ◌∷◌, ◌++◌, Result, Ok, Err, refl, sym, ap, ◌∙◌, append_assoc, append-nil, arith}
use Rattle.std.specs.Prelude.{fold}
use Rattle.tetri_parse.specs.declared.fault.Fault.TheVariants.{Ended}
use Rattle.tetri_parse.specs.declared.fault.Miss.{Miss}
use Rattle.tetri_parse.specs.declared.fault.Stop.{Stop}
use Rattle.tetri_parse.specs.declared.fault.Stop.TheVariants as stops
use Rattle.tetri_parse.specs.Answers.{Stops}
use Rattle.tetri_base.specs.ResultSteps.{◌>>=◌}
use Rattle.tetri_parse.specs.Rows.{row_at}

-- what is made of the items before, and of those that are still read
abbrev pub gathered : {S A B : Type 0} → (B → A → B) → B → Result (List A × S) Miss → Result (B × S) Miss
gathered g b read = read >>= λ x. Ok (fold g b x.0, x.1)

abbrev pub put_last : {A : Type 0} → List A → A → List A
put_last xs x = xs ++ x ∷ []

one_more : {S A B : Type 0} (g : B → A → B) (b : B) (a : A) (read : Result (List A × S) Miss) → gathered g b (read >>= λ x. Ok (a ∷ x.0, x.1)) ≡ gathered g (g b a) read
one_more g b a (Ok x) = refl
one_more g b a (Err m) = refl

put-append : {A : Type 0} (xs ys : List A) → fold put_last xs ys ≡ xs ++ ys
put-append xs [] = simp append-nil
put-append xs (y ∷ ys) = put-append (xs ++ y ∷ []) ys ∙ simp append_assoc

pub gathered_all : {S A : Type 0} (read : Result (List A × S) Miss) → gathered put_last [] read ≡ read
gathered_all (Ok x) = ap (λ ys. Ok (ys, x.1)) (put-append [] x.0)
gathered_all (Err m) = refl

module _ {S A B : Type 0} (item : S → Result (A × S) Miss) (goes_on : S → Result (Bool × S) Miss) (g : B → A → B) (b : B) (count i : ℕ) (s : S) (total : Result (B × S) Miss) where
  pub goes_further : (a : A) (t u : S) → i < count → item s ≡ Ok (a, t) → goes_on t ≡ Ok (true, u)
      → gathered g b (row_at item goes_on (count - i) s) ≡ total → gathered g (g b a) (row_at item goes_on (count - (i + 1)) u) ≡ total
  unfolding row_at
  goes_further a t u lt h on so_far =
      let k : count - i ≡ suc (count - (i + 1)) = omega arith in
      let one : gathered g b (row_at item goes_on (count - i) s) ≡ gathered g (g b a) (row_at item goes_on (count - (i + 1)) u) = rw (k, h, on) (one_more g b a (row_at item goes_on (count - (i + 1)) u)) in
      sym one ∙ so_far

  pub is_last : (a : A) (t u : S) → i < count → item s ≡ Ok (a, t) → goes_on t ≡ Ok (false, u)
      → gathered g b (row_at item goes_on (count - i) s) ≡ total → total ≡ Ok (g b a, u)
  unfolding row_at
  is_last a t u lt h on so_far =
      let k : count - i ≡ suc (count - (i + 1)) = omega arith in
      let one : gathered g b (row_at item goes_on (count - i) s) ≡ Ok (g b a, u) = rw (k, h, on) refl in
      sym so_far ∙ one

  pub stops_in : (e : Stop) → i < count → Stops e (item s) → gathered g b (row_at item goes_on (count - i) s) ≡ total → Stops e total
  unfolding row_at
  stops_in stops.NoMemory lt h so_far = tt
  stops_in (stops.Missed m) lt h so_far =
      let k : count - i ≡ suc (count - (i + 1)) = omega arith in
      let one : gathered g b (row_at item goes_on (count - i) s) ≡ Err m = rw (k, h) refl in
      sym so_far ∙ one

  pub stops_after : (e : Stop) (a : A) (t : S) → i < count → item s ≡ Ok (a, t) → Stops e (goes_on t) → gathered g b (row_at item goes_on (count - i) s) ≡ total → Stops e total
  unfolding row_at
  stops_after stops.NoMemory a t lt h on so_far = tt
  stops_after (stops.Missed m) a t lt h on so_far =
      let k : count - i ≡ suc (count - (i + 1)) = omega arith in
      let one : gathered g b (row_at item goes_on (count - i) s) ≡ Err m = rw (k, h, on) refl in
      sym so_far ∙ one

  pub runs_out : count ≤ i → gathered g b (row_at item goes_on (count - i) s) ≡ total → total ≡ Err (record { fault = Ended; left = 0 })
  unfolding row_at
  runs_out le so_far =
      let k : count - i ≡ 0 = omega arith in
      let one : gathered g b (row_at item goes_on (count - i) s) ≡ Err (record { fault = Ended; left = 0 }) = rw k refl in
      sym so_far ∙ one

-- what stops a first step stops the whole
pub stops_first : {X Y : Type 0} (e : Stop) (first : Result X Miss) (f : X → Result Y Miss) → Stops e first → Stops e (first >>= f)
stops_first stops.NoMemory first f h = tt
stops_first (stops.Missed m) first f h = rw h refl

-- no item is read yet
pub begins : {S A : Type 0} (item : S → Result (A × S) Miss) (goes_on : S → Result (Bool × S) Miss) (count : ℕ) (s : S) → gathered put_last [] (row_at item goes_on (count - 0) s) ≡ row_at item goes_on count s
begins item goes_on count s =
    let k : count - 0 ≡ count = omega arith in
    ap (λ (n : ℕ). gathered put_last [] (row_at item goes_on n s)) k ∙ gathered_all (row_at item goes_on count s)

-- items that are not kept
abbrev pub pass_over : {A : Type 0} → Unit {0} → A → Unit {0}
pass_over u x = u

pub passed_over : {S A : Type 0} (read : Result (List A × S) Miss) → (gathered pass_over tt read >>= λ x. Ok x.1) ≡ (read >>= λ x. Ok x.1)
passed_over (Ok x) = refl
passed_over (Err m) = refl
