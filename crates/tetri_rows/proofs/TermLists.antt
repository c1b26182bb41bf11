-- The terms of a row, as they are listed.
use Rattle.std.proofs.Common.{◌≡◌, ℕ, ◌+◌, ◌<◌, ◌≤◌, sym, ap, ◌∙◌, subst, arith, List, [], ◌∷◌, ◌++◌, length, get_or, ⊎_elim}
use Rattle.std.specs.Prelude.{All}
use Rattle.std.proofs.lemmas.Bool.{cases_lt}
use Rattle.std.proofs.lemmas.List.{get_or_push, get_or_append_left, length-append, get_or_default}
use lib.IntN.{ℤ, pos}
use Rattle.tetri_rows.specs.Small.{IsShort}
use Rattle.tetri_rows.specs.Terms.{ArePlaces, IsAscending, AreTerms}

-- the terms of the first k numbers of a row
pub record AreTermsTo (k : ℕ) (places : List ℕ) (numbers : List ℤ) (row : List ℤ) : Type 0 where
  pub wide : length numbers ≡ length places
  pub below : ArePlaces places k
  pub ascending : IsAscending places
  pub at : (q : ℕ) → q < length places → get_or row (get_or places q 0) (pos 0) ≡ get_or numbers q (pos 0)
  pub other : (p : ℕ) → p < k → ((q : ℕ) → q < length places → get_or places q 0 ≡ p → ⊥) → get_or row p (pos 0) ≡ pos 0

-- a number that is 0 is not listed
pub terms_skip : (k : ℕ) (P : List ℕ) (N row : List ℤ) → AreTermsTo k P N row → get_or row k (pos 0) ≡ pos 0 → AreTermsTo (k + 1) P N row
terms_skip k P N row t z = record {
  wide = t.wide;
  below = λ q l. omega (arith, t.below q l);
  ascending = t.ascending;
  at = t.at;
  other = λ p l n. ⊎_elim (λ b. t.other p b n) (λ b. let s : p ≡ k = omega arith in ap (λ j. get_or row j (pos 0)) s ∙ z) (cases_lt p k);
}

-- a number that is not 0 is listed with its place
pub terms_push : (k : ℕ) (P : List ℕ) (N row : List ℤ) (n : ℤ) → AreTermsTo k P N row → get_or row k (pos 0) ≡ n → AreTermsTo (k + 1) (P ++ (k ∷ [])) (N ++ (n ∷ [])) row
terms_push k P N row n t e =
    let lp : length (P ++ (k ∷ [])) ≡ length P + 1 = length-append P (k ∷ []) in
    let ln : length (N ++ (n ∷ [])) ≡ length N + 1 = length-append N (n ∷ []) in
    record {
      wide = omega (arith, lp, ln, t.wide);
      below = λ q l. ⊎_elim (λ b. omega (arith, front q b, t.below q b)) (λ b. let s : q ≡ length P = omega (arith, lp, l, b) in omega (arith, own q s)) (cases_lt q (length P));
      ascending = λ p q l m. ⊎_elim
          (λ b. omega (arith, front p (before p q l b), front q b, t.ascending p q l b))
          (λ b. let s : q ≡ length P = omega (arith, lp, m, b) in omega (arith, own q s, front p (less p q l s), t.below p (less p q l s)))
          (cases_lt q (length P));
      at = λ q l. ⊎_elim
          (λ b. ap (λ j. get_or row j (pos 0)) (front q b) ∙ t.at q b ∙ sym (get_or_append_left N (n ∷ []) (pos 0) q (subst (λ z. q < z) (sym t.wide) b)))
          (λ b. let s : q ≡ length P = omega (arith, lp, l, b) in ap (λ j. get_or row j (pos 0)) (own q s) ∙ e ∙ sym (get_or_push N n (pos 0) q (t.wide ∙ sym s)))
          (cases_lt q (length P));
      other = λ p l h. ⊎_elim
          (λ b. t.other p b (λ q m g. h q (omega (arith, lp, m)) (front q m ∙ g)))
          (λ b. let s : k ≡ p = omega arith in absurd (h (length P) (omega (arith, lp)) (own (length P) (sym (ap length (same P))) ∙ s)))
          (cases_lt p k);
    }
  where
    same : (P : List ℕ) → P ≡ P
    same P = cc

    front : (q : ℕ) → q < length P → get_or (P ++ (k ∷ [])) q 0 ≡ get_or P q 0
    front q l = get_or_append_left P (k ∷ []) 0 q l

    own : (q : ℕ) → q ≡ length P → get_or (P ++ (k ∷ [])) q 0 ≡ k
    own q s = get_or_push P k 0 q (sym s)

    before : (p q : ℕ) → p < q → q < length P → p < length P
    before p q l m = omega arith

    less : (p q : ℕ) → p < q → q ≡ length P → p < length P
    less p q l s = omega arith

pub terms_pushed : (k : ℕ) (P P' : List ℕ) (N N' row : List ℤ) (n : ℤ) → AreTermsTo k P N row → P' ≡ P ++ (k ∷ []) → N' ≡ N ++ (n ∷ []) → get_or row k (pos 0) ≡ n → AreTermsTo (k + 1) P' N' row
terms_pushed k P P' N N' row n t pe ne e =
    subst (λ ps. AreTermsTo (k + 1) ps N' row) (sym pe) (subst (λ ns. AreTermsTo (k + 1) (P ++ (k ∷ [])) ns row) (sym ne) (terms_push k P N row n t e))

pub terms_none : (row : List ℤ) (P : List ℕ) (N : List ℤ) → P ≡ [] → N ≡ [] → AreTermsTo 0 P N row
terms_none row P N e f =
    let lp : length P ≡ 0 = ap length e in
    let ln : length N ≡ 0 = ap length f in
    record {
      wide = ln ∙ sym lp;
      below = λ q l. absurd (omega arith);
      ascending = λ p q l m. absurd (omega arith);
      at = λ q l. absurd (omega arith);
      other = λ p l h. absurd (omega arith);
    }

-- all of them
pub terms_all : (k : ℕ) (P : List ℕ) (N row : List ℤ) → AreTermsTo k P N row → length row ≤ k → k ≤ length row → AreTerms P N row
terms_all k P N row t l m = record { wide = t.wide; within = λ q b. omega (arith, t.below q b); ascending = t.ascending; at = t.at; other = λ p m h. t.other p (omega arith) h }

-- their numbers are short where the row's are
pub terms_short : (P : List ℕ) (N row : List ℤ) → AreTerms P N row → All IsShort row → All IsShort N
terms_short P N row t s q d m =
    let b : q < length P = subst (λ z. q < z) t.wide m in
    subst IsShort (get_or_default N q (pos 0) d m) (subst IsShort (t.at q b) (s (get_or P q 0) (pos 0) (t.within q b)))
