-- Runs of bytes of a class.
use Rattle.std.proofs.Common.{◌≡◌, ℕ, suc, ◌+◌, Bool, true, false, cond, List, [], ◌∷◌, take, drop, refl, sym, ap, ◌∙◌, arith}
use Rattle.std.specs.List.{prefix_len}
use Rattle.std.proofs.lemmas.Bool.Decides.{nat_tests}
use Rattle.tetri_parse.specs.declared.token.Class.TheVariants.{Blank, Digit, Letter, Named}
use Rattle.tetri_parse.specs.Tokens.{stands, skip_blanks}
use Rattle.tetri_parse.proofs.TokensBack.{no_blank}

-- the run of a class that stands first
abbrev pub run : (ℕ → Bool) → List ℕ → List ℕ
run p text = take (prefix_len p text) text

-- a run goes on over each byte of its class
pub run_more : (p : ℕ → Bool) (b : ℕ) (bs : List ℕ) → p b ≡ true → prefix_len p (b ∷ bs) ≡ suc (prefix_len p bs)
run_more p b bs is = ap (λ t. cond {A = ℕ} t (1 + prefix_len p bs) 0) is ∙ omega arith

pub run_none : (p : ℕ → Bool) (b : ℕ) (bs : List ℕ) → p b ≡ false → prefix_len p (b ∷ bs) ≡ 0
run_none p b bs is = ap (λ t. cond {A = ℕ} t (1 + prefix_len p bs) 0) is

pub blank_first : (b : ℕ) (bs : List ℕ) → stands Blank b ≡ true → skip_blanks (b ∷ bs) ≡ skip_blanks bs
blank_first b bs is = ap (λ n. drop n (b ∷ bs)) (run_more (stands Blank) b bs is)

-- behind blanks there are none to skip
pub skipped_still : (text : List ℕ) → skip_blanks (skip_blanks text) ≡ skip_blanks text
skipped_still [] = refl
skipped_still (b ∷ bs) = by_first (stands Blank b) refl (skipped_still bs)
  where
    by_first : (t : Bool) → stands Blank b ≡ t → skip_blanks (skip_blanks bs) ≡ skip_blanks bs → skip_blanks (skip_blanks (b ∷ bs)) ≡ skip_blanks (b ∷ bs)
    by_first true is ih = ap skip_blanks (blank_first b bs is) ∙ ih ∙ sym (blank_first b bs is)
    by_first false is ih = ap skip_blanks (no_blank b bs is)

-- the run of a narrower class stands in that of the wider one
pub narrower : (p q : ℕ → Bool) → ((b : ℕ) → p b ≡ true → q b ≡ true) → (t : List ℕ) → (prefix_len p (run q t) ≡ prefix_len p t) × (take (prefix_len p t) (run q t) ≡ run p t)
narrower p q within [] = (refl, refl)
narrower p q within (b ∷ t) = by_first (p b) (q b) refl refl (narrower p q within t)
  where
    by_first : (x y : Bool) → p b ≡ x → q b ≡ y → (prefix_len p (run q t) ≡ prefix_len p t) × (take (prefix_len p t) (run q t) ≡ run p t) → (prefix_len p (run q (b ∷ t)) ≡ prefix_len p (b ∷ t)) × (take (prefix_len p (b ∷ t)) (run q (b ∷ t)) ≡ run p (b ∷ t))
    by_first true true is js ih =
        let e = run_more p b t is in
        let f = run_more q b t js in
        (ap (λ k. prefix_len p (take k (b ∷ t))) f ∙ run_more p b (run q t) is ∙ ap suc ih.0 ∙ sym e, ap (λ k. take k (run q (b ∷ t))) e ∙ ap (λ k. take (suc (prefix_len p t)) (take k (b ∷ t))) f ∙ ap (λ v. b ∷ v) ih.1 ∙ sym (ap (λ k. take k (b ∷ t)) e))
    by_first true false is js ih = let e = within b is in absurd (cc)
    by_first false true is js ih =
        let e = run_none p b t is in
        (ap (λ k. prefix_len p (take k (b ∷ t))) (run_more q b t js) ∙ run_none p b (run q t) is ∙ sym e, ap (λ k. take k (run q (b ∷ t))) e ∙ sym (ap (λ k. take k (b ∷ t)) e))
    by_first false false is js ih =
        let e = run_none p b t is in
        (ap (λ k. prefix_len p (take k (b ∷ t))) (run_none q b t js) ∙ sym e, ap (λ k. take k (run q (b ∷ t))) e ∙ sym (ap (λ k. take k (b ∷ t)) e))

pub letter_named : (b : ℕ) → stands Letter b ≡ true → stands Named b ≡ true
letter_named b h = grind (arith, nat_tests)

pub digit_named : (b : ℕ) → stands Digit b ≡ true → stands Named b ≡ true
digit_named b h = grind (arith, nat_tests)
