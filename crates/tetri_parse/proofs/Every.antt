-- Whether a set has all nodes.
use Rattle.std.proofs.Common.{◌≡◌, ◌≢◌, ℕ, ◌<◌, Bool, true, false, List, length, get_or, refl, sym, ap, ◌∙◌, arith}
use Rattle.std.specs.List.{range_with_len}
use Rattle.std.proofs.lemmas.List.FromFn.{fill_by_all, length-range_with_len, get_or-range_with_len}
use Rattle.std.proofs.lemmas.Slice.Eq.{bytes_eq-Decides}
use Rattle.tetri_parse.specs.Printing.{is_every}

pub not_every : (count : ℕ) (nodes : List ℕ) → (nodes ≡ range_with_len 0 count → ⊥) → is_every count nodes ≡ false
not_every count nodes h = by_test (is_every count nodes) refl
  where
    by_test : (b : Bool) → is_every count nodes ≡ b → b ≡ false
    by_test true e = absurd (h ((bytes_eq-Decides nodes (range_with_len 0 count)).0 e))
    by_test false e = refl

pub other_count : (count : ℕ) (nodes : List ℕ) → length nodes ≢ count → is_every count nodes ≡ false
other_count count nodes ne = not_every count nodes (λ same. ne (ap length same ∙ length-range_with_len 0 count))

pub other_node : (count : ℕ) (nodes : List ℕ) (i : ℕ) → length nodes ≡ count → i < length nodes → get_or nodes i 0 ≢ i → is_every count nodes ≡ false
other_node count nodes i len lt ne = not_every count nodes (λ same. ne (ap (λ ns. get_or ns i 0) same ∙ by_place))
  where
    by_place : get_or (range_with_len 0 count) i 0 ≡ i
    by_place = let e = get_or-range_with_len 0 count i 0 (omega arith) in omega (arith, e)

pub each_node : (count : ℕ) (nodes : List ℕ) → length nodes ≡ count → ((k : ℕ) → k < count → get_or nodes k 0 ≡ k) → nodes ≡ range_with_len 0 count
each_node count nodes len h =
    fill_by_all (λ (k : ℕ). k) nodes count 0 len h ∙ sym (fill_by_all (λ (k : ℕ). k) (range_with_len 0 count) count 0 (length-range_with_len 0 count) (λ k lt. let e = get_or-range_with_len 0 count k 0 lt in omega (arith, e)))

pub every_yes : (count : ℕ) (nodes : List ℕ) → nodes ≡ range_with_len 0 count → is_every count nodes ≡ true
every_yes count nodes h = (bytes_eq-Decides nodes (range_with_len 0 count)).1 h
