-- All rows of a dictionary that keeps one for the two variables of a column.
use Rattle.std.proofs.Common.{◌≡◌, ℕ, ◌+◌, ◌-◌, ◌<◌, ◌≤◌, ◌^◌, refl, sym, ap, ◌∙◌, subst, arith, List, [], ◌∷◌, ◌++◌, length, get_or, map, take, replicate, ⊎_elim}
use Prim.Native.Nat.{zero, suc, ◌/◌, ◌%◌}
use Rattle.std.specs.Global.{Vec}
use Rattle.std.specs.Int.{bit_at}
use Rattle.std.specs.Prelude.{All}
use Rattle.std.proofs.lemmas.Bool.{cases_lt}
use Rattle.std.proofs.lemmas.List.{map-append, length-map, take_more, take_all, length-replicate, get_or-replicate}
use Rattle.std.proofs.lemmas.List.Elements.{All-push}
use Rattle.std.proofs.lemmas.Nat.Bits.{bit_at_ones}
use Rattle.tetri_algebra.specs.Rational.{ℚ}
use Rattle.tetri_dictionary.specs.declared.mixed.MixedRow.{MixedRow}
use Rattle.tetri_dictionary.specs.declared.origins.Origin.{Origin}
use Rattle.tetri_dictionary.specs.declared.origins.Origin.TheVariants.{Kept, Mirror, Column}
use Rattle.tetri_dictionary.specs.declared.pairs.Pairs.{Pairs}
use Rattle.tetri_dictionary.specs.Holders.{bit, words_at, AreHolders}
use Rattle.tetri_dictionary.specs.Mirrors.{variable_row, row_from, IsOrigin}
use Rattle.tetri_dictionary.specs.Mixed.{mixed_row, mixed_rows, AreMixedRows}
use Rattle.tetri_dictionary.specs.Pairs.{origin_at, table_of, IsPaired}
use Rattle.tetri_dictionary.specs.Tables.{row_at}
use Rattle.tetri_dictionary.proofs.HolderRows.{past_rows}
use Rattle.tetri_dictionary.proofs.MirrorPlaces.{row_at_origin}
use Rattle.tetri_dictionary.proofs.MirrorRows.{length-mirror, length-variable}
use Rattle.tetri_dictionary.proofs.MixedRows.{mixed_wide}

-- ---- the length of a place's row
kept_length : (n : ℕ) (rows : List MixedRow) (r : ℕ) → AreMixedRows n rows → r < length rows → length (get_or (mixed_rows rows) r []) ≡ n + 1
kept_length n [] r h l = absurd (omega arith)
kept_length n (x ∷ rows) zero h l = mixed_wide n x (h 0 x (omega arith))
kept_length n (x ∷ rows) (suc r) h l = kept_length n rows r (λ q d m. h (suc q) d (omega arith)) (omega arith)

from_length : (n : ℕ) (rows : List MixedRow) (x : Origin) → AreMixedRows n rows → IsOrigin n (length rows) x → length (row_from n (mixed_rows rows) x) ≡ n + 1
from_length n rows (Kept r) h o = kept_length n rows r h o
from_length n rows (Mirror r w) h o = length-mirror w (get_or (mixed_rows rows) r []) ∙ kept_length n rows r h o.row
from_length n rows (Column p w) h o = length-mirror w (variable_row n p) ∙ length-variable n p

pub place_length : (t : Pairs) (i : ℕ) → IsPaired t → i < length t.origins.items → length (row_at (table_of t) i) ≡ length t.nonbasic.items + 1
place_length t i h l =
    let n = length t.nonbasic.items in
    ap (λ (xs : List ℚ). length xs) (row_at_origin n (mixed_rows t.rows.items) t.origins.items i (origin_at t.origins.items i) l refl)
    ∙ from_length n t.rows.items (origin_at t.origins.items i) h.rows (h.origins.within i (Kept 0) l)

-- ---- a list that is pushed place by place
pub pushed_next : {A B : Type 0} → (f : A → B) (ys : List B) (k : ℕ) (xs made : List A) (x : A) (d : B) → k < length ys → made ≡ xs ++ (x ∷ []) → f x ≡ get_or ys k d → map f xs ≡ take k ys → map f made ≡ take (k + 1) ys
pushed_next f ys k xs made x d h me e w =
    ap (map f) me ∙ map-append f xs (x ∷ []) ∙ ap (λ zs. zs ++ (f x ∷ [])) w ∙ ap (λ z. take k ys ++ (z ∷ [])) e ∙ sym (take_more ys k d h)

pub pushed_done : {A B : Type 0} → (f : A → B) (ys : List B) (k : ℕ) (xs : List A) → length ys ≤ k → map f xs ≡ take k ys → map f xs ≡ ys
pushed_done f ys k xs h w = w ∙ take_all k ys h

pub pushed_length : {A B : Type 0} → (f : A → B) (ys : List B) (xs : List A) → map f xs ≡ ys → length xs ≡ length ys
pushed_length f ys xs e = sym (length-map xs f) ∙ ap (λ (zs : List _). length zs) e

-- ---- all bits are set
pub bits_next : (words : ℕ) (hs made : List (Vec ℕ)) (v : Vec ℕ) → made ≡ hs ++ (v ∷ []) → v.items ≡ replicate words (2 ^ 64 - 1) → All (λ (u : Vec ℕ). u.items ≡ replicate words (2 ^ 64 - 1)) hs → All (λ (u : Vec ℕ). u.items ≡ replicate words (2 ^ 64 - 1)) made
bits_next words hs made v e ve h = subst (λ (us : List (Vec ℕ)). All (λ (u : Vec ℕ). u.items ≡ replicate words (2 ^ 64 - 1)) us) (sym e) (All-push (λ (u : Vec ℕ). u.items ≡ replicate words (2 ^ 64 - 1)) hs v h ve)

words_full : (words : ℕ) (hs : List (Vec ℕ)) (j : ℕ) → All (λ (u : Vec ℕ). u.items ≡ replicate words (2 ^ 64 - 1)) hs → j < length hs → words_at hs j ≡ replicate words (2 ^ 64 - 1)
words_full words [] j h l = absurd (omega arith)
words_full words (v ∷ hs) zero h l = h 0 v (omega arith)
words_full words (v ∷ hs) (suc j) h l = words_full words hs j (λ q d m. h (suc q) d (omega arith)) (omega arith)

bit_full : (words q : ℕ) → q / 64 < words → bit (replicate words (2 ^ 64 - 1)) q ≡ 1
bit_full words q h =
    let r : q % 64 < 64 = omega arith in
    ap (λ z. bit_at z (q % 64)) (get_or-replicate words (q / 64) (2 ^ 64 - 1) 0 h) ∙ bit_at_ones 64 (q % 64) r

pub all_bits_hold : (n : ℕ) (rows : List MixedRow) (hs : List (Vec ℕ)) → length hs ≡ n → All (λ (u : Vec ℕ). u.items ≡ replicate (length rows / 64 + 1) (2 ^ 64 - 1)) hs → AreHolders n hs (mixed_rows rows)
all_bits_hold n rows hs e h = record {
  columns = e;
  words = λ q d l. ap (λ (ws : List ℕ). length ws) (h q d l) ∙ length-replicate (length rows / 64 + 1) (2 ^ 64 - 1) ∙ ap (λ m. m / 64 + 1) (sym (length-map rows mixed_row));
  hold = λ j l q b. ⊎_elim (λ c. absurd (contrary (bit (replicate (length rows / 64 + 1) (2 ^ 64 - 1)) q) (bit_full (length rows / 64 + 1) q (inside q c)) (ap (λ (ws : List ℕ). bit ws q) (sym (words_full (length rows / 64 + 1) hs j h (subst (λ m. j < m) (sym e) l))) ∙ b))) (λ c. past_rows rows q j c) (cases_lt q (length rows));
}
  where
    inside : (q : ℕ) → q < length rows → q / 64 < length rows / 64 + 1
    inside q c = omega arith

    contrary : (x : ℕ) → x ≡ 1 → x ≡ 0 → ⊥
    contrary x e f = omega arith
