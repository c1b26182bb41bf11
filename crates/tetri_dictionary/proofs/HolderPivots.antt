-- The bits of a dictionary after a pivot.
use Rattle.std.proofs.Common.{◌≡◌, ℕ, ◌+◌, ◌<◌, sym, ap, ◌∙◌, subst, List, [], length, get_or, set, Ok, ◌⊎◌, inl, inr, ⊎_elim}
use Prim.Native.Nat.{suc, ◌/◌}
use Rattle.std.specs.Global.{Vec}
use Rattle.std.specs.Prelude.{All}
use Rattle.std.proofs.lemmas.Bool.{cases_eq}
use Rattle.std.proofs.lemmas.List.{length-map, length-set}
use Rattle.std.proofs.lemmas.List.Elements.{All-set}
use lib.IntN.{pos}
use Rattle.tetri_algebra.specs.RationalRing.{zero_ℚ}
use Rattle.tetri_dictionary.specs.declared.mixed.MixedRow.{MixedRow}
use Rattle.tetri_dictionary.specs.Holders.{bit, words_at, IsHolder, AreHolders}
use Rattle.tetri_dictionary.specs.Mixed.{mixed_row, mixed_rows}
use Rattle.tetri_dictionary.specs.Pivots.{pivoted_rows}
use Rattle.tetri_dictionary.proofs.HolderBits.{words_same, words_other}
use Rattle.tetri_dictionary.proofs.HolderRows.{held_own, held_other}
use Rattle.tetri_dictionary.proofs.MixedPivots.{mixed_read}

pub held_after : (n i j : ℕ) (rows new : List MixedRow) (hs after : List (Vec ℕ)) (own : List ℕ) (v : Vec ℕ) (r : MixedRow) → AreHolders n hs (mixed_rows rows) → i < length rows → j < n → pivoted_rows n i j (mixed_rows rows) ≡ Ok (mixed_rows new) →
    ((get_or (get_or (mixed_rows rows) i []) (suc j) zero_ℚ).num ≡ pos 0 → ⊥) → IsHolder own (mixed_rows rows) j → length new ≡ length rows → r ≡ get_or new i r → v.items ≡ own → length own ≡ length (mixed_rows rows) / 64 + 1 →
    length after ≡ length hs → All (λ (u : Vec ℕ). length u.items ≡ length own) after → ((p q : ℕ) → p < n → bit (words_at after p) q ≡ 0 → bit (words_at hs p) q ≡ 0) →
    ((p q : ℕ) → p < n → bit (words_at after p) q ≡ 0 → (get_or (mixed_row r) (suc p) zero_ℚ ≡ zero_ℚ) ⊎ (bit own q ≡ 0)) → AreHolders n (set after j v) (mixed_rows new)
held_after n i j rows new hs after own v r h li lj e p ho le re ve wide la ws before others =
    let m : length (mixed_rows new) ≡ length (mixed_rows rows) = length-map new mixed_row ∙ le ∙ sym (length-map rows mixed_row) in
    let g : i < length (mixed_rows rows) = subst (λ z. i < z) (sym (length-map rows mixed_row)) li in
    let t : get_or (mixed_rows new) i [] ≡ mixed_row r = mixed_read new i r (subst (λ z. i < z) (sym le) li) re in
    let s : j < length after = subst (λ z. j < z) (sym (la ∙ h.columns)) lj in
    record {
      columns = length-set after j v ∙ la ∙ h.columns;
      words =
          subst (λ z. All (λ (u : Vec ℕ). length u.items ≡ z / 64 + 1) (set after j v)) (sym m)
          (All-set (λ (u : Vec ℕ). length u.items ≡ length (mixed_rows rows) / 64 + 1) after j v (ap length ve ∙ wide) (subst (λ z. All (λ (u : Vec ℕ). length u.items ≡ z) after) wide ws));
      hold = λ k l.
          ⊎_elim
          (λ c. subst (λ z. IsHolder (words_at (set after j v) z) (mixed_rows new) z) (sym c) (subst (λ us. IsHolder us (mixed_rows new) j) (sym (words_same after j v s ∙ ve)) (held_own n i j (mixed_rows rows) (mixed_rows new) own g e p ho)))
          (λ d.
          subst (λ us. IsHolder us (mixed_rows new) k) (sym (words_other after j k v d))
          (held_other n i j k (mixed_rows rows) (mixed_rows new) own (words_at after k) g e d ho (λ q b. h.hold k l q (before k q l b))
          (λ q b. ⊎_elim (λ z. inl (ap (λ us. get_or us (suc k) zero_ℚ) t ∙ z)) (λ z. inr z) (others k q l b))))
          (cases_eq k j);
    }
