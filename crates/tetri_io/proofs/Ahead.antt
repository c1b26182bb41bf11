-- What a reader of lines keeps, and what is left of it behind a line.
use Rattle.std.proofs.Common.{◌≡◌, ℕ, ◌+◌, ◌-◌, ◌<◌, ◌≤◌, true, List, length, take, drop, refl, sym, ◌∙◌, ap, arith, drop-drop, length-take-le, length-drop}
use Rattle.std.specs.Prelude.{slice_range, nat_lt}
use Rattle.std.proofs.lemmas.Bool.{ltb-true}
use Rattle.std.proofs.lemmas.List.{drop-take}
use Rattle.tetri_io.specs.LineReader.{ahead, IsAhead}
use Rattle.tetri_io.specs.declared.line_reader.LineReader.{LineReader}

pub length_part : (xs : List ℕ) (from to : ℕ) → to ≤ length xs → length (slice_range xs from to) ≡ to - from
length_part xs from to within = length-take-le (to - from) (drop from xs) (omega (arith, length-drop from xs))

-- what is kept, as a piece of the content
pub record IsPiece (content : List ℕ) (at count : ℕ) (piece : List ℕ) : Type 0 where
  pub bytes : piece ≡ take count (drop at content)
  pub len : length piece ≡ count
  pub some : 0 < count

pub kept_piece : (content : List ℕ) (r : LineReader) (xs : List ℕ) (at : ℕ) → xs ≡ r.chunk.items → r.end ≤ length r.chunk.items → IsAhead content r → r.at ≡ at → nat_lt 0 (length (ahead r)) ≡ true → IsPiece content at (r.end - r.used) (slice_range xs r.used r.end)
kept_piece content r xs at same within stands place some =
    let len : length (ahead r) ≡ r.end - r.used = length_part r.chunk.items r.used r.end within in
    let piece : slice_range xs r.used r.end ≡ ahead r = ap (λ ys. slice_range ys r.used r.end) same in
    record {
      bytes = piece ∙ stands.bytes ∙ ap (λ n. take n (drop r.at content)) len ∙ ap (λ n. take (r.end - r.used) (drop n content)) place;
      len = ap length piece ∙ len;
      some = omega (arith, ltb-true 0 (length (ahead r)) some, len);
    }

-- what is left of it behind so many bytes
pub left_behind : (content xs : List ℕ) (used end at k : ℕ) → slice_range xs used end ≡ take (length (slice_range xs used end)) (drop at content) → used + k ≤ end → end ≤ length xs
    → slice_range xs (used + k) end ≡ take (length (slice_range xs (used + k) end)) (drop (at + k) content)
left_behind content xs used end at k stands inside within =
    let len : length (slice_range xs used end) ≡ k + (end - (used + k)) = omega (arith, length_part xs used end within) in
    let left : length (slice_range xs (used + k) end) ≡ end - (used + k) = length_part xs (used + k) end within in
    let split : end - used ≡ k + (end - (used + k)) = omega arith in
    ap (take (end - (used + k))) (sym (drop-drop k used xs))
    ∙ sym (drop-take k (end - (used + k)) (drop used xs))
    ∙ ap (λ n. drop k (take n (drop used xs))) (sym split)
    ∙ ap (drop k) stands
    ∙ ap (λ n. drop k (take n (drop at content))) len
    ∙ drop-take k (end - (used + k)) (drop at content)
    ∙ ap (take (end - (used + k))) (drop-drop k at content)
    ∙ ap (λ n. take n (drop (at + k) content)) (sym left)

-- nothing is kept
pub nothing_left : (xs content : List ℕ) (end at : ℕ) → slice_range xs end end ≡ take (length (slice_range xs end end)) (drop at content)
nothing_left xs content end at = let none : end - end ≡ 0 = omega arith in rw none refl
