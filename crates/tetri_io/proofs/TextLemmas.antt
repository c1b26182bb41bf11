-- Texts made of lines, and lines made of words, read back.
use Rattle.std.proofs.Common.{◌≡◌, ℕ, ◌+◌, suc, refl, ap, ◌∙◌, List, [], ◌∷◌, ◌++◌, length, map, eqb, false, cond, Bool}
use Rattle.std.specs.List.{join_with_byte}
use Rattle.std.proofs.lemmas.List.{append-nil}
use Rattle.std.proofs.lemmas.List.Elements.{All-head, All-tail}
use Rattle.std.proofs.lemmas.List.Splits.{slice_split_at, slice_split_none}
use Rattle.std.proofs.lemmas.Bool.{eq-eqb}
use Rattle.tetri_io.specs.Lines.{line_of, lines_from}
use Rattle.tetri_io.specs.Words.{parts_at}
use Rattle.tetri_io.proofs.Lines.{lines-piece}
use Rattle.tetri_io.proofs.NumberLemmas.{Avoids}

-- each of these lists avoids the byte
abbrev pub AllAvoid : ℕ → List (List ℕ) → Type 0
AllAvoid mark [] = Unit {0}
AllAvoid mark (l ∷ ls) = Avoids mark l × AllAvoid mark ls

-- lines, each with its line feed
abbrev pub text_of : List (List ℕ) → List ℕ
text_of [] = []
text_of (l ∷ ls) = l ++ 10 ∷ text_of ls

pub text_of-append : (ls ms : List (List ℕ)) → text_of (ls ++ ms) ≡ text_of ls ++ text_of ms
text_of-append [] ms = refl
text_of-append (l ∷ ls) ms = ap (λ x. l ++ 10 ∷ x) (text_of-append ls ms) ∙ append_on l (text_of ls) (text_of ms)
  where
    append_on : (l xs ys : List ℕ) → l ++ 10 ∷ (xs ++ ys) ≡ (l ++ 10 ∷ xs) ++ ys
    append_on [] xs ys = refl
    append_on (x ∷ l) xs ys = ap (λ z. x ∷ z) (append_on l xs ys)

pub all_avoid-append : (mark : ℕ) (ls ms : List (List ℕ)) → AllAvoid mark ls → AllAvoid mark ms → AllAvoid mark (ls ++ ms)
all_avoid-append mark [] ms a b = b
all_avoid-append mark (l ∷ ls) ms a b = (a.0, all_avoid-append mark ls ms a.1 b)

whole_line : (l : List ℕ) → Avoids 10 l → length (line_of l) ≡ length l
whole_line [] a = refl
whole_line (x ∷ l) a =
    let h : eqb x 10 ≡ false = All-head (λ b. eqb b 10 ≡ false) x l a in
    ap (λ (t : Bool). length (cond t [] (x ∷ line_of l))) h ∙ ap suc (whole_line l (All-tail (λ b. eqb b 10 ≡ false) x l a))

one_line : (at : ℕ) (l rest : List ℕ) → Avoids 10 l → lines_from at (l ++ 10 ∷ rest) ≡ (l, at + length l + 1) ∷ lines_from (at + length l + 1) rest
one_line at l rest a = lines-piece at l (10 ∷ rest) (whole_line l a) ∙ ap (λ x. (x, at + length l + 1) ∷ lines_from (at + length l + 1) rest) (append-nil l)

-- the lines of a text that is made of lines
pub lines_of_text : (at : ℕ) (ls : List (List ℕ)) → AllAvoid 10 ls → map (λ l. l.0) (lines_from at (text_of ls)) ≡ ls
lines_of_text at [] a = refl
lines_of_text at (l ∷ ls) a =
    ap (map (λ (x : List ℕ × ℕ). x.0)) (one_line at l (text_of ls) a.0) ∙ ap (λ x. l ∷ x) (lines_of_text (at + length l + 1) ls a.1)

-- the parts of parts that are joined by a byte
pub parts_of_joined : (mark : ℕ) (w : List ℕ) (ws : List (List ℕ)) → AllAvoid mark (w ∷ ws) → parts_at mark (join_with_byte mark (w ∷ ws)) ≡ w ∷ ws
parts_of_joined mark w [] a = slice_split_none (λ b. eqb b mark) w a.0
parts_of_joined mark w (v ∷ ws) a =
    slice_split_at (λ b. eqb b mark) w mark (join_with_byte mark (v ∷ ws)) a.0 (eq-eqb mark mark refl) ∙ ap (λ x. w ∷ x) (parts_of_joined mark v ws a.1)
