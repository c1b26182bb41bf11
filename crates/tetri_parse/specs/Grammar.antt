-- The first pass: what a text spells, or its first fault from left to right.
use Rattle.std.specs.Prelude.{ℕ, zero, suc, ◌+◌, ◌==◌, Bool, nat_le, if◌then◌else◌, List, length, Result, Ok, Err}
use Rattle.tetri_strl.specs.WellMade.{PEAK}
use Rattle.tetri_cluster.specs.declared.cluster.NodeText.{NodeText}
use Rattle.tetri_parse.specs.declared.fault.Fault.TheVariants.{Trailing, TooDeep, TooManyLeaves}
use Rattle.tetri_parse.specs.declared.fault.Miss.{Miss}
use Rattle.tetri_parse.specs.LeafText.{LeafText}
use Rattle.tetri_parse.specs.declared.token.Word.{Word}
use Rattle.tetri_parse.specs.declared.token.Word.TheVariants as word
use Rattle.tetri_base.specs.ResultSteps.{◌>>=◌}
use Rattle.tetri_parse.specs.Rows.{row_at}
use Rattle.tetri_parse.specs.SetText.{set_at}
use Rattle.tetri_parse.specs.Phrase.{Phrase, asked, joined, scaled, barred, line_up, operator}
use Rattle.tetri_parse.specs.Tokens.{skip_blanks, missed, mark_at, word_at, goes_on_at, number_at}

-- how many leaves were read, and the bytes that are left
abbrev pub Rest : Type 0
Rest = ℕ × List ℕ

module _ (cluster : List NodeText) where
  -- the leaf of this number, whose word had so many bytes left, and what stands behind it
  unfoldable pub leaf_at : Bool → ℕ → ℕ → List ℕ → Result (LeafText × List ℕ) Miss
  leaf_at linear num left text = do
    inner ← mark_at 40 text
    set ← set_at cluster (skip_blanks inner)
    a ← mark_at 44 set.1
    k ← number_at 1 4096 a
    b ← mark_at 44 k.1
    start ← number_at 0 10000 b
    c ← mark_at 44 start.1
    dur ← number_at 1 10000 c
    d ← mark_at 44 dur.1
    v ← number_at 0 PEAK (skip_blanks d)
    close ← mark_at 41 v.1
    Ok (record { num = num; linear = linear; nodes = set.0; k = k.0; start = start.0; dur = dur.0; v = v.0; left = left; set_left = length (skip_blanks inner); value_left = length (skip_blanks d) }, close)

  -- a part with its number behind a comma
  unfoldable pub part_with_number : (Rest → Result (Phrase × Rest) Miss) → ℕ → List ℕ → Result ((Phrase × ℕ) × Rest) Miss
  part_with_number child taken text = do
    inner ← mark_at 40 text
    part ← child (taken, inner)
    comma ← mark_at 44 part.1.1
    number ← number_at 0 PEAK comma
    close ← mark_at 41 number.1
    Ok ((part.0, number.0), (part.1.0, close))

  -- whether another child follows
  abbrev pub goes_on_to_child : Rest → Result (Bool × Rest) Miss
  goes_on_to_child s = goes_on_at 41 s.1 >>= λ x. Ok (x.0, (s.0, x.1))

  -- children with commas between, up to the closing parenthesis
  unfoldable pub children_at : (Rest → Result (Phrase × Rest) Miss) → ℕ → List ℕ → Result (List Phrase × Rest) Miss
  children_at child taken text = do
    inner ← mark_at 40 text
    row_at child goes_on_to_child (length inner) (taken, inner)

  -- what stands behind a word that had so many bytes left; child reads a part
  unfoldable pub body_at : (Rest → Result (Phrase × Rest) Miss) → Word → ℕ → ℕ → List ℕ → Result (Phrase × Rest) Miss
  body_at child (word.Leaf linear) left taken text =
      if nat_le 128 taken then Err (record { fault = TooManyLeaves; left = left }) else (leaf_at linear taken left text >>= λ leaf. Ok (asked leaf.0, (taken + 1, leaf.1)))
  body_at child (word.Join j) left taken text = children_at child taken text >>= λ parts. Ok (joined (operator j) left (line_up parts.0), parts.1)
  body_at child word.Scale left taken text = part_with_number child taken text >>= λ part. Ok (scaled left part.0.0 part.0.1, part.1)
  body_at child word.Barrier left taken text = part_with_number child taken text >>= λ part. Ok (barred left part.0.0 part.0.1, part.1)

  -- an expression that may be so many levels deep, and what stands behind it
  unfoldable pub expr_at : ℕ → Rest → Result (Phrase × Rest) Miss
  expr_at zero s = do
    word ← word_at (skip_blanks s.1)
    Err (missed TooDeep (skip_blanks s.1))
  expr_at (suc levels) s = do
    word ← word_at (skip_blanks s.1)
    body_at (expr_at levels) word.0 (length (skip_blanks s.1)) s.0 word.1

  -- the text is one expression and nothing more
  unfoldable pub whole_at : List ℕ → Result Phrase Miss
  whole_at text = do
    made ← expr_at 64 (0, text)
    if length (skip_blanks made.1.1) == 0 then Ok made.0 else Err (missed Trailing (skip_blanks made.1.1))
