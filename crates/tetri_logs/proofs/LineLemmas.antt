-- The first line of a log.
use Rattle.std.proofs.Common.{◌≡◌, ◌+◌, ◌-◌, ◌<◌, ◌≤◌, ◌∙◌, ℕ, suc, List, Bool, true, false, [], ◌∷◌, length, take, drop, get_or, cond, refl, ap, sym, arith, tests}
use Rattle.std.specs.Prelude.{◌==◌}
use Rattle.std.specs.List.{position_or_len, slice_split}
use Rattle.std.proofs.lemmas.List.{take_rest}
use Rattle.std.proofs.lemmas.List.Sums.{fails_before_first}
use Rattle.std.proofs.lemmas.List.Splits.{length-slice_split, slice_split_first, slice_split_none}
use Rattle.tetri_logs.specs.Lines.{log_lines}

-- the lines of a log whose last part stands here
abbrev lines_at : List (List ℕ) → ℕ → List (List ℕ)
lines_at parts n = cond (length (get_or parts n (0 ∷ [])) == 0) (take n parts) parts

lines_by : (t : Bool) (x : List ℕ) (n : ℕ) (ps : List (List ℕ)) → cond t (take (suc n) (x ∷ ps)) (x ∷ ps) ≡ x ∷ cond t (take n ps) ps
lines_by true x n ps = refl
lines_by false x n ps = refl

lines_more : (x : List ℕ) (ps : List (List ℕ)) → 0 < length ps → lines_at (x ∷ ps) (length (x ∷ ps) - 1) ≡ x ∷ lines_at ps (length ps - 1)
lines_more x [] some = absurd (omega arith)
lines_more x (q ∷ qs) some =
    let more : length (x ∷ q ∷ qs) - 1 ≡ suc (length qs) = omega arith in
    let last : length (q ∷ qs) - 1 ≡ length qs = omega arith in
    ap (lines_at (x ∷ q ∷ qs)) more
    ∙ lines_by (length (get_or (q ∷ qs) (length qs) (0 ∷ [])) == 0) x (length qs) (q ∷ qs)
    ∙ ap (λ n. x ∷ lines_at (q ∷ qs) n) (sym last)

-- behind the first line feed stand the other lines
pub line_at : (log : List ℕ) (end : ℕ) → end ≡ position_or_len (λ b. b == 10) log → end < length log → log_lines log ≡ take end log ∷ log_lines (take (length log - (end + 1)) (drop (end + 1) log))
line_at log end is inside =
    let line = take end log in
    let rest = drop (end + 1) log in
    let parts : slice_split (λ b. b == 10) log ≡ line ∷ slice_split (λ b. b == 10) rest =
    slice_split_first (λ b. b == 10) log 0 (omega (arith, is)) ∙ ap (λ n. take n log ∷ slice_split (λ b. b == 10) (drop (n + 1) log)) (sym is) in
    ap (λ ps. lines_at ps (length ps - 1)) parts
    ∙ lines_more line (slice_split (λ b. b == 10) rest) (omega (arith, length-slice_split (λ b. b == 10) rest))
    ∙ ap (λ r. line ∷ log_lines r) (sym (take_rest log (end + 1)))

not_none : (n : ℕ) → 0 < n → (n == 0) ≡ false
not_none n some = grind (arith, tests)

one_line : (log : List ℕ) → 0 < length log → lines_at (log ∷ []) (length (log ∷ []) - 1) ≡ log ∷ []
one_line [] some = absurd (omega arith)
one_line (b ∷ bs) some = ap (λ t. cond t [] ((b ∷ bs) ∷ [])) (not_none (length (b ∷ bs)) some)

-- without one all is one line
pub line_alone : (log : List ℕ) → 0 < length log → length log ≤ position_or_len (λ b. b == 10) log → log_lines log ≡ log ∷ []
line_alone log some none =
    ap (λ ps. lines_at ps (length ps - 1)) (slice_split_none (λ b. b == 10) log (λ k d low. fails_before_first (λ b. b == 10) log k d (omega (arith, none)))) ∙ one_line log some
