-- What the walks of parts add, put together.
use Rattle.std.proofs.Common.{◌≡◌, ℕ, ◌+◌, ◌==◌, ◌<◌, ◌^◌, List, [], ◌∷◌, ◌++◌, length, sym, ap, ◌∙◌, subst, arith}
use Rattle.std.specs.Prelude.{if◌then◌else◌}
use Rattle.std.proofs.lemmas.List.{append_assoc, length-append}
use Rattle.tetri_strl.specs.Tree.{Tree, Trees, join, least, added, more}
use Rattle.tetri_space.specs.Space.{Bid, Space}
use Rattle.tetri_compile.specs.declared.outline.Tally.{Tally}
use Rattle.tetri_compile.specs.Draft.{bid_rows, bid_tallies, bid_uppers, objective, tallies, tallies_of}
use Rattle.tetri_compile.specs.Forms.{Form, Limit, limit, run, share}
use Rattle.tetri_compile.specs.Walk.{best, ones, uppers, uppers_of, width, width_of, form, forms, rows, rows_of, rows_under}
use Rattle.tetri_compile.specs.steps.Walked.{inside, usable}
use Rattle.tetri_wide.specs.Sketch.{AreWalked, Grows, IsWalked, Sketch, next_column}
use Rattle.tetri_wide.proofs.SketchLemmas.{forms_next, uppers_next, rows_next, tallies_next, next_is, grows_more, grows_length}

module _ (s : Space) (job : ℕ) (ts : Trees) (i b : ℕ) (old new : Sketch) (f : Form) where
  pub under_walked : b ≡ best (join least ts) → f ≡ (if b == 0 then [] else (share (next_column old) 1 ∷ [])) →
      Grows old new (b ∷ uppers_of (inside s) (usable s) ts) (rows_under (inside s) (usable s) ts i (next_column old) (next_column old + 1))
      (tallies_of (inside s) (usable s) job ts (next_column old + 1)) →
      IsWalked s job (join least ts) i old new f
  under_walked e is g = record {
    form = is ∙ ap (λ (k : ℕ). if k == 0 then [] else (share (next_column old) 1 ∷ [])) e;
    grows = subst (λ (k : ℕ). Grows old new (k ∷ uppers_of (inside s) (usable s) ts) (rows_under (inside s) (usable s) ts i (next_column old) (next_column old + 1))
        (tallies_of (inside s) (usable s) job ts (next_column old + 1))) e g;
  }

  pub sum_walked : b ≡ length (ones ts) → f ≡ forms (inside s) (usable s) ts (next_column old) (next_column old + length (ones ts)) →
      Grows old new (ones ts ++ uppers_of (inside s) (usable s) ts)
      (limit (run 1 (next_column old) (ones ts)) (share i b ∷ []) ∷ rows_of (inside s) (usable s) ts (next_column old) (next_column old + length (ones ts)))
      (tallies_of (inside s) (usable s) job ts (next_column old + length (ones ts))) →
      IsWalked s job (join added ts) i old new f
  sum_walked e is g = record {
    form = is;
    grows = subst (λ (k : ℕ). Grows old new (ones ts ++ uppers_of (inside s) (usable s) ts)
        (limit (run 1 (next_column old) (ones ts)) (share i k ∷ []) ∷ rows_of (inside s) (usable s) ts (next_column old) (next_column old + length (ones ts)))
        (tallies_of (inside s) (usable s) job ts (next_column old + length (ones ts)))) e g;
  }

pub marked_grows : (s : Space) (job : ℕ) (ts : Trees) (i b first : ℕ) (old mid new : Sketch) (f : Form) → first ≡ next_column old →
    Grows old mid (ones ts) (limit (run 1 (next_column old) (ones ts)) (share i b ∷ []) ∷ []) [] → AreWalked s job ts first mid new f →
    Grows old new (ones ts ++ uppers_of (inside s) (usable s) ts)
    (limit (run 1 (next_column old) (ones ts)) (share i b ∷ []) ∷ rows_of (inside s) (usable s) ts (next_column old) (next_column old + length (ones ts)))
    (tallies_of (inside s) (usable s) job ts (next_column old + length (ones ts)))
marked_grows s job ts i b first old mid new f e ahead walked =
    let top = limit (run 1 (next_column old) (ones ts)) (share i b ∷ []) in
    let long : next_column mid ≡ next_column old + length (ones ts) = grows_length old mid (ones ts) (top ∷ []) [] ahead in
    let all = grows_more old mid new (ones ts) (uppers_of (inside s) (usable s) ts) (top ∷ []) (rows_of (inside s) (usable s) ts first (next_column mid)) [] (tallies_of (inside s) (usable s) job ts (next_column mid)) ahead walked.grows in
    record {
      uppers = all.uppers;
      rows = all.rows ∙ ap (λ (j : ℕ). old.rows ++ (top ∷ rows_of (inside s) (usable s) ts j (next_column mid))) e
          ∙ ap (λ (m : ℕ). old.rows ++ (top ∷ rows_of (inside s) (usable s) ts (next_column old) m)) long;
      tallies = all.tallies ∙ ap (λ (m : ℕ). old.tallies ++ tallies_of (inside s) (usable s) job ts m) long;
    }

-- one more part, where the parts from a place on were still to be walked
pub place_next : (s : Space) (job : ℕ) (t : Tree) (rest here all : Trees) (first k : ℕ) (start old new : Sketch) (before after f : Form) →
    here ≡ more t rest → IsWalked s job t (first + k) old new f → after ≡ before ++ f →
    next_column old + width_of (inside s) (usable s) here < 2 ^ 31 →
    before ++ forms (inside s) (usable s) here (first + k) (next_column old) ≡ forms (inside s) (usable s) all first (next_column start) →
    old.uppers ++ uppers_of (inside s) (usable s) here ≡ start.uppers ++ uppers_of (inside s) (usable s) all →
    old.rows ++ rows_of (inside s) (usable s) here (first + k) (next_column old) ≡ start.rows ++ rows_of (inside s) (usable s) all first (next_column start) →
    old.tallies ++ tallies_of (inside s) (usable s) job here (next_column old) ≡ start.tallies ++ tallies_of (inside s) (usable s) job all (next_column start) →
    (next_column new + width_of (inside s) (usable s) rest < 2 ^ 31)
    × (after ++ forms (inside s) (usable s) rest (first + (k + 1)) (next_column new) ≡ forms (inside s) (usable s) all first (next_column start))
    × (new.uppers ++ uppers_of (inside s) (usable s) rest ≡ start.uppers ++ uppers_of (inside s) (usable s) all)
    × (new.rows ++ rows_of (inside s) (usable s) rest (first + (k + 1)) (next_column new) ≡ start.rows ++ rows_of (inside s) (usable s) all first (next_column start))
    × (new.tallies ++ tallies_of (inside s) (usable s) job rest (next_column new) ≡ start.tallies ++ tallies_of (inside s) (usable s) job all (next_column start))
place_next s job t rest here all first k start old new before after f cut walked put fits h_form h_uppers h_rows h_tallies =
    let ins = inside s in
    let rm = usable s in
    let step : first + (k + 1) ≡ (first + k) + 1 = omega arith in
    let wide = length-append (uppers ins rm t) (uppers_of ins rm rest) in
    let size : width_of ins rm here ≡ width_of ins rm (more t rest) = ap (width_of ins rm) cut in
    let next : next_column new ≡ next_column old + width ins rm t = next_is ins rm job (first + k) t rest old new f walked.form walked.grows in (
      omega (arith, fits, wide, size, next),
      ap (λ (j : ℕ). after ++ forms ins rm rest j (next_column new)) step
          ∙ forms_next ins rm job (first + k) t rest old new f walked.form walked.grows before after put
          ∙ ap (λ (us : Trees). before ++ forms ins rm us (first + k) (next_column old)) (sym cut) ∙ h_form,
      uppers_next ins rm job (first + k) t rest old new f walked.form walked.grows ∙ ap (λ (us : Trees). old.uppers ++ uppers_of ins rm us) (sym cut) ∙ h_uppers,
      ap (λ (j : ℕ). new.rows ++ rows_of ins rm rest j (next_column new)) step
          ∙ rows_next ins rm job (first + k) t rest old new f walked.form walked.grows
          ∙ ap (λ (us : Trees). old.rows ++ rows_of ins rm us (first + k) (next_column old)) (sym cut) ∙ h_rows,
      tallies_next ins rm job (first + k) t rest old new f walked.form walked.grows ∙ ap (λ (us : Trees). old.tallies ++ tallies_of ins rm job us (next_column old)) (sym cut) ∙ h_tallies,
    )

-- one more bid, where the bids from a place on were still to be walked
pub bid_next : (s : Space) (b : Bid) (rest here all : List Bid) (i : ℕ) (start old mid new : Sketch) (before after f : Form) →
    here ≡ b ∷ rest → i ≡ next_column old → mid.uppers ≡ old.uppers ++ 1 ∷ [] → mid.rows ≡ old.rows → mid.tallies ≡ old.tallies →
    IsWalked s b.job b.expr i mid new f → after ≡ before ++ f →
    next_column old + length (bid_uppers (inside s) (usable s) here) < 2 ^ 31 →
    before ++ objective (inside s) (usable s) here (next_column old) ≡ objective (inside s) (usable s) all (next_column start) →
    old.uppers ++ bid_uppers (inside s) (usable s) here ≡ start.uppers ++ bid_uppers (inside s) (usable s) all →
    old.rows ++ bid_rows (inside s) (usable s) here (next_column old) ≡ start.rows ++ bid_rows (inside s) (usable s) all (next_column start) →
    old.tallies ++ bid_tallies (inside s) (usable s) here (next_column old) ≡ start.tallies ++ bid_tallies (inside s) (usable s) all (next_column start) →
    (next_column new + length (bid_uppers (inside s) (usable s) rest) < 2 ^ 31)
    × (after ++ objective (inside s) (usable s) rest (next_column new) ≡ objective (inside s) (usable s) all (next_column start))
    × (new.uppers ++ bid_uppers (inside s) (usable s) rest ≡ start.uppers ++ bid_uppers (inside s) (usable s) all)
    × (new.rows ++ bid_rows (inside s) (usable s) rest (next_column new) ≡ start.rows ++ bid_rows (inside s) (usable s) all (next_column start))
    × (new.tallies ++ bid_tallies (inside s) (usable s) rest (next_column new) ≡ start.tallies ++ bid_tallies (inside s) (usable s) all (next_column start))
bid_next s b rest here all i start old mid new before after f cut is_i put same_rows same_tallies walked ext fits h_form h_uppers h_rows h_tallies =
    let ins = inside s in
    let rm = usable s in
    let n = next_column old in
    let us = uppers ins rm b.expr in
    let mid_is : next_column mid ≡ n + 1 = ap length put ∙ length-append old.uppers (1 ∷ []) in
    let grown : next_column new ≡ next_column mid + length us = grows_length mid new us (rows ins rm b.expr i (next_column mid)) (tallies ins rm b.job b.expr (next_column mid)) walked.grows in
    let next : next_column new ≡ n + 1 + width ins rm b.expr = omega (arith, grown, mid_is) in
    let wide = length-append us (bid_uppers ins rm rest) in
    let size : length (bid_uppers ins rm here) ≡ length (bid_uppers ins rm (b ∷ rest)) = ap (λ (bs : List Bid). length (bid_uppers ins rm bs)) cut in
    let form_is : f ≡ form ins rm b.expr n (n + 1) = walked.form ∙ ap (λ (j : ℕ). form ins rm b.expr j (next_column mid)) is_i ∙ ap (λ (m : ℕ). form ins rm b.expr n m) mid_is in
    let rows_are : rows ins rm b.expr i (next_column mid) ≡ rows ins rm b.expr n (n + 1) = ap (λ (j : ℕ). rows ins rm b.expr j (next_column mid)) is_i ∙ ap (λ (m : ℕ). rows ins rm b.expr n m) mid_is in (
      omega (arith, fits, wide, size, next),
      ap (λ (g : Form). g ++ objective ins rm rest (next_column new)) (ext ∙ ap (λ (g : Form). before ++ g) form_is)
          ∙ append_assoc before (form ins rm b.expr n (n + 1)) (objective ins rm rest (next_column new))
          ∙ ap (λ (m : ℕ). before ++ (form ins rm b.expr n (n + 1) ++ objective ins rm rest m)) next
          ∙ ap (λ (bs : List Bid). before ++ objective ins rm bs n) (sym cut) ∙ h_form,
      ap (λ (vs : List ℕ). vs ++ bid_uppers ins rm rest) (walked.grows.uppers ∙ ap (λ (vs : List ℕ). vs ++ us) put)
          ∙ append_assoc (old.uppers ++ 1 ∷ []) us (bid_uppers ins rm rest)
          ∙ append_assoc old.uppers (1 ∷ []) (us ++ bid_uppers ins rm rest)
          ∙ ap (λ (bs : List Bid). old.uppers ++ bid_uppers ins rm bs) (sym cut) ∙ h_uppers,
      ap (λ (rs : List Limit). rs ++ bid_rows ins rm rest (next_column new))
          (walked.grows.rows ∙ ap (λ (qs : List Limit). qs ++ rows ins rm b.expr i (next_column mid)) same_rows ∙ ap (λ (rs : List Limit). old.rows ++ rs) rows_are)
          ∙ append_assoc old.rows (rows ins rm b.expr n (n + 1)) (bid_rows ins rm rest (next_column new))
          ∙ ap (λ (m : ℕ). old.rows ++ (rows ins rm b.expr n (n + 1) ++ bid_rows ins rm rest m)) next
          ∙ ap (λ (bs : List Bid). old.rows ++ bid_rows ins rm bs n) (sym cut) ∙ h_rows,
      ap (λ (cs : List Tally). cs ++ bid_tallies ins rm rest (next_column new))
          (walked.grows.tallies ∙ ap (λ (cs : List Tally). cs ++ tallies ins rm b.job b.expr (next_column mid)) same_tallies ∙ ap (λ (m : ℕ). old.tallies ++ tallies ins rm b.job b.expr m) mid_is)
          ∙ append_assoc old.tallies (tallies ins rm b.job b.expr (n + 1)) (bid_tallies ins rm rest (next_column new))
          ∙ ap (λ (m : ℕ). old.tallies ++ (tallies ins rm b.job b.expr (n + 1) ++ bid_tallies ins rm rest m)) next
          ∙ ap (λ (bs : List Bid). old.tallies ++ bid_tallies ins rm bs n) (sym cut) ∙ h_tallies,
    )
