use Rattle.std.proofs.Common.{◌≡◌, ◌+◌, ◌<◌, ◌∙◌, ◌++◌, List, ℕ, Bool, Bor, drop, map, get_or, length, ap, sym, arith, true, false}
use Rattle.std.specs.Prelude.{◌==◌, not}
use Rattle.std.specs.List.{slice_range, filter}
use Rattle.std.proofs.lemmas.List.{map_push}
use Rattle.tetri_logs.specs.Words.{is_separator}
use Rattle.tetri_logs.proofs.WordLemmas.{length-range, parts_from, parts_from-next, parts_from-same, parts_from-start, word_dropped, word_kept}
use Rattle.tetri_logs.proofs.words.words_of.Goals.{then-is_separator, then-from-i+in_ok-push, else-from-i, else-is_separator}
use Rattle.tetri_logs.proofs.words.words_of.Goals as goal

abbrev some : List ℕ → Bool
some word = not (length word == 0)

abbrev shown : List (Bor (List ℕ)) → List (List ℕ)
shown words = map (λ x. x.now) words

-- the words so far, and those of what is left
abbrev all : List ℕ → List (Bor (List ℕ)) → ℕ → ℕ → List (List ℕ)
all xs words from i = shown words ++ filter some (parts_from is_separator (slice_range xs from i) (drop i xs))

pub loop-i-init : goal.loop-i-init
loop-i-init c = record {
  order = omega arith;
  same = ap (λ words. all c.args.line.now words 0 0) c.clear.ensures.items ∙ ap (filter some) (parts_from-start is_separator c.args.line.now);
}

pub loop-i-preserved : goal.loop-i-preserved
loop-i-preserved c =
    let xs = c.args.line.now in
    let i = c.loop-i.i in
    let from = c.loop-i.from in
    let before = c.loop-i.words.items in
    let part = slice_range xs from i in
    let rest = parts_from is_separator (slice_range xs (i + 1) (i + 1)) (drop (i + 1) xs) in
    let inv = c.loop-i.invariant in
    let inside : i < length xs = c.loop-i-test.true in
    elim c.if-is_separator.branch [
      | then-is_separator w ↦
          let parted : is_separator (get_or xs i 0) ≡ true = sym c.is_separator.ensures ∙ w.if-is_separator.true in
          let next = parts_from-next is_separator xs from i inside parted in
          let back = ap (λ ps. shown before ++ filter some ps) (sym next) ∙ inv.same in
          record {
            order = omega (arith, w.from-is);
            same = ap (λ v. all xs v.items c.if-is_separator.from (i + 1)) w.words-is
                ∙ ap (λ f. all xs w.if-from-i.words.items f (i + 1)) w.from-is
                ∙ elim w.if-from-i.branch [
                  | then-from-i+in_ok-push v ↦
                      ap (λ u. all xs u.items (i + 1) (i + 1)) v.words-is
                      ∙ ap (λ ws. ws ++ filter some rest) (ap shown v.in_ok-push.ensures.items ∙ map_push (λ x. x.now) before _)
                      ∙ word_kept (shown before) rest part (omega (arith, length-range xs from i inv.order (omega arith), v.if-from-i.true))
                      ∙ back
                  | else-from-i v ↦
                      ap (λ u. all xs u.items (i + 1) (i + 1)) v.words-is
                      ∙ word_dropped (shown before) rest part (omega (arith, length-range xs from i inv.order (omega arith), v.if-from-i.false))
                      ∙ back
                ];
          }
      | else-is_separator w ↦
          let same : is_separator (get_or xs i 0) ≡ false = sym c.is_separator.ensures ∙ w.if-is_separator.false in
          record {
            order = omega (arith, w.from-is);
            same = ap (λ v. all xs v.items c.if-is_separator.from (i + 1)) w.words-is
                ∙ ap (λ f. all xs before f (i + 1)) w.from-is
                ∙ ap (λ ps. shown before ++ filter some ps) (sym (parts_from-same is_separator xs from i inv.order inside same))
                ∙ inv.same;
          }
    ]
