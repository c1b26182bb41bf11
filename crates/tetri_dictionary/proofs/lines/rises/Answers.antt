use Rattle.std.proofs.Common.{◌≡◌, ◌<◌, ◌≤◌, ℕ, arith, false, sym, ap, ◌∙◌, below_more}
use Rattle.tetri_num.specs.Frac.{value}
use Rattle.tetri_dictionary.specs.declared.lines.Entry.{Entry}
use Rattle.tetri_dictionary.specs.Sparse.{number_at}
use Rattle.tetri_dictionary.specs.Tables.{is_positive}
use Rattle.tetri_dictionary.proofs.SparseChoices.{rises_at, rises_not}
use Rattle.tetri_dictionary.proofs.SparseRows.{entry_read}
use Rattle.tetri_dictionary.proofs.lines.rises.Goals as goal

pub returns-then-is_positive : goal.returns-then-is_positive
returns-then-is_positive c =
    let es = c.args.entries.now in
    let k = c.loop-k.k in
    let g = entry_read es k c.index-entries-k.result c.loop-k-test.true c.index-entries-k.is in
    sym (rises_at c.args.columns es k c.requires c.loop-k-test.true (ap is_positive g.1 ∙ ap (λ (e : Entry). is_positive (value e.number)) c.index-entries-k.is ∙ sym c.is_positive.ensures ∙ c.if-is_positive.true))

pub loop-k-preserved : goal.loop-k-preserved
loop-k-preserved c =
    let es = c.args.entries.now in
    let k = c.loop-k.k in
    let g = entry_read es k c.index-entries-k.result c.loop-k-test.true c.index-entries-k.is in
    below_more (λ q. is_positive (number_at es q) ≡ false) k c.loop-k.invariant (ap is_positive g.1 ∙ ap (λ (e : Entry). is_positive (value e.number)) c.index-entries-k.is ∙ sym c.is_positive.ensures ∙ c.if-is_positive.false)

pub returns : goal.returns
returns c = sym (rises_not c.args.columns c.args.entries.now (λ q l. c.loop-k.invariant q (below q _ _ l c.loop-k-test.false)))
  where
    below : (q n k : ℕ) → q < n → n ≤ k → q < k
    below q n k l m = omega arith
