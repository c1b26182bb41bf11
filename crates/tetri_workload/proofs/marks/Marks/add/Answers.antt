use Rattle.std.proofs.Common.{◌∙◌, inl, inr, ap, sym, eqb, arith}
use Rattle.std.proofs.lemmas.Bool.{cases_eq}
use Rattle.tetri_workload.specs.Marks.{is_marked}
use Rattle.tetri_workload.proofs.BitLemmas.{bit_set, bit_kept, bit_past}
use Rattle.tetri_workload.proofs.marks.Marks.add.Goals as goal

pub returns-then-word-len-clause-own : goal.returns-then-word-len-clause-own
unfolding is_marked
returns-then-word-len-clause-own c = ap (λ b. eqb b 1) (bit_set c.args.self.now.marks.items c.index_mut.result.now c.args.place (omega arith))

pub returns-then-word-len-clause-others : goal.returns-then-word-len-clause-others
unfolding is_marked
returns-then-word-len-clause-others c = λ other marked.
    elim (cases_eq other c.args.place) [
      | inl same ↦ rw same (returns-then-word-len-clause-own c)
      | inr apart ↦ ap (λ b. eqb b 1) (bit_kept c.args.self.now.marks.items c.index_mut.result.now c.args.place other (omega arith) c.index_mut.ensures.value apart) ∙ marked
    ]

pub returns-then-word-len-clause-only : goal.returns-then-word-len-clause-only
unfolding is_marked
returns-then-word-len-clause-only c = λ other apart marked.
    ap (λ b. eqb b 1) (sym (bit_kept c.args.self.now.marks.items c.index_mut.result.now c.args.place other (omega arith) c.index_mut.ensures.value apart)) ∙ marked

pub returns-else-word-len-clause-own : goal.returns-else-word-len-clause-own
unfolding is_marked
returns-else-word-len-clause-own c = ap (λ b. eqb b 1) (bit_past c.args.self.now.marks.items c.args.place (omega arith))
