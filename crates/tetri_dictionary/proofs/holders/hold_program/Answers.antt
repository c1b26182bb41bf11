use Rattle.std.proofs.Common.{◌≡◌, ◌<◌, ℕ, List, length, sym, ap, subst, ◌∙◌, ⊎_elim, arith}
use Rattle.std.proofs.lemmas.Bool.{cases_eq}
use Rattle.tetri_ip.specs.declared.programs.Term.{Term}
use Rattle.tetri_ip.specs.Points.{coefficient, column_at, terms_of}
use Rattle.tetri_ip.proofs.IntegerProgramLaws.{coefficient_absent, terms_of_at}
use Rattle.tetri_dictionary.specs.Holders.{bit, words_at}
use Rattle.tetri_dictionary.proofs.FirstTable.{fit_row}
use Rattle.tetri_dictionary.proofs.HolderBits.{before_last}
use Rattle.tetri_dictionary.proofs.holders.hold_program.Goals as goal

pub hold_terms-requires-clause-columns : goal.hold_terms-requires-clause-columns
hold_terms-requires-clause-columns c =
    let h : c.loop-k.k < length c.args.p.now.rows.items = omega (arith, c.len-k-end.ensures, c.args.p.now.rows.ok.0) in
    let f = fit_row c.args.p.now c.loop-k.k c.index.result.now c.requires.fit h c.index.ensures in
    subst (λ (ts : List Term). (t : ℕ) → t < length ts → column_at ts t < length c.loop-k.holders) (sym c.deref.ensures.value)
    (subst (λ n. (t : ℕ) → t < length c.index.result.now.terms.items → column_at c.index.result.now.terms.items t < n) (sym (c.loop-k.auto.holders ∙ c.requires.columns)) f.columns)

pub loop-k-preserved : goal.loop-k-preserved
loop-k-preserved c =
    let k = c.loop-k.k in
    let rows = c.args.p.now.rows.items in
    let h : k < length rows = omega (arith, c.len-k-end.ensures, c.args.p.now.rows.ok.0) in
    let ts = c.deref.result.now in
    let te : terms_of rows k ≡ ts = terms_of_at rows k c.index.result.now h c.index.ensures ∙ sym c.deref.ensures.value in
    record {
      words = c.hold_terms.ensures.words;
      own = λ j q m b.
          ⊎_elim
          (λ e. ap (λ z. coefficient (terms_of rows z) j) e ∙ ap (λ (us : List Term). coefficient us j) te
          ∙ coefficient_absent ts j (λ t l s. c.hold_terms.ensures.own j t (subst (λ z. bit (words_at c.hold_terms.new.holders j) z ≡ 0) e b) l s))
          (λ d. c.loop-k.invariant.own j q (before_last k q m d) (c.hold_terms.ensures.before j q b))
          (cases_eq q k);
    }
