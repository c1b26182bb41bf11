use Rattle.std.proofs.Common.{◌≡◌, ◌<◌, ◌+◌, ◌-◌, ◌/◌, sym, ap, ◌∙◌, arith, length, rules, below_more}
use Rattle.std.proofs.lemmas.Int.{to_z-of_z}
use mir.Val.{SFits}
use mir.Syntax.{w128}
use lib.IntN.{pos}
use Rattle.tetri_ip.specs.declared.programs.Term.{Term}
use Rattle.tetri_ip.specs.Points.{column_at, term_at}
use Rattle.tetri_ip.proofs.Coefficients.{coefficient_at, coefficient_between}
use Rattle.tetri_ip.proofs.Steps.{item_is}
use Rattle.tetri_ip.proofs.columns.coefficient_of.Goals as goal

pub returns-then-term-column : goal.returns-then-term-column
returns-then-term-column c =
    let ts = c.args.row.now.terms.items in
    let i = c.loop-low.low + (c.loop-low.high - c.loop-low.low) / 2 in
    let l : i < length ts = omega (arith, c.loop-low.invariant.inside, c.loop-low-test.true) in
    let d : Term = record { column = 0; by = pos 0 } in
    let e : c.index-term.result.now ≡ term_at ts i = item_is ts i c.index-term.result.now d l c.index-term.ensures in
    let f : SFits w128 c.index-term.result.now.by = search rules in
    let g : column_at ts i ≡ c.args.column = sym (ap (λ (t : Term). t.column) e) ∙ c.if-term-column.true in
    to_z-of_z _ _ f ∙ ap (λ (t : Term). t.by) e ∙ sym (coefficient_at ts c.args.column i c.requires l g)

pub loop-low-preserved-then-term-column-2 : goal.loop-low-preserved-then-term-column-2
loop-low-preserved-then-term-column-2 c =
    let ts = c.args.row.now.terms.items in
    let i = c.loop-low.low + (c.loop-low.high - c.loop-low.low) / 2 in
    let l : i < length ts = omega (arith, c.loop-low.invariant.inside, c.loop-low-test.true) in
    let d : Term = record { column = 0; by = pos 0 } in
    let e : c.index-term.result.now ≡ term_at ts i = item_is ts i c.index-term.result.now d l c.index-term.ensures in
    let g : column_at ts i ≡ c.index-term.result.now.column = sym (ap (λ (t : Term). t.column) e) in
    let h : column_at ts i < c.args.column = omega (arith, g, c.if-term-column-2.true) in
    record {
      ordered = omega (arith, c.loop-low-test.true);
      inside = c.loop-low.invariant.inside;
      before = below_more (λ k. column_at ts k < c.args.column) i (λ k b. omega (arith, c.requires k i b l, h)) h;
      after = c.loop-low.invariant.after;
    }

pub returns : goal.returns
returns c =
    sym (coefficient_between c.args.row.now.terms.items c.args.column c.loop-low.low c.loop-low.high (omega (arith, c.loop-low-test.false)) c.loop-low.invariant.before c.loop-low.invariant.after)
