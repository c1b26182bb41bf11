use Rattle.std.proofs.Common.{◌≡◌, ◌++◌, ◌∷◌, [], List, ℕ, Bool, cond, length, map, min, refl, sym, ap, ◌∙◌, arith}
use Rattle.tetri_space.specs.Space.{space}
use Rattle.tetri_compile.specs.Draft.{leaf_tallies}
use Rattle.tetri_compile.specs.Forms.{Form, limit, run, share}
use Rattle.tetri_compile.specs.steps.Walked.{inside, usable}
use Rattle.tetri_wide.specs.declared.outline.Inequality.{Inequality}
use Rattle.tetri_wide.specs.Sketch.{form_of, limit_of, next_column, sketch, tally_of}
use Rattle.tetri_wide.proofs.SketchLemmas.{rows_pushed, sides_are}
use Rattle.tetri_wide.proofs.walking.walk_leaf.Goals as goal

pub returns-then-leaf-clause-grows : goal.returns-then-leaf-clause-grows
returns-then-leaf-clause-grows c =
    let s = space c.args.inst.now in
    let l = c.args.leaf.now in
    let n = next_column (sketch c.args.out.now) in
    let ps = inside s l.set in
    let g = c.in_ok-add_counts.ensures in
    let same = c.requires.ready.parts in
    let first : c.len-first.result ≡ n = omega (arith, c.len-first.ensures, c.args.out.now.uppers.ok.0) in
    let count : length ps ≡ length c.parts_in-count.result.now = ap length (sym same ∙ sym c.parts_in-count.ensures) in
    let most : form_of c.in_ok-run_of.field-0.items ≡ run 1 n ps = c.in_ok-run_of.ensures ps count ∙ ap (λ m. run 1 m ps) first in
    let under : form_of c.in_ok-one_share.field-0.items ≡ share c.args.indicator l.k ∷ [] = c.in_ok-one_share.ensures ∙ ap (λ b. share c.args.indicator b ∷ []) c.from-wanted.ensures in
    let row : Inequality = record { most = c.in_ok-run_of.field-0; under = c.in_ok-one_share.field-0; plus = 0 } in
    let said : limit_of row ≡ limit (run 1 n ps) (share c.args.indicator l.k ∷ []) = sides_are row (run 1 n ps) (share c.args.indicator l.k ∷ []) 0 most under refl in
    record {
      uppers = g.uppers ∙ ap (λ (qs : List ℕ). c.args.out.now.uppers.items ++ map (λ p. min l.k (usable s p l)) qs) same;
      rows =
          rows_pushed (map limit_of c.args.out.now.rows.items) c.add_counts.new.out.rows.items c.push.new.self.items [] row _ g.rows c.in_ok-push.ensures.items said
          ∙ ap (λ (b : Bool). map limit_of c.args.out.now.rows.items ++ (limit (run 1 n ps) (share c.args.indicator l.k ∷ [])
          ∷ cond b [] (limit (share c.args.indicator l.k ∷ []) (run 1 n ps) ∷ []))) (sym c.if-leaf.true);
      tallies = g.tallies ∙ ap (λ (qs : List ℕ). map tally_of c.args.out.now.holdings.items ++ leaf_tallies c.args.job l qs n) same;
    }

pub returns-clause-grows : goal.returns-clause-grows
returns-clause-grows c =
    let s = space c.args.inst.now in
    let l = c.args.leaf.now in
    let n = next_column (sketch c.args.out.now) in
    let ps = inside s l.set in
    let g = c.in_ok-add_counts.ensures in
    let same = c.requires.ready.parts in
    let first : c.len-first.result ≡ n = omega (arith, c.len-first.ensures, c.args.out.now.uppers.ok.0) in
    let count : length ps ≡ length c.parts_in-count.result.now = ap length (sym same ∙ sym c.parts_in-count.ensures) in
    let counts : Form = run 1 n ps in
    let wanted : Form = share c.args.indicator l.k ∷ [] in
    let most : form_of c.in_ok-run_of.field-0.items ≡ counts = c.in_ok-run_of.ensures ps count ∙ ap (λ m. run 1 m ps) first in
    let under : form_of c.in_ok-one_share.field-0.items ≡ wanted = c.in_ok-one_share.ensures ∙ ap (λ b. share c.args.indicator b ∷ []) c.from-wanted.ensures in
    let most-2 : form_of c.in_ok-one_share-2.field-0.items ≡ wanted = c.in_ok-one_share-2.ensures ∙ ap (λ b. share c.args.indicator b ∷ []) c.from-wanted.ensures in
    let under-2 : form_of c.in_ok-run_of-2.field-0.items ≡ counts = c.in_ok-run_of-2.ensures ps count ∙ ap (λ m. run 1 m ps) first in
    let row : Inequality = record { most = c.in_ok-run_of.field-0; under = c.in_ok-one_share.field-0; plus = 0 } in
    let row-2 : Inequality = record { most = c.in_ok-one_share-2.field-0; under = c.in_ok-run_of-2.field-0; plus = 0 } in
    let one = rows_pushed (map limit_of c.args.out.now.rows.items) c.add_counts.new.out.rows.items c.push.new.self.items [] row (limit counts wanted) g.rows c.in_ok-push.ensures.items
    (sides_are row counts wanted 0 most under refl) in
    record {
      uppers = g.uppers ∙ ap (λ (qs : List ℕ). c.args.out.now.uppers.items ++ map (λ p. min l.k (usable s p l)) qs) same;
      rows =
          rows_pushed (map limit_of c.args.out.now.rows.items) c.push.new.self.items c.push-2.new.self.items (limit counts wanted ∷ []) row-2 (limit wanted counts) one c.in_ok-push-2.ensures.items
          (sides_are row-2 wanted counts 0 most-2 under-2 refl)
          ∙ ap (λ (b : Bool). map limit_of c.args.out.now.rows.items ++ (limit counts wanted ∷ cond b [] (limit wanted counts ∷ []))) (sym c.if-leaf.false);
      tallies = g.tallies ∙ ap (λ (qs : List ℕ). map tally_of c.args.out.now.holdings.items ++ leaf_tallies c.args.job l qs n) same;
    }
