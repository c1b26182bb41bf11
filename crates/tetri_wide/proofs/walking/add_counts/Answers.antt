use Rattle.std.proofs.Common.{◌≡◌, ◌+◌, ◌++◌, ◌∷◌, [], ◌<◌, ℕ, List, length, get_or, map, min, drop, sym, ap, ◌∙◌, arith}
use Rattle.std.proofs.lemmas.List.{append_assoc, append-nil, drop_more}
use Rattle.tetri_space.specs.Partitions.{partitions, parts_in}
use Rattle.tetri_space.specs.Space.{space}
use Rattle.tetri_compile.specs.declared.outline.Tally.{Tally}
use Rattle.tetri_compile.specs.Draft.{leaf_tallies}
use Rattle.tetri_compile.specs.steps.Walked.{usable}
use Rattle.tetri_compile.proofs.OutlineLemmas.{inside_below}
use Rattle.tetri_wide.specs.Sketch.{limit_of, next_column, sketch, tally_of}
use Rattle.tetri_wide.proofs.SketchLemmas.{grows_length}
use Rattle.tetri_wide.proofs.walking.add_counts.Goals as goal

pub usable_by-usable-requires-clause-there : goal.usable_by-usable-requires-clause-there
usable_by-usable-requires-clause-there c =
    let s = space c.args.inst.now in
    let k = c.loop-part.part-index in
    let same = c.parts_in-part-items.ensures ∙ c.requires.ready.parts in
    let lt : k < length (parts_in s (partitions s) c.args.leaf.now.set) = omega (arith, ap length same, c.loop-part-test.true) in
    omega (arith, inside_below s (partitions s) c.args.leaf.now.set k lt, ap (λ (ps : List ℕ). get_or ps k 0) same)

pub loop-part-preserved : goal.loop-part-preserved
loop-part-preserved c =
    let s = space c.args.inst.now in
    let l = c.args.leaf.now in
    let job = c.args.job in
    let ps = c.parts_in-part-items.result.now in
    let k = c.loop-part.part-index in
    let p = get_or ps k 0 in
    let h = c.loop-part.invariant in
    let old = c.loop-part.out in
    let n = next_column (sketch old) in
    let most = c.min-most.result in
    let own : List Tally = leaf_tallies job l (p ∷ []) n in
    let g = c.in_ok-add_count.ensures in
    let next = grows_length (sketch old) (sketch c.add_count.new.out) (most ∷ []) [] own g in
    let f = λ (q : ℕ). min l.k (usable s q l) in
    let rest : List ℕ = map f (drop (k + 1) ps) in
    let is : most ≡ f p = omega (arith, c.min-most.ensures, c.from-wanted.ensures, c.usable_by-usable.ensures) in
    let cut = drop_more ps k 0 c.loop-part-test.true in
    let later : List Tally = leaf_tallies job l (drop (k + 1) ps) (next_column (sketch c.add_count.new.out)) in
    let after : next_column (sketch c.add_count.new.out) ≡ n + 1 = omega (arith, next) in
    let tallied : List Tally = map tally_of old.holdings.items in
    record {
      long = omega (arith, next, h.long);
      uppers = ap (λ (us : List ℕ). us ++ rest) g.uppers ∙ append_assoc old.uppers.items (most ∷ []) rest
          ∙ ap (λ (m : ℕ). old.uppers.items ++ m ∷ rest) is ∙ ap (λ (qs : List ℕ). old.uppers.items ++ map f qs) (sym cut) ∙ h.uppers;
      rows = g.rows ∙ append-nil (map limit_of old.rows.items) ∙ h.rows;
      tallies = ap (λ (cs : List Tally). cs ++ later) g.tallies ∙ append_assoc tallied own later
          ∙ ap (λ (m : ℕ). tallied ++ (own ++ leaf_tallies job l (drop (k + 1) ps) m)) after
          ∙ ap (λ (qs : List ℕ). tallied ++ leaf_tallies job l qs n) (sym cut) ∙ h.tallies;
    }
