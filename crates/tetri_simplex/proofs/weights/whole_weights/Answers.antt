use Rattle.std.proofs.Common.{◌≡◌, ◌+◌, ◌<◌, ◌++◌, List, [], ◌∷◌, Some, All, drop, length, sym, ap, subst, ◌∙◌}
use Rattle.std.proofs.lemmas.Int.{to_z-of_z}
use Rattle.std.proofs.lemmas.List.Elements.{All-push}
use Rattle.std.specs.Prelude.{unsigned_abs}
use Rattle.std.specs.Global.{Vec}
use mir.Val.{to_z, of_z}
use mir.Syntax.{w128}
use Rattle.tetri_ip.specs.Forming.{within}
use Rattle.tetri_ip.specs.declared.programs.Weight.{Weight}
use Rattle.tetri_simplex.specs.Ends.{whole_weights}
use Rattle.tetri_dictionary.specs.Fractions.{values}
use Rattle.tetri_dictionary.proofs.DictionaryLaws.{onto}
use Rattle.tetri_simplex.proofs.Weighting.{code_product, product_read, whole_stop, whole_zero, whole_next, whole_done, zero_read, not_zero_read, read_some}
use Rattle.tetri_simplex.proofs.weights.whole_weights.Goals as goal
use Rattle.tetri_simplex.proofs.weights.whole_weights.Goals.{then-by-ne0+in_ok-push, else-by-ne0}

pub returns-in_default-clause-formed : goal.returns-in_default-clause-formed
returns-in_default-clause-formed c =
    let x = c.index-weights-i.result in
    let q = to_z w128 (of_z w128 c.args.q) in
    let e : q ≡ c.args.q = to_z-of_z _ _ c.ranges.q in
    let z = product_read c.args.q x c.requires.positive c.requires.within in
    ap (λ y. whole_weights 0 (unsigned_abs y) (values c.args.weights.now)) (sym e) ∙ sym c.loop-i.invariant.formed
    ∙ whole_stop c.args.weights.now c.loop-i.i (unsigned_abs q) x _ c.loop-i.whole.items c.loop-i-test.true c.index-weights-i.is z (sym c.product.ensures ∙ c.in_default.is)

pub returns-clause-formed : goal.returns-clause-formed
returns-clause-formed c =
    let e : to_z w128 (of_z w128 c.args.q) ≡ c.args.q = to_z-of_z _ _ c.ranges.q in
    ap (λ y. whole_weights 0 (unsigned_abs y) (values c.args.weights.now)) (sym e) ∙ sym c.loop-i.invariant.formed
    ∙ whole_done c.args.weights.now c.loop-i.i _ c.loop-i.whole.items c.loop-i-test.false

pub loop-i-preserved : goal.loop-i-preserved
loop-i-preserved c =
    let x = c.index-weights-i.result in
    let q = to_z w128 (of_z w128 c.args.q) in
    let n = unsigned_abs q in
    let ws = c.args.weights.now in
    let z = product_read c.args.q x c.requires.positive c.requires.within in
    let y = code_product c.args.q x in
    let f : within y ≡ Some c.in-Some.by = sym c.product.ensures ∙ c.in-Some.is in
    elim c.if-by-ne0.branch [
      | then-by-ne0+in_ok-push w ↦ record {
        formed =
            ap (λ (v : Vec Weight). onto v.items (whole_weights (c.loop-i.i + 1) n (drop (c.loop-i.i + 1) (values ws)))) w.whole-is
            ∙ whole_next ws c.loop-i.i n x y c.in-Some.by c.loop-i.whole.items w.push.new.self.items c.loop-i-test.true c.index-weights-i.is z f (not_zero_read y c.in-Some.by f w.if-by-ne0.true)
            (w.in_ok-push.ensures.items ∙ ap (λ v. c.loop-i.whole.items ++ (record { row = c.loop-i.i; by = v } ∷ [])) (read_some y c.in-Some.by f))
            ∙ c.loop-i.invariant.formed;
        rows = subst (λ (v : Vec Weight). All (λ (w : Weight). w.row < length ws) v.items) (sym w.whole-is) (subst (λ (us : List Weight). All (λ (w : Weight). w.row < length ws) us) (sym w.in_ok-push.ensures.items) (All-push (λ (w : Weight). w.row < length ws) c.loop-i.whole.items _ c.loop-i.invariant.rows c.loop-i-test.true));
      }
      | else-by-ne0 w ↦ record {
        formed =
            ap (λ (v : Vec Weight). onto v.items (whole_weights (c.loop-i.i + 1) n (drop (c.loop-i.i + 1) (values ws)))) w.whole-is
            ∙ whole_zero ws c.loop-i.i n x y c.in-Some.by c.loop-i.whole.items c.loop-i-test.true c.index-weights-i.is z f (zero_read y c.in-Some.by f w.if-by-ne0.false)
            ∙ c.loop-i.invariant.formed;
        rows = subst (λ (v : Vec Weight). All (λ (w : Weight). w.row < length ws) v.items) (sym w.whole-is) c.loop-i.invariant.rows;
      }
    ]
