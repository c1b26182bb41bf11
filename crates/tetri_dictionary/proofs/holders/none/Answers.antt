use Rattle.std.proofs.Common.{◌≡◌, ◌+◌, ℕ, List, [], ◌∷◌, length, ap, sym, subst, ◌∙◌, arith}
use Rattle.std.specs.Global.{Vec}
use Rattle.std.specs.Prelude.{All}
use Rattle.std.proofs.lemmas.List.{length-append, length-replicate}
use Rattle.std.proofs.lemmas.List.Elements.{All-push}
use Rattle.tetri_dictionary.proofs.holders.none.Goals as goal

nothing : (n : ℕ) (hs : List (Vec ℕ)) → hs ≡ [] → All (λ (v : Vec ℕ). length v.items ≡ n) hs
nothing n hs e = subst (λ (us : List (Vec ℕ)). All (λ (v : Vec ℕ). length v.items ≡ n) us) (sym e) (λ q d l. absurd (omega arith))

pub loop-init : goal.loop-init
loop-init c = record { columns = ap length c.new-holders.ensures.items; words = nothing c.args.words c.new-holders.result.items c.new-holders.ensures.items }

pub loop-preserved : goal.loop-preserved
loop-preserved c =
    let hs = c.loop.holders.items in
    let v = c.in_ok-vec.field-0 in
    let wide : length v.items ≡ c.args.words = ap length (c.in_ok-vec.ensures.items_if_clones_equal (λ y e. e)) ∙ length-replicate c.args.words 0 in
    record {
      columns = ap length c.in_ok-push.ensures.items ∙ length-append hs (v ∷ []) ∙ ap (λ z. z + 1) c.loop.invariant.columns;
      words = subst (λ (us : List (Vec ℕ)). All (λ (u : Vec ℕ). length u.items ≡ c.args.words) us) (sym c.in_ok-push.ensures.items) (All-push (λ (u : Vec ℕ). length u.items ≡ c.args.words) hs v c.loop.invariant.words wide);
    }

pub returns-clause-columns : goal.returns-clause-columns
returns-clause-columns c = omega (arith, c.loop.invariant.columns, c.loop.auto.counter-end, c.loop-test.false)
