use Rattle.std.proofs.Common.{◌≡◌, true, false, ℕ, ◌<◌, sym, subst, arith, rules, All, List, [], ◌∷◌, ◌++◌, reverse, get_or}
use Rattle.std.specs.Prelude.{slice_set}
use Rattle.std.proofs.lemmas.Grind.{common_steps}
use Rattle.std.proofs.lemmas.List.{length-set, get_or_read}
use Rattle.std.proofs.lemmas.List.Elements.{All-push}
use Rattle.std.proofs.lemmas.Int.{ints}
use lib.IntN.{ℤ, pos, ◌+ℤ◌}
use mir.Val.{to_z, of_z, SFits}
use mir.Syntax.{w128}
use Rattle.tetri_ip.specs.Points.{bounds_of}
use Rattle.tetri_cert.specs.declared.turns.Turn.{Turn}
use Rattle.tetri_cert.specs.Turns.{pending}
use Rattle.tetri_cert.specs.NodeBounds.{low_side}
use Rattle.tetri_cert.proofs.Signed.{signed}
use Rattle.tetri_cert.proofs.Pending.{pending_high}
use Rattle.tetri_cert.proofs.turns.turn_high.Goals as goal

pub returns-clause-behind : goal.returns-clause-behind
returns-clause-behind c =
    let b = bounds_of c.args.region.now in
    let e : c.push-2.new.self.items ≡ (c.args.trail.now.items ++ (record { column = c.args.column; lower = get_or b.lower c.args.column (pos 0); upper = get_or b.upper c.args.column (pos 0); stops = false }) ∷ []) ++ (record { column = c.args.column; lower = get_or b.lower c.args.column (pos 0); upper = c.args.at; stops = true }) ∷ [] = (let h = c.push-2.ensures.items in let g = c.in_ok-push.ensures.items in grind (arith, common_steps, signed)) in
    let f : to_z w128 (of_z w128 (to_z w128 (of_z w128 c.args.at) +ℤ pos 1)) ≡ c.args.at +ℤ pos 1 = (let r = get_or_read c.args.region.now.upper.items c.args.column _ (omega arith) c.index-upper.ensures (pos 0) in let s : SFits w128 c.index-upper.result.now = search rules in omega (arith, ints)) in
    subst (λ (z : ℤ). pending (record { lower = slice_set b.lower c.args.column z; upper = b.upper }) (reverse c.push-2.new.self.items) ≡ low_side b c.args.column c.args.at ∷ pending b (reverse c.args.trail.now.items)) (sym f) (pending_high b c.args.trail.now.items c.push-2.new.self.items c.args.column c.args.at e)

columns_two : (n m : ℕ) (ts us : List Turn) (a b : Turn) → us ≡ (ts ++ a ∷ []) ++ b ∷ [] → n ≡ m → All (λ t. t.column < m) ts → a.column < m → b.column < m → All (λ t. t.column < n) us
columns_two n m ts us a b e f h p q = subst (λ x. All (λ t. t.column < n) x) (sym e) (subst (λ k. All (λ t. t.column < k) ((ts ++ a ∷ []) ++ b ∷ [])) (sym f) (All-push (λ t. t.column < m) _ b (All-push (λ t. t.column < m) ts a h p) q))

pub returns-clause-columns : goal.returns-clause-columns
returns-clause-columns c =
    let b = bounds_of c.args.region.now in
    let e : c.push-2.new.self.items ≡ (c.args.trail.now.items ++ (record { column = c.args.column; lower = get_or b.lower c.args.column (pos 0); upper = get_or b.upper c.args.column (pos 0); stops = false }) ∷ []) ++ (record { column = c.args.column; lower = get_or b.lower c.args.column (pos 0); upper = c.args.at; stops = true }) ∷ [] = (let h = c.push-2.ensures.items in let g = c.in_ok-push.ensures.items in grind (arith, common_steps, signed)) in
    columns_two _ _ c.args.trail.now.items _ _ _ e (length-set _ _ _) c.requires.trail c.requires.column c.requires.column
