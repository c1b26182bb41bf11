use Rattle.std.proofs.Common.{Bor, ◌≡◌, ◌++◌, ◌∷◌, [], ℕ, List, true, false, Ok, map, length, sym, ap, ◌∙◌}
use Rattle.std.proofs.lemmas.Result.{err_from_is_err_and}
use Rattle.std.proofs.lemmas.List.{map_push}
use Rattle.tetri_parse.specs.Rows.{row_at}
use Rattle.tetri_parse.specs.Tokens.{name_at, goes_on_at}
use Rattle.tetri_parse.proofs.Rows.{put_last, begins, goes_further, is_last, stops_in, stops_after, runs_out}
use Rattle.tetri_parse.proofs.set_text.names.Goals as goal

pub loop-init : goal.loop-init
loop-init c = rw c.new-names.ensures.items (begins name_at (goes_on_at 125) (length c.args.text.now) c.args.text.now)

pub returns-in_err-name : goal.returns-in_err-name
returns-in_err-name c =
    let p = err_from_is_err_and c.from_residual.result c.from_residual.ensures.1 in
    rw (p.1, p.2) (stops_in name_at (goes_on_at 125) put_last (map (λ n. n.now) c.loop.names.items) (length c.args.text.now) c.loop.counter c.loop.rest.now (row_at name_at (goes_on_at 125) (length c.args.text.now) c.args.text.now) c.in_err-name.field-0.0 c.loop-test.true c.in_err-name.ensures c.loop.invariant)

pub returns-in_err-more : goal.returns-in_err-more
returns-in_err-more c =
    let p = err_from_is_err_and c.from_residual-in_err-more.result c.from_residual-in_err-more.ensures.1 in
    rw (p.1, p.2) (stops_after name_at (goes_on_at 125) put_last (map (λ n. n.now) c.loop.names.items) (length c.args.text.now) c.loop.counter c.loop.rest.now (row_at name_at (goes_on_at 125) (length c.args.text.now) c.args.text.now) c.in_err-more.field-0.0 c.in_ok-name.name.now c.in_ok-name.after.now c.loop-test.true c.in_ok-name.ensures c.in_err-more.ensures c.loop.invariant)

pub returns-then-not-more : goal.returns-then-not-more
returns-then-not-more c =
    let e : map (λ (n : Bor (List ℕ)). n.now) c.push.new.self.items ≡ map (λ (n : Bor (List ℕ)). n.now) c.loop.names.items ++ c.in_ok-name.name.now ∷ [] = rw c.in_ok-push.ensures.items (map_push (λ (n : Bor (List ℕ)). n.now) c.loop.names.items c.in_ok-name.name) in
    let last : goes_on_at 125 c.in_ok-name.after.now ≡ Ok (false, c.in_ok-more.after.now) = c.in_ok-more.ensures ∙ ap (λ b. Ok (b, c.in_ok-more.after.now)) c.if-not-more.true in
    is_last name_at (goes_on_at 125) put_last (map (λ n. n.now) c.loop.names.items) (length c.args.text.now) c.loop.counter c.loop.rest.now (row_at name_at (goes_on_at 125) (length c.args.text.now) c.args.text.now) c.in_ok-name.name.now c.in_ok-name.after.now c.in_ok-more.after.now c.loop-test.true c.in_ok-name.ensures last c.loop.invariant
    ∙ ap (λ xs. Ok (xs, c.in_ok-more.after.now)) (sym e)

pub loop-preserved : goal.loop-preserved
loop-preserved c =
    let e : map (λ (n : Bor (List ℕ)). n.now) c.push.new.self.items ≡ map (λ (n : Bor (List ℕ)). n.now) c.loop.names.items ++ c.in_ok-name.name.now ∷ [] = rw c.in_ok-push.ensures.items (map_push (λ (n : Bor (List ℕ)). n.now) c.loop.names.items c.in_ok-name.name) in
    let on : goes_on_at 125 c.in_ok-name.after.now ≡ Ok (true, c.in_ok-more.after.now) = c.in_ok-more.ensures ∙ ap (λ b. Ok (b, c.in_ok-more.after.now)) c.if-not-more.false in
    rw e (goes_further name_at (goes_on_at 125) put_last (map (λ n. n.now) c.loop.names.items) (length c.args.text.now) c.loop.counter c.loop.rest.now (row_at name_at (goes_on_at 125) (length c.args.text.now) c.args.text.now) c.in_ok-name.name.now c.in_ok-name.after.now c.in_ok-more.after.now c.loop-test.true c.in_ok-name.ensures on c.loop.invariant)

pub returns : goal.returns
returns c = runs_out name_at (goes_on_at 125) put_last (map (λ n. n.now) c.loop.names.items) (length c.args.text.now) c.loop.counter c.loop.rest.now (row_at name_at (goes_on_at 125) (length c.args.text.now) c.args.text.now) c.loop-test.false c.loop.invariant
