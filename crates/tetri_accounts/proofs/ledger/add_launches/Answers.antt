use Rattle.std.proofs.Common.{◌≡◌, ◌==◌, ◌++◌, ◌∙◌, ℕ, List, ap, drop, filter, map}
use Rattle.std.proofs.lemmas.List.Elements.{filter_agree}
use Rattle.tetri_base.specs.Lists.{has}
use Rattle.tetri_space.specs.Space.{Bid, space}
use Rattle.tetri_state.specs.declared.pieces.Piece.{Piece}
use Rattle.tetri_strl.specs.declared.grants.Grant.{Grant}
use Rattle.tetri_accounts.specs.Rows.{row_of}
use Rattle.tetri_accounts.specs.declared.row.Row.{Row}
use Rattle.tetri_accounts.proofs.OwnLemmas.{row_same}
use Rattle.tetri_accounts.proofs.ledger.add_launches.Goals as goal

pub returns : goal.returns
returns c =
    let grants : List Grant = c.args.head.now.grants in
    let pieces : List Piece = drop c.args.from c.args.state.now.pieces in
    let jobs : List ℕ = c.args.head.now.launched.items in
    let now = c.args.inst.now.now in
    let bids : List Bid = (space c.args.inst.now).bids in
    let own_grants : (job : ℕ) → filter (λ g. g.job == job) c.deref-3.result.now ≡ filter (λ g. g.job == job) grants =
    λ job. ap (filter (λ (g : Grant). g.job == job)) c.deref-3.ensures.value ∙ c.in_ok-grants.ensures.own job in
    let own_pieces : (job : ℕ) → filter (λ p. p.job == job) c.deref-2.result.now ≡ filter (λ p. p.job == job) pieces =
    λ job. ap (filter (λ (p : Piece). p.job == job)) c.deref-2.ensures.value ∙ c.in_ok-pieces.ensures.own job in
    let has_same : (b : Bid) → has c.deref-4.result.now b.job ≡ has jobs b.job =
    λ b. ap (λ (js : List ℕ). has js b.job) c.deref-4.ensures.value ∙ c.in_ok-launched.ensures.same b.job ∙ ap (λ (js : List ℕ). has js b.job) c.deref.ensures.value in
    c.in_ok-add_rows.ensures
    ∙ ap (λ (rows : List Row). c.args.running.now.items ++ rows)
    (ap (λ (f : Bid → Row). map f (filter (λ b. has c.deref-4.result.now b.job) bids)) (row_same c.deref-3.result.now grants c.deref-2.result.now pieces now own_grants own_pieces)
    ∙ ap (map (row_of grants pieces now)) (filter_agree (λ (b : Bid). has c.deref-4.result.now b.job) (λ (b : Bid). has jobs b.job) has_same bids))
