-- What earns something, one job further.
use Rattle.std.proofs.Common.{◌≡◌, ◌≢◌, ℕ, ◌+◌, ◌<◌, ◌≤◌, List, [], ◌∷◌, ◌++◌, length, get_or, take, drop, map, All, AllPairs, refl, sym, ap, ◌∙◌, arith}
use Rattle.std.specs.List.{flat_map}
use Rattle.std.proofs.lemmas.List.{append_assoc, take-append-drop}
use Rattle.std.proofs.lemmas.List.Elements.{All-head, All-tail, All-weaker}
use Rattle.tetri_strl.specs.declared.grants.Grant.{Grant}
use Rattle.tetri_strl.specs.Trim.{trimmed}
use Rattle.tetri_strl.proofs.ExprLaws.{NamesNot, trimmed-append_left, trimmed-append_right}
use Rattle.tetri_space.specs.declared.instance.Offer.{Offer}
use Rattle.tetri_space.specs.Space.{Bid, bid}
use Rattle.tetri_space.proofs.BidLemmas.{later_jobs, next_bid}

abbrev pub trimmed_by : List Grant → List Bid → List Grant
trimmed_by a bs = flat_map (λ b. trimmed a b.job b.expr) bs

same_by : (a b : List Grant) (bs : List Bid) → All (λ c. trimmed a c.job c.expr ≡ trimmed b c.job c.expr) bs → trimmed_by a bs ≡ trimmed_by b bs
same_by a b [] same = refl
same_by a b (c ∷ cs) same =
    ap (λ xs. xs ++ trimmed_by a cs) (All-head (λ (c : Bid). trimmed a c.job c.expr ≡ trimmed b c.job c.expr) c cs same)
    ∙ ap (λ xs. trimmed b c.job c.expr ++ xs) (same_by a b cs (All-tail (λ (c : Bid). trimmed a c.job c.expr ≡ trimmed b c.job c.expr) c cs same))

-- a job's run of grants, and those of the later jobs behind it
trim_first : (a b : List Grant) (c : Bid) (cs : List Bid) → All (λ (d : Bid). c.job < d.job) cs → All (λ (g : Grant). g.job ≤ c.job) a → All (λ (g : Grant). c.job < g.job) b →
    trimmed_by (a ++ b) (c ∷ cs) ≡ trimmed a c.job c.expr ++ trimmed_by b cs
trim_first a b c cs later within past =
    let others : NamesNot c.job b = All-weaker (λ (g : Grant). c.job < g.job) (λ (g : Grant). g.job ≢ c.job) (λ g lt same. absurd (omega arith)) b past in
    ap (λ xs. xs ++ trimmed_by (a ++ b) cs) (trimmed-append_left a b c.job c.expr others)
    ∙ ap (λ xs. trimmed a c.job c.expr ++ xs) (same_by (a ++ b) b cs
    (All-weaker (λ (d : Bid). c.job < d.job) (λ (d : Bid). trimmed (a ++ b) d.job d.expr ≡ trimmed b d.job d.expr)
    (λ d lt. trimmed-append_right a b d.job d.expr (All-weaker (λ (g : Grant). g.job ≤ c.job) (λ (g : Grant). g.job ≢ d.job) (λ g le same. absurd (omega arith)) a within)) cs later))

-- one job further, with all grants
pub trim_next : (a made new : List Grant) (os : List Offer) (i : ℕ) (o : Offer) → i < length os → o ≡ get_or os i o → new ≡ made ++ trimmed a o.job (bid o).expr →
    new ++ trimmed_by a (drop (i + 1) (map bid os)) ≡ made ++ trimmed_by a (drop i (map bid os))
trim_next a made new os i o lt is grown =
    ap (λ xs. xs ++ trimmed_by a (drop (i + 1) (map bid os))) grown
    ∙ append_assoc made (trimmed a o.job (bid o).expr) (trimmed_by a (drop (i + 1) (map bid os)))
    ∙ ap (λ bs. made ++ trimmed_by a bs) (sym (next_bid os i o lt is))

-- with its run alone
pub trim_turn : (made new : List Grant) (os : List Offer) (i : ℕ) (o : Offer) (rest run past : List Grant) (n : ℕ) → AllPairs (λ (b c : Bid). b.job < c.job) (map bid os) →
    i < length os → o ≡ get_or os i o → run ≡ take n rest → past ≡ drop n rest → All (λ (g : Grant). g.job ≤ o.job) (take n rest) →
    All (λ (g : Grant). o.job < g.job) (drop n rest) → new ≡ made ++ trimmed run o.job (bid o).expr →
    new ++ trimmed_by past (drop (i + 1) (map bid os)) ≡ made ++ trimmed_by rest (drop i (map bid os))
trim_turn made new os i o rest run past n ascending lt is is_run is_past within after grown =
    let left = drop (i + 1) (map bid os) in
    ap (λ xs. xs ++ trimmed_by past left) grown
    ∙ append_assoc made (trimmed run o.job (bid o).expr) (trimmed_by past left)
    ∙ ap (λ xs. made ++ (trimmed xs o.job (bid o).expr ++ trimmed_by past left)) is_run
    ∙ ap (λ xs. made ++ (trimmed (take n rest) o.job (bid o).expr ++ trimmed_by xs left)) is_past
    ∙ ap (λ xs. made ++ xs) (sym (trim_first (take n rest) (drop n rest) (bid o) left (later_jobs os i o ascending lt is) within after))
    ∙ ap (λ gs. made ++ trimmed_by gs (bid o ∷ left)) (take-append-drop n rest)
    ∙ ap (λ bs. made ++ trimmed_by rest bs) (sym (next_bid os i o lt is))
