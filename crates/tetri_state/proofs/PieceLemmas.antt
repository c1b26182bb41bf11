-- No two pieces share a node.
use Rattle.std.proofs.Common.{◌≡◌, ℕ, ◌+◌, ◌<◌, ◌≤◌, Bool, true, false, cond, List, [], ◌∷◌, map, AllPairs, Contains, refl, subst, arith, nat_le, suc, zero}
use Rattle.std.proofs.lemmas.Bool.Decides.{nat_tests}
use Rattle.tetri_base.specs.Lists.{Each, EachPair}
use Rattle.tetri_base.proofs.ListLaws.{Each-get}
use Rattle.tetri_state.specs.declared.pieces.Piece.{Piece}
use Rattle.tetri_state.specs.Begin.{is_over, prolonged}
use Rattle.tetri_state.specs.Pieces.{ShareNoNode}

abbrev pub NoneShare : List Piece → Type 0
NoneShare ps = EachPair ShareNoNode ps

-- the nodes stay
pub prolonged-nodes : (now : ℕ) (p : Piece) → (prolonged now p).nodes ≡ p.nodes
prolonged-nodes now p = by_test (is_over now p)
  where
    by_test : (b : Bool) → (cond b (record p { expected = now + 1 }) p).nodes ≡ p.nodes
    by_test true = refl
    by_test false = refl

-- and the job
pub prolonged-job : (now : ℕ) (p : Piece) → (prolonged now p).job ≡ p.job
prolonged-job now p = by_test (is_over now p)
  where
    by_test : (b : Bool) → (cond b (record p { expected = now + 1 }) p).job ≡ p.job
    by_test true = refl
    by_test false = refl

-- it is expected to end later than now
pub prolonged-ahead : (now : ℕ) (p : Piece) → now < (prolonged now p).expected
prolonged-ahead now p = by_test (nat_le p.expected now) refl
  where
    by_test : (b : Bool) → nat_le p.expected now ≡ b →
        now < (cond b (record p { expected = now + 1 }) p).expected
    by_test true over = omega arith
    by_test false still = let later : now < p.expected = grind (arith, nat_tests) in later

pub prolonged-within : (now : ℕ) (p : Piece) → now < 30000 → p.expected ≤ 30000 → (prolonged now p).expected ≤ 30000
prolonged-within now p early within = by_test (is_over now p)
  where
    by_test : (b : Bool) → (cond b (record p { expected = now + 1 }) p).expected ≤ 30000
    by_test true = omega arith
    by_test false = within

apart_prolonged : (now : ℕ) (p : Piece) (qs : List Piece) → Each (ShareNoNode p) qs → Each (ShareNoNode (prolonged now p)) (map (prolonged now) qs)
apart_prolonged now p [] apart = tt
apart_prolonged now p (q ∷ qs) apart = (
  (λ n first second. apart.0 n (subst (λ ns. Contains ns n) (prolonged-nodes now p) first) (subst (λ ns. Contains ns n) (prolonged-nodes now q) second)),
  apart_prolonged now p qs apart.1,
)

pub share_prolonged : (now : ℕ) (ps : List Piece) → NoneShare ps → NoneShare (map (prolonged now) ps)
share_prolonged now [] apart = tt
share_prolonged now (p ∷ ps) apart = (apart_prolonged now p ps apart.0, share_prolonged now ps apart.1)

pub share_pairs : (ps : List Piece) → NoneShare ps → AllPairs ShareNoNode ps
share_pairs [] apart i j d before within = absurd (omega arith)
share_pairs (p ∷ ps) apart i zero d before within = absurd (omega arith)
share_pairs (p ∷ ps) apart zero (suc j) d before within = Each-get (ShareNoNode p) ps j d apart.0 (omega arith)
share_pairs (p ∷ ps) apart (suc i) (suc j) d before within = share_pairs ps apart.1 i j d (omega arith) (omega arith)

pub each_mapped : {X Y : Type 0} (P : X → Type 0) (Q : Y → Type 0) (f : X → Y) → ((x : X) → P x → Q (f x)) → (xs : List X) → Each P xs → Each Q (map f xs)
each_mapped P Q f step [] each = tt
each_mapped P Q f step (x ∷ xs) each = (step x each.0, each_mapped P Q f step xs each.1)
