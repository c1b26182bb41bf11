-- One job more of a policy.
use Rattle.std.proofs.Common.{◌≡◌, ℕ, List, [], ◌∷◌, ◌++◌, length, refl, sym, ap, ◌∙◌, append_assoc}
use Rattle.std.proofs.lemmas.List.{append-nil}
use Rattle.tetri_strl.specs.declared.grants.Grant.{Grant}
use Rattle.tetri_space.specs.Space.{Bid, Space}
use Rattle.tetri_advice.specs.Fit.{Placement, grants_of}
use Rattle.tetri_policy.specs.Policies.{backfilled, each_start, first_come, if_any}
use Rattle.tetri_policy.specs.Start.{reserved, start_now}
use Rattle.tetri_policy.specs.Started.{Starts}
use Rattle.tetri_policy.proofs.StartLemmas.{got_none, got_some}

any_some : (ps : List Placement) (x y : List Grant) → (ps ≡ [] → ⊥) → if_any ps x y ≡ y
any_some [] x y some = absurd (some refl)
any_some (p ∷ ps) x y some = refl

module _ (s : Space) (held : List Placement) (b : Bid) (later bids : List Bid) (here : bids ≡ b ∷ later) (masks : List ℕ) (gs : List Grant)
    (starts : Starts s b.job held (start_now s held b) masks gs) (before whole : List Grant) where
  abbrev placed : List Placement
  placed = start_now s held b

  -- what the job gets, and then what the others get
  joined : (rest : List Grant) → (before ++ gs) ++ rest ≡ before ++ (grants_of b.job placed ++ rest)
  joined rest = append_assoc before gs rest ∙ ap (λ (a : List Grant). before ++ (a ++ rest)) starts.grants_are

  pub each_on : before ++ each_start s held bids ≡ whole → (before ++ gs) ++ each_start s (held ++ placed) later ≡ whole
  each_on so_far = joined (each_start s (held ++ placed) later) ∙ ap (λ bs. before ++ each_start s held bs) (sym here) ∙ so_far

  pub first_on : (length gs ≡ 0 → ⊥) → before ++ first_come s held bids ≡ whole → (before ++ gs) ++ first_come s (held ++ placed) later ≡ whole
  first_on some so_far =
      let rest = first_come s (held ++ placed) later in
      joined rest ∙ sym (ap (λ (a : List Grant). before ++ a) (any_some placed [] (grants_of b.job placed ++ rest) (got_some s b.job held placed masks gs starts some)))
      ∙ ap (λ bs. before ++ first_come s held bs) (sym here) ∙ so_far

  pub first_stops : length gs ≡ 0 → before ++ first_come s held bids ≡ whole → before ≡ whole
  first_stops none so_far =
      let rest = first_come s (held ++ placed) later in
      sym (append-nil before) ∙ sym (ap (λ ps. before ++ if_any ps [] (grants_of b.job placed ++ rest)) (got_none s b.job held placed masks gs starts none))
      ∙ ap (λ bs. before ++ first_come s held bs) (sym here) ∙ so_far

  pub back_on : (length gs ≡ 0 → ⊥) → before ++ backfilled s held bids ≡ whole → (before ++ gs) ++ backfilled s (held ++ placed) later ≡ whole
  back_on some so_far =
      let rest = backfilled s (held ++ placed) later in
      let beside = each_start s (held ++ reserved s held b) later in
      joined rest ∙ sym (ap (λ (a : List Grant). before ++ a) (any_some placed beside (grants_of b.job placed ++ rest) (got_some s b.job held placed masks gs starts some)))
      ∙ ap (λ bs. before ++ backfilled s held bs) (sym here) ∙ so_far

  pub back_stops : length gs ≡ 0 → before ++ backfilled s held bids ≡ whole → before ++ each_start s (held ++ reserved s held b) later ≡ whole
  back_stops none so_far =
      let rest = backfilled s (held ++ placed) later in
      let beside = each_start s (held ++ reserved s held b) later in
      sym (ap (λ ps. before ++ if_any ps beside (grants_of b.job placed ++ rest)) (got_none s b.job held placed masks gs starts none))
      ∙ ap (λ bs. before ++ backfilled s held bs) (sym here) ∙ so_far
