-- The starts of the policies are lawful.
use Rattle.std.proofs.Common.{◌≡◌, ◌≢◌, ℕ, ◌+◌, Bool, true, false, cond, List, [], ◌∷◌, ◌++◌, suc, All, AllPairs, Contains, refl, subst, arith, nat_le}
use Rattle.std.specs.Prelude.{Option, None, Some}
use Rattle.std.specs.List.Sorted.{IsStrictlyIncreasing}
use Rattle.std.proofs.lemmas.List.Elements.{All-nil, All-head, All-tail, All-contains_itself, All-weaker}
use Rattle.tetri_strl.specs.declared.expr.Leaf.{Leaf}
use Rattle.tetri_strl.specs.declared.grants.Grant.{Grant}
use Rattle.tetri_strl.specs.Prune.{pruned}
use Rattle.tetri_strl.specs.Tree.{Tree, leaves}
use Rattle.tetri_strl.proofs.ExprLaws.{EachLeaf-from}
use Rattle.tetri_space.specs.Lawful.{IsLawful}
use Rattle.tetri_space.specs.Sound.{IsSound}
use Rattle.tetri_space.specs.Space.{Bid, Space}
use Rattle.tetri_advice.specs.Fit.{Placement, fit_beside, fit_worth, grants_of, is_held}
use Rattle.tetri_advice.proofs.FitLemmas.{AreFit, Follows, IsPlain, IsRight, are_fit}
use Rattle.tetri_policy.specs.Policies.{backfilled, each_start, first_come, if_any, starts_by}
use Rattle.tetri_policy.specs.Start.{fit_left, if_worth, reserved, start_at, start_now}
use Rattle.tetri_policy.specs.declared.policy.Policy.{Policy}
use Rattle.tetri_policy.specs.declared.policy.Policy.TheVariants.{FirstCome, Backfill}
use Rattle.tetri_policy.proofs.LeftLemmas.{Differ, left_ascends, left_differ, left_leaf, left_within}
use Rattle.tetri_policy.proofs.StepLemmas.{IsOther, IsRun, run_less, run_nothing, run_step}

module _ (s : Space) (sound : IsSound s) (sets : All IsStrictlyIncreasing s.sets) where
  module _ (held : List Placement) (b : Bid) (pending : Contains s.bids b) where
    abbrev Fits : List Placement → Type 0
    Fits ps = AreFit s b.job (is_held held) Differ [] (leaves b.expr) ps

    no_fit : Fits []
    no_fit = record {
      right = All-nil (IsRight s b.job (is_held held));
      within = All-nil (λ p. Contains (leaves b.expr) p.leaf);
      beside = All-nil (λ p. All (λ n. is_held [] p.leaf n ≡ false) p.nodes);
      pairs = λ i j d lt within. absurd (omega (arith, within));
    }

    worthy : (worth : ℕ) (ps : List Placement) → Fits ps → Fits (if_worth worth ps)
    worthy worth ps fits = by_test (nat_le 1 worth)
      where
        by_test : (t : Bool) → Fits (cond t ps [])
        by_test true = fits
        by_test false = no_fit

    left_fit : (slot : ℕ) (o : Option Tree) → pruned slot (slot + 1) b.expr ≡ o → Fits (fit_left s b.job (is_held held) o)
    left_fit slot None e = no_fit
    left_fit slot (Some t) e =
        let plain = EachLeaf-from (IsPlain s) t
        (λ l at. record {
          good = left_leaf s sound b pending slot (slot + 1) t e l at;
          ascending = left_ascends s sound b pending slot (slot + 1) t e sets l at;
        }) in
        let fits = are_fit s b.job (is_held held) Differ t plain (left_differ s sound b pending slot (slot + 1) t e) [] in
        worthy (fit_worth b.job t (fit_beside s b.job (is_held held) [] t)) (fit_beside s b.job (is_held held) [] t)
        (record {
          right = fits.right;
          within =
              All-weaker (λ p. Contains (leaves t) p.leaf) (λ p. Contains (leaves b.expr) p.leaf)
              (λ p at. left_within s sound b pending slot (slot + 1) t e p.leaf at) (fit_beside s b.job (is_held held) [] t) fits.within;
          beside = fits.beside;
          pairs = fits.pairs;
        })

    start_fit : Fits (start_now s held b)
    start_fit = left_fit s.now (pruned s.now (s.now + 1) b.expr) refl

  abbrev DifferInJob : Bid → Bid → Type 0
  DifferInJob a b = a.job ≢ b.job

  others : (b : Bid) (bs : List Bid) → AllPairs DifferInJob (b ∷ bs) → All (IsOther b.job) bs
  others b bs differ k d lt same = differ 0 (suc k) d (omega arith) (omega (arith, lt)) (cc)

  rest : (b : Bid) (bs : List Bid) → AllPairs DifferInJob (b ∷ bs) → AllPairs DifferInJob bs
  rest b bs differ i j d lt within = differ (suc i) (suc j) d (omega (arith, lt)) (omega (arith, within))

  step : (held : List Placement) (b : Bid) (bs : List Bid) → All (Contains s.bids) (b ∷ bs) → AllPairs DifferInJob (b ∷ bs) → (a : List Grant) →
      IsRun s (held ++ start_now s held b) bs a → IsRun s held (b ∷ bs) (grants_of b.job (start_now s held b) ++ a)
  step held b bs pending differ a =
      let here = All-head (Contains s.bids) b bs pending in
      run_step s sound held b here (start_now s held b) (start_fit held b here) bs (others b bs differ) a

  by_any : (held : List Placement) (bs : List Bid) (ps : List Placement) (x y : List Grant) → IsRun s held bs x → IsRun s held bs y → IsRun s held bs (if_any ps x y)
  by_any held bs [] x y p q = p
  by_any held bs (r ∷ ps) x y p q = q

  each_run : (bs : List Bid) → All (Contains s.bids) bs → AllPairs DifferInJob bs → (held : List Placement) → IsRun s held bs (each_start s held bs)
  each_run [] pending differ held = run_nothing s held []
  each_run (b ∷ bs) pending differ held =
      step held b bs pending differ (each_start s (held ++ start_now s held b) bs)
      (each_run bs (All-tail (Contains s.bids) b bs pending) (rest b bs differ) (held ++ start_now s held b))

  first_run : (bs : List Bid) → All (Contains s.bids) bs → AllPairs DifferInJob bs → (held : List Placement) → IsRun s held bs (first_come s held bs)
  first_run [] pending differ held = run_nothing s held []
  first_run (b ∷ bs) pending differ held =
      let later = first_come s (held ++ start_now s held b) bs in
      by_any held (b ∷ bs) (start_now s held b) [] (grants_of b.job (start_now s held b) ++ later) (run_nothing s held (b ∷ bs))
      (step held b bs pending differ later (first_run bs (All-tail (Contains s.bids) b bs pending) (rest b bs differ) (held ++ start_now s held b)))

  backfill_run : (bs : List Bid) → All (Contains s.bids) bs → AllPairs DifferInJob bs → (held : List Placement) → IsRun s held bs (backfilled s held bs)
  backfill_run [] pending differ held = run_nothing s held []
  backfill_run (b ∷ bs) pending differ held =
      let more = reserved s held b in
      let beside = each_start s (held ++ more) bs in
      let later = backfilled s (held ++ start_now s held b) bs in
      by_any held (b ∷ bs) (start_now s held b) beside (grants_of b.job (start_now s held b) ++ later)
      (run_less s held more b bs beside (each_run bs (All-tail (Contains s.bids) b bs pending) (rest b bs differ) (held ++ more)))
      (step held b bs pending differ later (backfill_run bs (All-tail (Contains s.bids) b bs pending) (rest b bs differ) (held ++ start_now s held b)))

  differ_all : AllPairs DifferInJob s.bids
  differ_all i j d lt within same = omega (arith, sound.ascending i j d lt within, same)

  pub starts_lawful : (p : Policy) → IsLawful s (starts_by p s)
  starts_lawful FirstCome = let run = first_run s.bids (All-contains_itself s.bids) differ_all [] in record { grants = run.grants; apart = run.apart }
  starts_lawful Backfill = let run = backfill_run s.bids (All-contains_itself s.bids) differ_all [] in record { grants = run.grants; apart = run.apart }
