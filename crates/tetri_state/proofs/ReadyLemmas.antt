-- A launch that is made ready.
use Rattle.std.proofs.Common.{◌≡◌, ℕ, ◌+◌, ◌<◌, ◌==◌, ◌&&◌, Bool, true, false, cond, List, [], ◌∷◌, ◌++◌, length, get_or, map, filter, not, Contains, refl, sym, ap, ◌∙◌, subst, arith, suc}
use Rattle.std.proofs.lemmas.Bool.Decides.{nat_tests}
use Rattle.tetri_base.specs.Lists.{Each, has}
use Rattle.tetri_base.proofs.ListLaws.{Each-from, Each-map, any_from, has-filter, test_from_eq}
use Rattle.tetri_trace.specs.Scenario.{Scenario}
use Rattle.tetri_trace.specs.Sound.{IsSound}
use Rattle.std.proofs.lemmas.List.Elements.{Contains-get_or}
use Rattle.std.proofs.lemmas.List.Folds.{list_any_at}
use Rattle.tetri_strl.specs.declared.grants.Grant.{Grant}
use Rattle.tetri_space.specs.Lawful.{IsLawful}
use Rattle.tetri_space.specs.Space.{Bid, Space}
use Rattle.tetri_state.specs.declared.launches.Launch.{Launch}
use Rattle.tetri_state.specs.After.{after, starting_pieces}
use Rattle.tetri_state.specs.Launch.{launched_in, start_of, start_or_0, starts_now}
use Rattle.tetri_space.specs.Trimmed.{IsThriftyForAll}
use Rattle.tetri_state.specs.Planning.{bid_of, instance_of}
use Rattle.tetri_state.specs.Reached.{IsPlan, IsReached, begun}
use Rattle.tetri_state.specs.Readied.{IsFoundFor, IsLaunchOf, Readied, launched_from}
use Rattle.tetri_state.specs.Snapshot.{Snapshot}
use Rattle.tetri_state.proofs.Ascending.{each_from}
use Rattle.tetri_state.proofs.BeginLemmas.{same_state}
use Rattle.tetri_state.proofs.LaunchLemmas.{grant_leaf, starts_here}
use Rattle.tetri_state.proofs.StandLemmas.{Stands}

module _ {X : Type 0} (p q : X → Bool) where
  -- tests that agree on the elements keep the same
  pub filter_on : (xs : List X) → Each (λ x. p x ≡ q x) xs → filter p xs ≡ filter q xs
  filter_on [] same = refl
  filter_on (x ∷ xs) same = ap (λ b. cond b (x ∷ filter p xs) (filter p xs)) same.0 ∙ ap (λ ys. cond (q x) (x ∷ ys) ys) (filter_on xs same.1)

each_itself : (f : ℕ → Bool) (ns : List ℕ) → Each (λ n. has (filter f ns) n ≡ f n) ns
each_itself f ns =
    Each-from (λ n. has (filter f ns) n ≡ f n) ns
    (λ n at. has-filter f ns n ∙ ap (λ b. b && f n) (any_from (λ m. m == n) ns n at (test_from_eq n n refl)))

-- a part of a list is what it has of the list
pub part_is : (f : ℕ → Bool) (ns : List ℕ) → filter f ns ≡ filter (has (filter f ns)) ns
part_is f ns = sym (filter_on (has (filter f ns)) f ns (each_itself f ns))

pub rest_is : (f : ℕ → Bool) (ns : List ℕ) → filter (λ n. not (has (filter f ns) n)) ns ≡ filter (λ n. not (f n)) ns
rest_is f ns =
    filter_on (λ n. not (has (filter f ns) n)) (λ n. not (f n)) ns
    (Each-map (λ n. has (filter f ns) n ≡ f n) (λ n. not (has (filter f ns) n) ≡ not (f n)) (λ n same. ap not same) ns (each_itself f ns))

-- the launched jobs are the pending ones that have a grant which starts now
pub launched_is : (t : Scenario) (s : Snapshot) (a : List Grant) → launched_in (instance_of t s) a ≡ filter (starts_now (instance_of t s) a) s.pending
launched_is t s a = along s.pending
  where
    along : (ns : List ℕ) → map (λ (b : Bid). b.job) (filter (λ b. starts_now (instance_of t s) a b.job) (map (bid_of t s.now) ns)) ≡ filter (starts_now (instance_of t s) a) ns
    along [] = refl
    along (n ∷ ns) = by_test (starts_now (instance_of t s) a n) (along ns)
      where
        by_test : (b : Bool) → map (λ (c : Bid). c.job) (filter (λ c. starts_now (instance_of t s) a c.job) (map (bid_of t s.now) ns)) ≡ filter (starts_now (instance_of t s) a) ns →
            map (λ (c : Bid). c.job) (cond b (bid_of t s.now n ∷ filter (λ c. starts_now (instance_of t s) a c.job) (map (bid_of t s.now) ns)) (filter (λ c. starts_now (instance_of t s) a c.job) (map (bid_of t s.now) ns)))
            ≡ cond b (n ∷ filter (starts_now (instance_of t s) a) ns) (filter (starts_now (instance_of t s) a) ns)
        by_test true rest = ap (λ ms. n ∷ ms) rest
        by_test false rest = rest

-- what a launch leaves is the state after the plan
pub launch_is_after : (t : Scenario) (s : Snapshot) (a : List Grant) (r : Readied) → IsLaunchOf t s a r → launched_from s r ≡ after t s a
launch_is_after t s a r launch =
    let f = starts_now (instance_of t s) a in
    let jobs : r.jobs ≡ filter f s.pending = launch.jobs ∙ launched_is t s a in
    let pending : filter (λ j. not (has r.jobs j)) s.pending ≡ filter (λ j. not (f j)) s.pending =
    ap (λ js. filter (λ j. not (has js j)) s.pending) jobs ∙ rest_is f s.pending in
    same_state refl launch.grants refl pending (ap (λ ps. s.pieces ++ ps) launch.pieces) (ap (λ js. s.launched ++ js) launch.jobs) refl refl refl

-- the jobs that stay and those that leave are all
pub parts_count : (test : ℕ → Bool) (ns : List ℕ) → length (filter (λ n. not (test n)) ns) + length (filter test ns) ≡ length ns
parts_count test [] = omega arith
parts_count test (n ∷ ns) = by_test (test n) (parts_count test ns)
  where
    by_test : (b : Bool) → length (filter (λ m. not (test m)) ns) + length (filter test ns) ≡ length ns →
        length (cond (not b) (n ∷ filter (λ m. not (test m)) ns) (filter (λ m. not (test m)) ns)) + length (cond b (n ∷ filter test ns) (filter test ns)) ≡ suc (length ns)
    by_test true rest = omega (arith, rest)
    by_test false rest = omega (arith, rest)

module _ (t : Scenario) (s : Snapshot) (sound : IsSound t) (stands : Stands t (s.now + 1) s) (early : s.now < 10000) (a : List Grant) (plan : IsPlan t s a) where
  abbrev i : Space
  i = instance_of t s

  -- a grant starts now exactly where its job is launched
  starts_alike : Each (λ g. (start_of i g == i.now) ≡ starts_now i a g.job) a
  starts_alike = each_from (λ g. (start_of i g == i.now) ≡ starts_now i a g.job) a (λ k d lt. alike (get_or a k d) (Contains-get_or a k d lt))
    where
      test_true : (m n : ℕ) → m ≡ n → (m == n) ≡ true
      test_true m n e = grind (arith, nat_tests)

      alike : (g : Grant) → Contains a g → (start_of i g == i.now) ≡ starts_now i a g.job
      alike g at = by_job (starts_now i a g.job) refl
        where
          held : (b : Bool) → (start_of i g == i.now) ≡ b → starts_now i a g.job ≡ false → b ≡ false
          held true here none =
              let found : starts_now i a g.job ≡ true =
              list_any_at (λ h. h.job == g.job && start_of i h == i.now) a at.0 g at.1
              (subst (λ (h : Grant). (h.job == g.job && start_of i h == i.now) ≡ true) (sym at.2)
              (ap (λ b. b && start_of i g == i.now) (test_true g.job g.job refl) ∙ here)) in
              let e : true ≡ false = sym found ∙ none in
              absurd cc
          held false here none = refl

          by_job : (b : Bool) → starts_now i a g.job ≡ b → (start_of i g == i.now) ≡ b
          by_job true launched =
              let l = grant_leaf t s sound stands early a plan g at in
              test_true (start_of i g) i.now (ap start_or_0 l.1 ∙ starts_here t s sound stands early a plan g l.0 at launched l.1)
          by_job false none = held (start_of i g == i.now) refl none

  pub pieces_alike : filter (λ g. start_of i g == i.now) a ≡ filter (λ g. starts_now i a g.job) a
  pieces_alike = filter_on (λ g. start_of i g == i.now) (λ g. starts_now i a g.job) a starts_alike

plan_of : (t : Scenario) (s : Snapshot) (a : List Grant) (i : Space) → i ≡ instance_of t s → IsLawful i a → IsThriftyForAll i a → IsPlan t s a
plan_of t s a i is lawful thrifty = record {
  lawful = subst (λ j. IsLawful j a) is lawful;
  thrifty = subst (λ j. IsThriftyForAll j a) is thrifty;
}

-- a launch that was found for the instance of the state
pub found_for : (t : Scenario) (s : Snapshot) (a : List Grant) (i : Space) (l : Launch) → IsSound t → IsReached t begun s → i ≡ instance_of t s →
    IsLawful i a → IsThriftyForAll i a → l.jobs.items ≡ launched_in i a → l.pieces.items ≡ starting_pieces t i a → IsFoundFor t s a l
found_for t s a i l sound reached is lawful thrifty jobs pieces = record {
  sound = sound;
  reached = reached;
  plan = plan_of t s a i is lawful thrifty;
  jobs = jobs ∙ ap (λ (j : Space). launched_in j a) is;
  pieces = pieces ∙ ap (λ (j : Space). starting_pieces t j a) is;
}
