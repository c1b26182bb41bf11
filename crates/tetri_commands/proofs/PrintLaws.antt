-- What is granted in an instance of a trace may be printed.
use Rattle.std.proofs.Common.{◌≡◌, ℕ, ◌<◌, Bool, true, false, cond, List, [], ◌∷◌, length, map, get_or, All, Contains, ap, refl, sym, subst, arith}
use Rattle.std.specs.Prelude.{filter, Option, Some, None, Result, Ok, Err, IfOk}
use Rattle.std.specs.Option.{IsSomeAnd}
use Rattle.std.proofs.lemmas.List.Elements.{All-nil, All-cons, All-filter, All-head, All-tail, All-append, All-weaker, All-contains}
use Rattle.tetri_strl.specs.declared.expr.Leaf.{Leaf}
use Rattle.tetri_strl.specs.declared.grants.Grant.{Grant}
use Rattle.tetri_strl.specs.Tree.{Tree, one, join, scale, barrier, Trees, none, more, leaves, leaves_of}
use Rattle.tetri_strl.specs.WellMade.{IsGoodLeaf, AreSound}
use Rattle.tetri_strl.specs.WellMade as well_made
use Rattle.tetri_space.specs.Space.{Bid, Space, set_of, leaf_in, space}
use Rattle.tetri_space.specs.Lawful.{IsLawful, MayBeGranted, IsLawfulGrant}
use Rattle.tetri_space.specs.Sound.{HasKnownSet, IsSoundBid, IsSound}
use Rattle.tetri_space.specs.declared.instance.Instance.{Instance}
use Rattle.tetri_space.proofs.InstanceLaws.{leaf_in-within, IsOffered}
use Rattle.tetri_state.specs.Planning.{instance_of}
use Rattle.tetri_state.specs.Snapshot.{Snapshot}
use Rattle.tetri_trace.specs.Scenario.{Scenario}
use Rattle.tetri_report.specs.Printable.{IsPrintableGrant}
use Rattle.tetri_split.specs.Parts.{ArePartsOf, first_job, jobs_in}
use Rattle.tetri_split.specs.Restricted.{restricted}
use Rattle.tetri_commands.specs.Printing.{IsInstanceOf}

mutual
  -- the leaves of a sound expression are within their limits
  pub leaves_good : (t : Tree) → well_made.IsSound t → All IsGoodLeaf (leaves t)
  leaves_good (one l) h = All-cons IsGoodLeaf l [] h.0 (All-nil IsGoodLeaf)
  leaves_good (join op ts) h = leaves_good_of ts h.1
  leaves_good (scale t by) h = leaves_good t h.0
  leaves_good (barrier t v) h = leaves_good t h.0

  leaves_good_of : (ts : Trees) → AreSound ts → All IsGoodLeaf (leaves_of ts)
  leaves_good_of none h = All-nil IsGoodLeaf
  leaves_good_of (more t ts) h = All-append IsGoodLeaf (leaves t) (leaves_of ts) (leaves_good t h.0) (leaves_good_of ts h.1)

there_is : {X : Type 0} (o : Option X) (P : X → Type 0) → IsSomeAnd o P → (x : X) × (o ≡ Some x) × P x
there_is None P h = absurd h
there_is (Some x) P h = (x, refl, h)

-- The leaf that a lawful grant names is a pending job's, and keeps its limits.
pub record IsOfGoodLeaf (s : Space) (g : Grant) (b : Bid) (l : Leaf) : Type 0 where
  pub offered : IsOffered s.bids g.job g.leaf b l
  pub good : IsGoodLeaf l
  pub set_known : HasKnownSet s l
  pub may : MayBeGranted s l g.nodes

pub leaf_of_grant : (s : Space) → IsSound s → (g : Grant) → IsLawfulGrant s g → (b : Bid) × (l : Leaf) × IsOfGoodLeaf s g b l
leaf_of_grant s sound g lawful =
    let found = there_is (leaf_in s.bids g.job g.leaf) (λ l. MayBeGranted s l g.nodes) lawful in
    let offer = leaf_in-within s.bids g.job g.leaf found.0 found.1 in
    let bid : IsSoundBid s offer.0 = All-contains (IsSoundBid s) s.bids offer.0 sound.sound_bids offer.1.pending in (
      offer.0,
      found.0,
      record {
        offered = offer.1;
        good = All-contains IsGoodLeaf (leaves offer.0.expr) found.0 (leaves_good offer.0.expr bid.well_made.sound) offer.1.below;
        set_known = All-contains (HasKnownSet s) (leaves offer.0.expr) found.0 bid.known_sets offer.1.below;
        may = found.2;
      },
    )

pub grant_printable : (t : Scenario) (i : Space) → IsInstanceOf t i → (g : Grant) → IsLawfulGrant i g → IsPrintableGrant t g
grant_printable t i is g lawful =
    let of = leaf_of_grant i is.sound g lawful in
    let right = of.2.may.nodes_right in
    let job = All-contains (λ (b : Bid). b.job < length t.submissions) i.bids of.0 is.jobs of.2.offered.pending in
    record {
      job = omega (arith, job, of.2.offered.of_job);
      some = right.some;
      few = omega (arith, right.few, of.2.good.few_nodes);
      nodes = All-weaker (Contains (set_of i of.1)) (λ n. n < length t.nodes)
          (λ n at. let there = All-contains (λ m. m < i.nodes) (set_of i of.1) n of.2.set_known.there at in omega (arith, there, is.nodes)) g.nodes right.in_set;
    }

pub kept_within : (n : ℕ) (keeps : Bid → Bool) (bs : List Bid) → All (λ b. b.job < n) bs → All (λ job. job < n) (map (λ b. b.job) (filter keeps bs))
kept_within n keeps [] all = All-nil (λ job. job < n)
kept_within n keeps (b ∷ bs) all =
    let rest = kept_within n keeps bs (All-tail (λ c. c.job < n) b bs all) in
    elim (keeps b) as (λ t. All (λ job. job < n) (map (λ c. c.job) (cond t (b ∷ filter keeps bs) (filter keeps bs)))) [
      | true ↦ All-cons (λ job. job < n) b.job (map (λ c. c.job) (filter keeps bs)) (All-head (λ c. c.job < n) b bs all) rest
      | false ↦ rest
    ]

-- an instance with some of its jobs alone is of the same trace
pub restricted_instance : (t : Scenario) (i : Space) (keeps : ℕ → Bool) → IsInstanceOf t i → IsSound (restricted keeps i) → IsInstanceOf t (restricted keeps i)
restricted_instance t i keeps is sound = record {
  sound = sound;
  nodes = is.nodes;
  jobs = All-filter (λ (b : Bid). keeps b.job) (λ b. b.job < length t.submissions) i.bids is.jobs;
}

-- an instance that is one of this trace's, under another name
pub same_instance : (t : Scenario) (i own : Space) (keeps : ℕ → Bool) → IsInstanceOf t i → own ≡ restricted keeps i → IsSound own → IsInstanceOf t own
same_instance t i own keeps is e sound = subst (IsInstanceOf t) (sym e) (restricted_instance t i keeps is (subst IsSound e sound))

jobs_below : (n : ℕ) (bs : List Bid) → All (λ b. b.job < n) bs → All (λ job. job < n) (map (λ b. b.job) bs)
jobs_below n [] all = All-nil (λ job. job < n)
jobs_below n (b ∷ bs) all = All-cons (λ job. job < n) b.job (map (λ c. c.job) bs) (All-head (λ c. c.job < n) b bs all) (jobs_below n bs (All-tail (λ c. c.job < n) b bs all))

-- the least job of a part is a job of the trace
pub least_job_known : (t : Scenario) (i : Space) (parts : List (List ℕ)) (k : ℕ) → IsInstanceOf t i → ArePartsOf i parts → k < length parts →
    first_job (get_or parts k []) < length t.submissions
least_job_known t i parts k is are within =
    All-contains (λ job. job < length t.submissions) (jobs_in i.bids) (first_job (get_or parts k [])) (jobs_below (length t.submissions) i.bids is.jobs)
    (are.pending k [] within 0 0 (are.some_jobs k [] within))

-- all grants of a lawful allotment may be printed
pub grants_printable : (t : Scenario) (i : Space) (a : List Grant) → IsInstanceOf t i → IsLawful i a → All (IsPrintableGrant t) a
grants_printable t i a is lawful = All-weaker (IsLawfulGrant i) (IsPrintableGrant t) (grant_printable t i is) a lawful.grants

-- what a slot that has begun plans for is an instance of the trace
pub instance_of_trace : (t : Scenario) (s : Snapshot) (i : Space) → All (λ (b : Bid). b.job < length t.submissions) (instance_of t s).bids → i ≡ instance_of t s → IsSound i → IsInstanceOf t i
instance_of_trace t s i known is sound = record {
  sound = sound;
  nodes = ap (λ (j : Space). j.nodes) is;
  jobs = subst (λ (j : Space). All (λ (b : Bid). b.job < length t.submissions) j.bids) (sym is) known;
}

pub instances_of_trace : {E : Type 0} (t : Scenario) (s : Snapshot) (r : Result Instance E) → All (λ (b : Bid). b.job < length t.submissions) (instance_of t s).bids →
    IfOk r (λ i. space i ≡ instance_of t s) → IfOk r (λ i. IsSound (space i)) → IfOk r (λ i. IsInstanceOf t (space i))
instances_of_trace t s (Ok i) known is sound = instance_of_trace t s (space i) known is sound
instances_of_trace t s (Err e) known is sound = tt
