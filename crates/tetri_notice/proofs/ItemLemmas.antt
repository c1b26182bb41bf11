-- A list that is read item by item, where an item may be none.
use Rattle.std.proofs.Common.{◌≡◌, ℕ, true, All, ◌+◌, ◌<◌, ◌≤◌, List, [], ◌∷◌, ◌++◌, drop, length, get_or, Option, Some, None, option_and_then, ok_or, Err, refl, sym, ap, ◌∙◌, append_assoc}
use Rattle.std.specs.Prelude.{option_map}
use Rattle.std.proofs.lemmas.List.{append-nil, drop_more, drop_all, map-append}
use Rattle.std.proofs.lemmas.List.Elements.{All-append, All-cons, All-nil}
use Rattle.serde_json.specs.Data.{Data, Items, no_items, item}
use Rattle.serde_json.specs.View.{view, items_view}
use Rattle.serde_json.specs.declared.value.Value.{Value}
use Rattle.tetri_cluster.specs.Cluster.{names_of}
use Rattle.tetri_cluster.specs.Names.{is_name}
use Rattle.tetri_cluster.specs.declared.cluster.NodeText.{NodeText}
use Rattle.tetri_notice.specs.Answers.{Stops}
use Rattle.tetri_notice.specs.declared.fault.Stop.{Stop}
use Rattle.tetri_notice.specs.declared.fault.Stop.TheVariants as stops
use Rattle.tetri_notice.specs.declared.fault.TraceWhy.{TraceWhy}

-- an item and then the others
abbrev pub ReadsOn : {A : Type 0} → (Items → Option (List A)) → (Data → Option A) → Type 0
ReadsOn all one = (d : Data) (ds : Items) → all (item d ds) ≡ option_and_then (λ x. option_map (λ xs. x ∷ xs) (all ds)) (one d)

-- the same, where the list is made by steps
pub reads_on : {A : Type 0} (p : Option A) (o : Option (List A)) → option_and_then (λ x. option_and_then (λ xs. Some (x ∷ xs)) o) p ≡ option_and_then (λ x. option_map (λ xs. x ∷ xs) o) p
reads_on None o = refl
reads_on (Some x) None = refl
reads_on (Some x) (Some xs) = refl

from_none : {A : Type 0} (o : Option (List A)) → o ≡ option_map (λ xs. [] ++ xs) o
from_none None = refl
from_none (Some xs) = refl

-- nothing has been read
pub read_none : {A : Type 0} (o : Option (List A)) (done : List A) → done ≡ [] → o ≡ option_map (λ xs. done ++ xs) o
read_none o done e = from_none o ∙ ap (λ ys. option_map (λ xs. ys ++ xs) o) (sym e)

one_more : {A : Type 0} (done : List A) (x : A) (o : Option (List A)) → option_map (λ xs. done ++ xs) (option_map (λ xs. x ∷ xs) o) ≡ option_map (λ xs. (done ++ x ∷ []) ++ xs) o
one_more done x None = refl
one_more done x (Some xs) = ap Some (sym (append_assoc done (x ∷ []) xs))

none_from_err : {A E : Type 0} (o : Option A) (e other : E) → ok_or o e ≡ Err other → (o ≡ None) × (e ≡ other)
none_from_err None e other h = (refl, cc)
none_from_err (Some x) e other h = absurd (cc)

-- what is ahead is an item and the others
ahead : {A : Type 0} (all : Items → Option (List A)) (one : Data → Option A) (vs : List Value) (i : ℕ) (v : Value) → ReadsOn all one → i < length vs → v ≡ get_or vs i v
    → all (items_view (drop i vs)) ≡ option_and_then (λ x. option_map (λ xs. x ∷ xs) (all (items_view (drop (i + 1) vs)))) (one (view v))
ahead all one vs i v on lt is =
    let e : drop i vs ≡ v ∷ drop (i + 1) vs = drop_more vs i v lt ∙ ap (λ w. w ∷ drop (i + 1) vs) (sym is) in
    ap (λ ws. all (items_view ws)) e ∙ on (view v) (items_view (drop (i + 1) vs))

-- an item has been read
pub read_more : {A : Type 0} (all : Items → Option (List A)) (one : Data → Option A) (whole : Option (List A)) (done now : List A) (vs : List Value) (i : ℕ) (v : Value) (x : A)
    → ReadsOn all one → i < length vs → v ≡ get_or vs i v → one (view v) ≡ Some x → now ≡ done ++ x ∷ []
    → whole ≡ option_map (λ xs. done ++ xs) (all (items_view (drop i vs))) → whole ≡ option_map (λ xs. now ++ xs) (all (items_view (drop (i + 1) vs)))
read_more {A} all one whole done now vs i v x on lt is e n h =
    let rest : Option (List A) = all (items_view (drop (i + 1) vs)) in
    h ∙ ap (λ o. option_map (λ xs. done ++ xs) o) (ahead all one vs i v on lt is ∙ ap (λ o. option_and_then (λ y. option_map (λ ys. y ∷ ys) rest) o) e)
    ∙ one_more done x rest ∙ ap (λ ys. option_map (λ xs. ys ++ xs) rest) (sym n)

-- an item is none
pub read_stops : {A : Type 0} (all : Items → Option (List A)) (one : Data → Option A) (whole : Option (List A)) (done : List A) (vs : List Value) (i : ℕ) (v : Value) (why : TraceWhy) (stop : Stop)
    → ReadsOn all one → i < length vs → v ≡ get_or vs i v → Stops stop (ok_or (one (view v)) why)
    → whole ≡ option_map (λ xs. done ++ xs) (all (items_view (drop i vs))) → Stops stop (ok_or whole why)
read_stops all one whole done vs i v why stops.NoMemory on lt is s h = tt
read_stops {A} all one whole done vs i v why (stops.Because other) on lt is s h =
    let n : (one (view v) ≡ None) × (why ≡ other) = none_from_err (one (view v)) why other s in
    let rest : Option (List A) = all (items_view (drop (i + 1) vs)) in
    let w : whole ≡ None = h ∙ ap (λ o. option_map (λ xs. done ++ xs) o) (ahead all one vs i v on lt is ∙ ap (λ o. option_and_then (λ y. option_map (λ ys. y ∷ ys) rest) o) n.0) in
    ap (λ o. ok_or o why) w ∙ ap (λ y. Err y) n.1

-- all have been read
pub read_all : {A : Type 0} (all : Items → Option (List A)) (whole : Option (List A)) (done : List A) (vs : List Value) (i : ℕ) → all no_items ≡ Some [] → length vs ≤ i
    → whole ≡ option_map (λ xs. done ++ xs) (all (items_view (drop i vs))) → whole ≡ Some done
read_all all whole done vs i none le h =
    h ∙ ap (λ o. option_map (λ xs. done ++ xs) o) (ap (λ ws. all (items_view ws)) (drop_all i vs le) ∙ none) ∙ ap Some (append-nil done)

-- a node that has a name is put last
pub named_more : (nodes : List NodeText) (n : NodeText) → All (λ name. is_name name ≡ true) (names_of nodes) → is_name n.name ≡ true → All (λ name. is_name name ≡ true) (names_of (nodes ++ n ∷ []))
named_more nodes n all one = rw map-append (All-append (λ name. is_name name ≡ true) (names_of nodes) (n.name ∷ []) all (All-cons (λ name. is_name name ≡ true) n.name [] one (All-nil (λ name. is_name name ≡ true))))
