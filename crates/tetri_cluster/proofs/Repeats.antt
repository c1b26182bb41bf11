-- The walk that looks for the first name that came before.
use Rattle.std.proofs.Common.{◌≡◌, ℕ, ◌+◌, ◌<◌, Bool, true, false, not, if◌then◌else◌, List, [], ◌∷◌, ◌++◌, take, drop, length, get_or, Option, Some, sym, ap, ◌∙◌, add-one, arith, drop-cons, length-take-le}
use Rattle.std.proofs.lemmas.List.{map-append, take_more, length-map}
use Rattle.std.proofs.lemmas.Bool.{not-false, not-true}
use Rattle.tetri_cluster.specs.Cluster.{names_of}
use Rattle.tetri_cluster.specs.Names.{is_among, repeated_after}
use Rattle.tetri_cluster.specs.declared.cluster.NodeText.{NodeText}

-- the names of one node more
names_further : (nodes : List NodeText) (place : ℕ) (d : NodeText) → place < length nodes → names_of (take (place + 1) nodes) ≡ names_of (take place nodes) ++ (get_or nodes place d).name ∷ []
names_further nodes place d h = ap names_of (take_more nodes place d h) ∙ map-append _ _ _

-- one turn of the walk
turn : (nodes : List NodeText) (place : ℕ) (d : NodeText) → place < length nodes → repeated_after (names_of (take place nodes)) (names_of (drop place nodes)) ≡ (if is_among (get_or nodes place d).name (names_of (take place nodes)) then Some place else repeated_after (names_of (take (place + 1) nodes)) (names_of (drop (place + 1) nodes)))
turn nodes place d h =
    let earlier = names_of (take place nodes) in
    let name = (get_or nodes place d).name in
    let count : length earlier ≡ place = length-map (take place nodes) (λ n. n.name) ∙ length-take-le place nodes (omega arith) in
    let next : drop place nodes ≡ get_or nodes place d ∷ drop (place + 1) nodes = rw add-one (drop-cons nodes place d h) in
    ap (λ l. repeated_after earlier (names_of l)) next
    ∙ ap (λ n. if is_among name earlier then Some n else repeated_after (earlier ++ name ∷ []) (names_of (drop (place + 1) nodes))) count
    ∙ ap (λ l. if is_among name earlier then Some place else repeated_after l (names_of (drop (place + 1) nodes))) (sym (names_further nodes place d h))

-- A name is tried on the table of the names before its place: the facts of one turn.
pub record Tries (nodes : List NodeText) (place : ℕ) (d : NodeText) (name : List ℕ) (names : List (List ℕ)) (fresh : Bool) : Type 0 where
  pub within : place < length nodes
  pub node : d ≡ get_or nodes place d
  pub name_is : name ≡ d.name
  pub names_are : names ≡ names_of (take place nodes)
  pub test : fresh ≡ not (is_among name names)

module _ (nodes : List NodeText) (place : ℕ) (d : NodeText) (name : List ℕ) (names : List (List ℕ)) (fresh : Bool) (tries : Tries nodes place d name names fresh) where
  abbrev earlier : List (List ℕ)
  earlier = names_of (take place nodes)

  abbrev further : Option ℕ
  further = repeated_after (names_of (take (place + 1) nodes)) (names_of (drop (place + 1) nodes))

  name_at : name ≡ (get_or nodes place d).name
  name_at = tries.name_is ∙ ap (λ m. m.name) tries.node

  test_at : fresh ≡ not (is_among (get_or nodes place d).name earlier)
  test_at = tries.test ∙ ap (λ n. not (is_among n names)) name_at ∙ ap (λ l. not (is_among (get_or nodes place d).name l)) tries.names_are

  pub taken_at : fresh ≡ false → repeated_after earlier (names_of (drop place nodes)) ≡ Some place
  taken_at e = turn nodes place d tries.within ∙ ap (λ b. if b then Some place else further) (not-false _ (sym test_at ∙ e))

  pub fresh_at : fresh ≡ true → repeated_after earlier (names_of (drop place nodes)) ≡ further
  fresh_at e = turn nodes place d tries.within ∙ ap (λ b. if b then Some place else further) (not-true _ (sym test_at ∙ e))

  pub names_at : (new : List (List ℕ)) → new ≡ (if fresh then names ++ name ∷ [] else names) → fresh ≡ true → new ≡ names_of (take (place + 1) nodes)
  names_at new added e =
      added
      ∙ ap (λ b. if b then names ++ name ∷ [] else names) e
      ∙ ap (λ l. l ++ name ∷ []) tries.names_are
      ∙ ap (λ n. earlier ++ n ∷ []) name_at
      ∙ sym (names_further nodes place d tries.within)
