-- Up to which slot each event shades.
use Rattle.std.proofs.Common.{◌≡◌, ◌≢◌, ℕ, ◌+◌, ◌-◌, ◌<◌, ◌≤◌, ◌==◌, Bool, true, false, cond, List, [], ◌∷◌, ◌++◌, append_assoc, zero, suc, length, get_or, drop, map, All, refl, sym, ap, ◌∙◌, subst, arith, replicate, set, length-set, get_or-set_same, get_or-set_other}
use Rattle.std.specs.Prelude.{Some, None}
use Rattle.std.specs.List.{range_with_len}
use Rattle.std.proofs.lemmas.Bool.Decides.{nat_tests}
use Rattle.std.proofs.lemmas.List.{drop_more, get_or-replicate, length-replicate, same_lists}
use Rattle.std.proofs.lemmas.List.FromFn.{get_or-map-range_with_len, length-map-range_with_len}
use Rattle.tetri_chart.specs.Shades.{end_of, ends_of, is_node, next_change, node_of, outage_text, outages_text}
use Rattle.tetri_svg.specs.Layout.{Layout}
use Rattle.tetri_state.specs.Begin.{IsOfNodeBelow}
use Rattle.tetri_trace.specs.Scenario.{Scenario}
use Rattle.tetri_trace.specs.Sound.{IsSound, NamesKnown}
use Rattle.tetri_trace.specs.declared.trace.Event.{Event}
use Rattle.tetri_trace.specs.declared.trace.Happening.{Happening}
use Rattle.tetri_trace.specs.declared.trace.Happening.TheVariants.{Arrive, Cancel, Drain, Undrain, Fail}

-- an event of a node is of one of the nodes
node_below : (nodes : ℕ) (w : Happening) (node : ℕ) → IsOfNodeBelow nodes w → node_of w ≡ Some node → node < nodes
node_below nodes (Arrive job) node below e = absurd cc
node_below nodes (Cancel job) node below e = absurd cc
node_below nodes (Drain other) node below e = let same : other ≡ node = cc in subst (λ n. n < nodes) same below
node_below nodes (Undrain other) node below e = let same : other ≡ node = cc in subst (λ n. n < nodes) same below
node_below nodes (Fail other) node below e = let same : other ≡ node = cc in subst (λ n. n < nodes) same below

-- the event before those that are left
event_before : (es : List Event) (left : ℕ) (d : Event) → 0 < left → left ≤ length es → drop (left - 1) es ≡ get_or es (left - 1) d ∷ drop left es
event_before es left d some within = drop_more es (left - 1) d (omega (arith, some, within)) ∙ ap (λ k. get_or es (left - 1) d ∷ drop k es) (omega (arith, some))

-- what is written in place of one element, and those behind it
drop_set : (xs : List ℕ) (i x : ℕ) → i < length xs → drop i (set xs i x) ≡ x ∷ drop (i + 1) xs
drop_set [] i x lt = absurd (omega (arith, lt))
drop_set (y ∷ ys) zero x lt = refl
drop_set (y ∷ ys) (suc i) x lt = let on : suc (i + 1) ≡ suc i + 1 = omega arith in drop_set ys i x (omega (arith, lt)) ∙ ap (λ n. x ∷ drop n (y ∷ ys)) on

-- rows by node
module _ (nodes : ℕ) where
  row_is : (f : ℕ → ℕ) (row : List ℕ) → length row ≡ nodes → ((k : ℕ) (d : ℕ) → k < nodes → get_or row k d ≡ f k) → row ≡ map f (range_with_len 0 nodes)
  row_is f row len each =
      same_lists row (map f (range_with_len 0 nodes)) (len ∙ sym (length-map-range_with_len f 0 nodes))
      (λ k d lt. each k d (omega arith) ∙ sym (get_or-map-range_with_len f 0 nodes k k d (omega arith) (omega arith)))

  pub row_first : (until : ℕ) (row : List ℕ) → row ≡ replicate nodes until → row ≡ map (λ n. next_change [] n until) (range_with_len 0 nodes)
  row_first until row is =
      row_is (λ n. until) row (ap length is ∙ length-replicate nodes until)
      (λ k d lt. ap (λ r. get_or r k d) is ∙ get_or-replicate nodes k until d lt)

  row_at : (f : ℕ → ℕ) (row : List ℕ) (n d : ℕ) → row ≡ map f (range_with_len 0 nodes) → n < nodes → get_or row n d ≡ f n
  row_at f row n d is lt = ap (λ r. get_or r n d) is ∙ get_or-map-range_with_len f 0 nodes n n d lt (omega arith)

  set_at : (x : ℕ) (row : List ℕ) (n k : ℕ) (d : ℕ) (t : Bool) → (n == k) ≡ t → n < length row → get_or (set row n x) k d ≡ cond t x (get_or row k d)
  set_at x row n k d true same lt =
      let at : n ≡ k = grind (arith, nat_tests) in
      subst (λ m. get_or (set row n x) m d ≡ x) at (get_or-set_same row n x d lt)
  set_at x row n k d false differ lt =
      let other : k ≢ n = λ e. let no_way : ⊥ = grind (arith, nat_tests) in no_way in
      get_or-set_other row n k x d other

  -- one event more, of this node
  row_on : (until : ℕ) (e : Event) (es : List Event) (node : ℕ) (row : List ℕ) → node_of e.what ≡ Some node → node < nodes →
      row ≡ map (λ n. next_change es n until) (range_with_len 0 nodes) → set row node e.at ≡ map (λ n. next_change (e ∷ es) n until) (range_with_len 0 nodes)
  row_on until e es node row is lt was =
      let len : length row ≡ nodes = ap length was ∙ length-map-range_with_len (λ n. next_change es n until) 0 nodes in
      row_is (λ n. next_change (e ∷ es) n until) (set row node e.at) (length-set row node e.at ∙ len)
      (λ k d below.
      set_at e.at row node k d (node == k) refl (omega (arith, lt, len))
      ∙ ap (cond (node == k) e.at) (row_at (λ n. next_change es n until) row k d was below)
      ∙ ap (λ o. cond (is_node o k) e.at (next_change es k until)) (sym is))

  -- or of none
  row_same : (until : ℕ) (e : Event) (es : List Event) (row : List ℕ) → node_of e.what ≡ None → row ≡ map (λ n. next_change es n until) (range_with_len 0 nodes) →
      row ≡ map (λ n. next_change (e ∷ es) n until) (range_with_len 0 nodes)
  row_same until e es row is was =
      row_is (λ n. next_change (e ∷ es) n until) row (ap length was ∙ length-map-range_with_len (λ n. next_change es n until) 0 nodes)
      (λ k d lt. row_at (λ n. next_change es n until) row k d was lt ∙ ap (λ o. cond (is_node o k) e.at (next_change es k until)) (sym is))

-- the ends, one event more
ends_on : (until : ℕ) (e : Event) (es : List Event) (ends : List ℕ) (i x : ℕ) → i < length ends → drop (i + 1) ends ≡ ends_of until es → x ≡ end_of until (node_of e.what) es →
    drop i (set ends i x) ≡ ends_of until (e ∷ es)
ends_on until e es ends i x lt was is = drop_set ends i x lt ∙ ap (λ ns. x ∷ ns) was ∙ ap (λ n. n ∷ ends_of until es) is

-- One event more, where these are left: the row, and the ends.
module _ (nodes until : ℕ) (events : List Event) (left : ℕ) (d : Event) (some : 0 < left) (within : left ≤ length events) (known : All (λ e. IsOfNodeBelow nodes e.what) events)
    (row ends : List ℕ) (counted : length ends ≡ length events) (was : row ≡ map (λ n. next_change (drop left events) n until) (range_with_len 0 nodes))
    (were : drop left ends ≡ ends_of until (drop left events)) where
  abbrev event : Event
  event = get_or events (left - 1) d

  ends_are : (x : ℕ) → x ≡ end_of until (node_of event.what) (drop left events) → drop (left - 1) (set ends (left - 1) x) ≡ ends_of until (drop (left - 1) events)
  ends_are x is =
      ends_on until event (drop left events) ends (left - 1) x (omega (arith, some, within, counted)) (ap (λ k. drop k ends) (omega (arith, some)) ∙ were) is
      ∙ ap (ends_of until) (sym (event_before events left d some within))

  pub node_there : (node : ℕ) → node_of event.what ≡ Some node → node < length row
  node_there node is =
      let below : node < nodes = node_below nodes event.what node (known (left - 1) d (omega (arith, some, within))) is in
      omega (arith, below, ap length was, length-map-range_with_len (λ n. next_change (drop left events) n until) 0 nodes)

  pub ends_some : (node x : ℕ) → node_of event.what ≡ Some node → x ≡ get_or row node x → drop (left - 1) (set ends (left - 1) x) ≡ ends_of until (drop (left - 1) events)
  ends_some node x is read =
      let below : node < nodes = node_below nodes event.what node (known (left - 1) d (omega (arith, some, within))) is in
      ends_are x (read ∙ row_at nodes (λ n. next_change (drop left events) n until) row node x was below ∙ ap (λ o. end_of until o (drop left events)) (sym is))

  pub row_some : (node : ℕ) → node_of event.what ≡ Some node → set row node event.at ≡ map (λ n. next_change (drop (left - 1) events) n until) (range_with_len 0 nodes)
  row_some node is =
      let below : node < nodes = node_below nodes event.what node (known (left - 1) d (omega (arith, some, within))) is in
      row_on nodes until event (drop left events) node row is below was
      ∙ ap (λ es. map (λ n. next_change es n until) (range_with_len 0 nodes)) (sym (event_before events left d some within))

  pub ends_none : node_of event.what ≡ None → drop (left - 1) (set ends (left - 1) until) ≡ ends_of until (drop (left - 1) events)
  ends_none is = ends_are until (ap (λ o. end_of until o (drop left events)) (sym is))

  pub row_none : node_of event.what ≡ None → row ≡ map (λ n. next_change (drop (left - 1) events) n until) (range_with_len 0 nodes)
  row_none is =
      row_same nodes until event (drop left events) row is was
      ∙ ap (λ es. map (λ n. next_change es n until) (range_with_len 0 nodes)) (sym (event_before events left d some within))

-- the events of a trace are of its nodes
pub nodes_known : (t : Scenario) → IsSound t → All (λ e. IsOfNodeBelow (length t.nodes) e.what) t.events
nodes_known t sound i d lt = of_nodes (get_or t.events i d).what (sound.known i d lt)
  where
    of_nodes : (w : Happening) → NamesKnown t w → IsOfNodeBelow (length t.nodes) w
    of_nodes (Arrive job) known = tt
    of_nodes (Cancel job) known = tt
    of_nodes (Drain node) known = known
    of_nodes (Undrain node) known = known
    of_nodes (Fail node) known = known

-- there is an end for each event, which is that of this event where those behind it follow
pub length-ends_of : (until : ℕ) (es : List Event) → length (ends_of until es) ≡ length es
length-ends_of until [] = refl
length-ends_of until (e ∷ es) = omega (arith, length-ends_of until es)

pub ends_at : (until : ℕ) (es : List Event) (i n : ℕ) (d : Event) → i < length es → get_or (ends_of until es) i n ≡ end_of until (node_of (get_or es i d).what) (drop (i + 1) es)
ends_at until [] i n d lt = absurd (omega (arith, lt))
ends_at until (e ∷ es) zero n d lt = refl
ends_at until (e ∷ es) (suc i) n d lt =
    let on : i + 1 ≡ suc i = omega arith in
    let more : suc i + 1 ≡ suc (suc i) = omega arith in
    ends_at until es i n d (omega (arith, lt)) ∙ ap (λ k. end_of until (node_of (get_or es i d).what) (drop k es)) on
    ∙ ap (λ k. end_of until (node_of (get_or es i d).what) (drop k (e ∷ es))) (sym more)

-- what the events shade, one event on
pub outage_on : (t : Scenario) (f : Layout) (es : List Event) (i : ℕ) (d : Event) (old new start : List ℕ) → i < length es →
    new ≡ old ++ outage_text t f (get_or es i d) (drop (i + 1) es) → old ++ outages_text t f (drop i es) ≡ start → new ++ outages_text t f (drop (i + 1) es) ≡ start
outage_on t f es i d old new start lt is was =
    ap (λ bytes. bytes ++ outages_text t f (drop (i + 1) es)) is
    ∙ append_assoc old (outage_text t f (get_or es i d) (drop (i + 1) es)) (outages_text t f (drop (i + 1) es))
    ∙ ap (λ (xs : List Event). old ++ outages_text t f xs) (sym (drop_more es i d lt))
    ∙ was
