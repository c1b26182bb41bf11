-- Rests come once the budget is spent; and the marks of a search, place by place.
use Rattle.std.proofs.Common.{◌≡◌, ℕ, ◌+◌, ◌<◌, ◌≤◌, refl, sym, ap, ◌∙◌, subst, arith, List, [], ◌∷◌, length, take, get_or, Bool, true, false}
use Prim.Native.Nat.{zero, suc}
use Rattle.std.specs.Prelude.{nat_lt, pos}
use Rattle.std.specs.List.{fold}
use Rattle.std.proofs.lemmas.Bool.{false≢true}
use Rattle.std.proofs.lemmas.Bool.Decides.{nat_tests}
use Rattle.tetri_ip.specs.declared.programs.Program.{Program}
use Rattle.tetri_cert.specs.declared.marks.Mark.{Mark}
use Rattle.tetri_cert.specs.declared.marks.Mark.TheVariants.{Split, Close, Whole, Rest}
use Rattle.tetri_cert.specs.Trees.{nodes_in}
use Rattle.tetri_search.specs.Table.{Node, table}
use Rattle.tetri_search.specs.Follow.{Follows, IsNext, State, after, best_after, best_behind, dual_below, first_state, open_behind, used_after}
use Rattle.tetri_search.specs.Laws.{EarnedByPlace, RestsSpendTheBudget, has_rest, is_rest}
use Rattle.tetri_search.proofs.MarkLemmas.{rest_is_rest, worked_is_no_rest}

pub used_behind : (used : ℕ) (ms : List Mark) → fold used_after used ms ≡ used + nodes_in ms
used_behind used [] = omega arith
used_behind used (Split j at licence ∷ ms) = used_behind (used + 1) ms ∙ omega arith
used_behind used (Close q ws ∷ ms) = used_behind (used + 1) ms ∙ omega arith
used_behind used (Whole q ws worth cells ∷ ms) = used_behind (used + 1) ms ∙ omega arith
used_behind used (Rest q ws ∷ ms) = used_behind used ms

-- ---- rests
-- with the budget spent each mark is a rest
all_rests : (p : Program) (budget : ℕ) (ns : List Node) (known : ℕ) (ms : List Mark) → Follows p budget (record { open_nodes = ns; known = known; used = budget }) ms → nodes_in ms ≡ 0
all_rests p budget ns known [] w = refl
all_rests p budget [] known (m ∷ ms) w = absurd w.0
all_rests p budget (n ∷ ns) known (m ∷ ms) w = by_mark m (rest_is_rest (nat_lt budget budget) p n known m (not_below budget) w.0) w.1 (λ us r. all_rests p budget us known ms r)
  where
    not_below : (b : ℕ) → nat_lt b b ≡ false
    not_below b = grind (arith, nat_tests)

    by_mark : (x : Mark) → is_rest x ≡ true → Follows p budget (after p (record { open_nodes = n ∷ ns; known = known; used = budget }) x) ms → ((us : List Node) → Follows p budget (record { open_nodes = us; known = known; used = budget }) ms → nodes_in ms ≡ 0) → nodes_in (x ∷ ms) ≡ 0
    by_mark (Split j at licence) r g rec = absurd (false≢true r)
    by_mark (Close q ws) r g rec = absurd (false≢true r)
    by_mark (Whole q ws worth cells) r g rec = absurd (false≢true r)
    by_mark (Rest q ws) r g rec = rec _ g

spent_from : (p : Program) (budget : ℕ) (ns : List Node) (known used : ℕ) (ms : List Mark) → used ≤ budget → Follows p budget (record { open_nodes = ns; known = known; used = used }) ms → has_rest ms ≡ true → used + nodes_in ms ≡ budget
spent_from p budget ns known used [] h w r = absurd (false≢true r)
spent_from p budget [] known used (m ∷ ms) h w r = absurd w.0
spent_from p budget (n ∷ ns) known used (m ∷ ms) h w r =
    by_budget (nat_lt used budget) refl (λ us k g. spent_from p budget us (best_after known m) (used + 1) ms k g)
  where
    below : (a b : ℕ) → nat_lt a b ≡ true → a < b
    below a b e = grind (arith, nat_tests)

    same : (a b : ℕ) → a ≤ b → nat_lt a b ≡ false → a ≡ b
    same a b l e = grind (arith, nat_tests)

    more : (x : Mark) → is_rest x ≡ false → has_rest (x ∷ ms) ≡ true → Follows p budget (record { open_nodes = open_behind n (dual_below p n known) x ns; known = best_after known x; used = used_after used x }) ms →
        ((us : List Node) → Follows p budget (record { open_nodes = us; known = best_after known x; used = used + 1 }) ms → has_rest ms ≡ true → (used + 1) + nodes_in ms ≡ budget) → used + nodes_in (x ∷ ms) ≡ budget
    more (Split j at licence) e g k rec = let i = rec _ k g in omega arith
    more (Close q ws) e g k rec = let i = rec _ k g in omega arith
    more (Whole q ws worth cells) e g k rec = let i = rec _ k g in omega arith
    more (Rest q ws) e g k rec = absurd (false≢true (sym e))

    by_rest : (b : Bool) → is_rest m ≡ b → nat_lt used budget ≡ true → ((us : List Node) → used + 1 ≤ budget → Follows p budget (record { open_nodes = us; known = best_after known m; used = used + 1 }) ms → has_rest ms ≡ true → (used + 1) + nodes_in ms ≡ budget) → used + nodes_in (m ∷ ms) ≡ budget
    by_rest true e t rec = absurd (false≢true (sym (worked_is_no_rest (nat_lt used budget) p n known m t w.0) ∙ e))
    by_rest false e t rec = more m e r w.1 (λ us k g. rec us (let l = below used budget t in omega arith) k g)

    by_budget : (t : Bool) → nat_lt used budget ≡ t → ((us : List Node) → used + 1 ≤ budget → Follows p budget (record { open_nodes = us; known = best_after known m; used = used + 1 }) ms → has_rest ms ≡ true → (used + 1) + nodes_in ms ≡ budget) → used + nodes_in (m ∷ ms) ≡ budget
    by_budget true e rec = by_rest (is_rest m) refl e rec
    by_budget false e rec =
        let s = same used budget h e in
        let z = all_rests p budget (n ∷ ns) known (m ∷ ms) (subst (λ u. Follows p budget (record { open_nodes = n ∷ ns; known = known; used = u }) (m ∷ ms)) s w) in
        omega arith

pub rests_spend_the_budget : RestsSpendTheBudget
rests_spend_the_budget p low budget ms e r = let i = spent_from p budget _ low 0 ms (omega arith) e.follows r in omega arith

-- ---- place by place
next_at : (p : Program) (budget : ℕ) (s : State) (ms : List Mark) → Follows p budget s ms → (k : ℕ) (d : Mark) → k < length ms → (let u = fold (after p) s (take k ms) in IsNext p budget u.open_nodes u.known u.used (get_or ms k d))
next_at p budget s [] f k d h = absurd (omega arith)
next_at p budget s (m ∷ ms) f zero d h = f.0
next_at p budget s (m ∷ ms) f (suc k) d h = next_at p budget (after p s m) ms f.1 k d (omega arith)

pub known_behind : (p : Program) (s : State) (ms : List Mark) → (fold (after p) s ms).known ≡ best_behind s.known ms
known_behind p s [] = refl
known_behind p s (m ∷ ms) = known_behind p (after p s m) ms

pub used_after_all : (p : Program) (s : State) (ms : List Mark) → (fold (after p) s ms).used ≡ fold used_after s.used ms
used_after_all p s [] = refl
used_after_all p s (m ∷ ms) = used_after_all p (after p s m) ms

pub record IsHead (p : Program) (budget : ℕ) (ns : List Node) (known used : ℕ) (m : Mark) : Type 0 where
  pub node : Node
  pub others : List Node
  pub nodes : ns ≡ node ∷ others
  pub mark : m ≡ table p node known (nat_lt used budget)

head_is : (p : Program) (budget : ℕ) (ns : List Node) (known used : ℕ) (m : Mark) → IsNext p budget ns known used m → IsHead p budget ns known used m
head_is p budget [] known used m h = absurd h
head_is p budget (n ∷ ns) known used m h = record { node = n; others = ns; nodes = refl; mark = h }

pub earned_by_place : EarnedByPlace
earned_by_place p low budget ms e k h =
    let s = first_state p low in
    let u = fold (after p) s (take k ms) in
    let first = λ (d : Mark). head_is p budget u.open_nodes u.known u.used (get_or ms k d) (next_at p budget s ms e.follows k d h) in
    let n = first (Close (pos 0) []) in
    let same_mark = λ (d : Mark). marks_agree ms k d (Close (pos 0) []) h in
    let used_is : u.used ≡ nodes_in (take k ms) = used_after_all p s (take k ms) ∙ used_behind 0 (take k ms) ∙ omega arith in
    record {
      node = n.node;
      others = n.others;
      open_nodes = n.nodes;
      mark = λ d. same_mark d ∙ n.mark
          ∙ ap (λ (b : ℕ). table p n.node b (nat_lt u.used budget)) (known_behind p s (take k ms))
          ∙ ap (λ (b : ℕ). table p n.node (best_behind low (take k ms)) (nat_lt b budget)) used_is;
    }
  where
    marks_agree : (xs : List Mark) (i : ℕ) (a b : Mark) → i < length xs → get_or xs i a ≡ get_or xs i b
    marks_agree [] i a b l = absurd (omega arith)
    marks_agree (x ∷ xs) zero a b l = refl
    marks_agree (x ∷ xs) (suc i) a b l = marks_agree xs i a b (omega arith)
