-- What is found by job, from the last item on.
use Rattle.std.proofs.Common.{◌≡◌, ◌≢◌, ℕ, ◌+◌, ◌-◌, ◌<◌, ◌≤◌, ◌==◌, ◌||◌, Bool, true, false, cond, List, [], ◌∷◌, ◌++◌, length, get_or, drop, map, refl, sym, ap, ◌∙◌, arith}
use Rattle.std.specs.Prelude.{Option, Some, None, find, flat_map, slice_set}
use Rattle.std.specs.List.{list_any, range_with_len}
use Rattle.std.proofs.lemmas.Bool.Decides.{nat_tests}
use Rattle.std.proofs.lemmas.List.{drop_more, get_or-set_same, get_or-set_other}
use Rattle.tetri_base.proofs.ListLaws.{eq_from_test, range_from, test_from_ne}
use Rattle.tetri_base.specs.Lists.{has, Each}
use Rattle.tetri_accounts.specs.Rows.{has_row, idle_at, idle_by, idle_row, idle_rows}
use Rattle.tetri_accounts.specs.declared.row.Departure.{Departure}
use Rattle.tetri_accounts.specs.declared.row.Row.{Row}

not_same : (m n : ℕ) → (m == n) ≡ false → n ≢ m
not_same m n e = grind (arith, nat_tests)

module _ {X : Type 0} (key : X → ℕ) (n : ℕ) (x : X) (xs : List X) where
  module _ (first : List (Option X)) (long : length first ≡ n) (found : (j : ℕ) → j < n → get_or first j None ≡ find (λ y. key y == j) xs) where
    pub first_put : key x < n → (j : ℕ) → j < n → get_or (slice_set first (key x) (Some x)) j None ≡ find (λ y. key y == j) (x ∷ xs)
    first_put lt j below = by_test (key x == j) refl
      where
        by_test : (c : Bool) → (key x == j) ≡ c → get_or (slice_set first (key x) (Some x)) j None ≡ cond c (Some x) (find (λ y. key y == j) xs)
        by_test true is =
            let same : key x ≡ j = eq_from_test (key x) j is in
            let inside : key x < length first = omega (arith, lt, long) in
            ap (λ k. get_or (slice_set first (key x) (Some x)) k None) (sym same) ∙ get_or-set_same first (key x) (Some x) None inside
        by_test false is = get_or-set_other first (key x) j (Some x) None (not_same (key x) j is) ∙ found j below

    pub first_passed : n ≤ key x → (j : ℕ) → j < n → get_or first j None ≡ find (λ y. key y == j) (x ∷ xs)
    first_passed ge j below =
        found j below ∙ sym (ap (λ c. cond c (Some x) (find (λ y. key y == j) xs)) (test_from_ne (key x) j (λ (e : key x ≡ j). omega (arith, e, ge, below))))

  module _ (have : List Bool) (long : length have ≡ n) (found : (j : ℕ) → j < n → get_or have j false ≡ list_any (λ y. key y == j) xs) where
    pub have_put : key x < n → (j : ℕ) → j < n → get_or (slice_set have (key x) true) j false ≡ list_any (λ y. key y == j) (x ∷ xs)
    have_put lt j below = by_test (key x == j) refl
      where
        by_test : (c : Bool) → (key x == j) ≡ c → get_or (slice_set have (key x) true) j false ≡ (c || list_any (λ y. key y == j) xs)
        by_test true is =
            let same : key x ≡ j = eq_from_test (key x) j is in
            let inside : key x < length have = omega (arith, lt, long) in
            ap (λ k. get_or (slice_set have (key x) true) k false) (sym same) ∙ get_or-set_same have (key x) true false inside
        by_test false is = get_or-set_other have (key x) j true false (not_same (key x) j is) ∙ found j below

    pub have_passed : n ≤ key x → (j : ℕ) → j < n → get_or have j false ≡ list_any (λ y. key y == j) (x ∷ xs)
    have_passed ge j below =
        found j below ∙ sym (ap (λ c. c || list_any (λ y. key y == j) xs) (test_from_ne (key x) j (λ (e : key x ≡ j). omega (arith, e, ge, below))))

-- the items from the place before one on
pub next_back : {X : Type 0} (xs : List X) (place : ℕ) (d : X) → 0 < place → place ≤ length xs → drop (place - 1) xs ≡ get_or xs (place - 1) d ∷ drop place xs
next_back xs place d some within =
    let next : place - 1 + 1 ≡ place = omega (arith, some) in
    drop_more xs (place - 1) d (omega (arith, some, within)) ∙ ap (λ n. get_or xs (place - 1) d ∷ drop n xs) next

pub any_mapped : (rows : List Row) (job : ℕ) → has (map (λ r. r.job) rows) job ≡ has_row rows job
any_mapped [] job = refl
any_mapped (r ∷ rows) job = ap (λ b. (r.job == job) || b) (any_mapped rows job)

flat_map_same : {X Y : Type 0} (f g : X → List Y) (xs : List X) → Each (λ x. f x ≡ g x) xs → flat_map f xs ≡ flat_map g xs
flat_map_same f g [] h = refl
flat_map_same f g (x ∷ xs) h = ap (λ ys. ys ++ flat_map f xs) h.0 ∙ ap (λ ys. g x ++ ys) (flat_map_same f g xs h.1)

pub idle_by_tables : (n : ℕ) (rows : List Row) (gone : List Departure) (have : List Bool) (first : List (Option Departure)) →
    ((job : ℕ) → job < n → get_or have job false ≡ has_row rows job) → ((job : ℕ) → job < n → get_or first job None ≡ find (λ d. d.job == job) gone) →
    flat_map (idle_at have first) (range_with_len 0 n) ≡ idle_rows n rows gone
idle_by_tables n rows gone have first has_one is_gone =
    flat_map_same (idle_at have first) (idle_row rows gone) (range_with_len 0 n)
    (range_from (λ job. idle_at have first job ≡ idle_row rows gone job) 0 n
    (λ job low high.
    ap (λ b. cond b [] (idle_by job (get_or first job None) ∷ [])) (has_one job (omega (arith, high)))
    ∙ ap (λ o. cond (has_row rows job) [] (idle_by job o ∷ [])) (is_gone job (omega (arith, high)))))
