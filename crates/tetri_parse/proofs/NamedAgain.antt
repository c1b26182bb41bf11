-- The set that a text names keeps its number while sets come.
use Rattle.std.proofs.Common.{◌≡◌, ℕ, ◌+◌, ◌<◌, ◌==◌, ◌||◌, Bool, true, false, not, cond, nat_lt, if◌then◌else◌, List, [], ◌∷◌, ◌++◌, length, take, drop, Option, Some, None, Result, Ok, Err, refl, sym, ap, ◌∙◌, subst}
use Rattle.std.specs.List.{list_any, position_or_len}
use Rattle.std.proofs.lemmas.List.{take-append-drop}
use Rattle.std.proofs.lemmas.List.Folds.{list_any-append}
use Rattle.std.proofs.lemmas.Slice.Eq.{bytes_eq-Decides}
use Rattle.tetri_base.specs.ResultSteps.{◌>>=◌}
use Rattle.tetri_cluster.specs.declared.cluster.NodeText.{NodeText}
use Rattle.tetri_cluster.specs.Sets.{has_nodes, is_known, set_added}
use Rattle.tetri_parse.specs.declared.fault.Fault.TheVariants.{Trailing}
use Rattle.tetri_parse.specs.declared.fault.Miss.{Miss}
use Rattle.tetri_parse.specs.Expression.{from_start, node_set, node_set_left}
use Rattle.tetri_parse.specs.SetText.{set_at}
use Rattle.tetri_parse.specs.Settling.{settled_set, set_in}
use Rattle.tetri_parse.specs.Tokens.{skip_blanks, missed}
use Rattle.tetri_parse.proofs.Added.{added_number, in_some}

-- ---- a set that is there is found again
known_again : (nodes : List ℕ) (sets : List (List ℕ)) → is_known nodes sets ≡ true → set_added nodes sets ≡ Some (position_or_len (has_nodes nodes) sets, sets)
known_again nodes sets e = ap (λ b. if b || nat_lt (length sets) 4096 then Some (position_or_len (has_nodes nodes) sets, if b then sets else sets ++ nodes ∷ []) else None) e

place_kept : (p : List ℕ → Bool) (xs ys : List (List ℕ)) → list_any p xs ≡ true → position_or_len p (xs ++ ys) ≡ position_or_len p xs
place_kept p [] ys e = absurd (cc)
place_kept p (x ∷ xs) ys e = by_first (p x) e (place_kept p xs ys)
  where
    by_first : (b : Bool) → (b || list_any p xs) ≡ true → (list_any p xs ≡ true → position_or_len p (xs ++ ys) ≡ position_or_len p xs) → cond {A = ℕ} (not b) (1 + position_or_len p (xs ++ ys)) 0 ≡ cond {A = ℕ} (not b) (1 + position_or_len p xs) 0
    by_first true g next = refl
    by_first false g next = ap (λ n. 1 + n) (next g)

-- a set is there once it was added
known_when_added : (nodes : List ℕ) (sets : List (List ℕ)) (n : ℕ) (more : List (List ℕ)) → set_added nodes sets ≡ Some (n, more) → is_known nodes more ≡ true
known_when_added nodes sets n more h =
    let made = in_some (is_known nodes sets || nat_lt (length sets) 4096) (position_or_len (has_nodes nodes) sets, if is_known nodes sets then sets else sets ++ nodes ∷ []) (n, more) h in
    subst (λ (x : ℕ × List (List ℕ)). is_known nodes x.1 ≡ true) made (by_known (is_known nodes sets) refl)
  where
    or_true : (b : Bool) → (b || true) ≡ true
    or_true true = refl
    or_true false = refl

    by_known : (b : Bool) → is_known nodes sets ≡ b → is_known nodes (if b then sets else sets ++ nodes ∷ []) ≡ true
    by_known true e = e
    by_known false e = list_any-append (has_nodes nodes) sets (nodes ∷ []) ∙ ap (λ b. is_known nodes sets || (b || false)) ((bytes_eq-Decides nodes nodes).1 refl) ∙ or_true (is_known nodes sets)

-- and has the same number then
pub added_twice : (nodes : List ℕ) (sets : List (List ℕ)) (n : ℕ) (more : List (List ℕ)) → set_added nodes sets ≡ Some (n, more) → set_added nodes more ≡ Some (n, more)
added_twice nodes sets n more h =
    let made = in_some (is_known nodes sets || nat_lt (length sets) 4096) (position_or_len (has_nodes nodes) sets, if is_known nodes sets then sets else sets ++ nodes ∷ []) (n, more) h in
    known_again nodes more (known_when_added nodes sets n more h)
    ∙ ap (λ k. Some (k, more)) (subst (λ (x : ℕ × List (List ℕ)). position_or_len (has_nodes nodes) x.1 ≡ x.0) made (by_known (is_known nodes sets) refl))
  where
    none_before : (p : List ℕ → Bool) (xs : List (List ℕ)) (y : List ℕ) → list_any p xs ≡ false → p y ≡ true → position_or_len p (xs ++ y ∷ []) ≡ position_or_len p xs
    none_before p [] y e f = ap (λ b. cond {A = ℕ} (not b) (1 + position_or_len p []) 0) f
    none_before p (x ∷ xs) y e f = by_first (p x) e (none_before p xs y)
      where
        by_first : (b : Bool) → (b || list_any p xs) ≡ false → (list_any p xs ≡ false → p y ≡ true → position_or_len p (xs ++ y ∷ []) ≡ position_or_len p xs) → cond {A = ℕ} (not b) (1 + position_or_len p (xs ++ y ∷ [])) 0 ≡ cond {A = ℕ} (not b) (1 + position_or_len p xs) 0
        by_first true g next = absurd (cc)
        by_first false g next = ap (λ n. 1 + n) (next g f)

    by_known : (b : Bool) → is_known nodes sets ≡ b → position_or_len (has_nodes nodes) (if b then sets else sets ++ nodes ∷ []) ≡ position_or_len (has_nodes nodes) sets
    by_known true e = refl
    by_known false e = none_before (has_nodes nodes) sets nodes e ((bytes_eq-Decides nodes nodes).1 refl)

-- and among more sets
added_among_more : (nodes : List ℕ) (sets more : List (List ℕ)) (n : ℕ) → set_added nodes sets ≡ Some (n, sets) → take (length sets) more ≡ sets → set_added nodes more ≡ Some (n, more)
added_among_more nodes sets more n h kept =
    let known = known_when_added nodes sets n sets h in
    let place : position_or_len (has_nodes nodes) sets ≡ n = ap (λ (x : ℕ × List (List ℕ)). x.0) (in_some true (position_or_len (has_nodes nodes) sets, sets) (n, sets) (sym (known_again nodes sets known) ∙ h)) in
    let whole : more ≡ sets ++ drop (length sets) more = sym (take-append-drop (length sets) more) ∙ ap (λ xs. xs ++ drop (length sets) more) kept in
    let there : is_known nodes more ≡ true = ap (is_known nodes) whole ∙ list_any-append (has_nodes nodes) sets (drop (length sets) more) ∙ ap (λ b. b || is_known nodes (drop (length sets) more)) known in
    known_again nodes more there
    ∙ ap (λ k. Some (k, more)) (ap (position_or_len (has_nodes nodes)) whole ∙ place_kept (has_nodes nodes) sets (drop (length sets) more) known ∙ place)

-- ---- the nodes that a text names
module _ (text : List ℕ) (nodes : List NodeText) where
  abbrev behind : Result (Option (List ℕ) × List ℕ) Miss → List (List ℕ) → Result (ℕ × List (List ℕ)) Miss
  behind said sets = said >>= λ set. if length (skip_blanks set.1) == 0 then settled_set (length (skip_blanks text)) set.0 sets else Err (missed Trailing (skip_blanks set.1))

  record Names (sets : List (List ℕ)) (x : ℕ × List (List ℕ)) : Type 0 where
    chosen : List ℕ
    added : set_added chosen sets ≡ Some x
    always : (other : List (List ℕ)) (y : ℕ × List (List ℕ)) → set_added chosen other ≡ Some y → node_set text nodes other ≡ Ok y

  node_set_behind : (sets : List (List ℕ)) → node_set text nodes sets ≡ from_start (length text) (behind (set_at nodes (skip_blanks text)) sets)
  unfolding node_set_left
  node_set_behind sets = refl

  names_nodes : (sets : List (List ℕ)) (x : ℕ × List (List ℕ)) → node_set text nodes sets ≡ Ok x → Names sets x
  names_nodes sets x h = from (set_at nodes (skip_blanks text)) refl (sym (node_set_behind sets) ∙ h)
    where
      from : (said : Result (Option (List ℕ) × List ℕ) Miss) → set_at nodes (skip_blanks text) ≡ said → from_start (length text) (behind said sets) ≡ Ok x → Names sets x
      from (Err e) is g = absurd (cc)
      from (Ok set) is g = by_rest (length (skip_blanks set.1) == 0) refl g
        where
          by_rest : (b : Bool) → (length (skip_blanks set.1) == 0) ≡ b →
              from_start (length text) (if b then settled_set (length (skip_blanks text)) set.0 sets else Err (missed Trailing (skip_blanks set.1))) ≡ Ok x → Names sets x
          by_rest false none f = absurd (cc)
          by_rest true none f = by_nodes set.0 refl f
            where
              by_nodes : (held : Option (List ℕ)) → set.0 ≡ held → from_start (length text) (settled_set (length (skip_blanks text)) held sets) ≡ Ok x → Names sets x
              by_nodes None held f = absurd (cc)
              by_nodes (Some chosen) held f = record {
                chosen = chosen;
                added = by_added (set_added chosen sets) f;
                always = λ other y e.
                    node_set_behind other ∙ ap (λ said. from_start (length text) (behind said other)) is
                    ∙ ap (λ b. from_start (length text) (if b then settled_set (length (skip_blanks text)) set.0 other else Err (missed Trailing (skip_blanks set.1)))) none
                    ∙ ap (λ o. from_start (length text) (settled_set (length (skip_blanks text)) o other)) held
                    ∙ ap (λ o. from_start (length text) (set_in (length (skip_blanks text)) o)) e;
              }
                where
                  by_added : (o : Option (ℕ × List (List ℕ))) → from_start (length text) (set_in (length (skip_blanks text)) o) ≡ Ok x → o ≡ Some x
                  by_added None g = absurd (cc)
                  by_added (Some y) g = cc

  pub known_set : (sets : List (List ℕ)) (n : ℕ) → node_set text nodes sets ≡ Ok (n, sets) → n < length sets
  known_set sets n h = let names = names_nodes sets (n, sets) h in added_number names.chosen sets (n, sets) names.added

  pub named_twice : (sets more : List (List ℕ)) (n : ℕ) → node_set text nodes sets ≡ Ok (n, more) → node_set text nodes more ≡ Ok (n, more)
  named_twice sets more n h =
      let names = names_nodes sets (n, more) h in names.always more (n, more) (added_twice names.chosen sets n more names.added)

  pub named_among_more : (sets more : List (List ℕ)) (n : ℕ) → node_set text nodes sets ≡ Ok (n, sets) → take (length sets) more ≡ sets → node_set text nodes more ≡ Ok (n, more)
  named_among_more sets more n h kept =
      let names = names_nodes sets (n, sets) h in names.always more (n, more) (added_among_more names.chosen sets more n names.added kept)
