-- The sets that texts were seen to name keep their numbers.
use Rattle.std.proofs.Common.{◌≡◌, ℕ, Bool, true, false, cond, if◌then◌else◌, Vec, Global, List, [], ◌∷◌, length, take, get_or, Option, Some, Result, Ok, Err, refl, sym, ap, ◌∙◌, subst, arith, length-take}
use Rattle.std.specs.Prelude.{OnOk, OnErr}
use Rattle.std.proofs.lemmas.List.{get_or-take}
use Rattle.std.specs.Map.{lookup}
use Rattle.indexmap.specs.IndexMap.{insert_entry}
use Rattle.tetri_cluster.specs.declared.cluster.NodeText.{NodeText}
use Rattle.tetri_cluster.specs.Sets.{AreSets}
use Rattle.tetri_parse.specs.Reader.{NamesSet, IsTrueIndex}
use Rattle.tetri_parse.specs.Settling.{settled_set, set_in}
use Rattle.tetri_parse.specs.SetText.{nodes_in}
use Rattle.tetri_parse.proofs.LeavesBack.{known_set}

module _ (nodes : List NodeText) where
  -- what is looked up was noted of that very text
  pub looked_up : (sets : List (List ℕ)) (test : Vec ℕ Global → Bool) (text : List ℕ) → ((k : Vec ℕ Global) → test k ≡ true → text ≡ k.items) → (es : List (Vec ℕ Global × ℕ)) (n : ℕ) → lookup test es ≡ Some n → IsTrueIndex nodes sets es → NamesSet nodes sets text n
  looked_up sets test text same [] n h index = absurd (cc)
  looked_up sets test text same (e ∷ es) n h index = by_first (test e.0) refl h (λ g. looked_up sets test text same es n g index.1)
    where
      by_first : (b : Bool) → test e.0 ≡ b → cond b (Some e.1) (lookup test es) ≡ Some n → (lookup test es ≡ Some n → NamesSet nodes sets text n) → NamesSet nodes sets text n
      by_first true is g next = let number : e.1 ≡ n = cc in subst (NamesSet nodes sets text) number (subst (λ t. NamesSet nodes sets t e.1) (sym (same e.0 is)) index.0)
      by_first false is g next = next g

  -- one text more is noted
  pub noted : (sets : List (List ℕ)) (eq : Vec ℕ Global → Vec ℕ Global → Bool) (text : Vec ℕ Global) (n : ℕ) → ((k : Vec ℕ Global) → eq text k ≡ true → text.items ≡ k.items) → NamesSet nodes sets text.items n → (es : List (Vec ℕ Global × ℕ)) → IsTrueIndex nodes sets es → IsTrueIndex nodes sets (insert_entry eq es text n)
  noted sets eq text n same names [] index = (names, tt)
  noted sets eq text n same names (e ∷ es) index = by_first (eq text e.0) refl (noted sets eq text n same names es index.1)
    where
      by_first : (b : Bool) → eq text e.0 ≡ b → IsTrueIndex nodes sets (insert_entry eq es text n) → IsTrueIndex nodes sets (if b then (e.0, n) ∷ es else e ∷ insert_entry eq es text n)
      by_first true is others = (subst (λ t. NamesSet nodes sets t n) (same e.0 is) names, index.1)
      by_first false is others = (index.0, others)

  -- sets that come leave it true
  pub still_true : (sets more : List (List ℕ)) → AreSets more → take (length sets) more ≡ sets → (es : List (Vec ℕ Global × ℕ)) → IsTrueIndex nodes sets es → IsTrueIndex nodes more es
  still_true sets more lawful kept [] index = tt
  still_true sets more lawful kept (e ∷ es) index = (
    record {
      lawful = lawful;
      known = omega (arith, index.0.known, ap length kept, length-take (length sets) more);
      named = index.0.named ∙ ap Some (ap (λ xs. get_or xs e.1 []) (sym kept) ∙ get_or-take (length sets) more e.1 [] index.0.known);
    },
    still_true sets more lawful kept es index.1,
  )

  -- a text whose set is known names it again
  pub set_again : (left : ℕ) (sets : List (List ℕ)) (text : List ℕ) (n : ℕ) → NamesSet nodes sets text n → settled_set left (nodes_in nodes text) sets ≡ Ok (n, sets)
  set_again left sets text n names = ap (λ o. settled_set left o sets) names.named ∙ ap (set_in left) (known_set sets n names.lawful names.known)

  -- whether or not there was memory
  pub still_noted : {E : Type 0} (sets : List (List ℕ)) (eq : Vec ℕ Global → Vec ℕ Global → Bool) (text : Vec ℕ Global) (n : ℕ) → ((k : Vec ℕ Global) → eq text k ≡ true → text.items ≡ k.items) → NamesSet nodes sets text.items n → (old new : List (Vec ℕ Global × ℕ)) (r : Result (Option ℕ) E) → OnOk r (new ≡ insert_entry eq old text n) → OnErr r (new ≡ old) → IsTrueIndex nodes sets old → IsTrueIndex nodes sets new
  still_noted sets eq text n same names old new (Ok x) made kept index = subst (IsTrueIndex nodes sets) (sym made) (noted sets eq text n same names old index)
  still_noted sets eq text n same names old new (Err e) made kept index = subst (IsTrueIndex nodes sets) (sym kept) index
