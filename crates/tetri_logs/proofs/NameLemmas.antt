-- Names that are taken as they stand in a log.
use Rattle.std.proofs.Common.{rules, ◌≡◌, ℕ, Bool, true, false, List, [], ◌∷◌, refl, sym, ap, ◌∙◌}
use Rattle.std.specs.Prelude.{◌==◌, ◌&&◌, ◌||◌, nat_le, length}
use Rattle.std.specs.List.{list_all, list_any}
use Rattle.std.proofs.lemmas.Bool.{and_parts, eqb-true}
use Rattle.tetri_cluster.specs.Names.{is_name, is_name_byte}
use Rattle.tetri_logs.specs.Sacct.{id_name}

or_none : (a b : Bool) → a ≡ false → b ≡ false → (a || b) ≡ false
or_none a b first second = ap (λ t. t || b) first ∙ second

not_both : (b : ℕ) (plus : Bool) → is_name_byte b ≡ true → (b == 43) ≡ plus → plus ≡ false
not_both b false name is = refl
not_both b true name is = let no : false ≡ true = ap is_name_byte (sym (eqb-true b 43 is)) ∙ name in cc

no_plus : (bytes : List ℕ) → list_all is_name_byte bytes ≡ true → list_any (λ b. b == 43) bytes ≡ false
no_plus [] all = refl
no_plus (b ∷ bs) all =
    or_none (b == 43) (list_any (λ x. x == 43) bs)
    (not_both b (b == 43) (and_parts (is_name_byte b) (list_all is_name_byte bs) all).0 refl)
    (no_plus bs (and_parts (is_name_byte b) (list_all is_name_byte bs) all).1)

-- an identifier that is a name has no plus, and is the name that it gives
pub own_name : (id : List ℕ) → is_name id ≡ true → id_name id ≡ id
own_name id name = search (rules, no_plus id (and_parts (nat_le 1 (length id) && nat_le (length id) 64) (list_all is_name_byte id) name).1)
