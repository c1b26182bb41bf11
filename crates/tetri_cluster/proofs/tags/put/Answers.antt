use Rattle.std.proofs.Common.{◌≡◌, ◌∙◌, ◌++◌, ◌∷◌, [], List, ℕ, Result, Ok, Err, ap, sym, set, get_or, arith}
use Rattle.std.specs.Prelude.{OnOk}
use Rattle.std.proofs.lemmas.List.{get_or_default}
use Rattle.tetri_cluster.specs.Tags.{tag_list}
use Rattle.tetri_cluster.proofs.TagLists.{put_known, put_new}
use Rattle.tetri_cluster.proofs.tags.put.Goals as goal

-- what follows of a call that went well
then_so : {T E : Type 0} (r : Result T E) (A B C : Type 0) → (A → B → C) → OnOk r A → OnOk r B → OnOk r C
then_so (Ok x) A B C f a b = f a b
then_so (Err e) A B C f a b = tt

pub returns-in-Some-clause-put : goal.returns-in-Some-clause-put
returns-in-Some-clause-put c =
    let tags = c.args.tags.now in
    let lists = c.args.lists.now.items in
    let m = c.in-Some.number in
    let old = c.index_mut.result.now in
    let listed : old ≡ get_or lists m [] = c.index_mut.ensures.value ∙ get_or_default lists m old [] (omega (arith, c.in-Some.ensures.within, c.requires)) in
    let put = λ (more : c.push.new.self ≡ old ++ c.args.node ∷ []) (same : c.push.new.self ≡ old ++ c.args.node ∷ []) (q : List ℕ).
    ap (λ l. tag_list tags (set lists m l) q) (more ∙ ap (λ l. l ++ c.args.node ∷ []) listed) ∙ put_known tags lists c.args.tag.now m c.args.node (sym c.in-Some.ensures.value) c.requires q in
    then_so c.push.result _ _ _ put c.push.ensures.ok c.push.ensures.ok

pub returns-in-None-clause-put : goal.returns-in-None-clause-put
returns-in-None-clause-put c =
    let tags = c.args.tags.now in
    let lists = c.args.lists.now.items in
    let t = c.args.tag.now in
    let put = λ (more : c.put_first.new.tags ≡ tags ++ t ∷ []) (longer : c.put_first.new.lists.items ≡ lists ++ (c.args.node ∷ []) ∷ []) (q : List ℕ).
    ap (λ ts. tag_list ts c.put_first.new.lists.items q) more ∙ ap (λ ls. tag_list (tags ++ t ∷ []) ls q) longer ∙ put_new tags lists t c.args.node (sym c.in-None.ensures.value) c.requires q in
    then_so c.put_first.result _ _ _ put c.put_first.ensures.tags c.put_first.ensures.lists
