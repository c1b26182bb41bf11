use Rattle.std.proofs.Common.{◌≡◌, ◌∙◌, ◌+◌, ◌++◌, ◌∷◌, [], Bool, true, false, cond, List, ℕ, ap, sym, drop, map, bytes_eq, append_assoc}
use Rattle.std.specs.Prelude.{filter}
use Rattle.std.proofs.lemmas.List.{append-nil, drop_all, drop_more}
use Rattle.tetri_cluster.specs.Tags.{tag_list}
use Rattle.tetri_cluster.proofs.tags.put_each.Goals as goal

-- one node more, where the next name is the tag
one_more : (b : Bool) (old : List ℕ) (node : ℕ) (name : List ℕ) (rest : List (List ℕ)) → (old ++ cond b (node ∷ []) []) ++ map (λ _. node) rest ≡ old ++ map (λ _. node) (cond b (name ∷ rest) rest)
one_more true old node name rest = append_assoc old (node ∷ []) (map (λ (_ : List ℕ). node) rest)
one_more false old node name rest = ap (λ l. l ++ map (λ (_ : List ℕ). node) rest) (append-nil old)

pub loop-name-preserved : goal.loop-name-preserved
loop-name-preserved c =
    let names = c.as_slice-name-items.result.now in
    let i = c.loop-name.name-index in
    let name = c.name-item.result in
    let rest = drop (i + 1) names in
    let node = c.args.node in
    let more : drop i names ≡ name ∷ rest = drop_more names i name c.loop-name-test.true ∙ ap (λ n. n ∷ rest) (sym c.name-item.is) in
    record {
      as_many = c.in_ok-put.ensures.as_many;
      put = λ q. let old = tag_list c.loop-name.tags c.loop-name.lists.items q in
          let added = c.in_ok-put.ensures.put q ∙ ap (λ n. old ++ cond (bytes_eq q n) (node ∷ []) []) c.bytes.ensures.value in
          ap (λ l. l ++ map (λ (_ : List ℕ). node) (filter (bytes_eq q) rest)) added ∙ one_more (bytes_eq q name) old node name (filter (bytes_eq q) rest)
          ∙ sym (ap (λ ns. old ++ map (λ (_ : List ℕ). node) (filter (bytes_eq q) ns)) more) ∙ c.loop-name.invariant.put q;
    }

pub returns : goal.returns
returns c =
    let node = c.args.node in
    let end = drop_all c.loop-name.name-index c.as_slice-name-items.result.now c.loop-name-test.false in
    record {
      as_many = c.loop-name.invariant.as_many;
      put = λ q. let old = tag_list c.loop-name.tags c.loop-name.lists.items q in
          sym (append-nil old) ∙ sym (ap (λ ns. old ++ map (λ (_ : List ℕ). node) (filter (bytes_eq q) ns)) end) ∙ c.loop-name.invariant.put q
          ∙ ap (λ ns. tag_list c.args.tags.now c.args.lists.now.items q ++ map (λ (_ : List ℕ). node) (filter (bytes_eq q) ns)) c.as_slice-name-items.ensures;
    }
