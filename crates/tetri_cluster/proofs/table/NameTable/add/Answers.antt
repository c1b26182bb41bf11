use Rattle.std.proofs.Common.{◌∙◌, ap, sym, not, bytes_eq}
use Rattle.std.specs.List.{list_any}
use Rattle.tetri_cluster.proofs.NameTables.{list_any_map, differ_held}
use Rattle.tetri_cluster.proofs.table.NameTable.add.Goals as goal

pub returns-clause-fresh : goal.returns-clause-fresh
returns-clause-fresh c =
    let name = c.args.name.now in
    let keys = c.self.inside.names.keys in
    c.in_ok-insert.ensures.added
    ∙ ap not (ap (λ q. list_any (λ v. bytes_eq q v.items) keys) c.in_ok-key.ensures.items
    ∙ sym (list_any_map (bytes_eq name) (λ v. v.items) keys)
    ∙ ap (list_any (bytes_eq name)) c.self.view_is)

pub returns-clause-differ : goal.returns-clause-differ
returns-clause-differ c = differ_held _ c.in_ok-insert.ensures.unique

pub invariant_of-self-2 : goal.invariant_of-self-2
invariant_of-self-2 c = differ_held _ c.in_ok-insert.ensures.unique
