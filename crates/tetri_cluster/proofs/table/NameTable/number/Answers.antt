use Rattle.std.proofs.Common.{◌∙◌, ap, sym, bytes_eq}
use Rattle.std.specs.Prelude.{position}
use Rattle.std.specs.List.{list_any}
use Rattle.tetri_cluster.proofs.NameTables.{position_map, list_any_map}
use Rattle.tetri_cluster.proofs.table.NameTable.number.Goals as goal

pub returns-clause-value : goal.returns-clause-value
returns-clause-value c =
    let name = c.args.name.now in
    let keys = c.self.inside.names.keys in
    c.get_index_of.ensures.index
    ∙ sym (position_map (bytes_eq name) (λ v. v.items) keys)
    ∙ ap (position (bytes_eq name)) c.self.view_is

pub returns-clause-found : goal.returns-clause-found
returns-clause-found c =
    let name = c.args.name.now in
    let keys = c.self.inside.names.keys in
    c.get_index_of.ensures.found
    ∙ sym (list_any_map (bytes_eq name) (λ v. v.items) keys)
    ∙ ap (list_any (bytes_eq name)) c.self.view_is
