use Rattle.std.proofs.Common.{◌≡◌, ◌∙◌, ◌++◌, string_bytes, OnOk, ap, subst}
use Rattle.tetri_workload.specs.Telling.{all_causes, causes_of}
use Rattle.tetri_workload.proofs.telling.add_left.Goals as goal

pub returns : goal.returns
returns c =
    let causes = c.deref.result.now in
    let same : causes ≡ causes_of c.args.imported.now.left.items = c.deref.ensures.value ∙ c.in_ok-causes.ensures ∙ ap causes_of c.as_slice.ensures.value in
    subst (λ cs. OnOk c.add_causes.result (string_bytes c.add_causes.new.text ≡ string_bytes c.args.text.now ++ all_causes c.args.imported.now.mixed cs)) same c.add_causes.ensures
