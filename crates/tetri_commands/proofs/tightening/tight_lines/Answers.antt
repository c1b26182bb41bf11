use Rattle.std.proofs.Common.{◌≡◌}
use Rattle.std.proofs.lemmas.Result.{IfOk-weaker}
use Rattle.tetri_space.specs.Space.{space}
use Rattle.tetri_commands.specs.TightText.{tight_text}
use Rattle.tetri_commands.proofs.BoundLemmas.{tight_bounds}
use Rattle.tetri_commands.proofs.tightening.tight_lines.Goals as goal

pub returns : goal.returns
returns c =
    let tight = c.in_ok-tight.tight in
    let e = c.in_ok-tight.ensures in
    IfOk-weaker c.tight_text.result (λ v. v.items ≡ tight_text c.args.number c.args.value c.args.bound tight) _
    (λ v told. record {
      tight = tight;
      tightened = e.tightened;
      told = told;
      bounded = tight_bounds (space c.args.inst.now) c.args.bound tight.root c.requires.bounded e.bounded;
    })
    c.tight_text.ensures
