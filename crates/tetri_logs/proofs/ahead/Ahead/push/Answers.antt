use Rattle.std.proofs.Common.{◌≡◌, ◌++◌, ◌∷◌, [], ◌∙◌, List, ℕ, Bor, length, map, ap, subst, sym, arith}
use Rattle.std.proofs.lemmas.List.{length-append, length-map, map_push}
use Rattle.tetri_logs.specs.Ahead.{AreTextsOf}
use Rattle.tetri_logs.proofs.AheadLemmas.{texts-push}
use Rattle.tetri_logs.proofs.ahead.Ahead.push.Goals as goal

pub returns-clause-ahead : goal.returns-clause-ahead
returns-clause-ahead c = λ jobs job all one.
    let layout = c.args.self.now.layout in
    let before = c.args.self.now.texts.items in
    let now = λ (t : Bor (List ℕ)). t.now in
    let added = c.in_ok-push.ensures.items in
    let same : length (map now before) ≡ length jobs = omega (arith, length-map before now, all.0) in (
      omega (arith, ap length added, length-append before (c.args.text ∷ []), length-append jobs (job ∷ []), all.0),
      subst (λ ts. AreTextsOf layout ts (jobs ++ job ∷ [])) (sym (ap (map now) added ∙ map_push now before _))
          (texts-push layout (map now before) jobs c.args.text.now job same all.1 one),
    )
