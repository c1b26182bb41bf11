use Rattle.std.proofs.Common.{◌≡◌, ◌<◌, ◌∙◌, ap, get_or, map, refl, length, List, ℕ, Bor, rules, tests}
use Rattle.std.specs.Prelude.{Some, option_map, slice_get}
use Rattle.std.proofs.lemmas.Option.{slice_get-map, slice_get_read}
use Rattle.tetri_logs.proofs.AheadLemmas.{line_found}
use Rattle.tetri_logs.proofs.ahead.Ahead.line_at.Goals as goal

pub returns : goal.returns
returns c =
    let texts = c.args.self.now.texts.items in
    let now = λ (t : Bor (List ℕ)). t.now in
    let text = c.in_ok-text.field-0.now.now in
    let inside : c.args.place < length texts = search (rules, c.in_ok-text.ensures.lookup) in
    let lent : c.in_ok-text.field-0.now ≡ get_or texts c.args.place c.in_ok-text.field-0.now = search (rules, c.in_ok-text.ensures.lookup) in
    let found : slice_get texts c.args.place ≡ Some c.in_ok-text.field-0.now = slice_get_read texts (length texts) c.args.place c.in_ok-text.field-0.now refl inside lent in
    let there : slice_get (map now texts) c.args.place ≡ Some text = slice_get-map now texts c.args.place ∙ ap (option_map now) found in
    let some : 0 < length text = search (rules, tests) in
    let same : c.args.self.now.layout ≡ c.args.layout.now = search rules in
    line_found c.args.self.now.layout c.args.layout.now (map now texts) c.args.jobs.now c.args.place text c.requires there some same
