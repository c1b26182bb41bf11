use Rattle.std.proofs.Common.{◌≡◌, ◌∙◌, take, sym, ap, arith}
use Rattle.std.specs.Int.{from_le_bytes, to_le_bytes, w16, w64}
use Rattle.std.specs.List.{slice_range}
use Rattle.std.proofs.lemmas.Bool.{eq-eqb, eqb-true}
use Rattle.tetri_logs.proofs.DayLemmas.{same_by_parts}
use Rattle.tetri_logs.proofs.times.is_same_day.Goals as goal

pub returns-then-front : goal.returns-then-front
returns-then-front c =
    let xs = c.args.day.now in
    let ys = c.args.text.now in
    let fronts : take 8 xs ≡ take 8 ys = sym c.front.ensures.bytes ∙ ap (to_le_bytes w64) c.if-front.true ∙ c.front-2.ensures.bytes in (
      λ is.
          let backs : slice_range xs 8 10 ≡ slice_range ys 8 10 =
          sym c.back.ensures.bytes ∙ ap (to_le_bytes w16) (eqb-true c.back.result c.back-then-front.result is) ∙ c.back-then-front.ensures.bytes in
          same_by_parts xs ys c.requires (omega arith) fronts backs,
      λ e. eq-eqb _ _ (c.back.ensures.value ∙ ap (λ zs. from_le_bytes w16 (slice_range zs 8 10)) e ∙ sym c.back-then-front.ensures.value),
    )
