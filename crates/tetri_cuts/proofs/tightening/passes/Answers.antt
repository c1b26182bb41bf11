use Rattle.tetri_cuts.proofs.FitSteps.{not_so}
use Rattle.tetri_cuts.proofs.tightening.passes.Goals as goal

pub returns-then-not-is_in_range : goal.returns-then-not-is_in_range
returns-then-not-is_in_range c =
    not_so _ (λ h. let t = c.is_in_range.ensures.1 h.0.in_range in let f = c.if-not-is_in_range.true in cc)

pub returns : goal.returns
returns c = (
  λ t. (
    record { ascending = c.requires.ascending; columns = c.requires.columns; numbers = c.requires.numbers; in_range = c.is_in_range.ensures.0 c.if-not-is_in_range.false },
    c.is_broken.ensures.0 t,
  ),
  λ h. c.is_broken.ensures.1 h.1,
)
