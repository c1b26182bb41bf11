use Rattle.std.proofs.Common.{◌∙◌, sym}
use Rattle.tetri_request.proofs.ExpiryLemmas.{expired_from_test, test_from_expired}
use Rattle.tetri_request.proofs.expiry.expired.Goals as goal

pub returns-clause-exact : goal.returns-clause-exact
returns-clause-exact c = (
  λ h. expired_from_test c.args.ask.now c.args.arrival c.requires.sound c.args.now c.requires.arrived (sym c.earns_nothing_at.ensures ∙ h),
  λ h. c.earns_nothing_at.ensures ∙ test_from_expired c.args.ask.now c.args.arrival c.requires.sound c.args.now h,
)
