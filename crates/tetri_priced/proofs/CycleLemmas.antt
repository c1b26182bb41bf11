-- What prices make of a cycle, from what a quote makes of it.
use Rattle.std.specs.Prelude.{IfOk, IfSome, None, Ok, Err, Option, option_map, Result, Some}
use Rattle.tetri_claims.specs.Good.{BoundsEveryLawful}
use Rattle.tetri_space.specs.Space.{Space}
use Rattle.tetri_priced.specs.Cycle.{Given, given, IsPriced, IsPricedBy, MayBeGiven}
use Rattle.tetri_priced.specs.Quotes.{IsQuoteOf}
use Rattle.tetri_priced.specs.declared.cycle.PricedCycle.{PricedCycle}
use Rattle.tetri_priced.specs.declared.cycle.Printed.{Printed}
use Rattle.tetri_priced.specs.declared.pricer.Quote.{Quote}

module _ (s : Space) (p : Printed) where
  may_be : (q : Option Quote) → IfSome q (IsQuoteOf s) → IfSome (option_map given q) (MayBeGiven s)
  may_be None quote = tt
  may_be (Some q) quote = record { rows = quote.prices.rows; some = quote.some; few = quote.few }

  pub priced_from : {E : Type 0} (gave : Option Given → Type 0) (q : Option Quote) (r : Result PricedCycle E) → gave (option_map given q) → IfSome q (IsQuoteOf s) →
      IfOk r (IsPricedBy s (option_map given q) p) → IfOk r (λ c. BoundsEveryLawful s p.bound → BoundsEveryLawful s c.priced) → IfOk r (IsPriced gave s p)
  priced_from gave q (Ok c) gives quote told bounds = record { given = option_map given q; gave = gives; may = may_be q quote; is = told; bounds = bounds }
  priced_from gave q (Err e) gives quote told bounds = tt
