-- What an answer says as an end of the run.
use Rattle.tetri_simplex.specs.declared.outcome.Outcome.{Outcome}
use Rattle.tetri_simplex.specs.Ends.{End, best, cut, empty, past, long}
use Rattle.tetri_dictionary.specs.Fractions.{values}

abbrev pub end_of : Outcome → End
end_of (Outcome.Best point q ws) = best (values point.items) q ws.items
end_of (Outcome.Cut q ws) = cut q ws.items
end_of (Outcome.Empty ws) = empty ws.items
end_of (Outcome.Past e) = past e
end_of Outcome.Long = long
