-- How much a finding matters.
use Rattle.tetri_lint.specs.declared.finding.Kind.{Kind}
use Rattle.tetri_lint.specs.declared.finding.Kind.TheVariants.{UnknownKey, RepeatedKey, MoreThanSet, PastDeadline, RoundsToZero, NeverStarts, UnnamedNodes, ShortWindow}
use Rattle.tetri_lint.specs.declared.finding.Level.{Level}
use Rattle.tetri_lint.specs.declared.finding.Level.TheVariants.{Warning, Note}

abbrev pub level_of : Kind → Level
level_of UnknownKey = Warning
level_of RepeatedKey = Warning
level_of (MoreThanSet wanted there) = Warning
level_of (PastDeadline dur deadline) = Warning
level_of (RoundsToZero value) = Warning
level_of NeverStarts = Warning
level_of (UnnamedNodes count) = Warning
level_of (ShortWindow window wait) = Note
