-- How a log is laid out.
use Rattle.tetri_logs.specs.declared.entry.Format.{Format}
use Rattle.tetri_logs.specs.declared.entry.Format.TheVariants.{Swf, Sacct}
use Rattle.tetri_logs.specs.declared.header.TheConstants.{USUAL}
use Rattle.tetri_logs.specs.declared.layout.Layout.{Layout}
use Rattle.tetri_logs.specs.declared.layout.Layout.TheVariants.{Words, Table}

-- the layout with which a log begins
abbrev pub first_layout : Format → Layout
first_layout Swf = Words
first_layout Sacct = Table USUAL
