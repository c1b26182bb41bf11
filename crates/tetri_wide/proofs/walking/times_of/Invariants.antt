use Rattle.std.proofs.Common.{◌≡◌, ◌++◌, drop}
use Rattle.tetri_compile.specs.Forms.{times}
use Rattle.tetri_wide.specs.Sketch.{form_of}
use Rattle.tetri_wide.proofs.walking.times_of.Given as goal

abbrev pub invariant-loop-one : goal.invariant-loop-one
invariant-loop-one l = form_of l.product.items ++ times l.by (form_of (drop l.one-index l.form)) ≡ times l.by (form_of l.form)
