use Rattle.std.proofs.Common.{◌≡◌, length, take, drop}
use Rattle.tetri_compile.specs.Forms.{times}
use Rattle.tetri_compile.proofs.walking.times_of.Given as goal

abbrev pub invariant-loop-place : goal.invariant-loop-place
invariant-loop-place l = record {
  long : length l.form.items ≡ length l.fn.form.items;
  so_far : take l.place l.form.items ≡ times l.by (take l.place l.fn.form.items);
  rest : drop l.place l.form.items ≡ drop l.place l.fn.form.items;
}
