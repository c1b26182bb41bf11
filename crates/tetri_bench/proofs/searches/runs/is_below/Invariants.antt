use Rattle.tetri_ip.specs.Points.{IsBelow}
use Rattle.tetri_bench.proofs.searches.runs.is_below.Given as goal

abbrev pub invariant-loop-j : goal.invariant-loop-j
invariant-loop-j l = IsBelow l.j l.lower l.upper
