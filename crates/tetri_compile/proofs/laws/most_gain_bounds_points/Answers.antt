use Rattle.tetri_compile.proofs.GainFacts.{point_gain, region_gain}
use Rattle.tetri_compile.proofs.laws.most_gain_bounds_points.Goals as goal

pub returns : goal.returns
returns c = record {
  points = λ point at. point_gain c.args.p.now c.requires point at;
  regions = λ b is point at. region_gain c.args.p.now c.requires b is point at;
}
