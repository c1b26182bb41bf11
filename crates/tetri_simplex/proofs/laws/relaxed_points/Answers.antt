use Rattle.tetri_simplex.proofs.RelaxedPoints.{floor_between, whole_point, wholes_are, worth_same}
use Rattle.tetri_simplex.proofs.laws.relaxed_points.Goals as goal

pub returns : goal.returns
returns c = record {
  point = λ p b point h w. whole_point p b point h w;
  same = λ point w. wholes_are point w;
  worth = λ p point w. worth_same p point w;
  between = λ p b point j h l d. floor_between p b point j h l d;
}
