use Rattle.tetri_ip.proofs.Duality.{no_point, weak_duality}
use Rattle.tetri_ip.proofs.laws.weighed_bounds_points.Goals as goal

pub returns : goal.returns
returns c = record {
  bounded = λ b point m. weak_duality c.args.p.now b c.args.q c.args.weights.now c.requires point m;
  no_point = λ b point z l m. no_point c.args.p.now b c.args.q c.args.weights.now c.requires point z l m;
}
