-- Laws that crates above cite.
pub use Rattle.tetri_ip.proofs.Coefficients.{coefficient_absent, coefficient_at}
pub use Rattle.tetri_ip.proofs.Duality.{dot_from-coefficient, dot_from-column_sum, left_sum, weak_duality}
pub use Rattle.tetri_ip.proofs.Formed.{weighed_where_formed}
pub use Rattle.tetri_ip.proofs.Objectives.{cost_added, objective_end}
pub use Rattle.tetri_ip.proofs.PointLemmas.{first_unmet_none, first_unmet_some}
pub use Rattle.tetri_ip.proofs.Sides.{size_between, sizes-cons, sizes-reach}
pub use Rattle.tetri_ip.proofs.Steps.{add_fits, item_is, put_next, put_none, right_of_at, row_ascends, sum_is, terms_of_at, within_is}
pub use Rattle.tetri_ip.proofs.WeighingLemmas.{answer_is_weighed, coefficient_within, weigh_of_none, weigh_of_row, weighed_row_single, weighed_single}
