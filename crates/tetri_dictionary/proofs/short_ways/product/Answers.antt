use Rattle.std.proofs.Common.{ap, sym, ◌∙◌, Some}
use Rattle.tetri_num.specs.Checked.{checked_product}
use Rattle.tetri_num.specs.Frac.{value}
use Rattle.tetri_num.proofs.FractionLaws.{checked_product-one_left, checked_product-one_right, value_representable}
use Rattle.tetri_dictionary.proofs.ShortWays.{checked_product-minus_left, checked_product-minus_right}
use Rattle.tetri_dictionary.proofs.short_ways.product.Goals as goal

pub returns-then-is_one : goal.returns-then-is_one
returns-then-is_one c =
    ap (λ z. checked_product z (value c.args.y)) (c.is_one.ensures c.if-is_one.true)
    ∙ checked_product-one_left (value c.args.y) (value_representable c.args.y)

pub returns-then-is_minus_one : goal.returns-then-is_minus_one
returns-then-is_minus_one c =
    ap (λ z. checked_product z (value c.args.y)) (c.is_minus_one.ensures c.if-is_minus_one.true)
    ∙ checked_product-minus_left (value c.args.y) (value_representable c.args.y)
    ∙ ap Some (sym c.negated.ensures)

pub returns-then-is_one-2 : goal.returns-then-is_one-2
returns-then-is_one-2 c =
    ap (checked_product (value c.args.x)) (c.is_one-2.ensures c.if-is_one-2.true)
    ∙ checked_product-one_right (value c.args.x) (value_representable c.args.x)

pub returns-then-is_minus_one-2 : goal.returns-then-is_minus_one-2
returns-then-is_minus_one-2 c =
    ap (checked_product (value c.args.x)) (c.is_minus_one-2.ensures c.if-is_minus_one-2.true)
    ∙ checked_product-minus_right (value c.args.x) (value_representable c.args.x)
    ∙ ap Some (sym c.negated-then-is_minus_one-2.ensures)
