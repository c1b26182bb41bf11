-- Dictionaries with one row for the two variables of a column, as one of two forms.
use Rattle.std.proofs.Common.{◌≡◌, ℕ, sym, ap, subst, ◌∙◌, List, Option, None, Bool, length}
use Rattle.std.specs.Prelude.{All}
use Rattle.tetri_algebra.specs.Rational.{ℚ}
use Rattle.tetri_dictionary.specs.declared.mirrored.Form.{Form}
use Rattle.tetri_dictionary.specs.declared.pairs.Pairs.{Pairs}
use Rattle.tetri_dictionary.specs.Below.{below_of}
use Rattle.tetri_dictionary.specs.Choices.{leaving, leaving_from}
use Rattle.tetri_dictionary.specs.Forms.{form_table, IsForm}
use Rattle.tetri_dictionary.specs.Mirrors.{IsBounded}
use Rattle.tetri_dictionary.specs.Mixed.{mixed_rows}
use Rattle.tetri_dictionary.specs.Pairs.{table_of, IsPairs}
use Rattle.tetri_dictionary.proofs.MirrorPlaces.{whole_are_bounded}

pub pairs_bounded : (t : Pairs) → IsPairs t → All (All IsBounded) (mixed_rows t.rows.items)
pairs_bounded t h = whole_are_bounded (length t.nonbasic.items) t.rows.items h.whole

pub form_bounded : (f : Form) (t : Pairs) → IsForm f → f ≡ Form.Pairs t → All (All IsBounded) (mixed_rows t.rows.items)
form_bounded f t h is = pairs_bounded t (subst IsForm is h)

pub form_leaving : (f : Form) (t : Pairs) (basic : List ℕ) (below : List Bool) (o : Option ℕ) → IsForm f → f ≡ Form.Pairs t → basic ≡ t.basic.items → below ≡ t.below.items →
    ((rows : List (List ℚ)) → below ≡ below_of rows → o ≡ leaving_from basic 0 basic rows None) → o ≡ leaving (form_table f)
unfolding leaving
form_leaving f t basic below o h is be re e =
    let sound : IsPairs t = subst IsForm is h in
    e (table_of t).rows (re ∙ sound.below)
    ∙ ap (λ bs. leaving_from bs 0 bs (table_of t).rows None) be
    ∙ sym (ap (λ g. leaving (form_table g)) is)
