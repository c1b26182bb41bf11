use Rattle.std.proofs.Common.{◌∙◌, sym, refl}
use Rattle.std.proofs.lemmas.Bool.{false≢true}
use Rattle.tetri_notice.proofs.ObjectLemmas.{not_json, is_json}
use Rattle.tetri_notice.proofs.field.object_in.Goals as goal

pub returns-in-Err : goal.returns-in-Err
returns-in-Err c = not_json _ (c.in-Err.ensures.err (λ m. false≢true (c.if-is_memory.ensures.1 m)))

pub returns-then-is_object : goal.returns-then-is_object
returns-then-is_object c = is_json _ _ c.in-Ok.ensures.ok.0 c.in-Ok.ensures.ok.1 ∙ rw (sym c.is_object.ensures ∙ c.if-is_object.true) refl

pub returns-else-is_object : goal.returns-else-is_object
returns-else-is_object c = is_json _ _ c.in-Ok.ensures.ok.0 c.in-Ok.ensures.ok.1 ∙ rw (sym c.is_object.ensures ∙ c.if-is_object.false) refl
