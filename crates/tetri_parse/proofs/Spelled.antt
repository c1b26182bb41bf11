-- Parts that were spelled one after the other.
use Rattle.std.proofs.Common.{ℕ, List, [], ◌∷◌, ◌++◌, refl, subst}
use Rattle.tetri_parse.specs.Phrase.{Phrase, Phrases, asked, joined, scaled, barred, nothing, followed, line_up}
use Rattle.tetri_parse.specs.Written.{IsWritten, AreWritten, HasPart, IsBody, AreSpelled, IsSpelled}

pub has_part_push : (ps : List Phrase) (p : Phrase) → HasPart (line_up (ps ++ p ∷ []))
has_part_push [] p = tt
has_part_push (q ∷ qs) p = tt

pub spelled_push : (count levels from mid to : ℕ) (ps : List Phrase) (p : Phrase) → AreSpelled count levels from (line_up ps) mid → IsSpelled count levels mid p to → AreSpelled count levels from (line_up (ps ++ p ∷ [])) to
spelled_push count levels from mid to [] p h one = (to, subst (λ n. IsSpelled count levels n p to) h one, refl)
spelled_push count levels from mid to (q ∷ qs) p h one = (h.0, h.1, spelled_push count levels h.0 mid to qs p h.2 one)

-- all numbers of a spelled expression are within their limits
mutual
  pub body_written : (count below from to : ℕ) (p : Phrase) → IsBody count below from p to → IsWritten p
  body_written count below from to (asked l) h = h.written
  body_written count below from to (joined op left ps) h = spelled_written count below from to ps h.1
  body_written count below from to (scaled left p s) h = (body_written count _ from to p h.0.1, h.1)
  body_written count below from to (barred left p v) h = (body_written count _ from to p h.0.1, h.1)

  spelled_written : (count levels from to : ℕ) (ps : Phrases) → AreSpelled count levels from ps to → AreWritten ps
  spelled_written count levels from to nothing h = tt
  spelled_written count levels from to (followed p ps) h = (body_written count _ from h.0 p h.1.1, spelled_written count levels h.0 to ps h.2)
