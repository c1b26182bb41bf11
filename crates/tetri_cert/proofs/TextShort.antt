-- Lines of nodes are single lines, and short where their lists are.
use Rattle.std.proofs.Common.{◌≡◌, ◌≢◌, ◌<◌, sym, ◌∙◌, arith, ◌∷◌, length, eqb, false, All}
use Rattle.std.proofs.lemmas.Bool.{false≢true, eq-eqb}
use Rattle.std.proofs.lemmas.List.Elements.{All-weaker}
use Rattle.tetri_io.proofs.TextLaws.{joined_within, room}
use Rattle.tetri_cert.specs.declared.marks.Mark.{Mark}
use Rattle.tetri_cert.specs.declared.marks.Mark.TheVariants.{Split, Close, Whole, Rest}
use Rattle.tetri_cert.specs.declared.marks.Licence.TheVariants as licences
use Rattle.tetri_cert.specs.NodeText.{HasShortLists, IsPlain, node_tag, node_text, node_words}
use Rattle.tetri_cert.proofs.PairsBack.{cell_list_laws, frac_cell_list_laws, weight_list_laws}
use Rattle.tetri_cert.proofs.TextBack.{kind_laws, line_avoids, smalls, wholes}

pub one_line : (m : Mark) → IsPlain m → All (λ b. b ≢ 10) (node_text m)
one_line m h = All-weaker (λ b. eqb b 10 ≡ false) (λ b. b ≢ 10) (λ b e f. false≢true (sym e ∙ eq-eqb b 10 f)) (node_text m) (line_avoids 10 (omega arith) (λ (e : 10 ≡ 32). omega arith) m h)

words_short : (m : Mark) → IsPlain m → HasShortLists 2000 m → room (node_tag m ∷ node_words m) < 1048576
words_short (Split column at (licences.Point cs)) h few = omega (arith, few, smalls.short column h.0, wholes.short at h.1, frac_cell_list_laws.short cs h.2)
words_short (Split column at (licences.Past p)) h few = omega (arith, smalls.short column h.0, wholes.short at h.1, kind_laws.short p.kind tt, smalls.short p.step h.2.0, smalls.short p.row h.2.1, smalls.short p.column h.2.2)
words_short (Split column at licences.Long) h few = omega (arith, smalls.short column h.0, wholes.short at h.1)
words_short (Close q ws) h few = omega (arith, few, wholes.short q h.0, weight_list_laws.short ws h.1)
words_short (Whole q ws worth point) h few = omega (arith, few.0, few.1, wholes.short q h.0, weight_list_laws.short ws h.1, wholes.short worth h.2, cell_list_laws.short point h.3)
words_short (Rest q ws) h few = omega (arith, few, wholes.short q h.0, weight_list_laws.short ws h.1)

pub short : (m : Mark) → IsPlain m → HasShortLists 2000 m → length (node_text m) < 1048576
unfolding node_text
short m h few = omega (arith, joined_within 32 (node_tag m ∷ node_words m), words_short m h few)
