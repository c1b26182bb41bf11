-- Laws that crates above cite.
pub use Rattle.tetri_io.proofs.Codecs.{EachForm, IsCodec, IsOwnWord, among_laws, bind_some, by_cond, cond_else, four_back, four_only, halves_back, high_avoids, image_laws, joined_avoids, joined_within, no_halves, number_laws, one_back, one_only, pair_laws, pair_longer, renamed_laws, room, same_bytes, tag_only, two_back, two_only}
pub use Rattle.tetri_io.proofs.Digits.{AreDigits, digit_below, few_digits, next_front, own}
pub use Rattle.tetri_io.proofs.Known.{append_known-append, part_on}
pub use Rattle.tetri_io.proofs.Lines.{first_line, line_of-le, some_line}
pub use Rattle.tetri_io.proofs.NumberLemmas.{Avoids, decimal_avoids, decimal_short, number_below-decimal, number_below-only, numeral, other}
pub use Rattle.tetri_io.proofs.TextLemmas.{AllAvoid, lines_of_text, parts_of_joined, text_of}
