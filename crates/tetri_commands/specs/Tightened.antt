-- What is told of a cycle whose bound is tightened by cuts.
use Rattle.std.specs.Prelude.{◌≡◌, ℕ, List, [], None}
use Rattle.tetri_cert.specs.declared.certificate.Certificate.{Certificate}
use Rattle.tetri_cert.specs.declared.certificate.Certificate.TheVariants.{Tops, Tree}
use Rattle.tetri_claims.specs.Good.{BoundsEveryLawful}
use Rattle.tetri_compile.specs.Flat.{plain, program_of}
use Rattle.tetri_cuts.specs.Tightening.{IsTightening}
use Rattle.tetri_cuts.specs.declared.tightening.Tight.{Tight}
use Rattle.tetri_ip.specs.declared.programs.Program.{Program}
use Rattle.tetri_space.specs.Space.{Space}
use Rattle.tetri_commands.specs.TightText.{tight_bound, tight_text}

-- beside a tree the tightening of the instance's program, and beside tops no cut and no root
abbrev pub IsTightened : Space → Certificate → Tight → Type 0
IsTightened i (Tops columns rows) t = (t.cuts.items ≡ []) × (t.root ≡ None)
IsTightened i (Tree marks) t = (p : Program) × (plain p ≡ program_of i) × IsTightening p t

-- The text tells of a cycle with this instance, number, value, bound and certificate what its bound is tightened to, and by which cuts; no
-- lawful allotment is worth more than the tightened bound.
pub record IsTightText (i : Space) (number value bound : ℕ) (c : Certificate) (text : List ℕ) : Type 0 where
  pub tight : Tight
  pub tightened : IsTightened i c tight
  pub told : text ≡ tight_text number value bound tight
  pub bounded : BoundsEveryLawful i (tight_bound bound tight.root)
