-- What was written where things are told one after another, each by one send of its text.
use Rattle.std.specs.Prelude.{◌≡◌, ◌<◌, ℕ, List, ◌++◌, Option, length, take}
use Rattle.std.specs.Io.KnownBytes.{append_known}

-- `AreTold past front` says that these bytes tell of what is past, and `IsNext past text` that this text may come next behind it.
module _ (Past : Type 0) (AreTold IsNext : Past → List ℕ → Type 0) where
  -- whole texts were written, and a proper front of the next
  pub record StoppedInNext (before now : Option (List ℕ)) : Type 0 where
    pub past : Past
    pub front : List ℕ
    pub told : AreTold past front
    pub text : List ℕ
    pub next : IsNext past text
    pub part : ℕ
    pub proper : part < length text
    pub written : now ≡ append_known before (front ++ take part text)

-- whole texts were written
pub record StoppedBehind (Past : Type 0) (AreTold : Past → List ℕ → Type 0) (before now : Option (List ℕ)) : Type 0 where
  pub past : Past
  pub front : List ℕ
  pub told : AreTold past front
  pub written : now ≡ append_known before front
