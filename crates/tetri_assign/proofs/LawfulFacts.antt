-- A node that is free at the start of a leaf, in none of whose slots its partition is closed, is free in each of them.
use Rattle.std.proofs.Common.{◌≡◌, ℕ, ◌+◌, ◌<◌, ◌≤◌, ◌&&◌, not, Bool, true, false, List, refl, ap, ◌∙◌}
use Rattle.std.proofs.lemmas.Bool.{and_parts, and_from}
use Rattle.tetri_strl.specs.declared.expr.Leaf.{Leaf}
use Rattle.tetri_base.specs.Lists.{has}
use Rattle.tetri_space.specs.Free.{is_closed, is_free, is_idle}
use Rattle.tetri_space.specs.Partitions.{is_closed_part, part_at}
use Rattle.tetri_space.specs.Space.{Space}
use Rattle.tetri_space.proofs.InstanceLaws.{idle_later}
use Rattle.tetri_compile.specs.Usable.{is_shut}
use Rattle.tetri_compile.proofs.ProgramLaws.{Each-has, none_in_range, none_of}

pub idle_of_free : (i : Space) (n t : ℕ) → is_free i n t ≡ true → is_idle i n t ≡ true
idle_of_free i n t e = (and_parts (is_idle i n t) (not (is_closed i n t)) e).0

-- a node that is not closed is free where it is idle
pub free_if_idle : (i : Space) (n t : ℕ) → is_closed i n t ≡ false → is_free i n t ≡ is_idle i n t
free_if_idle i n t e = ap (λ b. is_idle i n t && not b) e ∙ and_true (is_idle i n t)
  where
    and_true : (b : Bool) → (b && true) ≡ b
    and_true true = refl
    and_true false = refl

module _ (i : Space) (parts : List (List ℕ)) (p : ℕ) (l : Leaf) (opened : is_shut i parts p l ≡ false) where
  pub not_closed : (n t : ℕ) → has (part_at parts p) n ≡ true → l.start ≤ t → t < l.start + l.dur → is_closed i n t ≡ false
  not_closed n t there low high =
      Each-has (λ m. is_closed i m t ≡ false) (part_at parts p) n
      (none_of (λ m. is_closed i m t) (part_at parts p) (none_in_range (is_closed_part i parts p) l.start l.dur t opened low high)) there

  pub stays_free : (n t : ℕ) → has (part_at parts p) n ≡ true → l.start ≤ t → t < l.start + l.dur → is_free i n l.start ≡ true → is_free i n t ≡ true
  stays_free n t there low high e =
      and_from (is_idle i n t) (not (is_closed i n t)) (idle_later i n l.start t low (idle_of_free i n l.start e)) (ap not (not_closed n t there low high))
