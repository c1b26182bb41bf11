-- Steps of the loops that write the supply.
use Rattle.std.proofs.Common.{◌≡◌, ℕ, ◌+◌, ◌-◌, ◌<◌, List, [], ◌++◌, sym, ap, ◌∙◌}
use Rattle.std.specs.List.{filter, range_with_len}
use Rattle.std.proofs.lemmas.List.{append_assoc, append-nil}
use Rattle.tetri_compile.specs.declared.outline.Tally.{Tally}
use Rattle.tetri_compile.specs.Draft.{is_held, part_supply, supply, supply_row}
use Rattle.tetri_compile.specs.Forms.{Limit}
use Rattle.tetri_compile.proofs.ProgramLemmas.{range_more}
use Rattle.tetri_wide.specs.Sketch.{Grows, Sketch}

pub nothing_grown : (o : Sketch) (rs : List Limit) → rs ≡ [] → Grows o o [] rs []
nothing_grown o rs e = record {
  uppers = sym (append-nil o.uppers);
  rows = sym (ap (λ qs. o.rows ++ qs) e ∙ append-nil o.rows);
  tallies = sym (append-nil o.tallies);
}

module _ (room : ℕ → ℕ → ℕ) (cs : List Tally) where
  pub part_next : (p : ℕ) (start old new : Sketch) (a m : ℕ) (all : List Limit) → a < m → Grows old new [] (supply_row (filter (is_held p a) cs) (room p a)) [] →
      old.rows ++ part_supply room cs p (range_with_len a (m - a)) ≡ start.rows ++ all →
      new.rows ++ part_supply room cs p (range_with_len (a + 1) (m - (a + 1))) ≡ start.rows ++ all
  part_next p start old new a m all lt g h =
      ap (λ rs. rs ++ part_supply room cs p (range_with_len (a + 1) (m - (a + 1)))) g.rows
      ∙ append_assoc old.rows (supply_row (filter (is_held p a) cs) (room p a)) (part_supply room cs p (range_with_len (a + 1) (m - (a + 1))))
      ∙ ap (λ ts. old.rows ++ part_supply room cs p ts) (sym (range_more a m lt)) ∙ h

  pub supply_next : (slots : List ℕ) (start old new : Sketch) (a m : ℕ) (all : List Limit) → a < m → Grows old new [] (part_supply room cs a slots) [] →
      old.rows ++ supply room cs slots (range_with_len a (m - a)) ≡ start.rows ++ all →
      new.rows ++ supply room cs slots (range_with_len (a + 1) (m - (a + 1))) ≡ start.rows ++ all
  supply_next slots start old new a m all lt g h =
      ap (λ rs. rs ++ supply room cs slots (range_with_len (a + 1) (m - (a + 1)))) g.rows
      ∙ append_assoc old.rows (part_supply room cs a slots) (supply room cs slots (range_with_len (a + 1) (m - (a + 1))))
      ∙ ap (λ ps. old.rows ++ supply room cs slots ps) (sym (range_more a m lt)) ∙ h
