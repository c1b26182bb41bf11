-- The dictionary of a draft.
use Rattle.std.proofs.Common.{◌≡◌, ℕ, ◌+◌, ◌-◌, ◌<◌, ◌^◌, refl, sym, ap, ◌∙◌, subst, arith, List, length, get_or, replicate, Option, None}
use Prim.Native.Nat.{zero, suc}
use Rattle.std.specs.Prelude.{All}
use Rattle.std.proofs.lemmas.List.{get_or-replicate, length-map, length-replicate}
use Rattle.tetri_algebra.specs.Rational.{ℚ}
use Rattle.tetri_dictionary.specs.declared.origins.Origin.TheVariants.{Kept}
use Rattle.tetri_dictionary.specs.declared.pairs.Pairs.{Pairs}
use Rattle.tetri_dictionary.specs.declared.pairs_start.Draft.{Draft}
use Rattle.tetri_dictionary.specs.Below.{below_of}
use Rattle.tetri_dictionary.specs.Drafts.{draft_rows, IsDraft}
use Rattle.tetri_dictionary.specs.Holders.{AreHolders}
use Rattle.tetri_dictionary.specs.Mirrors.{row_from}
use Rattle.tetri_dictionary.specs.Mixed.{mixed_rows}
use Rattle.tetri_dictionary.specs.Pairs.{origin_at, AreOrigins, IsMirrorOf, IsPaired, IsPairs, IsPlaceOf, IsWholeRow}
use Rattle.tetri_dictionary.specs.Tables.{constant_of, is_negative}

no_mirrors : (m k : ℕ) → get_or {A = Option ℕ} (replicate m None) k None ≡ None
no_mirrors zero k = refl
no_mirrors (suc m) zero = refl
no_mirrors (suc m) (suc k) = no_mirrors m k

-- what a dictionary takes over of a draft
abbrev pub draft_of : Pairs → Draft
draft_of t = record { rows = t.rows; homes = t.homes; origins = t.origins; below = t.below; columns = t.columns }

-- without mirrors
draft_origins : (n c : ℕ) (s : Draft) → IsDraft n s → origin_at s.origins.items c ≡ Kept (length s.rows.items - 1) → length s.origins.items ≡ c + 1 →
    AreOrigins n (length s.rows.items) c s.origins.items s.homes.items (replicate (length s.rows.items) None) s.columns.items
draft_origins n c s h o e = record {
  count = e;
  within = h.within;
  objective = o;
  homes_count = h.homes_count;
  home = h.home;
  mirrors_count = length-replicate (length s.rows.items) None;
  mirror = λ r l. subst (λ (x : Option ℕ). IsPlaceOf (IsMirrorOf r) s.origins.items x) (sym (get_or-replicate (length s.rows.items) r None None l)) (h.no_mirror r);
  alone = no_mirrors (length s.rows.items) (length s.rows.items - 1);
  columns_count = h.columns_count;
  column = h.column;
}

pub pairs_sound : (t : Pairs) → IsDraft (length t.nonbasic.items) (draft_of t) → 0 < length t.rows.items → origin_at t.origins.items (length t.basic.items) ≡ Kept (length t.rows.items - 1) → length t.origins.items ≡ length t.basic.items + 1 →
    length t.origins.items < 2 ^ 32 → length t.nonbasic.items < 2 ^ 31 → t.row_below.items ≡ below_of (mixed_rows t.rows.items) → t.mirrors.items ≡ replicate (length t.rows.items) None →
    AreHolders (length t.nonbasic.items) t.holders.items (mixed_rows t.rows.items) → All (IsWholeRow (length t.nonbasic.items)) t.rows.items → IsPairs t
pairs_sound t h some o count few columns below me hold whole =
    let n = length t.nonbasic.items in
    let f = h.fewer in
    record {
      paired = record {
        origins =
            subst (λ (us : List (Option ℕ)). AreOrigins n (length t.rows.items) (length t.basic.items) t.origins.items t.homes.items us t.columns.items) (sym me)
            (draft_origins n (length t.basic.items) (draft_of t) h o count);
        some = some;
        rows = h.rows;
        row_below = below;
        holders = hold;
        below_count =
            ap length h.below ∙ length-map (draft_rows n (draft_of t)) (λ (row : List ℚ). is_negative (constant_of row)) ∙ length-map t.origins.items (row_from n (mixed_rows t.rows.items));
        few_rows = few;
        few_kept = omega (arith, f, few);
        few_columns = columns;
      };
      whole = whole;
      below = h.below;
    }
