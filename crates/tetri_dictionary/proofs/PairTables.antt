-- A dictionary in which a kept row is made its mirror.
use Rattle.std.proofs.Common.{◌≡◌, ℕ, ◌<◌, ◌^◌, refl, sym, ap, ◌∙◌, subst, List, [], length, get_or, set, map, Option, Some, Bool}
use Rattle.std.specs.Global.{Vec}
use Rattle.std.specs.Vec.{with_item, with_items}
use Rattle.std.proofs.lemmas.List.{length-map, length-set, map-set, set-get_or}
use Rattle.std.proofs.lemmas.List.Elements.{All-set}
use lib.IntN.{ℤ}
use mir.Val.{to_z, of_z}
use mir.Syntax.{w64}
use Rattle.tetri_algebra.specs.Rational.{ℚ}
use Rattle.tetri_rows.proofs.RowLaws.{short_word}
use Rattle.tetri_dictionary.specs.declared.mixed.MixedRow.{MixedRow}
use Rattle.tetri_dictionary.specs.declared.mixed.MixedRow.TheVariants.{Whole, Fractions}
use Rattle.tetri_dictionary.specs.declared.origins.Origin.{Origin}
use Rattle.tetri_dictionary.specs.declared.origins.Origin.TheVariants.{Kept, Mirror}
use Rattle.tetri_dictionary.specs.declared.pairs.Pairs.{Pairs}
use Rattle.tetri_dictionary.specs.Below.{below_of}
use Rattle.tetri_dictionary.specs.Holders.{AreHolders}
use Rattle.tetri_dictionary.specs.Mirrors.{mirror, rows_from, IsWidth, IsMirrorWithin, IsOrigin}
use Rattle.tetri_dictionary.specs.Mixed.{mixed_row, mixed_rows, IsMixedRow}
use Rattle.tetri_dictionary.specs.PairPivots.{turned}
use Rattle.tetri_dictionary.specs.Pairs.{IsWholeRow, origin_at, table_of, AreOrigins, IsPairs}
use Rattle.tetri_dictionary.specs.Tables.{Table}
use Rattle.tetri_dictionary.proofs.FullTables.{items_are}
use Rattle.tetri_dictionary.proofs.MixedPivots.{mixed_read}
use Rattle.tetri_dictionary.proofs.PairRows.{width_short}
use Rattle.tetri_dictionary.proofs.PairTurns.{turned_below, turned_holders, turned_origins, turned_rows, turned_set}

pub mixed_of_whole : (n : ℕ) (x : MixedRow) → IsWholeRow n x → IsMixedRow n x
mixed_of_whole n (Whole den numbers) h = h
mixed_of_whole n (Fractions numbers) h = absurd h

pub origins_along : (n m m' c : ℕ) (os os' : List Origin) (homes homes' : List ℕ) (mirrors mirrors' columns columns' : List (Option ℕ)) → m' ≡ m → os' ≡ os → homes' ≡ homes → mirrors' ≡ mirrors → columns' ≡ columns →
    AreOrigins n m c os homes mirrors columns → AreOrigins n m' c os' homes' mirrors' columns'
origins_along n m m' c os os' homes homes' mirrors mirrors' columns columns' me oe he re ce h =
    subst (λ z. AreOrigins n z c os' homes' mirrors' columns') (sym me)
    (subst (λ (us : List Origin). AreOrigins n m c us homes' mirrors' columns') (sym oe)
    (subst (λ (us : List ℕ). AreOrigins n m c os us mirrors' columns') (sym he)
    (subst (λ (us : List (Option ℕ)). AreOrigins n m c os homes us columns') (sym re)
    (subst (λ (us : List (Option ℕ)). AreOrigins n m c os homes mirrors us) (sym ce) h))))

-- ---- a row that is written as it was
same_rows : (rows : List MixedRow) (r : ℕ) (old x : MixedRow) → r < length rows → old ≡ get_or rows r old → mixed_row x ≡ mixed_row old → mixed_rows (set rows r x) ≡ mixed_rows rows
same_rows rows r old x l re e =
    map-set mixed_row rows r x ∙ ap (λ z. set (mixed_rows rows) r z) (e ∙ sym (mixed_read rows r old l re)) ∙ set-get_or (mixed_rows rows) r []

pub kept_table : (t : Pairs) (r : ℕ) (old x : MixedRow) → r < length t.rows.items → old ≡ get_or t.rows.items r old → mixed_row x ≡ mixed_row old → table_of (record t { rows = with_item t.rows r x }) ≡ table_of t
kept_table t r old x l re e =
    let n = length t.nonbasic.items in
    let made : List (List ℚ) → Table = λ rows. record { nonbasic = t.nonbasic.items; basic = t.basic.items; rows = rows_from n rows t.origins.items } in
    ap made (same_rows t.rows.items r old x l re e)

pub kept_pairs : (t : Pairs) (r : ℕ) (old x : MixedRow) → IsPairs t → r < length t.rows.items → old ≡ get_or t.rows.items r old → mixed_row x ≡ mixed_row old → IsWholeRow (length t.nonbasic.items) x →
    IsPairs (record t { rows = with_item t.rows r x })
kept_pairs t r old x h l re e wx =
    let n = length t.nonbasic.items in
    let p = h.paired in
    let s = same_rows t.rows.items r old x l re e in
    let m = length-set t.rows.items r x in
    record {
      paired = record {
        origins = subst (λ z. AreOrigins n z (length t.basic.items) t.origins.items t.homes.items t.mirrors.items t.columns.items) (sym m) p.origins;
        some = subst (λ z. 0 < z) (sym m) p.some;
        rows = All-set (IsMixedRow n) t.rows.items r x (mixed_of_whole n x wx) p.rows;
        row_below = p.row_below ∙ ap below_of (sym s);
        holders = subst (λ z. AreHolders n t.holders.items z) (sym s) p.holders;
        below_count = p.below_count;
        few_rows = p.few_rows;
        few_kept = subst (λ z. z < 2 ^ 32) (sym m) p.few_kept;
        few_columns = p.few_columns;
      };
      whole = All-set (IsWholeRow n) t.rows.items r x wx h.whole;
      below = h.below ∙ ap (λ z. below_of (rows_from n z t.origins.items)) (sym s);
    }

-- ---- a row that is made its mirror
mirrored_rows : (rows : List MixedRow) (r : ℕ) (w : ℤ) (old x : MixedRow) → r < length rows → old ≡ get_or rows r old → mixed_row x ≡ mirror w (mixed_row old) →
    mixed_rows (set rows r x) ≡ set (mixed_rows rows) r (mirror w (get_or (mixed_rows rows) r []))
mirrored_rows rows r w old x l re e = map-set mixed_row rows r x ∙ ap (λ z. set (mixed_rows rows) r z) (e ∙ ap (mirror w) (sym (mixed_read rows r old l re)))

-- the places and the row are written, and the sign of the place is that of the row
pub record IsTurned (t : Pairs) (i r : ℕ) (w : ℤ) (old x : MixedRow) (b : Bool) (os : Vec Origin) (hs : Vec ℕ) (ms : Vec (Option ℕ)) : Type 0 where
  pub place : i < length t.origins.items
  pub origin : origin_at t.origins.items i ≡ Mirror r w
  pub row : r < length t.rows.items
  pub read : old ≡ get_or t.rows.items r old
  pub turned : mixed_row x ≡ mirror w (mixed_row old)
  pub whole : IsWholeRow (length t.nonbasic.items) x
  pub sign : b ≡ get_or t.below.items i b
  pub origins : os.items ≡ set (set t.origins.items (get_or t.homes.items r 0) (Mirror r w)) i (Kept r)
  pub homes : hs.items ≡ set t.homes.items r i
  pub mirrors : ms.items ≡ set t.mirrors.items r (Some (get_or t.homes.items r 0))

mapped : (t : Pairs) (i r : ℕ) (w : ℤ) (old x : MixedRow) (b : Bool) (os : Vec Origin) (hs : Vec ℕ) (ms : Vec (Option ℕ)) → IsPairs t → IsTurned t i r w old x b os hs ms → os.items ≡ map (turned r w) t.origins.items
mapped t i r w old x b os hs ms h k =
    k.origins ∙ turned_set (length t.nonbasic.items) (length t.rows.items) (length t.basic.items) r i w t.origins.items t.homes.items t.mirrors.items t.columns.items h.paired.origins k.place k.origin

rows_same : (t : Pairs) (i r : ℕ) (w : ℤ) (old x : MixedRow) (b : Bool) (os : Vec Origin) (hs : Vec ℕ) (ms : Vec (Option ℕ)) → IsPairs t → IsTurned t i r w old x b os hs ms →
    rows_from (length t.nonbasic.items) (mixed_rows (set t.rows.items r x)) os.items ≡ rows_from (length t.nonbasic.items) (mixed_rows t.rows.items) t.origins.items
rows_same t i r w old x b os hs ms h k =
    let n = length t.nonbasic.items in
    ap (λ z. rows_from n z os.items) (mirrored_rows t.rows.items r w old x k.row k.read k.turned)
    ∙ ap (λ (us : List Origin). rows_from n (set (mixed_rows t.rows.items) r (mirror w (get_or (mixed_rows t.rows.items) r []))) us) (mapped t i r w old x b os hs ms h k)
    ∙ turned_rows n (length t.rows.items) (length t.basic.items) r i w (mixed_rows t.rows.items) t.origins.items t.homes.items t.mirrors.items t.columns.items h.paired.origins (length-map t.rows.items mixed_row) k.place k.origin

pub turned_table : (t : Pairs) (i r : ℕ) (w : ℤ) (old x : MixedRow) (b : Bool) (os : Vec Origin) (hs : Vec ℕ) (ms : Vec (Option ℕ)) → IsPairs t → IsTurned t i r w old x b os hs ms →
    table_of (record t { origins = os; rows = with_item t.rows r x; row_below = with_item t.row_below r b; homes = hs; mirrors = ms }) ≡ table_of t
turned_table t i r w old x b os hs ms h k =
    let made : List (List ℚ) → Table = λ rows. record { nonbasic = t.nonbasic.items; basic = t.basic.items; rows = rows } in
    ap made (rows_same t i r w old x b os hs ms h k)

pub turned_pairs : (t : Pairs) (i r : ℕ) (w : ℤ) (old x : MixedRow) (b : Bool) (os : Vec Origin) (hs : Vec ℕ) (ms : Vec (Option ℕ)) → IsPairs t → IsTurned t i r w old x b os hs ms →
    IsPairs (record t { origins = os; rows = with_item t.rows r x; row_below = with_item t.row_below r b; homes = hs; mirrors = ms })
turned_pairs t i r w old x b os hs ms h k =
    let n = length t.nonbasic.items in
    let p = h.paired in
    let c = length t.basic.items in
    let kept = mixed_rows t.rows.items in
    let s = mirrored_rows t.rows.items r w old x k.row k.read k.turned in
    let m = length-set t.rows.items r x in
    let o = mapped t i r w old x b os hs ms h k in
    let lo : length os.items ≡ length t.origins.items = ap length o ∙ length-map t.origins.items (turned r w) in
    record {
      paired = record {
        origins =
            origins_along n (length t.rows.items) (length (set t.rows.items r x)) c _ os.items _ hs.items _ ms.items t.columns.items t.columns.items m o k.homes k.mirrors refl
            (turned_origins n (length t.rows.items) c r i w t.origins.items t.homes.items t.mirrors.items t.columns.items p.origins k.place k.origin);
        some = subst (λ z. 0 < z) (sym m) p.some;
        rows = All-set (IsMixedRow n) t.rows.items r x (mixed_of_whole n x k.whole) p.rows;
        row_below = turned_below n r i w kept t.origins.items t.row_below.items t.below.items b p.row_below h.below k.place k.origin k.sign ∙ ap below_of (sym s);
        holders = subst (λ z. AreHolders n t.holders.items z) (sym s) (turned_holders n r w t.holders.items kept p.holders (subst (λ z. r < z) (sym (length-map t.rows.items mixed_row)) k.row));
        below_count = p.below_count ∙ sym lo;
        few_rows = subst (λ z. z < 2 ^ 32) (sym lo) p.few_rows;
        few_kept = subst (λ z. z < 2 ^ 32) (sym m) p.few_kept;
        few_columns = p.few_columns;
      };
      whole = All-set (IsWholeRow n) t.rows.items r x k.whole h.whole;
      below = h.below ∙ ap below_of (sym (rows_same t i r w old x b os hs ms h k));
    }

-- ---- as the code has it
pub width_word : (w : ℤ) → IsWidth w → to_z w64 (of_z w64 w) ≡ w
width_word w h = short_word w (width_short w h)

pub mirrored_row : (t : Pairs) (i r : ℕ) (w : ℤ) → IsPairs t → i < length t.origins.items → origin_at t.origins.items i ≡ Mirror r w → IsMirrorWithin (length t.rows.items) r w
mirrored_row t i r w h l e = subst (IsOrigin (length t.nonbasic.items) (length t.rows.items)) e (h.paired.origins.within i (Kept 0) l)

pub places_turned : (t : Pairs) (i r n : ℕ) (w w' : ℤ) (old x : MixedRow) (b : Bool) (os first_os : List Origin) (hs first_hs : List ℕ) (ms first_ms : List (Option ℕ)) → IsPairs t → i < length t.origins.items → origin_at t.origins.items i ≡ Mirror r w →
    w' ≡ w → n ≡ length t.nonbasic.items → old ≡ get_or t.rows.items r old → mixed_row x ≡ mirror w' (mixed_row old) → IsWholeRow n x → b ≡ get_or t.below.items i b →
    first_os ≡ t.origins.items → first_hs ≡ t.homes.items → first_ms ≡ t.mirrors.items → os ≡ set (set first_os (get_or first_hs r 0) (Mirror r w')) i (Kept r) → hs ≡ set first_hs r i → ms ≡ set first_ms r (Some (get_or first_hs r 0)) →
    IsTurned t i r w old x b (with_items t.origins os) (with_items t.homes hs) (with_items t.mirrors ms)
places_turned t i r n w w' old x b os first_os hs first_hs ms first_ms h l e we ne re xe wx be fo fh fm oe he me =
    let o : os ≡ set (set t.origins.items (get_or t.homes.items r 0) (Mirror r w)) i (Kept r) =
    oe ∙ ap (λ z. set (set first_os (get_or first_hs r 0) (Mirror r z)) i (Kept r)) we ∙ ap (λ (us : List Origin). set (set us (get_or first_hs r 0) (Mirror r w)) i (Kept r)) fo ∙ ap (λ (us : List ℕ). set (set t.origins.items (get_or us r 0) (Mirror r w)) i (Kept r)) fh in
    let k : hs ≡ set t.homes.items r i = he ∙ ap (λ (us : List ℕ). set us r i) fh in
    let m : ms ≡ set t.mirrors.items r (Some (get_or t.homes.items r 0)) =
    me ∙ ap (λ (us : List (Option ℕ)). set us r (Some (get_or first_hs r 0))) fm ∙ ap (λ (us : List ℕ). set t.mirrors.items r (Some (get_or us r 0))) fh in
    record {
      place = l;
      origin = e;
      row = (mirrored_row t i r w h l e).row;
      read = re;
      turned = xe ∙ ap (λ z. mirror z (mixed_row old)) we;
      whole = subst (λ z. IsWholeRow z x) ne wx;
      sign = be;
      origins = items_are t.origins os (ap length o ∙ length-set (set t.origins.items (get_or t.homes.items r 0) (Mirror r w)) i (Kept r) ∙ length-set t.origins.items (get_or t.homes.items r 0) (Mirror r w)) ∙ o;
      homes = items_are t.homes hs (ap length k ∙ length-set t.homes.items r i) ∙ k;
      mirrors = items_are t.mirrors ms (ap length m ∙ length-set t.mirrors.items r (Some (get_or t.homes.items r 0))) ∙ m;
    }
