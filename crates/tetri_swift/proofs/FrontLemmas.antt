-- The open regions of a search, mark by mark.
use Rattle.std.proofs.Common.{◌≡◌, ◌<◌, refl, sym, ap, ◌∙◌, subst, arith, List, [], ◌∷◌, length, reverse, cond, All, Bool, true, false}
use Rattle.std.specs.Prelude.{◌≤ℤ◌}
use Rattle.std.proofs.lemmas.Bool.{false≢true}
use Rattle.std.proofs.lemmas.Int.{ints}
use lib.IntN.{ℤ}
use Rattle.std.proofs.lemmas.List.Elements.{All-nil}
use Rattle.tetri_ip.specs.declared.programs.Program.{Program}
use Rattle.tetri_ip.specs.Points.{Bounds, IsFit, IsInBox, bounds_of, box_of}
use Rattle.tetri_cert.specs.declared.marks.Mark.{Mark}
use Rattle.tetri_cert.specs.declared.marks.Mark.TheVariants.{Split, Close, Whole, Rest}
use Rattle.tetri_cert.specs.declared.turns.Turn.{Turn}
use Rattle.tetri_cert.specs.NodeBounds.{HasSides, sides_before}
use Rattle.tetri_cert.specs.Turns.{pending}
use Rattle.tetri_cert.specs.Walks.{AreInBox}
use Rattle.tetri_cert.proofs.TreeBoundLaws.{high_in_box, low_in_box}
use Rattle.tetri_swift.specs.declared.searching.Front.{Front}
use Rattle.tetri_swift.specs.Fronts.{IsOver, regions_of}

-- where there is an open region, it and the others lie in the box
live_in_box : (p : Program) (b : Bounds) (bs : List Bounds) (t : Bool) → t ≡ true → AreInBox p (cond t (b ∷ bs) []) → IsInBox p b × AreInBox p bs
live_in_box p b bs true e h = h
live_in_box p b bs false e h = absurd (false≢true e)

live_regions : (b : Bounds) (bs : List Bounds) (t : Bool) → t ≡ true → cond t (b ∷ bs) [] ≡ b ∷ bs
live_regions b bs true e = refl
live_regions b bs false e = absurd (false≢true e)

no_regions : (b : Bounds) (bs : List Bounds) (t : Bool) → t ≡ false → cond t (b ∷ bs) [] ≡ []
no_regions b bs true e = absurd (false≢true (sym e))
no_regions b bs false e = refl

pub over_in_box : (p : Program) (f : Front) → IsOver p f → f.live ≡ true → IsInBox p (bounds_of f.region)
over_in_box p f h e = (live_in_box p (bounds_of f.region) (pending (bounds_of f.region) (reverse f.trail.items)) f.live e h.in_box).0

pub regions_live : (f : Front) → f.live ≡ true → regions_of f ≡ bounds_of f.region ∷ pending (bounds_of f.region) (reverse f.trail.items)
regions_live f e = live_regions (bounds_of f.region) (pending (bounds_of f.region) (reverse f.trail.items)) f.live e

pub regions_end : (f : Front) → f.live ≡ false → regions_of f ≡ []
regions_end f e = no_regions (bounds_of f.region) (pending (bounds_of f.region) (reverse f.trail.items)) f.live e

sides_in_box : (p : Program) (b : Bounds) (m : Mark) (bs : List Bounds) → IsInBox p b → HasSides b m → AreInBox p bs → AreInBox p (sides_before b m bs)
sides_in_box p b (Split j at licence) bs i h r = (high_in_box p b j at i h.1 h.2, (low_in_box p b j at i h.1 h.2, r))
sides_in_box p b (Close q ws) bs i h r = r
sides_in_box p b (Whole q ws worth cells) bs i h r = r
sides_in_box p b (Rest q ws) bs i h r = r

pub over_next : (p : Program) (f next : Front) (m : Mark) → IsOver p f → f.live ≡ true → HasSides (bounds_of f.region) m →
    regions_of next ≡ sides_before (bounds_of f.region) m (pending (bounds_of f.region) (reverse f.trail.items)) →
    length next.region.lower.items ≡ length f.region.lower.items → length next.region.upper.items ≡ length f.region.upper.items → All (λ (t : Turn). t.column < length next.region.lower.items) next.trail.items → IsOver p next
over_next p f next m h e s r l u c =
    let i = live_in_box p (bounds_of f.region) (pending (bounds_of f.region) (reverse f.trail.items)) f.live e h.in_box in
    record {
      in_box = subst (AreInBox p) (sym r) (sides_in_box p (bounds_of f.region) m (pending (bounds_of f.region) (reverse f.trail.items)) i.0 s i.1);
      lower = l ∙ h.lower;
      upper = u ∙ h.upper;
      columns = c;
    }

box_in_box : (p : Program) → IsFit p → IsInBox p (box_of p)
box_in_box p f = record { lower_count = f.lower_count; upper_count = f.upper_count; above = λ k l. least _; ordered = f.ordered; below = λ k l. least _ }
  where
    least : (z : ℤ) → z ≤ℤ z
    least z = omega (arith, ints)

over_at : (p : Program) (f : Front) → IsInBox p (bounds_of f.region) → f.trail.items ≡ [] → IsOver p f
over_at p f i e = record {
  in_box = by_live f.live;
  lower = i.lower_count;
  upper = i.upper_count;
  columns = subst (All (λ (t : Turn). t.column < length f.region.lower.items)) (sym e) (All-nil (λ (t : Turn). t.column < length f.region.lower.items));
}
  where
    by_live : (t : Bool) → AreInBox p (cond t (bounds_of f.region ∷ pending (bounds_of f.region) (reverse f.trail.items)) [])
    by_live true = (i, subst (λ (ts : List Turn). AreInBox p (pending (bounds_of f.region) (reverse ts))) (sym e) tt)
    by_live false = tt

pub over_first : (p : Program) (f : Front) → IsFit p → bounds_of f.region ≡ box_of p → f.trail.items ≡ [] → IsOver p f
over_first p f fit b e = over_at p f (subst (IsInBox p) (sym b) (box_in_box p fit)) e

pub regions_first : (p : Program) (f : Front) → bounds_of f.region ≡ box_of p → f.live ≡ true → f.trail.items ≡ [] → regions_of f ≡ box_of p ∷ []
regions_first p f b e t =
    regions_live f e
    ∙ ap (λ (ts : List Turn). bounds_of f.region ∷ pending (bounds_of f.region) (reverse ts)) t
    ∙ ap (λ (x : Bounds). x ∷ []) b
