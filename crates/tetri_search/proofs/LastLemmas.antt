-- The point of the last mark that has one.
use Rattle.std.proofs.Common.{◌≡◌, ℕ, ◌+◌, ◌-◌, ◌<◌, ◌≤◌, refl, sym, ap, ◌∙◌, subst, arith, List, [], ◌∷◌, length, get_or, drop, Option, Some, None}
use Prim.Native.Nat.{zero, suc}
use Rattle.std.specs.Prelude.{IfSome, MatchOption, option_map}
use Rattle.std.specs.Global.{Vec}
use Rattle.std.proofs.Math.Seq.{drop-cons}
use lib.IntN.{ℤ, pos}
use Rattle.tetri_ip.specs.declared.programs.Program.{Program}
use Rattle.tetri_ip.specs.declared.programs.Weight.{Weight}
use Rattle.tetri_ip.specs.Points.{IsPoint, box_of, objective}
use Rattle.tetri_cert.specs.declared.marks.Cell.{Cell}
use Rattle.tetri_cert.specs.declared.marks.Mark.{Mark}
use Rattle.tetri_cert.specs.declared.marks.Mark.TheVariants.{Whole}
use Rattle.tetri_cert.specs.Cells.{AreOfColumns, point_of}
use Rattle.tetri_search.specs.Follow.{last_or, last_whole}
use Rattle.tetri_search.specs.Laws.{IsBestPoint}
use Rattle.tetri_search.specs.Nodes.{AreWholePoints}
use Rattle.tetri_search.proofs.ProperLemmas.{last_is_point}

pub last_here : (ms : List Mark) (i : ℕ) (m : Mark) → i < length ms → m ≡ get_or ms i m → last_whole (drop (i + 1) ms) ≡ None → last_whole (drop i ms) ≡ last_or None m
last_here ms i m l e h =
    let s : suc i ≡ i + 1 = omega arith in
    ap last_whole (drop-cons ms i m l)
    ∙ ap (λ (x : Mark). last_or (last_whole (drop (suc i) ms)) x) (sym e)
    ∙ ap (λ k. last_or (last_whole (drop k ms)) m) s
    ∙ ap (λ (o : Option (List Cell)). last_or o m) h

pub last_of_all : (ms : List Mark) (i : ℕ) (cells : List Cell) → last_whole (drop i ms) ≡ Some cells → last_whole ms ≡ Some cells
last_of_all [] zero cells e = e
last_of_all [] (suc i) cells e = e
last_of_all (m ∷ ms) zero cells e = e
last_of_all (m ∷ ms) (suc i) cells e = ap (λ (o : Option (List Cell)). last_or o m) (last_of_all ms i cells e)

-- the mark before a place, where none behind it has a point
pub last_before : (ms : List Mark) (i : ℕ) (m : Mark) (q : ℤ) (ws : List Weight) (worth : ℤ) (cells : List Cell) → 0 < i → i ≤ length ms → m ≡ get_or ms (i - 1) m → m ≡ Whole q ws worth cells → last_whole (drop i ms) ≡ None → last_whole ms ≡ Some cells
last_before ms i m q ws worth cells h l e w n =
    let s : (i - 1) + 1 ≡ i = omega arith in
    last_of_all ms (i - 1) cells
    (last_here ms (i - 1) m (omega arith) e (ap (λ k. last_whole (drop k ms)) s ∙ n) ∙ ap (λ (x : Mark). last_or None x) w)

pub last_columns : (p : Program) (n : ℕ) (ms : List Mark) (cells : List Cell) → n ≡ length p.costs.items → AreWholePoints p ms → last_whole ms ≡ Some cells → AreOfColumns n cells
last_columns p n ms cells e w h = subst (λ k. AreOfColumns k cells) (sym e) (last_is_point p ms cells w h).0

pub last_in_box : (p : Program) (n : ℕ) (ms : List Mark) (o : Option (Vec ℤ)) → n ≡ length p.costs.items → AreWholePoints p ms → option_map (λ (v : Vec ℤ). v.items) o ≡ option_map (point_of n) (last_whole ms) → IfSome o (λ v. IsPoint p (box_of p) v.items)
last_in_box p n ms None e w h = tt
last_in_box p n ms (Some v) e w h = by_last (last_whole ms) refl h
  where
    by_last : (x : Option (List Cell)) → last_whole ms ≡ x → Some v.items ≡ option_map (point_of n) x → IsPoint p (box_of p) v.items
    by_last None f g = cc
    by_last (Some cells) f g =
        let k : v.items ≡ point_of n cells = cc in
        subst (IsPoint p (box_of p)) (sym (k ∙ ap (λ i. point_of i cells) e)) (last_is_point p ms cells w f).1

pub last_worth : (p : Program) (n low known : ℕ) (ms : List Mark) (o : Option (Vec ℤ)) → n ≡ length p.costs.items → IsBestPoint p low (last_whole ms) known → option_map (λ (v : Vec ℤ). v.items) o ≡ option_map (point_of n) (last_whole ms) → MatchOption o (known ≡ low) (λ v. pos known ≡ objective p v.items)
last_worth p n low known ms o e w h = by_last (last_whole ms) o w h
  where
    by_last : (x : Option (List Cell)) (y : Option (Vec ℤ)) → IsBestPoint p low x known → option_map (λ (v : Vec ℤ). v.items) y ≡ option_map (point_of n) x → MatchOption y (known ≡ low) (λ v. pos known ≡ objective p v.items)
    by_last None None g k = g
    by_last None (Some v) g k = cc
    by_last (Some cells) None g k = cc
    by_last (Some cells) (Some v) g k =
        let i : v.items ≡ point_of n cells = cc in
        g ∙ ap (λ j. objective p (point_of j cells)) (sym e) ∙ ap (objective p) (sym i)
