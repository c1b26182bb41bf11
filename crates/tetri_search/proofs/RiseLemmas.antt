-- The whole points of a search get better, so that the last one is the best.
use Rattle.std.proofs.Common.{◌≡◌, ℕ, ◌<◌, max, refl, sym, ap, ◌∙◌, subst, arith, List, [], ◌∷◌, Bool, true, false, Option, Some, None}
use Rattle.std.specs.Prelude.{nat_lt, ◌<ℤ◌}
use Rattle.std.proofs.lemmas.Bool.{false≢true}
use Rattle.std.proofs.lemmas.Int.{ints}
use lib.IntN.{ℤ, pos, negsuc}
use Rattle.tetri_ip.specs.declared.programs.Program.{Program}
use Rattle.tetri_ip.specs.Points.{IsFit, IsInBox, box_of}
use Rattle.tetri_cert.specs.declared.marks.Cell.{Cell}
use Rattle.tetri_cert.specs.declared.marks.Mark.{Mark}
use Rattle.tetri_cert.specs.declared.marks.Mark.TheVariants.{Split, Close, Whole, Rest}
use Rattle.tetri_cert.proofs.TreeBoundLaws.{IsSound}
use Rattle.tetri_search.specs.Table.{Node, table}
use Rattle.tetri_search.specs.Follow.{Follows, best_after, best_behind, dual_below, last_or, last_whole, natural, open_behind, used_after}
use Rattle.tetri_search.specs.Laws.{IsBestPoint, WholesRise, is_rest}
use Rattle.tetri_search.specs.Nodes.{AreOpen, IsWholePoint}
use Rattle.tetri_search.proofs.MarkLemmas.{rest_is_rest}
use Rattle.tetri_search.proofs.NodeLemmas.{dual_or_is, first_open, mark_sound, open_behind_is, own_dual_is, sound_whole}
use Rattle.tetri_search.proofs.WorkedLemmas.{IsBetter, worked}

rest_better : (known : ℕ) (m : Mark) → is_rest m ≡ true → IsBetter known m
rest_better known (Split j at licence) h = tt
rest_better known (Close q ws) h = tt
rest_better known (Whole q ws worth cells) h = absurd (false≢true h)
rest_better known (Rest q ws) h = tt

mark_better : (t : Bool) (p : Program) (n : Node) (known : ℕ) (m : Mark) → IsFit p → IsInBox p n.region → m ≡ table p n known t → IsBetter known m
unfolding table
mark_better true p n known m f h e = subst (IsBetter known) (sym e) (worked p n.region known f h).better
mark_better false p n known m f h e = rest_better known m (rest_is_rest false p n known m refl e)

greater : (worth : ℤ) (known : ℕ) → pos known <ℤ worth → pos (max known (natural worth)) ≡ worth
greater (pos n) known h = ap pos (let k : known < n = omega (arith, ints) in omega arith)
greater (negsuc n) known h = absurd (omega (arith, ints))

-- one mark before marks without a whole point
best_alone : (p : Program) (known : ℕ) (m : Mark) (b : ℕ) → IsWholePoint p m → IsBetter known m → b ≡ best_after known m → IsBestPoint p known (last_or None m) b
best_alone p known (Split j at licence) b w h e = e
best_alone p known (Close q ws) b w h e = e
best_alone p known (Whole q ws worth cells) b w h e = ap pos e ∙ greater worth known h ∙ w.2
best_alone p known (Rest q ws) b w h e = e

best_before : (p : Program) (known : ℕ) (m : Mark) (o : Option (List Cell)) (b : ℕ) → IsWholePoint p m → IsBetter known m → IsBestPoint p (best_after known m) o b → IsBestPoint p known (last_or o m) b
best_before p known m None b w h i = best_alone p known m b w h i
best_before p known m (Some cells) b w h i = i

rise_from : (p : Program) (budget : ℕ) → IsFit p → (ns : List Node) (known used : ℕ) (ms : List Mark) → AreOpen p ns → Follows p budget (record { open_nodes = ns; known = known; used = used }) ms → IsBestPoint p known (last_whole ms) (best_behind known ms)
rise_from p budget f ns known used [] a w = refl
rise_from p budget f [] known used (m ∷ ms) a w = absurd w.0
rise_from p budget f (n ∷ ns) known used (m ∷ ms) a w =
    let d = dual_below p n known in
    let t = nat_lt used budget in
    let s : IsSound p n.region m = subst (IsSound p n.region) (sym w.0) (mark_sound p n known t f a.0 a.1) in
    let next = open_behind_is p n ns d m a.0 a.2 (dual_or_is p _ n.dual (own_dual_is p n.region known a.0) a.1) s in
    let r = rise_from p budget f (open_behind n d m ns) (best_after known m) (used_after used m) ms next w.1 in
    best_before p known m (last_whole ms) (best_behind (best_after known m) ms) (sound_whole p n.region m a.0 s) (mark_better t p n known m f a.0 w.0) r

pub wholes_rise : WholesRise
wholes_rise p low budget ms f e = rise_from p budget f (record { region = box_of p; dual = None } ∷ []) low 0 ms (first_open p f) e.follows
