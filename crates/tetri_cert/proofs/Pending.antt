-- The way back, as the last entry goes or comes.
use Rattle.std.proofs.Common.{◌≡◌, ℕ, sym, ap, ◌∙◌, List, [], ◌∷◌, ◌++◌, reverse, get_or, cond, Bool, true, false}
use Rattle.std.specs.Prelude.{slice_set}
use Rattle.std.proofs.lemmas.List.{reverse-append, set-set, set-get_or}
use lib.IntN.{ℤ, pos, ◌+ℤ◌}
use Rattle.tetri_ip.specs.Points.{Bounds}
use Rattle.tetri_cert.specs.declared.turns.Turn.{Turn}
use Rattle.tetri_cert.specs.Turns.{put_back, pending}
use Rattle.tetri_cert.specs.NodeBounds.{high_side, low_side}

pub reverse_last : (ts : List Turn) (t : Turn) → reverse (ts ++ t ∷ []) ≡ t ∷ reverse ts
reverse_last ts t = reverse-append ts (t ∷ [])

pub pending_last : (b : Bounds) (ts : List Turn) (t : Turn) → pending b (reverse (ts ++ t ∷ [])) ≡ cond t.stops (put_back b t ∷ pending (put_back b t) (reverse ts)) (pending (put_back b t) (reverse ts))
pending_last b ts t = ap (pending b) (reverse_last ts t)

pub pending_stops : (b : Bounds) (ts us : List Turn) (t : Turn) → us ≡ ts ++ t ∷ [] → t.stops ≡ true → put_back b t ∷ pending (put_back b t) (reverse ts) ≡ pending b (reverse us)
pending_stops b ts us t e s = sym (ap (λ x. pending b (reverse x)) e ∙ pending_last b ts t ∙ ap (λ (v : Bool). cond v (put_back b t ∷ pending (put_back b t) (reverse ts)) (pending (put_back b t) (reverse ts))) s)

pub pending_passes : (b : Bounds) (ts us : List Turn) (t : Turn) → us ≡ ts ++ t ∷ [] → t.stops ≡ false → pending (put_back b t) (reverse ts) ≡ pending b (reverse us)
pending_passes b ts us t e s = sym (ap (λ x. pending b (reverse x)) e ∙ pending_last b ts t ∙ ap (λ (v : Bool). cond v (put_back b t ∷ pending (put_back b t) (reverse ts)) (pending (put_back b t) (reverse ts))) s)

pub pending_high : (b : Bounds) (ts us : List Turn) (j : ℕ) (at : ℤ) → us ≡ (ts ++ (record { column = j; lower = get_or b.lower j (pos 0); upper = get_or b.upper j (pos 0); stops = false }) ∷ []) ++ (record { column = j; lower = get_or b.lower j (pos 0); upper = at; stops = true }) ∷ [] →
    pending (high_side b j at) (reverse us) ≡ low_side b j at ∷ pending b (reverse ts)
pending_high b ts us j at e =
    let l = get_or b.lower j (pos 0) in
    let u = get_or b.upper j (pos 0) in
    let back : Turn = record { column = j; lower = l; upper = u; stops = false } in
    let low : Turn = record { column = j; lower = l; upper = at; stops = true } in
    let lower_is : slice_set (slice_set b.lower j (at +ℤ pos 1)) j l ≡ b.lower = set-set b.lower j (at +ℤ pos 1) l ∙ set-get_or b.lower j (pos 0) in
    let upper_is : slice_set (slice_set b.upper j at) j u ≡ b.upper = set-set b.upper j at u ∙ set-get_or b.upper j (pos 0) in
    let low_is : put_back (high_side b j at) low ≡ low_side b j at = ap (λ (x : List ℤ). record { lower = x; upper = slice_set b.upper j at }) lower_is in
    let back_is : put_back (low_side b j at) back ≡ b = ap (λ (x : List ℤ). record { lower = x; upper = slice_set (slice_set b.upper j at) j u }) (set-get_or b.lower j (pos 0)) ∙ ap (λ (x : List ℤ). record { lower = b.lower; upper = x }) upper_is in
    ap (λ x. pending (high_side b j at) (reverse x)) e
    ∙ ap (pending (high_side b j at)) (reverse-append (ts ++ back ∷ []) (low ∷ []) ∙ ap (λ x. low ∷ x) (reverse_last ts back))
    ∙ ap (λ x. x ∷ pending x (back ∷ reverse ts)) low_is
    ∙ ap (λ x. low_side b j at ∷ pending x (reverse ts)) back_is
