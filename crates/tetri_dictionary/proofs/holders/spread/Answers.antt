use Rattle.std.proofs.Common.{◌<◌, ◌+◌, ◌≢◌, ℕ, List, length, get_or, sym, subst, inl, inr, ⊎_elim}
use Prim.Native.Nat.{suc}
use Rattle.tetri_rows.specs.Terms.{ArePlaces}
use Rattle.tetri_dictionary.proofs.HolderTerms.{places_of, unlisted_zero}
use Rattle.tetri_dictionary.proofs.holders.spread.Goals as goal

pub spread_terms-requires-clause-places : goal.spread_terms-requires-clause-places
spread_terms-requires-clause-places c =
    subst (λ (us : List ℕ). ArePlaces us (length c.args.holders.now + 1)) (sym c.deref.ensures.value)
    (places_of c.args.columns (length c.args.holders.now) c.args.row.now c.in-Whole.den c.in-Whole.numbers c.args.terms.now c.requires.row c.in-Whole.is c.requires.terms c.requires.columns)

pub returns-in-Whole-clause-own : goal.returns-in-Whole-clause-own
returns-in-Whole-clause-own c =
    λ p q m b.
    ⊎_elim
    (λ d. inl (unlisted_zero c.args.columns c.args.row.now c.in-Whole.den c.in-Whole.numbers c.args.terms.now p c.requires.row c.in-Whole.is c.requires.terms m
    (subst (λ (us : List ℕ). (u : ℕ) → u < length us → get_or us u 0 ≢ suc p) c.deref.ensures.value d)))
    (λ z. inr z)
    (c.spread_terms.ensures.own p q b)
