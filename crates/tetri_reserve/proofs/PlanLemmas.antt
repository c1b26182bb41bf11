-- What is planned for wanted jobs.
use Rattle.std.proofs.Common.{◌≡◌, ◌⊎◌, ℕ, ◌-◌, ◌<◌, true, List, [], ◌∷◌, ◌++◌, length, map, take, inl, inr, sym, ap, ◌∙◌, subst, arith}
use Rattle.std.proofs.lemmas.List.{length-map, length_push, map_push, take-map, take_at}
use Rattle.tetri_cert.specs.declared.certificate.Certificate.{Certificate}
use Rattle.tetri_cert.specs.declared.certificate.Certificate.TheVariants.{Tops, Tree}
use Rattle.tetri_cert.specs.declared.plan_mark.PlanMark.TheVariants.{Optimal, Spent, Wide}
use Rattle.tetri_strl.specs.declared.grants.Grant.{Grant}
use Rattle.tetri_space.specs.declared.instance.Offer.{Offer}
use Rattle.tetri_space.specs.Sound.{IsSound}
use Rattle.tetri_space.specs.Space.{Bid, Space, bid}
use Rattle.tetri_space.specs.Total.{total_in}
use Rattle.tetri_claims.specs.Certified.{IsCutShort}
use Rattle.tetri_claims.specs.Good.{IsGood}
use Rattle.tetri_claims.specs.Planned.{Planned}
use Rattle.tetri_compile.specs.Flat.{column_count, row_count}
use Rattle.tetri_plan.specs.Chosen.{IsChosen, IsEarnedFor, kept}
use Rattle.tetri_plan.specs.Plans.{leaves_open, planned_of}
use Rattle.tetri_plan.specs.declared.planning.Plan.{Plan}
use Rattle.tetri_plan.proofs.PlanLaws.{carried_worth}
use Rattle.tetri_reserve.specs.Answers.{IsPlanOf, IsShort}
use Rattle.tetri_reserve.specs.Wanted.{wanted_bid, with_bid}

cut_mark : (budget : ℕ) (p : Planned) (c : Certificate) → IsCutShort budget c p → (p.mark ≡ Spent) ⊎ (p.mark ≡ Wide)
cut_mark budget p (Tops columns rows) cut = inr cut
cut_mark budget p (Tree marks) cut = inl cut.0

-- what is asked of a chosen plan
pub record IsChosenPlan (s : Space) (carry : List Grant) (budget : ℕ) (p : Plan) : Type 0 where
  pub good : IsGood s (total_in s carry) (planned_of p)
  pub chosen : IsChosen s carry [] budget (planned_of p)
  pub low : p.low ≡ total_in s (kept s carry [])
  pub spent : p.mark ≡ Spent → (p.value < p.bound) × (leaves_open p.certificate ≡ true) × (p.nodes ≡ budget)
  pub wide : p.mark ≡ Wide → (p.value < p.bound) × ((2000 < column_count s) ⊎ (2000 < row_count s))
  pub unheard : p.heard.items ≡ []

pub plan_is_of : (s : Space) (carry : List Grant) (budget : ℕ) (p : Plan) → IsSound s → IsChosenPlan s carry budget p → IsPlanOf s carry budget p
plan_is_of s carry budget p sound is = record {
  good = is.good;
  chosen = is.chosen;
  low = is.low ∙ carried_worth s sound carry;
  earned = subst (λ n. IsEarnedFor s n budget p.certificate) (carried_worth s sound carry) is.chosen.earned;
  short = λ lt. by_mark lt is.chosen.certified.mark;
  unheard = is.unheard;
}
  where
    short_by : (p.mark ≡ Spent) ⊎ (p.mark ≡ Wide) → IsShort s budget p
    short_by (inl e) = let h = is.spent e in inl (e, h.1, h.2)
    short_by (inr e) = let h = is.wide e in inr (e, h.1)

    by_mark : p.value < p.bound → (p.mark ≡ Optimal) ⊎ IsCutShort budget p.certificate (planned_of p) → IsShort s budget p
    by_mark lt (inl optimal) = absurd (omega (arith, lt, is.good.honest.optimal.0 optimal))
    by_mark lt (inr cut) = short_by (cut_mark budget (planned_of p) p.certificate cut)

-- one more offer
pub bids_more : (s : Space) (os more : List Offer) (o : Offer) (b : Bid) → s.bids ≡ map bid os → more ≡ os ++ o ∷ [] → bid o ≡ wanted_bid b →
    record s { bids = map bid more } ≡ with_bid s b
bids_more s os more o b are made is =
    ap {B = Space} (λ (bs : List Bid). record s { bids = bs })
    (ap (map bid) made ∙ map_push bid os o ∙ ap (λ bs. bs ++ bid o ∷ []) (sym are) ∙ ap (λ c. s.bids ++ c ∷ []) is)

-- and without it again
pub bids_fewer : (s : Space) (old : Space) (b : Bid) (os fewer : List Offer) (n : ℕ) → old.bids ≡ map bid os → old ≡ with_bid s b → n ≡ length os →
    fewer ≡ take (n - 1) os → record old { bids = map bid fewer } ≡ s
bids_fewer s old b os fewer n are is count made =
    let bids : old.bids ≡ s.bids ++ wanted_bid b ∷ [] = ap (λ (x : Space). x.bids) is in
    let long : n - 1 ≡ length s.bids = omega (arith, count, length-map os bid, ap length are, ap length bids, length_push s.bids (wanted_bid b)) in
    ap {B = Space} (λ (bs : List Bid). record old { bids = bs })
    (ap (map bid) made ∙ sym (take-map bid (n - 1) os) ∙ ap (take (n - 1)) (sym are ∙ bids) ∙ take_at s.bids (wanted_bid b ∷ []) (n - 1) (sym long))
    ∙ ap {B = Space} (λ (x : Space). record x { bids = s.bids }) is
