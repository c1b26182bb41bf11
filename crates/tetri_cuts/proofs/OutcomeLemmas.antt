-- What the outcome of a run over the whole box says.
use Rattle.std.proofs.Common.{◌≡◌, ℕ, sym, ap, ◌∙◌, subst, List, Some, None}
use Rattle.std.specs.Prelude.{Vec}
use Rattle.std.specs.Global.{Global}
use lib.IntN.{ℤ}
use Rattle.tetri_algebra.specs.Rational.{ℚ}
use Rattle.tetri_num.specs.declared.fractions.Frac.{Frac}
use Rattle.tetri_ip.specs.declared.programs.Program.{Program}
use Rattle.tetri_ip.specs.declared.programs.Weight.{Weight}
use Rattle.tetri_ip.specs.Points.{Bounds, box_of}
use Rattle.tetri_simplex.specs.declared.outcome.Outcome.{Outcome}
use Rattle.tetri_simplex.specs.Certificates.{Certifies, CertifiesBest, CertifiesCut}
use Rattle.tetri_simplex.specs.Ends.{End, best, cut}
use Rattle.tetri_dictionary.specs.Fractions.{values}
use Rattle.tetri_simplex.specs.Machine.{machine}
use Rattle.tetri_simplex.specs.Outcomes.{end_of}
use Rattle.tetri_cuts.specs.Tightening.{PlainRoot, Stops, own_root, root_by, root_run}

-- the best point and its weights, as the code reads them
pub record BestSays (p : Program) (point : List ℚ) (q : ℤ) (ws : List Weight) : Type 0 where
  pub run : root_run p ≡ best point q ws
  pub certified : CertifiesBest p (box_of p) 0 point q ws

pub record CutSays (p : Program) (q : ℤ) (ws : List Weight) : Type 0 where
  pub run : root_run p ≡ cut q ws
  pub certified : CertifiesCut p (box_of p) 0 q ws

same_best : (p : Program) (point other : List ℚ) (q z : ℤ) (ws vs : List Weight) → other ≡ point → z ≡ q → vs ≡ ws → BestSays p point q ws → BestSays p other z vs
same_best p point other q z ws vs e f g h =
    subst (λ x. BestSays p x z vs) (sym e) (subst (λ y. BestSays p point y vs) (sym f) (subst (λ us. BestSays p point q us) (sym g) h))

same_cut : (p : Program) (q z : ℤ) (ws vs : List Weight) → z ≡ q → vs ≡ ws → CutSays p q ws → CutSays p z vs
same_cut p q z ws vs f g h = subst (λ y. CutSays p y vs) (sym f) (subst (λ us. CutSays p q us) (sym g) h)

module _ (p : Program) (b : Bounds) (whole : b ≡ box_of p) (o : Outcome) (ends : end_of o ≡ machine p b 0) (certified : Certifies p b 0 (end_of o)) where
  run_is : root_run p ≡ end_of o
  run_is = sym (ap (λ (x : Bounds). machine p x 0) whole) ∙ sym ends

  whole_certified : Certifies p (box_of p) 0 (end_of o)
  whole_certified = subst (λ (x : Bounds). Certifies p x 0 (end_of o)) whole certified

  pub best_says : (xs : Vec Frac Global) (q z : ℤ) (ws : Vec Weight Global) (us : List Frac) (vs : List Weight) → o ≡ Outcome.Best xs q ws → z ≡ q → us ≡ xs.items → vs ≡ ws.items → BestSays p (values us) z vs
  best_says xs q z ws us vs e f g h =
      same_best p (values xs.items) (values us) q z ws.items vs (ap values g) f h
      (record { run = run_is ∙ ap end_of e; certified = subst (λ x. Certifies p (box_of p) 0 (end_of x)) e whole_certified })

  pub cut_says : (q z : ℤ) (ws : Vec Weight Global) (vs : List Weight) → o ≡ Outcome.Cut q ws → z ≡ q → vs ≡ ws.items → CutSays p z vs
  cut_says q z ws vs e f h =
      same_cut p q z ws.items vs f h
      (record { run = run_is ∙ ap end_of e; certified = subst (λ x. Certifies p (box_of p) 0 (end_of x)) e whole_certified })

  pub no_root_of : (e : End) → end_of o ≡ e → own_root p e ≡ None → None ≡ own_root p (root_run p)
  no_root_of e f g = sym (ap (own_root p) (run_is ∙ f) ∙ g)

  pub stops_of : (e : End) (c : ℕ) → end_of o ≡ e → ((x : List ℚ) (y : ℤ) (vs : List Weight) → e ≡ best x y vs → ⊥) → Stops p c
  stops_of e c f n x y vs goes d least most passes = n x y vs (sym (run_is ∙ f) ∙ goes.run)

pub best_root : (p : Program) (point : List ℚ) (q : ℤ) (ws : List Weight) (r : PlainRoot) → root_run p ≡ best point q ws → r ≡ root_by p q ws → Some r ≡ own_root p (root_run p)
best_root p point q ws r run is = ap (λ (x : PlainRoot). Some x) is ∙ sym (ap (own_root p) run)

pub cut_root : (p : Program) (q : ℤ) (ws : List Weight) (r : PlainRoot) → root_run p ≡ cut q ws → r ≡ root_by p q ws → Some r ≡ own_root p (root_run p)
cut_root p q ws r run is = ap (λ (x : PlainRoot). Some x) is ∙ sym (ap (own_root p) run)

pub cut_stops : (p : Program) (q : ℤ) (ws : List Weight) (c : ℕ) → root_run p ≡ cut q ws → Stops p c
cut_stops p q ws c run x y vs goes d least most passes = let e = sym run ∙ goes.run in cc
