use Rattle.std.proofs.Common.{◌<◌, ◌^◌, ap, arith, length, subst}
use Rattle.tetri_cert.specs.declared.certificate.Certificate.TheVariants.{Tops}
use Rattle.tetri_judge.specs.Places.{place_of}
use Rattle.tetri_judge.proofs.PlaceLemmas.{plan_first}
use Rattle.tetri_report.specs.Block.{headed}
use Rattle.tetri_judge.proofs.places.place_of.Goals as goal

pub plan_place_behind-plan-requires : goal.plan_place_behind-plan-requires
plan_place_behind-plan-requires c = omega (arith, plan_first (headed c.args.head.now (Tops 0 0)) c.args.verdict, c.requires (Tops 0 0))

pub overflow_add-result : goal.overflow_add-result
overflow_add-result c =
    let few = subst (λ v. place_of (headed c.args.head.now (Tops 0 0)) v < 2 ^ 64) c.in-Unlawful.is (c.requires (Tops 0 0)) in
    omega (arith, few, c.plan_place_behind-plan.ensures, ap length c.as_slice.ensures)

pub overflow_add-result-in-Unlawful : goal.overflow_add-result-in-Unlawful
overflow_add-result-in-Unlawful c =
    let few = subst (λ v. place_of (headed c.args.head.now (Tops 0 0)) v < 2 ^ 64) c.in-Unlawful.is (c.requires (Tops 0 0)) in
    omega (arith, few, c.plan_place_behind-plan.ensures, ap length c.as_slice.ensures)

pub overflow_add-result-in-WasteGrant : goal.overflow_add-result-in-WasteGrant
overflow_add-result-in-WasteGrant c =
    let few = subst (λ v. place_of (headed c.args.head.now (Tops 0 0)) v < 2 ^ 64) c.in-WasteGrant.is (c.requires (Tops 0 0)) in
    omega (arith, few, c.plan_place_behind-plan.ensures, ap length c.as_slice.ensures)

pub overflow_add-result-in-WasteGrant-2 : goal.overflow_add-result-in-WasteGrant-2
overflow_add-result-in-WasteGrant-2 c =
    let few = subst (λ v. place_of (headed c.args.head.now (Tops 0 0)) v < 2 ^ 64) c.in-WasteGrant.is (c.requires (Tops 0 0)) in
    omega (arith, few, c.plan_place_behind-plan.ensures, ap length c.as_slice.ensures)

pub overflow_add-result-in-BadTree : goal.overflow_add-result-in-BadTree
overflow_add-result-in-BadTree c =
    let few = subst (λ v. place_of (headed c.args.head.now (Tops 0 0)) v < 2 ^ 64) c.in-BadTree.is (c.requires (Tops 0 0)) in
    omega (arith, few, c.plan_place_behind-plan.ensures, ap length c.as_slice.ensures)

pub overflow_add-result-in-BadTree-2 : goal.overflow_add-result-in-BadTree-2
overflow_add-result-in-BadTree-2 c =
    let few = subst (λ v. place_of (headed c.args.head.now (Tops 0 0)) v < 2 ^ 64) c.in-BadTree.is (c.requires (Tops 0 0)) in
    omega (arith, few, c.plan_place_behind-plan.ensures, ap length c.as_slice.ensures)

pub overflow_add-result-in-BadTree-3 : goal.overflow_add-result-in-BadTree-3
overflow_add-result-in-BadTree-3 c =
    let few = subst (λ v. place_of (headed c.args.head.now (Tops 0 0)) v < 2 ^ 64) c.in-BadTree.is (c.requires (Tops 0 0)) in
    omega (arith, few, c.plan_place_behind-plan.ensures, ap length c.as_slice.ensures)

pub overflow_add-result-in-Past : goal.overflow_add-result-in-Past
overflow_add-result-in-Past c =
    let few = subst (λ v. place_of (headed c.args.head.now (Tops 0 0)) v < 2 ^ 64) c.in-Past.is (c.requires (Tops 0 0)) in
    omega (arith, few, c.plan_place_behind-plan.ensures, ap length c.as_slice.ensures)

pub overflow_add-result-in-Past-2 : goal.overflow_add-result-in-Past-2
overflow_add-result-in-Past-2 c =
    let few = subst (λ v. place_of (headed c.args.head.now (Tops 0 0)) v < 2 ^ 64) c.in-Past.is (c.requires (Tops 0 0)) in
    omega (arith, few, c.plan_place_behind-plan.ensures, ap length c.as_slice.ensures)

pub overflow_add-result-in-Past-3 : goal.overflow_add-result-in-Past-3
overflow_add-result-in-Past-3 c =
    let few = subst (λ v. place_of (headed c.args.head.now (Tops 0 0)) v < 2 ^ 64) c.in-Past.is (c.requires (Tops 0 0)) in
    omega (arith, few, c.plan_place_behind-plan.ensures, ap length c.as_slice.ensures)
