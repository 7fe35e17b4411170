-- The computed ratios, and what they say.
use Rattle.std.proofs.Common.{◌≡◌, refl, sym, ◌∙◌, ap, subst, subst₂, ℕ, ◌/◌, ◌%◌, ◌<◌, Bool, true, false, neg_ℤ, pos, List, [], flat_map, map, length, slice_get, Option, Some, None, All, MatchOption, if◌then◌else◌}
use Rattle.std.proofs.lemmas.List.{length-map}
use Rattle.std.proofs.lemmas.List.Elements.{All-get_or}
use Rattle.std.proofs.lemmas.Nat.{div-mul-add, mod-mul-add}
use Rattle.std.proofs.lemmas.Option.{get_or_from_slice_get, same_Some, slice_get_within}
use Rattle.lam_fraction.specs.Fraction.{ℚ, whole, ◌≤ℚ◌, ◌<ℚ◌}
use Rattle.lam_stock.specs.declared.item.Item.{Item}
use Rattle.lam_stock.specs.declared.item.ItemNo.{ItemNo}
use Rattle.lam_stock.specs.declared.scale.Scale.{Scale}
use Rattle.lam_stock.specs.Scale.{scale_of}
use Rattle.lam_job.specs.Design.{InRangeForAll}
use Rattle.lam_job.specs.JobData.{CaseData, JobData, PanelData}
use Rattle.lam_job.specs.LoadOf.{load_of}
use Rattle.lam_job.specs.LoadRange.{LoadInRange}
use Rattle.lam_job.specs.Plate.{PanelAtLeast}
use Rattle.lam_job.specs.Ranges.{IsJob, IsPanel}
use Rattle.lam_job.specs.Rules.{Fit}
use Rattle.lam_job.specs.Schedule.{items_of, wall_of}
use Rattle.lam_job.specs.Strength.{PlyRatio}
use Rattle.lam_job.specs.Wall.{placed_plies, wall_thickness}
use Rattle.lam_job.proofs.Listed.{items_of-length}
use Rattle.lam_number.specs.declared.fix.Fix.{Fix}
use Rattle.lam_wall.specs.declared.wall.Wall.{Wall}
use Rattle.lam_wall.proofs.Assembled.{narrow-wall, stands-for}
use Rattle.lam_sharp.specs.NearOne.{past_ratio}
use Rattle.lam_sharp.specs.SharpRatios.{HasSharpPanel, HasSharpRatio}
use Rattle.lam_plate.specs.NearFactor.{IsFine}
use Rattle.lam_plate.specs.Panels.{BucklesBelow, wall_numbers}
use Rattle.lam_plate.proofs.PanelFacts.{wall-same}
use Rattle.lam_plate.proofs.PrintedFacts.{printed-stands}
use Rattle.lam_plate.proofs.near.NearPanels.{past as panel-past}
use Rattle.lam_judge.specs.Printed.{ArePrinted, HavePanelRatios, Printed}
use Rattle.lam_judge.specs.declared.layup.Laid.{Laid}
use Rattle.lam_judge.specs.declared.layup.Layup.{Layup}
use Rattle.lam_judge.specs.inside.Judged.{matrices}
use Rattle.lam_judge.specs.inside.Kept.{is_fit}
use Rattle.lam_judge.specs.inside.Layups.{IsLaid, IsLayupOf}
use Rattle.lam_judge.specs.inside.Ratios.{case_ratios, panel_ratio, ply_ratio, printed}
use Rattle.lam_judge.specs.inside.Scales.{fine}
use Rattle.lam_judge.proofs.Kept.{fit-decides}
use Rattle.lam_judge.proofs.PlacedPlies.{placed-length}
use Rattle.lam_judge.proofs.WallsLaid.{fine-laws}
use Rattle.lam_judge.proofs.truth.PrintedTruth.{flat-at, flat-length, map-at, ply-ends, ply-printed}

module _ (stock : List Item) (job : JobData) (listed : List ItemNo) (l : Layup) (is : IsLayupOf stock l) (numbers : l.plies ≡ wall_numbers job listed) where
  abbrev wall : List Item
  wall = items_of stock l.plies

  same : wall ≡ wall_of stock job listed
  same = ap (items_of stock) numbers ∙ wall-same stock job listed

  plies-number : length l.plies ≡ length wall
  plies-number = sym (items_of-length stock l.plies is.plies.known)

  -- ---- the value

  -- with some ratios of panels, or none
  abbrev pub printed_with : List Item → Option (List ℕ) → Printed
  printed_with w panels = record { plies = length w; ratios = flat_map (case_ratios (scale_of stock) w) job.cases; panels = panels }

  abbrev panels_of : List Item → List ℕ
  panels_of w = map (panel_ratio fine (scale_of stock).q0 (matrices fine (scale_of stock) w)) job.panels

  printed-is : printed stock job listed ≡ printed_with (wall_of stock job listed) (if is_fit stock job listed then Some (panels_of (wall_of stock job listed)) else None)
  unfolding printed
  printed-is = refl

  fit-is : (b : Bool) → is_fit stock job listed ≡ b → printed_with wall (if b then Some (panels_of wall) else None) ≡ printed stock job listed
  fit-is b e = (λ i. printed_with (same i) (if sym e i then Some (panels_of (same i)) else None)) ∙ sym printed-is

  unfit : ¬ Fit stock job listed → (b : Bool) → is_fit stock job listed ≡ b → b ≡ false
  unfit not true e = absurd (not ((fit-decides stock job listed).0 e))
  unfit not false e = refl

  pub fit-printed : {laid : Laid (Fix 60)} → IsLaid fine stock l.plies laid → Fit stock job listed
      → printed_with wall (Some (map (panel_ratio fine (scale_of stock).q0 laid.wall) job.panels)) ≡ printed stock job listed
  fit-printed made fit = ap (λ w. printed_with wall (Some (map (panel_ratio fine (scale_of stock).q0 w) job.panels))) made.wall ∙ fit-is true ((fit-decides stock job listed).1 fit)

  pub unfit-printed : ¬ Fit stock job listed → printed_with wall None ≡ printed stock job listed
  unfit-printed not = fit-is false (unfit not (is_fit stock job listed) refl)

  -- as the calls are made
  pub cases-printed : (number : ℕ) (cases : List CaseData) (start room : Printed) → number ≡ length l.plies → cases ≡ job.cases → start ≡ record { plies = number; ratios = []; panels = None }
      → room ≡ record start { ratios = flat_map (case_ratios (scale_of stock) wall) cases } → room ≡ printed_with wall None
  cases-printed number cases start room n c is_start is =
      is ∙ (λ i. record (is_start i) { ratios = flat_map (case_ratios (scale_of stock) wall) (c i) }) ∙ (λ i. record { plies = (n ∙ plies-number) i; ratios = flat_map (case_ratios (scale_of stock) wall) job.cases; panels = None })

  pub panels-printed : (w : Wall (Fix 60)) (scale : Scale) (panels : List PanelData) (room begun done : Printed) → room ≡ printed_with wall None → begun ≡ record room { panels = Some [] } → scale ≡ scale_of stock → panels ≡ job.panels
      → done ≡ record begun { panels = Some (map (panel_ratio fine scale.q0 w) panels) } → done ≡ printed_with wall (Some (map (panel_ratio fine (scale_of stock).q0 w) job.panels))
  panels-printed w scale panels room begun done is_room is_begun s p is =
      is
      ∙ (λ i. record (is_begun i) { panels = Some (map (panel_ratio fine (s i).q0 w) (p i)) })
      ∙ (λ i. record (is_room i) { panels = Some (map (panel_ratio fine (scale_of stock).q0 w) job.panels) })

  -- the loads are in range
  pub layup-in-range : InRangeForAll stock job listed → All (λ c. LoadInRange (scale_of stock).floor l.h (load_of c.kind)) job.cases
  layup-in-range range = subst (λ h. All (λ c. LoadInRange (scale_of stock).floor h (load_of c.kind)) job.cases) (sym (is.thickness ∙ ap wall_thickness same)) range

  -- ---- what it says

  module _ (is_job : IsJob job) (range : InRangeForAll stock job listed) where
    in_range : All (λ c. LoadInRange (scale_of stock).floor (wall_thickness wall) (load_of c.kind)) job.cases
    in_range = subst (λ w. All (λ c. LoadInRange (scale_of stock).floor (wall_thickness w) (load_of c.kind)) job.cases) (sym same) range

    case-length : (c : CaseData) → length (case_ratios (scale_of stock) wall c) ≡ length wall
    case-length c = length-map (placed_plies wall) (ply_ratio (scale_of stock) wall (load_of c.kind)) ∙ placed-length (neg_ℤ (wall_thickness wall)) wall

    ratio-said : (i r : ℕ) → slice_get (flat_map (case_ratios (scale_of stock) wall) job.cases) i ≡ Some r → HasSharpRatio stock job listed (i / length wall) (i % length wall) r
    ratio-said i r e =
        let a = flat-at (case_ratios (scale_of stock) wall) (length wall) case-length job.cases i r e in
        let ply = map-at (ply_ratio (scale_of stock) wall (load_of a.item.kind)) (placed_plies wall) a.place r a.of in
        let case : i / length wall ≡ a.element = ap (λ n. n / length wall) a.is ∙ div-mul-add a.element (length wall) a.place a.within in
        let place : i % length wall ≡ a.place = ap (λ n. n % length wall) a.is ∙ mod-mul-add a.element (length wall) a.place a.within in
        let here = subst (λ c. LoadInRange (scale_of stock).floor (wall_thickness wall) (load_of c.kind)) (get_or_from_slice_get job.cases a.element a.item a.item a.at)
        (All-get_or (λ c. LoadInRange (scale_of stock).floor (wall_thickness wall) (load_of c.kind)) job.cases a.element a.item (slice_get_within job.cases a.element a.item a.at) in_range) in
        let ratio = subst (λ n. PlyRatio wall (load_of a.item.kind) a.place (whole (pos n))) (sym ply.2) (ply-printed is.plies (load_of a.item.kind) here a.place ply.0 ply.1) in
        let ends = subst (λ (n : ℕ). n < 20000 → ¬ PlyRatio wall (load_of a.item.kind) a.place (past_ratio (pos n))) (sym ply.2) (ply-ends is.plies (load_of a.item.kind) here a.place ply.0 ply.1) in
        subst₂ (λ k j. HasSharpRatio stock job listed k j r) (sym case) (sym place) (record {
          least = λ c at. subst (λ x. PlyRatio (wall_of stock job listed) (load_of x.kind) a.place (whole (pos r))) (same_Some a.item c (sym a.at ∙ at)) (subst (λ w. PlyRatio w (load_of a.item.kind) a.place (whole (pos r))) same ratio);
          most = λ of_case of_ply less past. ends less (subst (λ w. PlyRatio w (load_of a.item.kind) a.place (past_ratio (pos r))) (sym same) (past a.item a.at));
        })

    not_both : {x y : ℚ} → x <ℚ y → ¬ (y ≤ℚ x)
    not_both less order = let n : false ≡ true = sym less.lt ∙ order.le in cc

    panel-said : (k r : ℕ) → slice_get (panels_of wall) k ≡ Some r → HasSharpPanel stock job listed k r
    unfolding panel_ratio
    panel-said k r e =
        let a = map-at (panel_ratio fine (scale_of stock).q0 (matrices fine (scale_of stock) wall)) job.panels k r e in
        let kept : IsPanel a.0 = subst IsPanel (get_or_from_slice_get job.panels k a.0 a.0 a.1) (All-get_or IsPanel job.panels k a.0 (slice_get_within job.panels k a.0 a.1) is_job.panels) in
        let stands = printed-stands fine-laws (stands-for fine-laws is.plies) a.0 kept in
        let narrow : IsFine fine (matrices fine (scale_of stock) wall) = record { scale = refl; narrow = (narrow-wall fine-laws is.plies).d } in
        let buckles = subst (λ (n : ℕ). n < 20000 → BucklesBelow wall a.0 (past_ratio (pos n))) (sym a.2) (panel-past fine-laws narrow (stands-for fine-laws is.plies) a.0 kept) in
        record {
          least = λ p at. subst (λ x. PanelAtLeast (wall_of stock job listed) x (whole (pos r))) (same_Some a.0 p (sym a.1 ∙ at))
              (subst (λ w. PanelAtLeast w a.0 (whole (pos r))) same (subst (λ n. PanelAtLeast wall a.0 (whole (pos n))) (sym a.2) stands));
          most = λ of_panel less past. (
              let below = buckles less in
              not_both below.2 (subst (λ w. PanelAtLeast w a.0 (past_ratio (pos r))) (sym same) (past a.0 a.1) below.0 below.1));
        }

    panels-said : (b : Bool) → is_fit stock job listed ≡ b → MatchOption (if b then Some (panels_of wall) else None) (¬ Fit stock job listed) (λ ratios. Fit stock job listed × HavePanelRatios stock job listed ratios)
    panels-said true e = (
      (fit-decides stock job listed).0 e,
      record { number = length-map job.panels (panel_ratio fine (scale_of stock).q0 (matrices fine (scale_of stock) wall)); each = panel-said },
    )
    panels-said false e = λ fit. let t = (fit-decides stock job listed).1 fit in let n : false ≡ true = sym e ∙ t in absurd (cc)

    with-said : (b : Bool) → is_fit stock job listed ≡ b → ArePrinted stock job listed (printed_with wall (if b then Some (panels_of wall) else None))
    with-said b e = record {
      plies = ap length same;
      number = flat-length (case_ratios (scale_of stock) wall) (length wall) case-length job.cases;
      ratios = ratio-said;
      panels = panels-said b e;
    }

    pub printed-said : ArePrinted stock job listed (printed stock job listed)
    printed-said = subst (ArePrinted stock job listed) (fit-is (is_fit stock job listed) refl) (with-said (is_fit stock job listed) refl)
