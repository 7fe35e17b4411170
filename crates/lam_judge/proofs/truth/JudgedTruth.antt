-- What a computed judgement says is so.
use Rattle.std.proofs.Common.{◌≡◌, refl, sym, ◌∙◌, ap, subst, ℕ, ◌+◌, true, false, List, slice_get, Some, All, IsSomeAnd, get_or, arith}
use Rattle.std.proofs.lemmas.Int.{ints}
use Rattle.std.proofs.lemmas.List.Elements.{All-get_or}
use Rattle.std.proofs.lemmas.Option.{get_or_from_slice_get, slice_get-get_or, slice_get_within}
use Rattle.lam_fraction.specs.Fraction.{whole}
use Rattle.lam_fraction.proofs.Rationals.{weaken}
use Rattle.lam_number.specs.declared.strength.Verdict.TheVariants as verdict
use Rattle.lam_stock.specs.declared.item.Item.{Item}
use Rattle.lam_stock.specs.declared.item.ItemNo.{ItemNo}
use Rattle.lam_stock.specs.Scale.{scale_of}
use Rattle.lam_stock.specs.Stock.{WithinLimits}
use Rattle.lam_job.specs.Design as design
use Rattle.lam_job.specs.JobData.{CaseData, JobData, PanelData}
use Rattle.lam_job.specs.LoadOf.{load_of}
use Rattle.lam_job.specs.LoadRange.{LoadInRange}
use Rattle.lam_job.specs.Plate.{Buckles, PanelAtLeast}
use Rattle.lam_job.specs.Ranges.{IsCase, IsFactor, IsJob, IsPanel}
use Rattle.lam_job.specs.Rules.{Keeps}
use Rattle.lam_job.specs.Schedule.{items_of, wall_of}
use Rattle.lam_job.specs.Near.{AtPanel, AtPly, Hangs, NearFactor, NearPanel, just_below}
use Rattle.lam_job.specs.Strength.{FailsAt, HasSide, PlyRatio, RatioAt, RatioThere}
use Rattle.lam_job.specs.Wall.{Placed, placed_plies, wall_thickness}
use Rattle.lam_job.proofs.Listed.{items_of-all}
use Rattle.lam_wall.specs.Assembled.{ArePlies}
use Rattle.lam_wall.proofs.Assembled.{narrow-wall, stands-for}
use Rattle.lam_plate.specs.NearFactor.{IsFine}
use Rattle.lam_plate.specs.inside.Formulas as plate
use Rattle.lam_plate.proofs.PanelFacts.{verdict-buckles, verdict-stands}
use Rattle.lam_plate.proofs.near.NearPanels as panels
use Rattle.lam_sharp.specs.NearPlaces.{HardlyAbove, NearOneAt, NearOneThere}
use Rattle.lam_sharp.proofs.Places.{hangs_where_near, hardly_above_stands}
use Rattle.lam_tsai.specs.Levels.{side_of}
use Rattle.lam_tsai.specs.declared.place.Place.{Place}
use Rattle.lam_judge.specs.Judgements.{IsSaid, face_of, place_of}
use Rattle.lam_judge.specs.declared.finding.Finding.{Finding}
use Rattle.lam_judge.specs.declared.finding.Finding.TheVariants.{Clear, Fails, Straddles}
use Rattle.lam_judge.specs.inside.Findings.{is_settled}
use Rattle.lam_judge.specs.inside.Judged.{by_findings, matrices, panel_over, panels_found, place_verdict, plies_found}
use Rattle.lam_judge.specs.inside.Scales.{fine}
use Rattle.lam_judge.proofs.Found as named
use Rattle.lam_judge.proofs.Found.{FoundIn, IsUnsettled, both-clear, both-unsettled, cases-each, found-clear, found-unsettled, panels-each}
use Rattle.lam_judge.proofs.WallsLaid.{fine-laws}
use Rattle.lam_judge.proofs.truth.WallTruth.{place-fails, place-straddles, plies-hardly, ply-ratios}

-- ---- cases and panels by number

case-kept : (P : CaseData → Type 0) (cases : List CaseData) → All P cases → (k : ℕ) (c : CaseData) → slice_get cases k ≡ Some c → P c
case-kept P cases all k c at = subst P (get_or_from_slice_get cases k c c at) (All-get_or P cases k c (slice_get_within cases k c at) all)

panel-kept : (panels : List PanelData) → All IsPanel panels → (k : ℕ) (p : PanelData) → slice_get panels k ≡ Some p → IsPanel p
panel-kept panels all k p at = subst IsPanel (get_or_from_slice_get panels k p p at) (All-get_or IsPanel panels k p (slice_get_within panels k p at) all)

module _ (stock : List Item) (job : JobData) (listed numbers : List ItemNo) (is_job : IsJob job) (plies : ArePlies (scale_of stock) stock numbers)
    (same : items_of stock numbers ≡ wall_of stock job listed) where
  -- ---- plies

  module _ (range : All (λ c. LoadInRange (scale_of stock).floor (wall_thickness (items_of stock numbers)) (load_of c.kind)) job.cases) where
    in_range : (k : ℕ) (c : CaseData) → slice_get job.cases k ≡ Some c → LoadInRange (scale_of stock).floor (wall_thickness (items_of stock numbers)) (load_of c.kind)
    in_range k c at = case-kept (λ c. LoadInRange (scale_of stock).floor (wall_thickness (items_of stock numbers)) (load_of c.kind)) job.cases range k c at

    asked : (k : ℕ) (c : CaseData) → slice_get job.cases k ≡ Some c → IsFactor c.factor
    asked k c at = (case-kept IsCase job.cases is_job.cases k c at).factor

    pub cases-met : plies_found (scale_of stock) (items_of stock numbers) job ≡ Clear → All (λ c. (ply : ℕ) → PlyRatio (wall_of stock job listed) (load_of c.kind) ply (whole c.factor)) job.cases
    cases-met clear = λ k d within.
        let wall = items_of stock numbers in
        let c = get_or job.cases k d in
        let at = slice_get-get_or job.cases k d within in
        let found = cases-each (λ f. f ≡ Clear) both-clear (λ v. v ≡ verdict.Meets) found-clear (place_verdict (scale_of stock) wall) (placed_plies wall) 0 job.cases clear k c at in
        λ ply. subst (λ w. PlyRatio w (load_of c.kind) ply (whole c.factor)) same (ply-ratios plies c (asked k c at) (in_range k c at) (0 + k) found ply)

    failed-there : (at : Place) (k : ℕ) (c : CaseData) (j : ℕ) (p : Placed) → slice_get job.cases k ≡ Some c → slice_get (placed_plies (items_of stock numbers)) j ≡ Some p
        → FoundIn verdict.Fails (0 + k) (0 + j) p.item.kind (place_verdict (scale_of stock) (items_of stock numbers) c p) at → ¬ RatioAt stock job listed (place_of at) (whole c.factor)
    failed-there at k c j p at_case at_ply fails ratio =
        let case : at.case ≡ k = omega (arith, fails.case_is) in
        let ply : at.ply ≡ j = omega (arith, fails.ply_is) in
        let there = ap (slice_get (placed_plies (wall_of stock job listed))) ply ∙ ap (λ w. slice_get (placed_plies w) j) (sym same) ∙ at_ply in
        place-fails plies j p at_ply c (asked k c at_case) (in_range k c at_case) at.face at.side fails.is
        (subst (λ w. RatioThere w (load_of c.kind) p (face_of at.face) (side_of at.side) (whole c.factor)) (sym same) (ratio c (ap (slice_get job.cases) case ∙ at_case) p there fails.has))

    pub place-failed : (at : Place) → plies_found (scale_of stock) (items_of stock numbers) job ≡ Fails at → FailsAt stock job listed (place_of at)
    place-failed at e =
        let wall = items_of stock numbers in
        let of_case = named.cases-found verdict.Fails tt (place_verdict (scale_of stock) wall) (placed_plies wall) 0 job.cases at e in
        let of_ply = named.plies-found verdict.Fails tt (place_verdict (scale_of stock) wall of_case.1) (0 + of_case.0) 0 (placed_plies wall) at of_case.3 in
        let case : at.case ≡ of_case.0 = omega (arith, of_ply.3.case_is) in
        subst (λ o. IsSomeAnd o (λ case. ¬ RatioAt stock job listed (place_of at) (whole case.factor))) (sym (ap (slice_get job.cases) case ∙ of_case.2))
        (failed-there at of_case.0 of_case.1 of_ply.0 of_ply.1 of_case.2 of_ply.2 of_ply.3)

    -- where nothing fails, no value is far above 1
    cases-hardly : IsUnsettled (plies_found (scale_of stock) (items_of stock numbers) job) → All (λ c. HardlyAbove (wall_of stock job listed) (load_of c.kind) c.factor) job.cases
    cases-hardly unsettled = λ k d within.
        let wall = items_of stock numbers in
        let c = get_or job.cases k d in
        let at = slice_get-get_or job.cases k d within in
        let found = cases-each IsUnsettled both-unsettled (λ v. ¬ (v ≡ verdict.Fails)) found-unsettled (place_verdict (scale_of stock) wall) (placed_plies wall) 0 job.cases unsettled k c at in
        subst (λ w. HardlyAbove w (load_of c.kind) c.factor) same (plies-hardly plies c (asked k c at) (in_range k c at) (0 + k) found)

    near-there : (at : Place) (k : ℕ) (c : CaseData) (j : ℕ) (p : Placed) → slice_get job.cases k ≡ Some c → slice_get (placed_plies (items_of stock numbers)) j ≡ Some p
        → FoundIn verdict.Straddles (0 + k) (0 + j) p.item.kind (place_verdict (scale_of stock) (items_of stock numbers) c p) at
        → IsSomeAnd (slice_get (placed_plies (items_of stock numbers)) at.ply)
        (λ q. HasSide q.item.kind (side_of at.side) × NearOneThere (items_of stock numbers) (load_of c.kind) q (face_of at.face) (side_of at.side) c.factor)
    near-there at k c j p at_case at_ply near =
        let wall = items_of stock numbers in
        let ply : at.ply ≡ j = omega (arith, near.ply_is) in
        subst (λ o. IsSomeAnd o (λ q. HasSide q.item.kind (side_of at.side) × NearOneThere wall (load_of c.kind) q (face_of at.face) (side_of at.side) c.factor))
        (sym (ap (slice_get (placed_plies wall)) ply ∙ at_ply))
        (near.has, place-straddles plies j p at_ply c (asked k c at_case) (in_range k c at_case) at.face at.side near.is)

    -- where a place straddles, the value there is near 1
    place-near : (at : Place) → plies_found (scale_of stock) (items_of stock numbers) job ≡ Straddles at → NearOneAt stock job listed (place_of at)
    place-near at e =
        let wall = items_of stock numbers in
        let of_case = named.cases-found verdict.Straddles tt (place_verdict (scale_of stock) wall) (placed_plies wall) 0 job.cases at e in
        let of_ply = named.plies-found verdict.Straddles tt (place_verdict (scale_of stock) wall of_case.1) (0 + of_case.0) 0 (placed_plies wall) at of_case.3 in
        let case : at.case ≡ of_case.0 = omega (arith, of_ply.3.case_is) in
        subst (λ o. IsSomeAnd o (λ case. IsSomeAnd (slice_get (placed_plies (wall_of stock job listed)) at.ply) (λ p.
        HasSide p.item.kind (side_of at.side) × NearOneThere (wall_of stock job listed) (load_of case.kind) p (face_of at.face) (side_of at.side) case.factor)))
        (sym (ap (slice_get job.cases) case ∙ of_case.2))
        (subst (λ w. IsSomeAnd (slice_get (placed_plies w) at.ply) (λ p.
        HasSide p.item.kind (side_of at.side) × NearOneThere w (load_of of_case.1.kind) p (face_of at.face) (side_of at.side) of_case.1.factor)) same
        (near-there at of_case.0 of_case.1 of_ply.0 of_ply.1 of_case.2 of_ply.2 of_ply.3))

  -- ---- panels

  panel-verdict : (p : PanelData) → panel_over fine (scale_of stock).q0 (matrices fine (scale_of stock) (items_of stock numbers)) p
      ≡ plate.panel_verdict fine (scale_of stock).q0 (matrices fine (scale_of stock) (items_of stock numbers)) p p.factor
  unfolding panel_over
  panel-verdict p = refl

  panel-stands : (p : PanelData) → IsPanel p → panel_over fine (scale_of stock).q0 (matrices fine (scale_of stock) (items_of stock numbers)) p ≡ verdict.Meets → PanelAtLeast (wall_of stock job listed) p (whole p.factor)
  panel-stands p is e =
      let stands = verdict-stands fine-laws (stands-for fine-laws plies) p is p.factor (omega (arith, ints, is.factor.least)) (sym (panel-verdict p) ∙ e) in
      subst (λ w. PanelAtLeast w p (whole p.factor)) same (λ m some. weaken (stands m some))

  panel-buckles : (p : PanelData) → IsPanel p → panel_over fine (scale_of stock).q0 (matrices fine (scale_of stock) (items_of stock numbers)) p ≡ verdict.Fails → ¬ PanelAtLeast (wall_of stock job listed) p (whole p.factor)
  panel-buckles p is e at_least =
      let buckles = verdict-buckles fine-laws (stands-for fine-laws plies) p is p.factor (omega (arith, ints, is.factor.least)) (sym (panel-verdict p) ∙ e) in
      let h = subst (λ w. PanelAtLeast w p (whole p.factor)) (sym same) at_least in
      let n : false ≡ true = sym buckles.2.lt ∙ (h buckles.0 buckles.1).le in
      absurd (cc)

  pub panels-met : panels_found (scale_of stock) (items_of stock numbers) job ≡ Clear → All (λ p. PanelAtLeast (wall_of stock job listed) p (whole p.factor)) job.panels
  panels-met clear = λ k d within.
      let p = get_or job.panels k d in
      let at = slice_get-get_or job.panels k d within in
      panel-stands p (panel-kept job.panels is_job.panels k p at) (panels-each (λ f. f ≡ Clear) both-clear (λ v. v ≡ verdict.Meets) found-clear _ 0 job.panels clear k p at)

  pub panel-failed : (at : ℕ) → panels_found (scale_of stock) (items_of stock numbers) job ≡ Fails at → Buckles stock job listed at
  panel-failed at e =
      let one = named.panels-found verdict.Fails tt (panel_over fine (scale_of stock).q0 (matrices fine (scale_of stock) (items_of stock numbers))) 0 job.panels at e in
      let number : at ≡ one.0 = omega (arith, one.3) in
      subst (λ o. IsSomeAnd o (λ p. ¬ PanelAtLeast (wall_of stock job listed) p (whole p.factor))) (sym (ap (slice_get job.panels) number ∙ one.2))
      (panel-buckles one.1 (panel-kept job.panels is_job.panels one.0 one.1 one.2) one.4)

  -- ---- panels near their factors

  fine-wall : IsFine fine (matrices fine (scale_of stock) (items_of stock numbers))
  fine-wall = record { scale = refl; narrow = (narrow-wall fine-laws plies).d }

  panel-nearly : (p : PanelData) → IsPanel p → ¬ (panel_over fine (scale_of stock).q0 (matrices fine (scale_of stock) (items_of stock numbers)) p ≡ verdict.Fails) → PanelAtLeast (wall_of stock job listed) p (just_below p.factor)
  panel-nearly p is unfailed =
      subst (λ w. PanelAtLeast w p (just_below p.factor)) same
      (panels.not-failed fine-laws fine-wall (stands-for fine-laws plies) p is p.factor (omega (arith, ints, is.factor.least)) (λ e. unfailed (panel-verdict p ∙ e)))

  panel-near : (p : PanelData) → IsPanel p → panel_over fine (scale_of stock).q0 (matrices fine (scale_of stock) (items_of stock numbers)) p ≡ verdict.Straddles → NearFactor (wall_of stock job listed) p p.factor
  panel-near p is e =
      subst (λ w. NearFactor w p p.factor) same
      (panels.near fine-laws fine-wall (stands-for fine-laws plies) p is p.factor (omega (arith, ints, is.factor.least)) (sym (panel-verdict p) ∙ e))

  -- where none buckles, each stands 199/200 of its factor
  panels-nearly : IsUnsettled (panels_found (scale_of stock) (items_of stock numbers) job) → All (λ p. PanelAtLeast (wall_of stock job listed) p (just_below p.factor)) job.panels
  panels-nearly unsettled = λ k d within.
      let p = get_or job.panels k d in
      let at = slice_get-get_or job.panels k d within in
      panel-nearly p (panel-kept job.panels is_job.panels k p at) (panels-each IsUnsettled both-unsettled (λ v. ¬ (v ≡ verdict.Fails)) found-unsettled _ 0 job.panels unsettled k p at)

  panel-found-near : (at : ℕ) → panels_found (scale_of stock) (items_of stock numbers) job ≡ Straddles at → NearPanel stock job listed at
  panel-found-near at e =
      let one = named.panels-found verdict.Straddles tt (panel_over fine (scale_of stock).q0 (matrices fine (scale_of stock) (items_of stock numbers))) 0 job.panels at e in
      let number : at ≡ one.0 = omega (arith, one.3) in
      subst (λ o. IsSomeAnd o (λ p. NearFactor (wall_of stock job listed) p p.factor)) (sym (ap (slice_get job.panels) number ∙ one.2))
      (panel-near one.1 (panel-kept job.panels is_job.panels one.0 one.1 one.2) one.4)

  -- ---- the judgement by strength

  module _ (rules : Keeps stock job listed) (range : All (λ c. LoadInRange (scale_of stock).floor (wall_thickness (items_of stock numbers)) (load_of c.kind)) job.cases) where
    in-range : design.InRangeForAll stock job listed
    in-range = subst (λ w. All (λ c. LoadInRange (scale_of stock).floor (wall_thickness w) (load_of c.kind)) job.cases) same range

    within : All WithinLimits (wall_of stock job listed)
    within = subst (All WithinLimits) same (items_of-all stock WithinLimits plies.catalogue.limits numbers)

    ply-hangs : (at : Place) → plies_found (scale_of stock) (items_of stock numbers) job ≡ Straddles at → IsUnsettled (panels_found (scale_of stock) (items_of stock numbers) job)
        → Hangs stock job listed (AtPly (place_of at))
    ply-hangs at e unsettled = hangs_where_near stock job listed (place_of at) within rules in-range (place-near range at e) (cases-hardly range (ap is_settled e)) (panels-nearly unsettled)

    panel-hangs : (panel : ℕ) → IsUnsettled (plies_found (scale_of stock) (items_of stock numbers) job) → panels_found (scale_of stock) (items_of stock numbers) job ≡ Straddles panel
        → Hangs stock job listed (AtPanel panel)
    panel-hangs panel unsettled e =
        let hardly = cases-hardly range unsettled in
        record {
          rules = rules;
          range = in-range;
          near = panel-found-near panel e;
          factors = record {
            cases = λ k d short. hardly_above_stands (wall_of stock job listed) (load_of (get_or job.cases k d).kind) (get_or job.cases k d).factor within (hardly k d short);
            panels = panels-nearly (ap is_settled e);
          };
        }

    said : (a : Finding Place) (b : Finding ℕ) → plies_found (scale_of stock) (items_of stock numbers) job ≡ a → panels_found (scale_of stock) (items_of stock numbers) job ≡ b → IsSaid stock job listed (by_findings a b)
    said (Fails at) b e d = place-failed range at e
    said Clear Clear e d = record { rules = rules; range = in-range; factors = record { cases = cases-met range e; panels = panels-met d } }
    said Clear (Fails panel) e d = panel-failed panel d
    said Clear (Straddles panel) e d = panel-hangs panel (ap is_settled e) d
    said (Straddles at) Clear e d = ply-hangs at e (ap is_settled d)
    said (Straddles at) (Fails panel) e d = panel-failed panel d
    said (Straddles at) (Straddles panel) e d = ply-hangs at e (ap is_settled d)

    pub strength-said : IsSaid stock job listed (by_findings (plies_found (scale_of stock) (items_of stock numbers) job) (panels_found (scale_of stock) (items_of stock numbers) job))
    strength-said = said _ _ refl refl
