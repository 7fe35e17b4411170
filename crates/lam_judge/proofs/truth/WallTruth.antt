-- What the verdicts at the places of a wall say of its strength ratios.
use Rattle.std.proofs.Common.{◌≡◌, refl, sym, ◌∙◌, ℕ, ◌⊎◌, inl, inr, true, false, pos, List, slice_get, Some, get_or}
use Rattle.std.proofs.lemmas.Option.{slice_get-get_or}
use Rattle.lam_fraction.specs.Fraction.{whole, fraction, class_of, ◌*ℚ◌, ◌/ℚ◌, inverse, is_at_most, ◌≤ℚ◌, ◌<ℚ◌}
use Rattle.lam_fraction.specs.inside.Quotient.{of_two, on_one, on_two}
use Rattle.lam_fraction.proofs.Rationals.{transitive}
use Rattle.lam_number.specs.declared.strength.Verdict.{Verdict}
use Rattle.lam_number.specs.declared.strength.Verdict.TheVariants.{Meets, Fails, Straddles}
use Rattle.lam_stock.specs.PlyLaw as law
use Rattle.lam_stock.specs.TsaiWu.{RatioAtLeast}
use Rattle.lam_stock.specs.declared.item.Item.{Item}
use Rattle.lam_stock.specs.declared.item.ItemNo.{ItemNo}
use Rattle.lam_stock.specs.Scale.{scale_of}
use Rattle.lam_stock.specs.Stock.{WithinLimits}
use Rattle.lam_job.specs.Equilibrium.{Solves}
use Rattle.lam_job.specs.JobData.{CaseData}
use Rattle.lam_job.specs.LaminateStrain.{LaminateStrain, strain_at}
use Rattle.lam_job.specs.LoadOf.{load_of}
use Rattle.lam_job.specs.LoadRange.{LoadInRange}
use Rattle.lam_job.specs.Ranges.{IsFactor}
use Rattle.lam_job.specs.Schedule.{items_of}
use Rattle.lam_job.specs.Strength.{EverySolution, Face, InnerFace, OuterFace, HasSide, PlyRatio, RatioThere}
use Rattle.lam_job.specs.Wall.{Placed, placed_plies, wall_thickness}
use Rattle.lam_job.proofs.Listed.{items_of-all}
use Rattle.lam_wall.specs.Assembled.{ArePlies}
use Rattle.lam_wall.proofs.Assembled.{stands-for}
use Rattle.lam_solve.specs.StrainBounds.{OneStrain}
use Rattle.lam_solve.proofs.HeldStrains.{has-one}
use Rattle.lam_sharp.specs.NearOne.{IsHardlyAbove, IsNearOne, hardly_above_one}
use Rattle.lam_sharp.specs.NearPlaces.{HardlyAbove, NearOneThere}
use Rattle.lam_tsai.specs.Levels.{side_of, value_at}
use Rattle.lam_tsai.specs.Listed.{IsItemOf}
use Rattle.lam_tsai.specs.declared.place.FaceSide.{FaceSide}
use Rattle.lam_tsai.specs.declared.place.FaceSide.TheVariants.{Inner, Outer}
use Rattle.lam_tsai.specs.declared.place.Side.{Side}
use Rattle.lam_tsai.specs.declared.place.Side.TheVariants.{Plus, Minus}
use Rattle.lam_judge.specs.Judgements.{face_of}
use Rattle.lam_judge.specs.inside.Findings.{at_plies}
use Rattle.lam_judge.specs.declared.finding.Finding.TheVariants.{Clear}
use Rattle.lam_judge.specs.inside.Judged.{decided, place_verdict, verdict_over, z_by}
use Rattle.lam_judge.specs.inside.Loads.{IsWithin}
use Rattle.lam_judge.specs.inside.Scales.{coarse, fine}
use Rattle.lam_judge.proofs.Found.{IsUnsettled, both-clear, both-unsettled, found-clear, found-unsettled, plies-each}
use Rattle.lam_judge.proofs.PlacedPlies.{lies-in, ply-item, ply-number}
use Rattle.lam_judge.proofs.PlyFacts.{of-catalogue}
use Rattle.lam_judge.proofs.WallsLaid.{coarse-laws, fine-laws}
use Rattle.lam_judge.proofs.truth.NarrowLaws.{finest, near-one}
use Rattle.lam_judge.proofs.truth.NarrowTruth.{straddles-there}
use Rattle.lam_judge.proofs.truth.PlaceTruth.{fails-there, meets-there}

-- ---- two verdicts

decided-meets : (v w : Verdict) → decided v w ≡ Meets → (v ≡ Meets) ⊎ (w ≡ Meets)
decided-meets Meets w e = inl refl
decided-meets Fails w e = absurd (let n : Fails ≡ Meets = e in cc)
decided-meets Straddles w e = inr e

decided-fails : (v w : Verdict) → decided v w ≡ Fails → (v ≡ Fails) ⊎ (w ≡ Fails)
decided-fails Meets w e = absurd (let n : Meets ≡ Fails = e in cc)
decided-fails Fails w e = inl refl
decided-fails Straddles w e = inr e

decided-straddles : (v w : Verdict) → decided v w ≡ Straddles → w ≡ Straddles
decided-straddles Meets w e = absurd (let n : Meets ≡ Straddles = e in cc)
decided-straddles Fails w e = absurd (let n : Fails ≡ Straddles = e in cc)
decided-straddles Straddles w e = e

not-failed : (v : Verdict) → ¬ (v ≡ Fails) → (v ≡ Meets) ⊎ (v ≡ Straddles)
not-failed Meets h = inl refl
not-failed Fails h = absurd (h refl)
not-failed Straddles h = inr refl

above_one : whole (pos 1) ≤ℚ hardly_above_one
unfolding whole fraction class_of ◌*ℚ◌ ◌/ℚ◌ inverse is_at_most on_one on_two of_two
above_one = record { le = refl }

-- ---- the plies of a catalogue's wall

module _ {stock : List Item} {numbers : List ItemNo} (plies : ArePlies (scale_of stock) stock numbers) where
  abbrev pub wall : List Item
  wall = items_of stock numbers

  module _ (k : ℕ) (p : Placed) (at : slice_get (placed_plies wall) k ≡ Some p) where
    pub listed : IsItemOf (scale_of stock) p.item
    listed =
        let d : ItemNo = record { 0 = 0 } in
        let within = ply-number stock numbers plies.known k p at in
        of-catalogue stock plies.catalogue (get_or numbers k d).0 p.item (ply-item stock numbers plies.known k (get_or numbers k d) p (slice_get-get_or numbers k d within) at)

    pub within-wall : (face : FaceSide) → IsWithin (wall_thickness wall) (z_by p.inner p.outer face)
    within-wall Inner = let lies = lies-in wall (items_of-all stock WithinLimits plies.catalogue.limits numbers) k p at in record { inner = lies.inner_from; outer = lies.inner_to }
    within-wall Outer = let lies = lies-in wall (items_of-all stock WithinLimits plies.catalogue.limits numbers) k p at in record { inner = lies.outer_from; outer = lies.outer_to }

    module _ (c : CaseData) (asked : IsFactor c.factor) (range : LoadInRange (scale_of stock).floor (wall_thickness wall) (load_of c.kind)) where
      -- over the first scale or over the second
      met-at : (face : FaceSide) (side : Side) → place_verdict (scale_of stock) wall c p face side ≡ Meets
          → (f : LaminateStrain) → Solves wall (load_of c.kind) f → RatioAtLeast p.item.lamina (law.side_stress p.item.lamina p.item.dir (side_of side) (strain_at f (z_by p.inner p.outer face))) (whole c.factor)
      unfolding place_verdict
      met-at face side e f solves =
          let z = z_by p.inner p.outer face in
          let load = load_of c.kind in
          elim (decided-meets (verdict_over coarse (scale_of stock) wall load c.factor p.item side z) (verdict_over fine (scale_of stock) wall load c.factor p.item side z) e) [
            | inl v ↦ meets-there coarse-laws plies load range z (within-wall face) listed side c.factor asked f solves v
            | inr w ↦ meets-there fine-laws plies load range z (within-wall face) listed side c.factor asked f solves w
          ]

      failed-at : (face : FaceSide) (side : Side) → place_verdict (scale_of stock) wall c p face side ≡ Fails
          → (f : LaminateStrain) → Solves wall (load_of c.kind) f → whole (pos 1) <ℚ value_at p.item (side_of side) (strain_at f (z_by p.inner p.outer face)) (whole c.factor)
      unfolding place_verdict
      failed-at face side e f solves =
          let z = z_by p.inner p.outer face in
          let load = load_of c.kind in
          elim (decided-fails (verdict_over coarse (scale_of stock) wall load c.factor p.item side z) (verdict_over fine (scale_of stock) wall load c.factor p.item side z) e) [
            | inl v ↦ fails-there coarse-laws plies load range z (within-wall face) listed side c.factor asked f solves v
            | inr w ↦ fails-there fine-laws plies load range z (within-wall face) listed side c.factor asked f solves w
          ]

      place-meets : (face : FaceSide) (side : Side) → place_verdict (scale_of stock) wall c p face side ≡ Meets → RatioThere wall (load_of c.kind) p (face_of face) (side_of side) (whole c.factor)
      place-meets Inner side e = λ f solves. met-at Inner side e f solves
      place-meets Outer side e = λ f solves. met-at Outer side e f solves

      one-strain : OneStrain wall (load_of c.kind)
      one-strain = has-one (load_of c.kind) stock numbers (stands-for fine-laws plies)

      contrary : (side : Side) (face : FaceSide) → place_verdict (scale_of stock) wall c p face side ≡ Fails
          → RatioAtLeast p.item.lamina (law.side_stress p.item.lamina p.item.dir (side_of side) (strain_at one-strain.strain (z_by p.inner p.outer face))) (whole c.factor) → ⊥
      contrary side face e at_least =
          let above = failed-at face side e one-strain.strain one-strain.solves in
          let n : false ≡ true = sym above.lt ∙ at_least.le in
          absurd (cc)

      pub place-fails : (face : FaceSide) (side : Side) → place_verdict (scale_of stock) wall c p face side ≡ Fails → ¬ RatioThere wall (load_of c.kind) p (face_of face) (side_of side) (whole c.factor)
      place-fails Inner side e ratio = contrary side Inner e (ratio one-strain.strain one-strain.solves)
      place-fails Outer side e ratio = contrary side Outer e (ratio one-strain.strain one-strain.solves)

      -- where a verdict straddles, the value is near 1 in every laminate strain
      straddled-at : (face : FaceSide) (side : Side) → place_verdict (scale_of stock) wall c p face side ≡ Straddles
          → (f : LaminateStrain) → Solves wall (load_of c.kind) f → IsNearOne p.item.lamina (law.side_stress p.item.lamina p.item.dir (side_of side) (strain_at f (z_by p.inner p.outer face))) c.factor
      unfolding place_verdict
      straddled-at face side e f solves =
          let z = z_by p.inner p.outer face in
          let load = load_of c.kind in
          straddles-there fine-laws finest plies load range z (within-wall face) listed side c.factor f solves near-one asked
          (decided-straddles (verdict_over coarse (scale_of stock) wall load c.factor p.item side z) (verdict_over fine (scale_of stock) wall load c.factor p.item side z) e)

      pub place-straddles : (face : FaceSide) (side : Side) → place_verdict (scale_of stock) wall c p face side ≡ Straddles → NearOneThere wall (load_of c.kind) p (face_of face) (side_of side) c.factor
      place-straddles Inner side e = λ f solves. straddled-at Inner side e f solves
      place-straddles Outer side e = λ f solves. straddled-at Outer side e f solves

      -- where it does not fail, the value is not far above 1
      hardly-at : (face : FaceSide) (side : Side) → ¬ (place_verdict (scale_of stock) wall c p face side ≡ Fails)
          → (f : LaminateStrain) → Solves wall (load_of c.kind) f → IsHardlyAbove p.item.lamina (law.side_stress p.item.lamina p.item.dir (side_of side) (strain_at f (z_by p.inner p.outer face))) c.factor
      hardly-at face side unfailed f solves =
          elim (not-failed (place_verdict (scale_of stock) wall c p face side) unfailed) [
            | inl v ↦ transitive (met-at face side v f solves) above_one
            | inr w ↦ (straddled-at face side w f solves).to
          ]

      each-hardly : ((face : FaceSide) (side : Side) → HasSide p.item.kind (side_of side) → ¬ (place_verdict (scale_of stock) wall c p face side ≡ Fails))
          → (face : Face) (side : law.Side) → HasSide p.item.kind side → EverySolution wall (load_of c.kind) p face side (λ l t. IsHardlyAbove l t c.factor)
      each-hardly all InnerFace law.Plus has = λ f solves. hardly-at Inner Plus (all Inner Plus has) f solves
      each-hardly all InnerFace law.Minus has = λ f solves. hardly-at Inner Minus (all Inner Minus has) f solves
      each-hardly all OuterFace law.Plus has = λ f solves. hardly-at Outer Plus (all Outer Plus has) f solves
      each-hardly all OuterFace law.Minus has = λ f solves. hardly-at Outer Minus (all Outer Minus has) f solves

      -- at both faces and on all sides
      each-place : ((face : FaceSide) (side : Side) → HasSide p.item.kind (side_of side) → place_verdict (scale_of stock) wall c p face side ≡ Meets)
          → (face : Face) (side : law.Side) → HasSide p.item.kind side → RatioThere wall (load_of c.kind) p face side (whole c.factor)
      each-place all InnerFace law.Plus has = place-meets Inner Plus (all Inner Plus has)
      each-place all InnerFace law.Minus has = place-meets Inner Minus (all Inner Minus has)
      each-place all OuterFace law.Plus has = place-meets Outer Plus (all Outer Plus has)
      each-place all OuterFace law.Minus has = place-meets Outer Minus (all Outer Minus has)

  -- where all that is found under a case is clear, each ply has the ratio
  pub ply-ratios : (c : CaseData) → IsFactor c.factor → LoadInRange (scale_of stock).floor (wall_thickness wall) (load_of c.kind) → (number : ℕ)
      → at_plies (place_verdict (scale_of stock) wall c) number 0 (placed_plies wall) ≡ Clear → (ply : ℕ) → PlyRatio wall (load_of c.kind) ply (whole c.factor)
  ply-ratios c asked range number clear ply =
      λ p at. each-place ply p at c asked range (plies-each (λ f. f ≡ Clear) both-clear (λ v. v ≡ Meets) found-clear (place_verdict (scale_of stock) wall c) number 0 (placed_plies wall) clear ply p at)

  -- where nothing fails, no value is far above 1
  pub plies-hardly : (c : CaseData) → IsFactor c.factor → LoadInRange (scale_of stock).floor (wall_thickness wall) (load_of c.kind) → (number : ℕ)
      → IsUnsettled (at_plies (place_verdict (scale_of stock) wall c) number 0 (placed_plies wall)) → HardlyAbove wall (load_of c.kind) c.factor
  plies-hardly c asked range number unsettled =
      λ ply p at. each-hardly ply p at c asked range (plies-each IsUnsettled both-unsettled (λ v. ¬ (v ≡ Fails)) found-unsettled (place_verdict (scale_of stock) wall c) number 0 (placed_plies wall) unsettled ply p at)
