-- What is known of a ply of a wall, by its number: its item, its criterion, and z of its faces.
use Rattle.std.proofs.Common.{◌≡◌, refl, sym, ◌∙◌, ap, subst, ℕ, ◌+◌, ◌<◌, ℤ, neg_ℤ, List, length, get_or, slice_get, Some, FitsSigned, w64, add-one, arith}
use Rattle.std.proofs.lemmas.Int.{ints, to_z-of_z}
use Rattle.std.proofs.lemmas.List.Elements.{All-get_or}
use Rattle.std.proofs.lemmas.Option.{get_or_from_slice_get, same_Some, slice_get_within}
use Rattle.lam_fraction.proofs.numbers.Machine.{stored-64}
use Rattle.lam_stock.specs.declared.item.Item.{Item}
use Rattle.lam_stock.specs.declared.item.ItemNo.{ItemNo}
use Rattle.lam_stock.specs.declared.scale.Scale.{Scale}
use Rattle.lam_stock.specs.Scale.{scale_of}
use Rattle.lam_stock.specs.Stock.{IsStock, WithinLimits}
use Rattle.lam_job.specs.Schedule.{items_of}
use Rattle.lam_job.specs.Wall.{Placed, placed_plies, wall_thickness}
use Rattle.lam_job.proofs.Listed.{item_of, items_of-all}
use Rattle.lam_tsai.specs.Listed.{IsItemOf}
use Rattle.lam_tsai.specs.declared.place.FaceSide.{FaceSide}
use Rattle.lam_tsai.specs.declared.place.Side.{Side}
use Rattle.lam_job.specs.declared.load.Load.{Load}
use Rattle.lam_number.specs.declared.fix.Fix.{Fix}
use Rattle.lam_solve.specs.declared.strains.Strains.{Strains}
use Rattle.lam_solve.specs.inside.Formulas.{at_face}
use Rattle.lam_tsai.specs.inside.Halving.{ratio_by}
use Rattle.lam_tsai.specs.inside.Reach.{ReachCriterion}
use Rattle.lam_tsai.proofs.ItemFacts.{reach-criterion}
use Rattle.lam_wall.specs.Faces.{faces}
use Rattle.lam_judge.specs.declared.layup.Layup.{Layup}
use Rattle.lam_judge.specs.declared.loaded.Loaded.{Loaded}
use Rattle.lam_judge.specs.declared.tables.Criteria.{Criteria}
use Rattle.lam_judge.specs.declared.tables.Tables.{Tables}
use Rattle.lam_judge.specs.inside.Findings.{at_ply}
use Rattle.lam_judge.specs.inside.Judged.{strains as strains_under, z_by}
use Rattle.lam_judge.specs.inside.Layups.{IsLayupOf}
use Rattle.lam_judge.specs.inside.Loads.{IsBorne, IsReady, IsWithin, item_verdict, loaded_verdict}
use Rattle.lam_judge.specs.inside.Ratios.{ply_ratio}
use Rattle.lam_judge.specs.inside.Scales.{coarse, fine}
use Rattle.lam_judge.specs.inside.Tables.{AreTablesOf, criteria}
use Rattle.lam_judge.proofs.PlacedPlies.{LiesIn, inner-face, lies-in, outer-face, ply-item, ply-there}
use Rattle.lam_judge.proofs.WallsLaid.{coarse-laws, fine-laws, thick, thin}

-- z of the inner surface
pub first-stored : {stock : List Item} {l : Layup} → IsLayupOf stock l → (d : ℤ) → stored-64 (get_or l.faces 0 d) ≡ neg_ℤ (wall_thickness (items_of stock l.plies))
first-stored {stock} {l} is d =
    let h = wall_thickness (items_of stock l.plies) in
    let fits : FitsSigned w64 (neg_ℤ h) = omega (arith, ints, is.thickness, thick is, thin is) in
    ap stored-64 (get_or_from_slice_get l.faces 0 (neg_ℤ h) d (is.faces 0 (neg_ℤ h) refl)) ∙ to_z-of_z w64 (neg_ℤ h) fits

-- an item of a catalogue
pub of-catalogue : {scale : Scale} (stock : List Item) → IsStock stock scale → (k : ℕ) (i : Item) → slice_get stock k ≡ Some i → IsItemOf scale i
of-catalogue stock is k i at = record { items = stock; stock = is; place = k; listed = at }

module _ {stock : List Item} {l : Layup} (is : IsLayupOf stock l) (k : ℕ) (ply : ItemNo) (at : slice_get l.plies k ≡ Some ply) where
  abbrev pub wall : List Item
  wall = items_of stock l.plies

  known : ply.0 < length stock
  known = subst (λ (p : ItemNo). p.0 < length stock) (get_or_from_slice_get l.plies k ply ply at) (All-get_or (λ (p : ItemNo). p.0 < length stock) l.plies k ply (slice_get_within l.plies k ply at) is.plies.known)

  pub few-items : ply.0 < 64
  few-items = omega (arith, known, is.plies.catalogue.few)

  pub there : (p : Placed) × (slice_get (placed_plies wall) k ≡ Some p)
  there = let i = item_of stock ply known in ply-there stock l.plies is.plies.known k ply i.0 at i.1

  abbrev pub placed : Placed
  placed = there.0

  pub placed-is : slice_get (placed_plies wall) k ≡ Some placed
  placed-is = there.1

  pub item-is : slice_get stock ply.0 ≡ Some placed.item
  item-is = ply-item stock l.plies is.plies.known k ply placed at placed-is

  pub item-listed : IsItemOf (scale_of stock) placed.item
  item-listed = of-catalogue stock is.plies.catalogue ply.0 placed.item item-is

  lies : LiesIn (wall_thickness wall) placed
  lies = lies-in wall (items_of-all stock WithinLimits is.plies.catalogue.limits l.plies) k placed placed-is

  -- ---- z of its faces

  pub inner-is : (d : ℤ) → get_or l.faces k d ≡ placed.inner
  inner-is d = get_or_from_slice_get l.faces k placed.inner d (is.faces k placed.inner (inner-face wall k placed placed-is))

  pub outer-is : (d : ℤ) → get_or l.faces (k + 1) d ≡ placed.outer
  outer-is d = get_or_from_slice_get l.faces (k + 1) placed.outer d (is.faces (k + 1) placed.outer (ap (slice_get (faces wall)) (add-one k) ∙ outer-face wall k placed placed-is))

  pub inner-stored : (d : ℤ) → stored-64 (get_or l.faces k d) ≡ placed.inner
  inner-stored d = let fits : FitsSigned w64 placed.inner = omega (arith, ints, is.thickness, thin is, lies.inner_from, lies.inner_to) in ap stored-64 (inner-is d) ∙ to_z-of_z w64 placed.inner fits

  pub outer-stored : (d : ℤ) → stored-64 (get_or l.faces (k + 1) d) ≡ placed.outer
  outer-stored d = let fits : FitsSigned w64 placed.outer = omega (arith, ints, is.thickness, thin is, lies.outer_from, lies.outer_to) in ap stored-64 (outer-is d) ∙ to_z-of_z w64 placed.outer fits

  pub inner-within : {h z : ℤ} → h ≡ wall_thickness wall → z ≡ placed.inner → IsWithin h z
  inner-within same e = record { inner = omega (arith, ints, e, same, lies.inner_from); outer = omega (arith, ints, e, same, lies.inner_to) }

  pub outer-within : {h z : ℤ} → h ≡ wall_thickness wall → z ≡ placed.outer → IsWithin h z
  outer-within same e = record { inner = omega (arith, ints, e, same, lies.outer_from); outer = omega (arith, ints, e, same, lies.outer_to) }

  -- ---- its criterion

  module _ {tables : Tables} (are : AreTablesOf stock tables) {c : Criteria} (found : slice_get tables.criteria ply.0 ≡ Some c) where
    pub criteria-is : c ≡ criteria (scale_of stock) placed.item
    criteria-is = same_Some c (criteria (scale_of stock) placed.item) (sym found ∙ are.criteria ply.0 placed.item item-is)

    pub made-coarse : ReachCriterion coarse c.coarse
    made-coarse = subst (λ (x : Criteria). ReachCriterion coarse x.coarse) (sym criteria-is) (reach-criterion item-listed coarse-laws)

    pub made-fine : ReachCriterion fine c.fine
    made-fine = subst (λ (x : Criteria). ReachCriterion fine x.fine) (sym criteria-is) (reach-criterion item-listed fine-laws)

    pub ready : {loaded : Loaded} → IsBorne wall loaded → IsReady c loaded
    ready borne = record {
      coarse_made = made-coarse;
      fine_made = made-fine;
      coarse_short = borne.coarse_short;
      fine_short = borne.fine_short;
      asked = borne.asked;
      thick = borne.thick;
      thin = borne.thin;
    }

    -- the printed ratio of it
    pub ratio-is : (load : Load) (strains : Strains (Fix 60)) (inner outer h : ℤ) → strains ≡ strains_under fine (scale_of stock) wall load → inner ≡ placed.inner → outer ≡ placed.outer → h ≡ wall_thickness wall
        → ratio_by fine c.fine (at_face fine.calc strains inner h) (at_face fine.calc strains outer h) ≡ ply_ratio (scale_of stock) wall load placed
    unfolding ply_ratio
    ratio-is load strains inner outer h s p q t = λ i. ratio_by fine (criteria-is i).fine (at_face fine.calc (s i) (p i) (t i)) (at_face fine.calc (s i) (q i) (t i))

    -- what is found at it
    pub found-is : (loaded : Loaded) (case : ℕ) (inner outer : ℤ) → inner ≡ placed.inner → outer ≡ placed.outer
        → at_ply case k c.coarse.kind (λ (face : FaceSide) (side : Side). loaded_verdict c loaded (z_by inner outer face) side)
        ≡ at_ply case k placed.item.kind (item_verdict (scale_of stock) loaded placed)
    found-is loaded case inner outer p q =
        λ i. at_ply case k (criteria-is i).coarse.kind (λ (face : FaceSide) (side : Side). loaded_verdict (criteria-is i) loaded (z_by (p i) (q i) face) side)
