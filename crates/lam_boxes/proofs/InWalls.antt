-- A place that fails in a box fails in each wall whose strains lie in the box.
use Rattle.std.proofs.Common.{◌≡◌, refl, sym, ◌∙◌, ap, subst, ◌<◌, Bool, true, false, List, [], ◌∷◌, ◌++◌, reverse, length, slice_get, Option, Some, None, IsTrue, arith}
use Rattle.std.specs.Prelude.{if◌then◌else◌}
use Rattle.std.specs.List.{cons_option}
use Rattle.std.proofs.lemmas.Int.{ints}
use Rattle.std.proofs.lemmas.List.{append-nil, reverse-append}
use Rattle.lam_fraction.specs.Fraction.{whole}
use Rattle.lam_fraction.specs.numbers.Numbers.{Numbers, Lawful}
use Rattle.lam_number.specs.declared.strength.FaceStrain.{FaceStrain}
use Rattle.lam_number.specs.declared.strength.Verdict.TheVariants.{Fails}
use Rattle.lam_stock.specs.PlyLaw as law
use Rattle.lam_stock.specs.TsaiWu.{RatioAtLeast}
use Rattle.lam_stock.specs.declared.item.Item.{Item}
use Rattle.lam_stock.specs.declared.item.ItemNo.{ItemNo}
use Rattle.lam_stock.specs.Scale.{scale_of}
use Rattle.lam_job.specs.JobData.{CaseData, JobData}
use Rattle.lam_job.specs.LoadOf.{load_of}
use Rattle.lam_job.specs.Equilibrium.{Solves}
use Rattle.lam_job.specs.LaminateStrain.{LaminateStrain}
use Rattle.lam_job.specs.Ranges.{IsFactor}
use Rattle.lam_job.specs.Rules.{LinerCarries}
use Rattle.lam_job.specs.Schedule.{items_of, wall_of}
use Rattle.lam_job.specs.Strength.{InnerFace, RatioThere}
use Rattle.lam_job.specs.Wall.{Placed}
use Rattle.lam_job.proofs.Listed.{items_of-append}
use Rattle.lam_wall.specs.Assembled.{ArePlies}
use Rattle.lam_wall.proofs.CatalogueWalls.{plies-has_strain}
use Rattle.lam_wall.proofs.OffAxes.{none}
use Rattle.lam_tsai.specs.FaceStrains.{HoldsStrain, IsWithinSix}
use Rattle.lam_tsai.specs.Levels.{side_of, verdict_of}
use Rattle.lam_tsai.specs.Listed.{IsItemOf}
use Rattle.lam_tsai.specs.declared.place.Side.{Side}
use Rattle.lam_tsai.specs.inside.Values.{criterion, level, level_by}
use Rattle.lam_tsai.proofs.LevelHeld.{level-held}
use Rattle.lam_boxes.proofs.Failing.{fails-above-one}
use Rattle.lam_boxes.proofs.Palindromes.{strain-unbent}

-- ---- the wall of a schedule where the liner carries no load

pub wall-listed : (stock : List Item) (job : JobData) (listed : List ItemNo) → (¬ LinerCarries job) → wall_of stock job listed ≡ items_of stock listed
wall-listed stock job listed free = by job.liner_in_wall job.liner free
  where
    by : (in_wall : Bool) (liner : List ItemNo) → (¬ ((0 < length liner) × IsTrue in_wall)) → (if in_wall then items_of stock (liner ++ listed) else items_of stock listed) ≡ items_of stock listed
    by false liner free = refl
    by true [] free = refl
    by true (x ∷ liner) free = absurd (free (omega arith, refl))

-- the items of a list turned over
items-reverse : (stock : List Item) (listed : List ItemNo) → items_of stock (reverse listed) ≡ reverse (items_of stock listed)
items-reverse stock [] = refl
items-reverse stock (x ∷ rest) =
    ap (items_of stock) (reverse-append (x ∷ []) rest) ∙ items_of-append stock (reverse rest) (x ∷ [])
    ∙ ap (λ l. l ++ items_of stock (x ∷ [])) (items-reverse stock rest) ∙ last (slice_get stock x.0)
  where
    last : (o : Option Item) → reverse (items_of stock rest) ++ cons_option o [] ≡ reverse (cons_option o (items_of stock rest))
    last (Some i) = sym (reverse-append (i ∷ []) (items_of stock rest))
    last None = append-nil (reverse (items_of stock rest))

pub wall-palindrome : (stock : List Item) (listed : List ItemNo) → listed ≡ reverse listed → items_of stock listed ≡ reverse (items_of stock listed)
wall-palindrome stock listed e = ap (items_of stock) e ∙ items-reverse stock listed

-- ---- a place that fails in a box fails in the wall

module _ {A : Type 0} {n : Numbers A} (laws : Lawful n) {stock : List Item} {numbers : List ItemNo} (plies : ArePlies (scale_of stock) stock numbers)
    (c : CaseData) (asked : IsFactor c.factor) (at : FaceStrain A) (six : IsWithinSix n at)
    (held : (f : LaminateStrain) → Solves (items_of stock numbers) (load_of c.kind) f → HoldsStrain n at f.mid_plane)
    (flat : (f : LaminateStrain) → Solves (items_of stock numbers) (load_of c.kind) f → f.curvature ≡ none) where
  pub place-fails : (p : Placed) (i : Item) → p.item ≡ i → IsItemOf (scale_of stock) i → (side : Side)
      → verdict_of n (level_by n (criterion n (scale_of stock) i) side at c.factor) ≡ Fails
      → ¬ RatioThere (items_of stock numbers) (load_of c.kind) p InnerFace (side_of side) (whole c.factor)
  place-fails p i same is side e ratio =
      let s = plies-has_strain plies (load_of c.kind) in
      let f = s.0 in
      let at_least = subst (λ (t : law.OffAxis). RatioAtLeast p.item.lamina (law.side_stress p.item.lamina p.item.dir (side_of side) t) (whole c.factor)) (strain-unbent f p.inner (flat f s.1)) (ratio f s.1) in
      let here = subst (λ (j : Item). RatioAtLeast j.lamina (law.side_stress j.lamina j.dir (side_of side) f.mid_plane) (whole c.factor)) same at_least in
      let known = level-held laws is side at c.factor six (omega (arith, ints, asked.least)) (omega (arith, ints, asked.greatest)) f.mid_plane (held f s.1) in
      let above = fails-above-one laws (level n i side (scale_of stock) at c.factor) _ known e in
      let wrong : false ≡ true = sym above.lt ∙ here.le in
      absurd (cc)
