-- What the first scale finds at a ply of a wall settles what both find.
use Rattle.std.proofs.Common.{◌≡◌, refl, sym, ◌∙◌, ap, subst, subst₂, ℕ, ℤ, true, false, List}
use Rattle.lam_fraction.specs.numbers.Numbers.{Numbers}
use Rattle.lam_number.specs.declared.fix.Fix.{Fix}
use Rattle.lam_number.specs.declared.strength.FaceStrain.{FaceStrain}
use Rattle.lam_number.specs.declared.strength.Verdict.{Verdict}
use Rattle.lam_stock.specs.declared.item.Item.{Item}
use Rattle.lam_stock.specs.declared.item.Kind.{Kind}
use Rattle.lam_stock.specs.declared.item.Kind.TheVariants.{Ply, Pair}
use Rattle.lam_stock.specs.declared.scale.Scale.{Scale}
use Rattle.lam_job.specs.JobData.{CaseData}
use Rattle.lam_job.specs.LoadOf.{load_of}
use Rattle.lam_job.specs.Wall.{Placed}
use Rattle.lam_solve.specs.Solutions.{ReachesSix}
use Rattle.lam_tsai.specs.FaceStrains.{IsWithinSix}
use Rattle.lam_tsai.specs.declared.criterion.Criterion.{Criterion}
use Rattle.lam_tsai.specs.declared.place.FaceSide.{FaceSide}
use Rattle.lam_tsai.specs.declared.place.FaceSide.TheVariants.{Inner, Outer}
use Rattle.lam_tsai.specs.declared.place.Place.{Place}
use Rattle.lam_tsai.specs.declared.place.Side.{Side}
use Rattle.lam_tsai.specs.declared.place.Side.TheVariants.{Plus, Minus}
use Rattle.lam_tsai.specs.inside.Values.{criterion}
use Rattle.lam_judge.specs.declared.finding.Finding.{Finding}
use Rattle.lam_judge.specs.inside.Findings.{found, is_clear, at_face, at_ply, Settles}
use Rattle.lam_judge.specs.inside.Judged.{decided, face_strain, place_verdict, verdict_over, z_by}
use Rattle.lam_judge.specs.inside.Loads.{strain_by, verdict_by}
use Rattle.lam_judge.specs.inside.Scales.{coarse, fine}
use Rattle.lam_judge.proofs.Settled.{settles-first, settles-later, settles-place}

pub within-six : {A : Type 0} {n : Numbers A} {at : FaceStrain A} → ReachesSix n at → IsWithinSix n at
within-six r = record { x = r.ex; y = r.ey; s = r.g }

-- the strains at a face of two are those at its z
strain-by : {A : Type 0} (f : ℤ → FaceStrain A) (inner outer : ℤ) (face : FaceSide) → strain_by (f inner) (f outer) face ≡ f (z_by inner outer face)
strain-by f inner outer Inner = refl
strain-by f inner outer Outer = refl

module _ (scale : Scale) (wall : List Item) (case : CaseData) (p : Placed) (number k : ℕ) where
  abbrev strain : ℤ → FaceStrain (Fix 28)
  strain z = face_strain coarse scale wall (load_of case.kind) z

  -- the verdict over the second scale
  abbrev second : FaceSide → Side → Verdict
  second face side = verdict_over fine scale wall (load_of case.kind) case.factor p.item side (z_by p.inner p.outer face)

  abbrev first : Criterion (Fix 28) → FaceStrain (Fix 28) → FaceStrain (Fix 28) → ℤ → FaceSide → Side → Verdict
  first c inner outer factor face side = decided (verdict_by coarse c (strain_by inner outer face) side factor) (second face side)

  module _ {c : Criterion (Fix 28)} {inner outer : FaceStrain (Fix 28)} {factor : ℤ} (is_c : c ≡ criterion coarse scale p.item) (is_inner : inner ≡ strain p.inner) (is_outer : outer ≡ strain p.outer) (is_factor : factor ≡ case.factor) where
    ply-is : at_ply number k c.kind (first c inner outer factor) ≡ at_ply number k p.item.kind (place_verdict scale wall case p)
    unfolding place_verdict verdict_over
    ply-is =
        (λ i. at_ply number k (is_c i).kind (first (is_c i) (is_inner i) (is_outer i) (is_factor i)))
        ∙ (λ i. at_ply number k p.item.kind (λ (face : FaceSide) (side : Side). decided (verdict_by coarse (criterion coarse scale p.item) (strain-by strain p.inner p.outer face i) side case.factor) (second face side)))

    pub ply-settles : (found : Finding Place) → ((other : FaceSide → Side → Verdict) → Settles found (at_ply number k c.kind (λ face side. decided (verdict_by coarse c (strain_by inner outer face) side factor) (other face side))))
        → Settles found (at_ply number k p.item.kind (place_verdict scale wall case p))
    ply-settles found settles = subst (Settles found) ply-is (settles second)

-- ---- the places of a face, and the faces of a ply

module _ (number k : ℕ) (first second : Side → Verdict) (face : FaceSide) where
  abbrev plus : Place
  plus = record { case = number; ply = k; face = face; side = Plus }

  abbrev minus : Place
  minus = record { case = number; ply = k; face = face; side = Minus }

  abbrev all : Kind → Finding Place
  all kind = at_face number k kind (λ side. decided (first side) (second side)) face

  pub face-ply : (kind : Kind) (f : Finding Place) → kind ≡ Ply → f ≡ found (first Plus) plus → Settles f (all kind)
  face-ply kind f e is = subst₂ Settles (sym is) (ap all (sym e)) (settles-place (first Plus) (second Plus) plus)

  pub face-stopped : (kind : Kind) (f : Finding Place) → kind ≡ Pair → f ≡ found (first Plus) plus → is_clear f ≡ false → Settles f (all kind)
  face-stopped kind f e is not =
      subst (Settles f) (ap all (sym e))
      (settles-first f (found (decided (first Plus) (second Plus)) plus) (found (decided (first Minus) (second Minus)) minus) (subst (λ x. Settles x (found (decided (first Plus) (second Plus)) plus)) (sym is) (settles-place (first Plus) (second Plus) plus)) not)

  pub face-pair : (kind : Kind) (f g : Finding Place) → kind ≡ Pair → f ≡ found (first Plus) plus → is_clear f ≡ true → g ≡ found (first Minus) minus → Settles g (all kind)
  face-pair kind f g e is clear later =
      subst (Settles g) (ap all (sym e))
      (settles-later f g (found (decided (first Plus) (second Plus)) plus) (found (decided (first Minus) (second Minus)) minus)
      (subst (λ x. Settles x (found (decided (first Plus) (second Plus)) plus)) (sym is) (settles-place (first Plus) (second Plus) plus)) clear
      (subst (λ x. Settles x (found (decided (first Minus) (second Minus)) minus)) (sym later) (settles-place (first Minus) (second Minus) minus)))

module _ (number k : ℕ) (kind : Kind) (first second : FaceSide → Side → Verdict) where
  abbrev of_face : FaceSide → Finding Place
  of_face face = at_face number k kind (λ side. decided (first face side) (second face side)) face

  pub ply-stopped : (f : Finding Place) → Settles f (of_face Inner) → is_clear f ≡ false → Settles f (at_ply number k kind (λ face side. decided (first face side) (second face side)))
  unfolding at_ply
  ply-stopped f is not = settles-first f (of_face Inner) (of_face Outer) is not

  pub ply-passed : (f g : Finding Place) → Settles f (of_face Inner) → is_clear f ≡ true → Settles g (of_face Outer) → Settles g (at_ply number k kind (λ face side. decided (first face side) (second face side)))
  unfolding at_ply
  ply-passed f g is clear later = settles-later f g (of_face Inner) (of_face Outer) is clear later
