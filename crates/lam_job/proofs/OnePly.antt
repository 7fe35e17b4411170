-- One ply of `mat` under a force round the wall: every field of it has the same stress across at both faces, the force
-- over the thickness, and no other stress.
use Rattle.std.proofs.Common.{◌≡◌, refl, sym, ◌∙◌, ap, subst, ℕ, zero, suc, ◌<◌, ◌≤◌, ℤ, pos, negsuc, ◌*ℤ◌, List, [], ◌∷◌, Some, None, true, false, arith}
use Rattle.std.specs.Option.{unwrap_or}
use Rattle.std.proofs.lemmas.List.Elements.{All-nil}
use mathlib.Core.Quot.{sound}
use Rattle.lam_fraction.specs.Fraction.{ℚ, whole, fraction, class_of, ◌+ℚ◌, ◌-ℚ◌, ◌*ℚ◌, ◌/ℚ◌, opposite, inverse}
use Rattle.lam_fraction.specs.inside.Quotient.{of_two, on_one, on_two}
use Rattle.lam_fraction.proofs.FractionRing.{whole-product}
use Rattle.lam_fraction.proofs.Rationals.{quotes, by_ring, from₂, positive_number, same_without_factor}
use Rattle.lam_stock.specs.declared.item.Item.{Item}
use Rattle.lam_stock.specs.declared.item.Lamina.{Lamina}
use Rattle.lam_stock.specs.declared.item.ItemNo.{ItemNo}
use Rattle.lam_stock.specs.PlyLaw.{OnAxis, Side, Plus, Minus, two, reduced_11, reduced_12, reduced_22, reduced_66, cosine, sine}
use Rattle.lam_stock.specs.TsaiWu.{RatioAtLeast}
use Rattle.lam_job.specs.declared.load.Load.{Load}
use Rattle.lam_job.specs.JobData.{CaseData}
use Rattle.lam_job.specs.Wall.{Placed}
use Rattle.lam_job.specs.LaminateStrain.{LaminateStrain}
use Rattle.lam_job.specs.Equilibrium.{Solves}
use Rattle.lam_job.specs.Strength.{Face, InnerFace, OuterFace, HasSide, stress_at, EverySolution, RatioThere, PlyRatio}
use Rattle.lam_job.specs.Rules as rules
use Rattle.lam_job.specs.Rules.{Keeps}
use Rattle.lam_job.proofs.Worked.{mat, number, forces, plain_job}

-- the wall, which is also all of the catalogue
abbrev pub alone : List Item
alone = mat ∷ []

-- its only ply, from 2.5 mm inside of the middle to 2.5 mm outside
abbrev pub placed : Placed
placed = record { item = mat; inner = negsuc 4999; outer = pos 5000 }

-- a load round the wall that is n MPa: 5 mm of wall carry 20000 quarters of N/m for each of them
abbrev pub round : ℤ → Load
round n = forces (pos 0) (pos 20000 *ℤ n) (pos 0)

-- n MPa across the fibres, and no other stress
abbrev pub hoop : ℤ → OnAxis
hoop n = record { along = whole (pos 0); across = whole n; shear = whole (pos 0) }

-- ---- every field

-- the axis x is the fibres' direction
cosine_is_1 : cosine mat.dir ≡ whole (pos 1)
unfolding cosine whole fraction class_of ◌*ℚ◌ ◌/ℚ◌ inverse on_one on_two of_two
cosine_is_1 = sound refl

sine_is_0 : sine mat.dir ≡ whole (pos 0)
unfolding sine whole fraction class_of ◌*ℚ◌ ◌/ℚ◌ inverse on_one on_two of_two
sine_is_0 = sound refl

module _ (c s along across shear : ℚ) (e : c ≡ whole (pos 1)) (f : s ≡ whole (pos 0)) where
  along_is_x : (c *ℚ c) *ℚ along +ℚ (s *ℚ s) *ℚ across -ℚ two *ℚ (s *ℚ c) *ℚ shear ≡ along
  along_is_x = from₂ ((c +ℚ whole (pos 1)) *ℚ along) e (s *ℚ across -ℚ whole (pos 2) *ℚ c *ℚ shear) f (by_ring (c ∷ s ∷ along ∷ across ∷ shear ∷ []) (search quotes depth 40 fits 9000) refl)

  across_is_y : (s *ℚ s) *ℚ along +ℚ (c *ℚ c) *ℚ across +ℚ two *ℚ (s *ℚ c) *ℚ shear ≡ across
  across_is_y = from₂ ((c +ℚ whole (pos 1)) *ℚ across) e (s *ℚ along +ℚ whole (pos 2) *ℚ c *ℚ shear) f (by_ring (c ∷ s ∷ along ∷ across ∷ shear ∷ []) (search quotes depth 40 fits 9000) refl)

  shear_is_s : (s *ℚ c) *ℚ along -ℚ (s *ℚ c) *ℚ across +ℚ (c *ℚ c -ℚ s *ℚ s) *ℚ shear ≡ shear
  shear_is_s = from₂ ((c +ℚ whole (pos 1)) *ℚ shear) e (c *ℚ along -ℚ c *ℚ across -ℚ s *ℚ shear) f (by_ring (c ∷ s ∷ along ∷ across ∷ shear ∷ []) (search quotes depth 40 fits 9000) refl)

-- a force and no moment give both faces the same stress
module _ (a b n : ℚ) (force : whole (pos 10000) *ℚ (a +ℚ b) +ℚ whole (pos 0) ≡ whole (pos 20000) *ℚ n)
    (moment : whole (pos 5000) *ℚ (a *ℚ whole (negsuc 4999) +ℚ b *ℚ whole (pos 5000)) +ℚ whole (pos 0) ≡ whole (pos 0)) where
  inner_is : a ≡ n
  inner_is = same_without_factor (whole (pos 50000000)) (positive_number 49999999) (from₂ (whole (pos 2500)) force (whole (negsuc 0)) moment (by_ring (a ∷ b ∷ n ∷ []) (search quotes depth 40 fits 9000) refl))

  outer_is : b ≡ n
  outer_is = same_without_factor (whole (pos 50000000)) (positive_number 49999999) (from₂ (whole (pos 2500)) force (whole (pos 1)) moment (by_ring (a ∷ b ∷ n ∷ []) (search quotes depth 40 fits 9000) refl))

-- a stress is n MPa across the fibres, and no other
abbrev IsHoop : ℤ → OnAxis → Type 0
IsHoop n t = (t.along ≡ whole (pos 0)) × (t.across ≡ whole n) × (t.shear ≡ whole (pos 0))

-- so it is at both faces in every field
face_is_hoop : (n : ℤ) (face : Face) (f : LaminateStrain) → Solves alone (round n) f → IsHoop n (stress_at f placed face Plus)
face_is_hoop n InnerFace f s =
    let a = stress_at f placed InnerFace Plus in (
      sym (along_is_x _ _ a.along a.across a.shear cosine_is_1 sine_is_0) ∙ inner_is _ _ (whole (pos 0)) (s.nx ∙ whole-product (pos 20000) (pos 0)) s.mx,
      sym (across_is_y _ _ a.along a.across a.shear cosine_is_1 sine_is_0) ∙ inner_is _ _ (whole n) (s.ny ∙ whole-product (pos 20000) n) s.my,
      sym (shear_is_s _ _ a.along a.across a.shear cosine_is_1 sine_is_0) ∙ inner_is _ _ (whole (pos 0)) (s.nxy ∙ whole-product (pos 20000) (pos 0)) s.mxy,
    )
face_is_hoop n OuterFace f s =
    let b = stress_at f placed OuterFace Plus in (
      sym (along_is_x _ _ b.along b.across b.shear cosine_is_1 sine_is_0) ∙ outer_is _ _ (whole (pos 0)) (s.nx ∙ whole-product (pos 20000) (pos 0)) s.mx,
      sym (across_is_y _ _ b.along b.across b.shear cosine_is_1 sine_is_0) ∙ outer_is _ _ (whole n) (s.ny ∙ whole-product (pos 20000) n) s.my,
      sym (shear_is_s _ _ b.along b.across b.shear cosine_is_1 sine_is_0) ∙ outer_is _ _ (whole (pos 0)) (s.nxy ∙ whole-product (pos 20000) (pos 0)) s.mxy,
    )

-- what is said of the hoop stress is said of each stress that is equal to it
said_of : (So : OnAxis → Type 0) (n : ℤ) (t : OnAxis) → IsHoop n t → So (hoop n) → So t
said_of So n t e so =
    subst (λ x. So (record { along = x; across = t.across; shear = t.shear })) (sym e.0)
    (subst (λ y. So (record { along = whole (pos 0); across = y; shear = t.shear })) (sym e.1)
    (subst (λ z. So (record { along = whole (pos 0); across = whole n; shear = z })) (sym e.2) so))

-- what is said of `mat` at the hoop stress is so for every field, at both faces and on its side
pub at_each_face : (So : Lamina → OnAxis → Type 0) (n : ℤ) → So mat.lamina (hoop n)
    → (face : Face) (side : Side) → HasSide mat.kind side → EverySolution alone (round n) placed face side So
at_each_face So n so face Plus has f s = said_of (So mat.lamina) n (stress_at f placed face Plus) (face_is_hoop n face f s) so
at_each_face So n so face Minus has f s = absurd has

-- its ratio is that of the hoop stress
pub ratio_of_mat : (n : ℤ) (r : ℚ) → RatioAtLeast mat.lamina (hoop n) r → (ply : ℕ) → PlyRatio alone (round n) ply r
ratio_of_mat n r meets zero p e =
    subst (λ (q : Placed). (face : Face) (side : Side) → HasSide q.item.kind side → RatioThere alone (round n) q face side r) (ap (λ o. unwrap_or o placed) e)
    (at_each_face (λ l t. RatioAtLeast l t r) n meets)
ratio_of_mat n r meets (suc ply) p e = absurd (let no : None ≡ Some p = e in cc)

-- ---- a field that there is

-- a strain of n MPa over 10000 MPa round the wall
abbrev pub stretched : ℤ → LaminateStrain
stretched n = record {
  mid_plane = record { x = whole (pos 0); y = fraction n (pos 10000); s = whole (pos 0) };
  curvature = record { x = whole (pos 0); y = whole (pos 0); s = whole (pos 0) };
}

-- it is one of the wall at 18 MPa, and at 24 MPa
pub stretched_at_18 : Solves alone (round (pos 18)) (stretched (pos 18))
unfolding whole fraction class_of ◌+ℚ◌ ◌-ℚ◌ ◌*ℚ◌ ◌/ℚ◌ opposite inverse on_one on_two of_two reduced_11 reduced_12 reduced_22 reduced_66 cosine sine
stretched_at_18 = record { nx = sound refl; ny = sound refl; nxy = sound refl; mx = sound refl; my = sound refl; mxy = sound refl }

pub stretched_at_24 : Solves alone (round (pos 24)) (stretched (pos 24))
unfolding whole fraction class_of ◌+ℚ◌ ◌-ℚ◌ ◌*ℚ◌ ◌/ℚ◌ opposite inverse on_one on_two of_two reduced_11 reduced_12 reduced_22 reduced_66 cosine sine
stretched_at_24 = record { nx = sound refl; ny = sound refl; nxy = sound refl; mx = sound refl; my = sound refl; mxy = sound refl }

-- ---- the rules

-- where no rule is asked, the schedule of this ply keeps all
pub keeps_no_rule : (limit : ℕ) (cases : List CaseData) → Keeps alone (plain_job limit cases) (number 0 ∷ [])
keeps_no_rule limit cases rules.InnerRule = tt
keeps_no_rule limit cases rules.OuterRule = tt
keeps_no_rule limit cases rules.SymmetricRule = λ e. refl
keeps_no_rule limit cases rules.BalancedRule = λ e. absurd (let n : false ≡ true = e in cc)
keeps_no_rule limit cases rules.RunRule = tt
keeps_no_rule limit cases rules.FewestRule = tt
keeps_no_rule limit cases rules.ThicknessRule = tt
keeps_no_rule limit cases rules.CountsRule = All-nil (λ (count : ItemNo × ℕ). count.1 ≤ rules.times_of count.0 (number 0 ∷ []))
keeps_no_rule limit cases rules.FitnessRule = λ h. absurd (let n : 0 < 0 = h in omega (arith, n))
