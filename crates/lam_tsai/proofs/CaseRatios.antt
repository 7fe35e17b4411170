-- From faces that meet a factor to the strength ratio of a ply in a loaded wall.
use Rattle.std.proofs.Common.{◌≡◌, sym, ◌∙◌, ap, subst, ℕ, ◌≤◌, pos, List, Some, None, slice_get}
use Rattle.std.specs.declared.option.Option.{Option}
use Rattle.lam_fraction.specs.Fraction.{whole}
use Rattle.lam_fraction.specs.numbers.Numbers.{Numbers, Lawful}
use Rattle.lam_job.specs.JobData.{CaseData, JobData}
use Rattle.lam_job.specs.LoadOf.{load_of}
use Rattle.lam_job.specs.Schedule.{wall_of}
use Rattle.lam_job.specs.LaminateStrain.{strain_at}
use Rattle.lam_job.specs.Strength.{CaseRatio, PlyRatio, RatioThere, HasSide, Face, InnerFace, OuterFace}
use Rattle.lam_job.specs.Wall.{Placed, placed_plies}
use Rattle.lam_job.specs.declared.load.Load.{Load}
use Rattle.lam_number.specs.declared.strength.FaceStrain.{FaceStrain}
use Rattle.lam_stock.specs.PlyLaw as law
use Rattle.lam_stock.specs.declared.item.Item.{Item}
use Rattle.lam_stock.specs.declared.item.ItemNo.{ItemNo}
use Rattle.lam_stock.specs.declared.scale.Scale.{Scale}
use Rattle.lam_tsai.specs.declared.place.FaceSide.TheVariants.{Inner, Outer}
use Rattle.lam_tsai.specs.FaceStrains.{IsWithinSix}
use Rattle.lam_tsai.specs.Listed.{IsItemOf}
use Rattle.lam_tsai.specs.Ratios.{HoldsSolutions}
use Rattle.lam_tsai.specs.inside.Halving.{AllMeet}
use Rattle.lam_tsai.proofs.FactorsMet.{all-ratio}

abbrev value_or : {X : Type 0} → X → Option X → X
value_or a None = a
value_or a (Some b) = b

some-same : {X : Type 0} {o : Option X} {a b : X} → o ≡ Some a → o ≡ Some b → a ≡ b
some-same {a = a} e d = ap (value_or a) (sym e ∙ d)

module _ {A : Type 0} {n : Numbers A} (laws : Lawful n) where
  there : (wall : List Item) (load : Load) (p : Placed) (scale : Scale) (inner outer : FaceStrain A) (r : ℕ) → IsItemOf scale p.item → IsWithinSix n inner → IsWithinSix n outer
      → HoldsSolutions n wall load p inner outer → r ≤ 20000 → AllMeet n p.item scale inner outer r
      → (face : Face) (side : law.Side) → HasSide p.item.kind side → RatioThere wall load p face side (whole (pos r))
  there wall load p scale inner outer r is six more holds few all InnerFace side h = λ f solves. all-ratio laws is inner outer six more r few all Inner side h (strain_at f p.inner) (holds.inner_face f solves)
  there wall load p scale inner outer r is six more holds few all OuterFace side h = λ f solves. all-ratio laws is inner outer six more r few all Outer side h (strain_at f p.outer) (holds.outer_face f solves)

  pub ply-ratio : (wall : List Item) (load : Load) (ply : ℕ) (p : Placed) (scale : Scale) (inner outer : FaceStrain A) (r : ℕ) → slice_get (placed_plies wall) ply ≡ Some p
      → IsItemOf scale p.item → IsWithinSix n inner → IsWithinSix n outer → HoldsSolutions n wall load p inner outer → r ≤ 20000 → AllMeet n p.item scale inner outer r
      → PlyRatio wall load ply (whole (pos r))
  ply-ratio wall load ply p scale inner outer r at is six more holds few all q found =
      subst (λ x. (face : Face) (side : law.Side) → HasSide x.item.kind side → RatioThere wall load x face side (whole (pos r))) (some-same at found)
      (there wall load p scale inner outer r is six more holds few all)

  pub case-ratio : (stock : List Item) (job : JobData) (listed : List ItemNo) (case ply : ℕ) (c : CaseData) (p : Placed) (scale : Scale) (inner outer : FaceStrain A) (r : ℕ)
      → slice_get job.cases case ≡ Some c → slice_get (placed_plies (wall_of stock job listed)) ply ≡ Some p
      → IsItemOf scale p.item → IsWithinSix n inner → IsWithinSix n outer → HoldsSolutions n (wall_of stock job listed) (load_of c.kind) p inner outer → r ≤ 20000 → AllMeet n p.item scale inner outer r
      → CaseRatio stock job listed case ply (whole (pos r))
  case-ratio stock job listed case ply c p scale inner outer r asked at is six more holds few all d found =
      subst (λ x. PlyRatio (wall_of stock job listed) (load_of x.kind) ply (whole (pos r))) (some-same asked found)
      (ply-ratio (wall_of stock job listed) (load_of c.kind) ply p scale inner outer r at is six more holds few all)
