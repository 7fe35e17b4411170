-- What computed ratios say is so.
use Rattle.std.proofs.Common.{◌≡◌, refl, sym, ◌∙◌, ap, subst, subst₂, ℕ, zero, suc, ◌+◌, ◌-◌, ◌*◌, ◌/◌, ◌^◌, ◌<◌, ◌≤◌, ◌⊎◌, inl, inr, Bool, true, false, ℤ, pos, ◌+ℤ◌, List, [], ◌∷◌, ◌++◌, flat_map, map, length, slice_get, Some, None, arith}
use Rattle.std.proofs.lemmas.Bool.{cases_lt}
use Rattle.std.proofs.lemmas.List.{length-append}
use Rattle.std.proofs.lemmas.Option.{same_Some}
use Rattle.std.proofs.lemmas.Int.{ints}
use Rattle.lam_fraction.specs.Fraction.{whole, ◌≤ℚ◌}
use Rattle.lam_number.specs.declared.fix.Fix.{Fix}
use Rattle.lam_number.specs.declared.strength.FaceStrain.{FaceStrain}
use Rattle.lam_number.specs.declared.strength.Verdict.{Verdict}
use Rattle.lam_number.specs.declared.strength.Verdict.TheVariants.{Meets, Fails, Straddles}
use Rattle.lam_stock.specs.PlyLaw as law
use Rattle.lam_stock.specs.declared.item.Item.{Item}
use Rattle.lam_stock.specs.declared.item.ItemNo.{ItemNo}
use Rattle.lam_stock.specs.Scale.{scale_of}
use Rattle.lam_stock.specs.Stock.{WithinLimits}
use Rattle.lam_job.specs.declared.load.Load.{Load}
use Rattle.lam_job.specs.LaminateStrain.{strain_at}
use Rattle.lam_job.specs.LoadRange.{LoadInRange}
use Rattle.lam_job.specs.Schedule.{items_of}
use Rattle.lam_job.specs.Strength.{Face, InnerFace, OuterFace, HasSide, PlyRatio, RatioThere, face_z}
use Rattle.lam_job.specs.Wall.{Placed, placed_plies, wall_thickness}
use Rattle.lam_job.proofs.Listed.{items_of-all}
use Rattle.lam_wall.specs.Assembled.{ArePlies}
use Rattle.lam_wall.proofs.Assembled.{stands-for}
use Rattle.lam_solve.specs.StrainBounds.{OneStrain}
use Rattle.lam_solve.proofs.HeldStrains.{has-one}
use Rattle.lam_sharp.specs.NearOne.{nearly_one, past_ratio}
use Rattle.lam_sharp.proofs.Places.{ratio_ends}
use Rattle.lam_tsai.specs.Levels.{side_of, value_at, verdict_of}
use Rattle.lam_tsai.specs.Ratios.{HasRatio}
use Rattle.lam_tsai.specs.declared.place.FaceSide.{FaceSide}
use Rattle.lam_tsai.specs.declared.place.FaceSide.TheVariants.{Inner, Outer}
use Rattle.lam_tsai.specs.declared.place.Side.{Side}
use Rattle.lam_tsai.specs.inside.Halving.{AllMeet, halved, meets_at}
use Rattle.lam_tsai.specs.inside.Values.{criterion, level}
use Rattle.lam_tsai.proofs.FactorsMet.{all-meet, not-all, ratio-met}
use Rattle.lam_tsai.proofs.Halved.{Halves, found-bound, found-next, found-value, lower, start, upper}
use Rattle.lam_judge.specs.inside.Judged.{face_strain, z_by}
use Rattle.lam_judge.specs.inside.Ratios.{ply_ratio}
use Rattle.lam_judge.specs.inside.Scales.{fine}
use Rattle.lam_judge.proofs.WallsLaid.{fine-laws}
use Rattle.lam_judge.proofs.truth.NarrowLaws.{finest, not-met}
use Rattle.lam_judge.proofs.truth.NarrowTruth.{not-met-there}
use Rattle.lam_judge.proofs.truth.PlaceTruth.{six, strain-held}
use Rattle.lam_judge.proofs.truth.WallTruth.{listed, within-wall}

-- ---- halving: what the end passes, and that it does not pass the next

record IsPrinted (test : ℕ → Bool) (r : ℕ) : Type 0 where
  bound : r ≤ 20000
  met : (r ≡ 0) ⊎ (test r ≡ true)
  next : r < 20000 → test (r + 1) ≡ false

by_test : {X : Type 0} (b : Bool) → (b ≡ true → X) → (b ≡ false → X) → X
by_test true f g = f refl
by_test false f g = g refl

ended : {test : ℕ → Bool} {m b : ℕ} → Halves test m b → b - m ≤ 1 → IsPrinted test (halved test)
ended {test} {m} {b} h narrow = subst (IsPrinted test) (found-value h narrow) (record { bound = found-bound h narrow; met = h.passes; next = found-next h narrow })

printed-from : (k : ℕ) (test : ℕ → Bool) (m b : ℕ) → Halves test m b → b - m ≤ 2 ^ k → IsPrinted test (halved test)
printed-from zero test m b h few = ended h (omega (arith, few))
printed-from (suc k) test m b h few =
    let halves : 2 ^ suc k ≡ 2 * 2 ^ k = omega arith in
    elim (cases_lt 1 (b - m)) [
      | inl wide ↦ by_test (test ((m + b) / 2))
          (λ e. printed-from k test ((m + b) / 2) b (upper h wide e) (omega (arith, few, halves)))
          (λ e. printed-from k test m ((m + b) / 2) (lower h wide e) (omega (arith, few, halves)))
      | inr narrow ↦ ended h (omega (arith, narrow))
    ]

halved-kept : (test : ℕ → Bool) → IsPrinted test (halved test)
halved-kept test = printed-from 15 test 0 20001 (start test) (omega arith)

-- ---- the ratio of a ply

module _ {stock : List Item} {numbers : List ItemNo} (plies : ArePlies (scale_of stock) stock numbers) (load : Load)
    (range : LoadInRange (scale_of stock).floor (wall_thickness (items_of stock numbers)) load) (k : ℕ) (p : Placed) (at : slice_get (placed_plies (items_of stock numbers)) k ≡ Some p) where
  abbrev wall : List Item
  wall = items_of stock numbers

  abbrev inner : FaceStrain (Fix 60)
  inner = face_strain fine (scale_of stock) wall load p.inner

  abbrev outer : FaceStrain (Fix 60)
  outer = face_strain fine (scale_of stock) wall load p.outer

  abbrev test : ℕ → Bool
  test r = meets_at fine (criterion fine (scale_of stock) p.item) inner outer r

  kept : IsPrinted test (ply_ratio (scale_of stock) wall load p)
  unfolding ply_ratio
  kept = halved-kept test

  has-ratio : HasRatio fine p.item inner outer (ply_ratio (scale_of stock) wall load p)
  has-ratio =
      let r = ply_ratio (scale_of stock) wall load p in
      ratio-met fine-laws (listed plies k p at) inner outer (six fine-laws plies load range p.inner (within-wall plies k p at Inner)) (six fine-laws plies load range p.outer (within-wall plies k p at Outer)) r kept.bound
      (elim kept.met [ inl e ↦ inl e | inr e ↦ inr (all-meet fine (scale_of stock) p.item inner outer r e) ])

  ratio-there : (face : Face) (side : law.Side) → HasSide p.item.kind side → RatioThere wall load p face side (whole (pos (ply_ratio (scale_of stock) wall load p)))
  ratio-there InnerFace side has = λ f solves. has-ratio Inner side has (strain_at f p.inner) (strain-held fine-laws plies load range p.inner (within-wall plies k p at Inner) f solves)
  ratio-there OuterFace side has = λ f solves. has-ratio Outer side has (strain_at f p.outer) (strain-held fine-laws plies load range p.outer (within-wall plies k p at Outer) f solves)

  pub ply-printed : PlyRatio wall load k (whole (pos (ply_ratio (scale_of stock) wall load p)))
  ply-printed = λ q found. subst (λ (x : Placed). (face : Face) (side : law.Side) → HasSide x.item.kind side → RatioThere wall load x face side (whole (pos (ply_ratio (scale_of stock) wall load p)))) (same_Some p q (sym at ∙ found)) ratio-there

  -- ---- the ratio is not much above it

  one-strain : OneStrain wall load
  one-strain = has-one load stock numbers (stands-for fine-laws plies)

  next-is : (r : ℕ) → pos (r + 1) ≡ pos r +ℤ pos 1
  next-is r = omega (arith, ints)

  -- where a place does not meet the next thousandth, the ply does not have the ratio past the printed one
  place-ends : (r : ℕ) → r < 20000 → (at_side : FaceSide) (face : Face) (side : Side) → z_by p.inner p.outer at_side ≡ face_z face p → HasSide p.item.kind (side_of side)
      → ¬ (verdict_of fine (level fine p.item side (scale_of stock) (face_strain fine (scale_of stock) wall load (z_by p.inner p.outer at_side)) (pos (r + 1))) ≡ Meets)
      → ¬ PlyRatio wall load k (past_ratio (pos r))
  place-ends r less at_side face side z has unmet =
      ratio_ends wall load k p face (side_of side) one-strain.strain (pos r) (items_of-all stock WithinLimits plies.catalogue.limits numbers) at has one-strain.solves (omega (arith, ints))
      (subst₂ (λ y t. nearly_one ≤ℚ value_at p.item (side_of side) (strain_at one-strain.strain y) (whole t)) z (next-is r)
      (not-met-there fine-laws finest plies load range (z_by p.inner p.outer at_side) (within-wall plies k p at at_side) (listed plies k p at) side (pos (r + 1)) one-strain.strain one-strain.solves not-met
      (record { least = omega (arith, ints); greatest = omega (arith, ints, less) }) unmet))

  meets-or-not : (v : Verdict) → (v ≡ Meets) ⊎ (¬ (v ≡ Meets))
  meets-or-not Meets = inl refl
  meets-or-not Fails = inr (λ e. let n : Fails ≡ Meets = e in cc)
  meets-or-not Straddles = inr (λ e. let n : Straddles ≡ Meets = e in cc)

  abbrev printed : ℕ
  printed = ply_ratio (scale_of stock) wall load p

  pub ply-ends : printed < 20000 → ¬ PlyRatio wall load k (past_ratio (pos printed))
  ply-ends less ratio = not-all fine (scale_of stock) p.item inner outer (printed + 1) (kept.next less) all
    where
      all : AllMeet fine p.item (scale_of stock) inner outer (printed + 1)
      all Inner side has = elim (meets-or-not (verdict_of fine (level fine p.item side (scale_of stock) inner (pos (printed + 1))))) [ inl e ↦ e | inr unmet ↦ absurd (place-ends printed less Inner InnerFace side refl has unmet ratio) ]
      all Outer side has = elim (meets-or-not (verdict_of fine (level fine p.item side (scale_of stock) outer (pos (printed + 1))))) [ inl e ↦ e | inr unmet ↦ absurd (place-ends printed less Outer OuterFace side refl has unmet ratio) ]

-- ---- blocks of one length, one for each element

-- what is at a place of a mapped list
pub map-at : {X Y : Type 0} (f : X → Y) (xs : List X) (j : ℕ) (y : Y) → slice_get (map f xs) j ≡ Some y → (x : X) × (slice_get xs j ≡ Some x) × (y ≡ f x)
map-at f [] j y e = absurd (let n : None ≡ Some y = e in cc)
map-at f (x ∷ xs) zero y e = (x, refl, sym (same_Some (f x) y e))
map-at f (x ∷ xs) (suc j) y e = map-at f xs j y e

append-front : {Y : Type 0} (a b : List Y) (i : ℕ) → i < length a → slice_get (a ++ b) i ≡ slice_get a i
append-front [] b i h = absurd (omega (arith, h))
append-front (x ∷ a) b zero h = refl
append-front (x ∷ a) b (suc i) h = append-front a b i (omega (arith, h))

append-back : {Y : Type 0} (a b : List Y) (i : ℕ) → slice_get (a ++ b) (length a + i) ≡ slice_get b i
append-back [] b i = let e : 0 + i ≡ i = omega arith in ap (slice_get b) e
append-back (x ∷ a) b i = let e : suc (length a) + i ≡ suc (length a + i) = omega arith in ap (slice_get (x ∷ (a ++ b))) e ∙ append-back a b i

module _ {X Y : Type 0} (f : X → List Y) (n : ℕ) (each : (x : X) → length (f x) ≡ n) where
  pub flat-length : (xs : List X) → length (flat_map f xs) ≡ length xs * n
  flat-length [] = omega arith
  flat-length (x ∷ xs) = let a = length-append (f x) (flat_map f xs) in let b = flat-length xs in let c = each x in let d : suc (length xs) * n ≡ n + length xs * n = omega arith in omega (arith, a, b, c, d)

  -- the element and the place in its block, of a place
  pub record IsAt (xs : List X) (i : ℕ) (y : Y) : Type 0 where
    pub element : ℕ
    pub place : ℕ
    pub item : X
    pub is : i ≡ element * n + place
    pub within : place < n
    pub at : slice_get xs element ≡ Some item
    pub of : slice_get (f item) place ≡ Some y

  pub flat-at : (xs : List X) (i : ℕ) (y : Y) → slice_get (flat_map f xs) i ≡ Some y → IsAt xs i y
  flat-at [] i y e = absurd (let n : None ≡ Some y = e in cc)
  flat-at (x ∷ xs) i y e =
      elim (cases_lt i n) [
        | inl less ↦ (let within : i < length (f x) = omega (arith, less, each x) in
            record { element = 0; place = i; item = x; is = omega arith; within = less; at = refl; of = sym (append-front (f x) (flat_map f xs) i within) ∙ e })
        | inr more ↦ (let split : length (f x) + (i - n) ≡ i = omega (arith, more, each x) in
            let later = flat-at xs (i - n) y (sym (append-back (f x) (flat_map f xs) (i - n)) ∙ ap (slice_get (f x ++ flat_map f xs)) split ∙ e) in
            let sum : suc later.element * n ≡ n + later.element * n = omega arith in
            record { element = suc later.element; place = later.place; item = later.item; is = omega (arith, more, later.is, sum); within = later.within; at = later.at; of = later.of })
      ]
