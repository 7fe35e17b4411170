-- Where a box of strains shows a place, every completion that is in range fails there.
use Rattle.std.proofs.Common.{◌≡◌, refl, sym, ◌∙◌, ap, subst, ℕ, ◌*◌, ◌<◌, ◌≤◌, ℤ, pos, negsuc, neg_ℤ, ◌*ℤ◌, ◌≤ℤ◌, unsigned_abs, Bool, true, false, not, ◌&&◌, ◌==◌, nat_le, List, [], ◌∷◌, ◌++◌, length, slice_get, Option, Some, None, All, IsSomeAnd, arith, rules}
use Rattle.std.specs.Prelude.{if◌then◌else◌}
use Rattle.std.proofs.lemmas.Bool.Decides.{nat_tests}
use Rattle.std.proofs.lemmas.Int.{ints}
use Rattle.std.proofs.lemmas.List.Elements.{All-cons, All-get_or, All-nil}
use Rattle.std.proofs.lemmas.Option.{get_or_from_slice_get, same_Some, slice_get-get_or, slice_get_within}
use Rattle.lam_fraction.specs.Fraction.{whole}
use Rattle.lam_fraction.specs.numbers.Arithmetic.{exact}
use Rattle.lam_fraction.specs.numbers.Numbers.{Numbers, Lawful, unit}
use Rattle.lam_fraction.specs.inside.Reaches.{Reaches}
use Rattle.lam_fraction.proofs.Integers.{◌*ₙ◌}
use Rattle.lam_fraction.proofs.WholeFractions.{pos-product}
use Rattle.lam_fraction.proofs.numbers.Tests.{both-left, both-right}
use Rattle.lam_number.specs.declared.strength.FaceStrain.{FaceStrain}
use Rattle.lam_number.specs.declared.fix.Fix.{Fix}
use Rattle.lam_number.specs.inside.FixLaws.{fix_lawful}
use Rattle.lam_number.specs.inside.FixNumbers.{fix_numbers}
use Rattle.lam_stock.specs.declared.item.Item.{Item}
use Rattle.lam_stock.specs.declared.item.ItemNo.{ItemNo}
use Rattle.lam_stock.specs.Scale.{scale_of}
use Rattle.lam_stock.specs.Stock.{IsStock}
use Rattle.lam_job.specs.declared.load.Load.{Load}
use Rattle.lam_job.specs.JobData.{CaseData, JobData}
use Rattle.lam_job.specs.LoadOf.{load_of}
use Rattle.lam_job.specs.LoadRange.{LoadInRange, SizeWithin, WallInRange}
use Rattle.lam_job.specs.Equilibrium.{Solves}
use Rattle.lam_job.specs.LaminateStrain.{LaminateStrain}
use Rattle.lam_job.specs.Partial.{Partial, Completes, half}
use Rattle.lam_job.specs.Ranges.{IsCase, IsFactor, IsJob}
use Rattle.lam_job.specs.Schedule.{items_of, wall_of}
use Rattle.lam_job.specs.Strength.{FailsAt, HasSide, InnerFace, RatioAt, RatioThere}
use Rattle.lam_job.specs.Wall.{placed_plies, wall_thickness}
use Rattle.lam_job.proofs.Listed.{items_of-all, items_of-append}
use Rattle.lam_rules.specs.Conditions.{IsPartial}
use Rattle.lam_rules.proofs.Parts.{completion_in_parts, mirror_images}
use Rattle.lam_wall.specs.Assembled.{ArePlies}
use Rattle.lam_wall.proofs.CatalogueWalls.{plies-one_strain}
use Rattle.lam_wall.proofs.OffAxes.{none}
use Rattle.lam_solve.specs.inside.Parts.{IsPosed, IsScaled}
use Rattle.lam_solve.specs.inside.Steps.{over_up}
use Rattle.lam_solve.proofs.Posed.{force-order, force-room, scaled}
use Rattle.lam_tree.specs.Closings.{MayBox}
use Rattle.lam_tree.specs.Words.{AllFailAt, face_of, place_of}
use Rattle.lam_tsai.specs.FaceStrains.{HoldsStrain, IsWithinSix}
use Rattle.lam_tsai.specs.Levels.{side_of}
use Rattle.lam_tsai.specs.Listed.{IsItemOf}
use Rattle.lam_tsai.specs.declared.place.FaceSide.{FaceSide}
use Rattle.lam_tsai.specs.declared.place.Place.{Place}
use Rattle.lam_tsai.specs.inside.Values.{criterion}
use Rattle.lam_boxes.specs.declared.three.Shape.{Shape}
use Rattle.lam_boxes.specs.declared.three.Three.{Three}
use Rattle.lam_boxes.specs.inside.Boxes.{bears, box_round, box_under, boxed, boxed_at, failing_in, failing_side, shape_of}
use Rattle.lam_boxes.specs.inside.Centres.{guess, is_near}
use Rattle.lam_boxes.specs.inside.Parts.{IsMembrane, IsThickness, NearCentre, ThreeReach, force_reach, small_reach}
use Rattle.lam_boxes.specs.inside.Residuals as by
use Rattle.lam_boxes.proofs.Completions.{extension-holds, extension-reaches, least-is, least-within, most-is}
use Rattle.lam_boxes.proofs.FirstFailing.{FoundAt, found-at, get-first, placed-at, side-fails}
use Rattle.lam_boxes.proofs.HeldBox.{HoldsThree, around-six, narrower, small-end, wider}
use Rattle.lam_boxes.proofs.InBox.{box-holds, force-reaches}
use Rattle.lam_boxes.proofs.InWalls.{place-fails, wall-listed, wall-palindrome}
use Rattle.lam_boxes.proofs.Palindromes.{unbent}

-- ---- tests

passed : (m n : ℕ) → nat_le m n ≡ true → m ≤ n
passed m n h = grind (arith, nat_tests)

-- what an answer came from
some-if : {X : Type 0} (b : Bool) (x : Option X) (a : X) → (if b then x else None) ≡ Some a → (b ≡ true) × (x ≡ Some a)
some-if true x a e = (refl, e)
some-if false x a e = absurd (cc)

-- what is not asked is not answered
pub unchosen : {X : Type 0} (b : Bool) (x y : X) → b ≡ false → y ≡ (if b then x else y)
unchosen true x y e = absurd (cc)
unchosen false x y e = refl

-- ---- a load in range

product-size : (a b : ℤ) → pos 0 ≤ℤ a → pos 0 ≤ℤ b → a *ℤ b ≡ pos (unsigned_abs a * unsigned_abs b)
product-size (pos m) (pos n) h k = pos-product m n
product-size (pos m) (negsuc n) h k = absurd (omega (arith, ints, k))
product-size (negsuc m) b h k = absurd (omega (arith, ints, h))

module _ (floor h : ℤ) (load : Load) (above_floor : pos 0 ≤ℤ floor) (above_h : pos 0 ≤ℤ h) where
  size-within : (z : ℤ) → nat_le (unsigned_abs z) (unsigned_abs floor * unsigned_abs h) ≡ true → SizeWithin (floor *ℤ h) z
  size-within z e = let k = passed _ _ e in let s = product-size floor h above_floor above_h in omega (arith, ints, k, s)

  moment-within : (m : ℤ) → m ≡ pos 0 → SizeWithin (floor *ℤ (h *ℤ h)) (pos 8000 *ℤ m)
  moment-within m e =
      let zero : pos (unsigned_abs (pos 8000 *ℤ m)) ≡ pos 0 = omega (arith, ints, e) in
      subst (λ z. z ≤ℤ (floor *ℤ (h *ℤ h))) (sym zero) (above_floor *ₙ (above_h *ₙ above_h))

  pub in-range : IsMembrane load → bears floor h load ≡ true → LoadInRange floor h load
  in-range zero e =
      let rest = both-right _ _ e in
      record {
        nx = size-within load.nx (both-left _ _ e);
        ny = size-within load.ny (both-left _ _ rest);
        nxy = size-within load.nxy (both-right _ _ rest);
        mx = moment-within load.mx zero.mx;
        my = moment-within load.my zero.my;
        mxy = moment-within load.mxy zero.mxy;
      }

-- ---- the scale of a catalogue

pub scaled-of : (stock : List Item) → IsStock stock (scale_of stock) → IsScaled (scale_of stock)
scaled-of stock is = scaled (one is) where
  one : IsStock stock (scale_of stock) → ArePlies (scale_of stock) stock (record { 0 = 0 } ∷ [])
  one is = record { catalogue = is; some = omega arith; few = omega arith; known = All-cons (λ (ply : ItemNo). ply.0 < length stock) (record { 0 = 0 }) [] (omega (arith, is.some)) (All-nil (λ (ply : ItemNo). ply.0 < length stock)) }

module _ {A : Type 0} {n : Numbers A} (laws : Lawful n) where
  -- ---- what is near, and small

  pub near-centre : (c : Three ℤ) → is_near n c ≡ true → NearCentre n c
  near-centre c e =
      let rest = both-right _ _ e in
      record { x = passed _ _ (both-left _ _ e); y = passed _ _ (both-left _ _ rest); s = passed _ _ (both-right _ _ rest) }

  pub small-one : (z : A) → by.is_small n z ≡ true → Reaches n small_reach z
  small-one z e = small-end z (passed _ _ (both-left _ _ e)) (passed _ _ (both-right _ _ e))

  pub small-three : (r : Three A) → by.are_small n r ≡ true → ThreeReach n small_reach r
  small-three r e =
      let rest = both-right _ _ e in
      record { x = small-one r.x (both-left _ _ e); y = small-one r.y (both-left _ _ rest); s = small-one r.s (both-right _ _ rest) }

  -- ---- the box

  pub box-six : (c : Three ℤ) (r : ℕ) → NearCentre n c → r ≤ unit n → IsWithinSix n (box_round n c r)
  box-six c r near h = record {
    x = around-six laws c.x r near.x (narrower laws r h);
    y = around-six laws c.y r near.y (narrower laws r h);
    s = around-six laws c.s (over_up (3 * r) 2) near.s (wider laws r h);
  }

  module _ (stock : List Item) (job : JobData) (p : Partial) (is : IsStock stock (scale_of stock)) (ok : IsPartial stock job p) (more : length p.prefix < half job p.n)
      (load : Load) (zero : IsMembrane load) where
    abbrev shape : Shape A
    shape = shape_of n stock job p

    abbrev loads : Three A
    loads = by.forces n.calc (scale_of stock).q0 shape.most load

    abbrev centre : Three ℤ
    centre = guess n shape.extension loads

    abbrev rest : Three A
    rest = by.residual n.calc shape.extension loads (by.eighths n.calc (unit n) centre)

    abbrev r : ℕ
    r = by.radius n (scale_of stock) shape.most shape.least rest

    -- what an answer is, and what it came from
    record Found (at : FaceStrain A) : Type 0 where
      bears : bears (scale_of stock).floor shape.most load ≡ true
      near : is_near n centre ≡ true
      small : by.are_small n rest ≡ true
      narrow : nat_le r (unit n) ≡ true
      value : box_round n centre r ≡ at

    found : (at : FaceStrain A) → box_under n (scale_of stock) shape load ≡ Some at → Found at
    unfolding box_under
    found at e =
        let a = some-if _ _ at e in
        let b = some-if _ _ at a.1 in
        let c = some-if _ _ at b.1 in
        let d = some-if _ _ at c.1 in
        record { bears = a.0; near = b.0; small = c.0; narrow = d.0; value = same_Some _ at d.1 }

    module _ (at : FaceStrain A) (e : box_under n (scale_of stock) shape load ≡ Some at) where
      answer : Found at
      answer = found at e

      narrow : r ≤ unit n
      narrow = passed r (unit n) answer.narrow

      near : NearCentre n centre
      near = near-centre centre answer.near

      pub found-six : IsWithinSix n at
      found-six = subst (IsWithinSix n) answer.value (box-six centre r near narrow)

      most-thick : IsThickness shape.most
      most-thick = most-is stock job p is ok more

      least-thick : IsThickness shape.least
      least-thick = least-is stock job p is ok more

      posed : IsPosed (scale_of stock) shape.most load
      posed =
          let s = scaled-of stock is in
          record {
            scaled = s;
            thick = most-thick.least;
            thin = most-thick.greatest;
            range = in-range (scale_of stock).floor shape.most load (omega (arith, ints, s.floor)) (omega (arith, ints, most-thick.least)) zero answer.bears;
          }

      loads-reach : ThreeReach n force_reach loads
      loads-reach = record {
        x = force-reaches laws posed load.nx (force-room posed posed.range.nx) (force-order posed load.nx posed.range.nx);
        y = force-reaches laws posed load.ny (force-room posed posed.range.ny) (force-order posed load.ny posed.range.ny);
        s = force-reaches laws posed load.nxy (force-room posed posed.range.nxy) (force-order posed load.nxy posed.range.nxy);
      }

      loads-hold : HoldsThree n loads (by.forces exact (scale_of stock).q0 shape.most load)
      loads-hold = record {
        x = (laws.ratio _ _ (force-room posed posed.range.nx)).held;
        y = (laws.ratio _ _ (force-room posed posed.range.ny)).held;
        s = (laws.ratio _ _ (force-room posed posed.range.nxy)).held;
      }

      pub found-holds : (listed : List ItemNo) (c : Completes stock job p listed) (plies : ArePlies (scale_of stock) stock listed) (f : LaminateStrain)
          → Solves (items_of stock listed) load f → f.curvature ≡ none → HoldsStrain n at f.mid_plane
      found-holds listed c plies f solves flat =
          subst (λ t. HoldsStrain n t f.mid_plane) answer.value
          (box-holds laws plies load f solves flat shape.most shape.least (omega (arith, ints, most-thick.least)) (omega (arith, ints, least-thick.least)) (least-within stock job p is ok more listed c)
          shape.extension (extension-reaches stock job p is ok more laws) (extension-holds stock job p is ok more laws listed c) loads-reach loads-hold centre near
          (small-three rest answer.small) narrow)

-- ---- the answer

laws : Lawful (fix_numbers 60)
laws = fix_lawful 60 (search rules)

case-kept : (P : CaseData → Type 0) (cases : List CaseData) → All P cases → (k : ℕ) (c : CaseData) → slice_get cases k ≡ Some c → P c
case-kept P cases all k c at = subst P (get_or_from_slice_get cases k c c at) (All-get_or P cases k c (slice_get_within cases k c at) all)

item-kept : (P : Item → Type 0) (items : List Item) → All P items → (k : ℕ) (i : Item) → slice_get items k ≡ Some i → P i
item-kept P items all k i at = subst P (get_or_from_slice_get items k i i at) (All-get_or P items k i (slice_get_within items k i at) all)

-- some plies are settled, and not all
open-more : (k h : ℕ) → k ≤ h → (not (k == h) && not (k == 0)) ≡ true → k < h
open-more k h within e = grind (arith, nat_tests)

module _ (stock : List Item) (job : JobData) (p : Partial) (is : IsStock stock (scale_of stock)) (valid : IsJob job) (ok : IsPartial stock job p) where
  listed-plies : (listed : List ItemNo) → Completes stock job p listed → ArePlies (scale_of stock) stock listed
  listed-plies listed c = record { catalogue = is; some = c.sequence.some; few = (let few = ok.few in let long = c.long in omega (arith, few, long)); known = c.sequence.known }

  each-item : All (IsItemOf (scale_of stock)) stock
  each-item = λ k d inside. record { items = stock; stock = is; place = k; listed = slice_get-get_or stock k d inside }

  -- the items of the prefix come first
  begins : (listed : List ItemNo) → Completes stock job p listed → (rest : List Item) × (items_of stock listed ≡ items_of stock p.prefix ++ rest)
  begins listed c =
      let i = completion_in_parts stock job p listed c in
      (items_of stock (i.between ++ mirror_images job.rules.symmetric p), ap (items_of stock) i.parts ∙ items_of-append stock p.prefix (i.between ++ mirror_images job.rules.symmetric p))

  module _ (k : ℕ) (c : CaseData) (at_case : slice_get job.cases k ≡ Some c) (may : MayBox job c) (at : Place) where
    zero : IsMembrane (load_of c.kind)
    zero = record { mx = may.moments.0; my = may.moments.1; mxy = may.moments.2 }

    asked : IsFactor c.factor
    asked = (case-kept IsCase job.cases valid.cases k c at_case).factor

    module _ (more : length p.prefix < half job p.n) (box : FaceStrain (Fix 60)) (boxed_so : box_under (fix_numbers 60) (scale_of stock) (shape_of (fix_numbers 60) stock job p) (load_of c.kind) ≡ Some box)
        (f : FoundAt k 0 (λ i. failing_side (fix_numbers 60) (criterion (fix_numbers 60) (scale_of stock) i) box c.factor) (items_of stock p.prefix) at) where
      case-there : slice_get job.cases at.case ≡ Some c
      case-there = ap (slice_get job.cases) f.case_is ∙ at_case

      fails-in : (listed : List ItemNo) → Completes stock job p listed → ¬ RatioAt stock job listed (place_of at) (whole c.factor)
      fails-in listed comp ratio =
          let plies = listed-plies listed comp in
          let wall = items_of stock listed in
          let first = begins listed comp in
          let there = subst (λ l. slice_get l f.place ≡ Some f.item) (sym first.1) (get-first (items_of stock p.prefix) first.0 f.place f.item f.listed) in
          let placed = placed-at (neg_ℤ (wall_thickness wall)) wall f.place f.item there in
          let side = side-fails (fix_numbers 60) (criterion (fix_numbers 60) (scale_of stock) f.item) box c.factor at.side f.fails in
          let flat : (g : LaminateStrain) → Solves wall (load_of c.kind) g → g.curvature ≡ none = λ g s. unbent wall (wall-palindrome stock listed (comp.symmetric may.symmetric)) (load_of c.kind) zero (plies-one_strain plies (load_of c.kind)) g s in
          let held : (g : LaminateStrain) → Solves wall (load_of c.kind) g → HoldsStrain (fix_numbers 60) box g.mid_plane = λ g s. found-holds laws stock job p is ok more (load_of c.kind) zero box boxed_so listed comp plies g s (flat g s) in
          let same = wall-listed stock job listed may.liner in
          let ply : at.ply ≡ f.place = f.ply_is ∙ omega arith in
          let here = ap (slice_get (placed_plies (wall_of stock job listed))) ply ∙ ap (λ w. slice_get (placed_plies w) f.place) same ∙ placed.1 in
          let has = subst (λ (i : Item). HasSide i.kind (side_of at.side)) (sym placed.2) side.has in
          let all = ratio c case-there placed.0 here has in
          let on_face = subst (λ (s : FaceSide). RatioThere (wall_of stock job listed) (load_of c.kind) placed.0 (face_of s) (side_of at.side) (whole c.factor)) f.face_is all in
          place-fails laws plies c asked box (found-six laws stock job p is ok more (load_of c.kind) zero box boxed_so) held flat placed.0 f.item placed.2
          (item-kept (IsItemOf (scale_of stock)) (items_of stock p.prefix) (items_of-all stock (IsItemOf (scale_of stock)) each-item p.prefix) f.place f.item f.listed)
          at.side side.fails (subst (λ w. RatioThere w (load_of c.kind) placed.0 InnerFace (side_of at.side) (whole c.factor)) same on_face)

      all-fail : AllFailAt stock job p at
      all-fail = subst (λ o. IsSomeAnd o (λ c. (listed : List ItemNo) → Completes stock job p listed → WallInRange stock (wall_of stock job listed) (load_of c.kind) → FailsAt stock job listed (place_of at))) (sym case-there)
          (λ listed comp range. subst (λ o. IsSomeAnd o (λ case. ¬ RatioAt stock job listed (place_of at) (whole case.factor))) (sym case-there) (fails-in listed comp))

    by-box : (more : length p.prefix < half job p.n) (o : Option (FaceStrain (Fix 60))) → box_under (fix_numbers 60) (scale_of stock) (shape_of (fix_numbers 60) stock job p) (load_of c.kind) ≡ o
        → failing_in (fix_numbers 60) stock p.prefix k c.factor o ≡ Some at → AllFailAt stock job p at
    by-box more None e h = absurd (cc)
    by-box more (Some box) e h = all-fail more box e (found-at k _ 0 (items_of stock p.prefix) at h)

    pub boxed-fails : boxed stock job p k ≡ Some at → AllFailAt stock job p at
    unfolding boxed
    boxed-fails e =
        let under = subst (λ o. boxed_at (fix_numbers 60) stock job p k o ≡ Some at) at_case e in
        let s = some-if _ _ at under in
        by-box (open-more (length p.prefix) (half job p.n) ok.within s.0) _ refl s.1
