-- The catalogue of every sample keeps what a catalogue keeps, and every wall of it is in range for both of its cases.
use Rattle.std.proofs.Common.{◌≡◌, ◌<◌, ◌≤◌, ◌*◌, ℕ, List, [], ◌∷◌, length, Option, Some, None, ℤ, pos, negsuc, ◌+ℤ◌, ◌*ℤ◌, ◌≤ℤ◌, refl, sym, subst, ◌∙◌, arith}
use Rattle.std.specs.Prelude.{All, get_or, slice_get}
use Rattle.std.proofs.Math.Nat.{mul-le-mul}
use Rattle.std.proofs.lemmas.Int.{ints}
use Rattle.std.proofs.lemmas.List.Elements.{All-cons, All-head, All-nil}
use Rattle.std.proofs.lemmas.Option.{get_or_from_slice_get, slice_get-get_or, slice_get_within}
use Rattle.lam_stock.specs.Scale.{scale_of}
use Rattle.lam_stock.specs.Stock.{IsKnown, IsStock}
use Rattle.lam_stock.specs.declared.item.Item.{Item}
use Rattle.lam_stock.specs.declared.item.ItemNo.{ItemNo}
use Rattle.lam_job.specs.Design.{InRangeForAll, IsSequence}
use Rattle.lam_job.specs.JobData.{CaseData}
use Rattle.lam_job.specs.LoadOf.{end_force, hoop_force, load_of, quarters}
use Rattle.lam_job.specs.LoadRange.{LoadInRange, SizeWithin, WallInRange}
use Rattle.lam_job.specs.Schedule.{items_of}
use Rattle.lam_job.specs.Wall.{wall_thickness}
use Rattle.lam_sample.proofs.CatalogueRead.{sample_names}
use Rattle.lam_sample.proofs.Kept.{Keeps, sample_keeps, sample_limits, scale_floor, scale_spread}
use Rattle.lam_sample.proofs.StockRead.{below}
use Rattle.lam_sample.specs.Draws.{draw, steps}
use Rattle.lam_sample.specs.SampleJob.{cylinder_case, loads_after, resultants_case, sample_job}
use Rattle.lam_sample.specs.SampleStock.{sample_stock}
use Rattle.lam_sample.specs.declared.loads.Loads.{Loads}
use Rattle.lam_sample.specs.inside.Bounds.{AreLoads}

pub sample_is_stock : (x : ℕ) → IsStock (sample_stock x) (scale_of (sample_stock x))
sample_is_stock x = record {
  some = omega arith;
  few = omega arith;
  limits = sample_limits x;
  names = sample_names x;
  scale_is = refl;
  spread = scale_spread x;
  floor = let floor = scale_floor x in omega (arith, ints, floor);
}

-- ---- a wall is thick enough

-- a ply of a wall is an item of the catalogue
kept : (stock : List Item) (k : ℕ) (i : Item) → All Keeps stock → slice_get stock k ≡ Some i → Keeps i
kept stock k i all there = subst Keeps (get_or_from_slice_get stock k i i there) (all k i (slice_get_within stock k i there))

missing : (stock : List Item) (k : ℕ) → k < length stock → slice_get stock k ≡ None → ⊥
missing [] k less none = absurd (omega (arith, less))
missing (i ∷ stock) k less none = let there = slice_get-get_or (i ∷ stock) k i less in let wrong : None ≡ Some (get_or (i ∷ stock) k i) = sym none ∙ there in cc wrong

not_negative : (stock : List Item) (listed : List ItemNo) → All Keeps stock → pos 0 ≤ℤ wall_thickness (items_of stock listed)
not_negative stock [] all = omega (arith, ints)
not_negative stock (ply ∷ listed) all = by (slice_get stock ply.0) refl (not_negative stock listed all)
  where
    by : (o : Option Item) → slice_get stock ply.0 ≡ o → pos 0 ≤ℤ wall_thickness (items_of stock listed) → pos 0 ≤ℤ wall_thickness (items_of stock (ply ∷ listed))
    by None e rest = rw e rest
    by (Some i) e rest = let thick = (kept stock ply.0 i all e).thick in rw e (omega (arith, ints, thick, rest))

thick_enough : (stock : List Item) (listed : List ItemNo) → All Keeps stock → IsKnown stock listed → 1 ≤ length listed
    → pos 500 ≤ℤ wall_thickness (items_of stock listed)
thick_enough stock [] all known some = absurd (omega (arith, some))
thick_enough stock (ply ∷ listed) all known some = by (slice_get stock ply.0) refl
  where
    here : ply.0 < length stock
    here = All-head (λ (p : ItemNo). p.0 < length stock) ply listed known

    by : (o : Option Item) → slice_get stock ply.0 ≡ o → pos 500 ≤ℤ wall_thickness (items_of stock (ply ∷ listed))
    by None e = let no = missing stock ply.0 here e in absurd no
    by (Some i) e =
        let thick = (kept stock ply.0 i all e).thick in
        let rest = not_negative stock listed all in
        rw e (omega (arith, ints, thick, rest))

-- ---- the loads are small enough

product_least : (m n : ℕ) (f h : ℤ) → pos m ≤ℤ f → pos n ≤ℤ h → pos (m * n) ≤ℤ (f *ℤ h)
product_least m n (pos a) (pos b) hf hh = let more : m * n ≤ a * b = mul-le-mul (omega (arith, ints, hf)) (omega (arith, ints, hh)) in omega (arith, ints, more)
product_least m n (pos a) (negsuc b) hf hh = absurd (omega (arith, ints, hh))
product_least m n (negsuc a) h hf hh = absurd (omega (arith, ints, hf))

within : (bound z : ℤ) (most : ℕ) → pos 0 ≤ℤ z → z ≤ℤ pos most → pos most ≤ℤ bound → SizeWithin bound z
within bound (pos n) most low high room = omega (arith, ints, high, room)
within bound (negsuc n) most low high room = absurd (omega (arith, ints, low))

loads_within : (x : ℕ) → AreLoads (loads_after x)
loads_within x =
    let pressure : draw 1 200 x < 200 = below 1 200 x (omega arith) in
    let diameter : draw 2 1000 x < 1000 = below 2 1000 x (omega arith) in
    let nx : draw 3 50 x < 50 = below 3 50 x (omega arith) in
    let nxy : draw 4 20 x < 20 = below 4 20 x (omega arith) in
    record {
      pressure = omega (arith, pressure);
      least_diameter = omega arith;
      greatest_diameter = omega (arith, diameter);
      nx = omega (arith, nx);
      nxy = omega (arith, nxy);
    }

module _ (floor h : ℤ) (stiff : pos 2500 ≤ℤ floor) (thick : pos 500 ≤ℤ h) where
  force : pos 1250000 ≤ℤ (floor *ℤ h)
  force = product_least 2500 500 floor h stiff thick

  moment : pos 0 ≤ℤ (floor *ℤ (h *ℤ h))
  moment =
      let square : pos 0 ≤ℤ (h *ℤ h) = product_least 0 0 h h (omega (arith, ints, thick)) (omega (arith, ints, thick)) in
      product_least 0 0 floor (h *ℤ h) (omega (arith, ints, stiff)) square

  no_force : SizeWithin (floor *ℤ h) (pos 0)
  no_force = within (floor *ℤ h) (pos 0) 0 (omega (arith, ints)) (omega (arith, ints)) (omega (arith, ints, force))

  no_moment : SizeWithin (floor *ℤ (h *ℤ h)) (pos 8000 *ℤ pos 0)
  no_moment = within (floor *ℤ (h *ℤ h)) (pos 8000 *ℤ pos 0) 0 (omega (arith, ints)) (omega (arith, ints)) moment

  cylinder_in_range : (l : Loads) → AreLoads l → LoadInRange floor h (load_of (cylinder_case l).kind)
  cylinder_in_range l w =
      let product : l.pressure * l.diameter ≤ 299 * 1999 = mul-le-mul w.pressure w.greatest_diameter in
      record {
        nx = within (floor *ℤ h) (end_force (pos l.pressure) (pos l.diameter) +ℤ quarters (pos 0)) 597701 (omega (arith, ints)) (omega (arith, ints, product)) (omega (arith, ints, force));
        ny = within (floor *ℤ h) (hoop_force (pos l.pressure) (pos l.diameter)) 1195402 (omega (arith, ints)) (omega (arith, ints, product)) (omega (arith, ints, force));
        nxy = no_force;
        mx = no_moment;
        my = no_moment;
        mxy = no_moment;
      }

  resultants_in_range : (l : Loads) → AreLoads l → LoadInRange floor h (load_of (resultants_case l).kind)
  resultants_in_range l w = record {
    nx = within (floor *ℤ h) (quarters (pos l.nx)) 196000 (omega (arith, ints)) (omega (arith, ints, w.nx)) (omega (arith, ints, force));
    ny = no_force;
    nxy = within (floor *ℤ h) (quarters (pos l.nxy)) 80000 (omega (arith, ints)) (omega (arith, ints, w.nxy)) (omega (arith, ints, force));
    mx = no_moment;
    my = no_moment;
    mxy = no_moment;
  }

pub sample_in_range : (x : ℕ) (listed : List ItemNo) → IsSequence (sample_stock x) (sample_job x) listed → InRangeForAll (sample_stock x) (sample_job x) listed
sample_in_range x listed sequence =
    let stock = sample_stock x in
    let l = loads_after (steps 66 x) in
    let loads = loads_within (steps 66 x) in
    let wall = items_of stock listed in
    let floor = (scale_of stock).floor in
    let stiff = scale_floor x in
    let thick = thick_enough stock listed (sample_keeps x) sequence.known sequence.some in
    let InRange : CaseData → Type 0 = λ case. WallInRange stock wall (load_of case.kind) in
    All-cons InRange (cylinder_case l) (resultants_case l ∷ []) (cylinder_in_range floor (wall_thickness wall) stiff thick l loads)
    (All-cons InRange (resultants_case l) [] (resultants_in_range floor (wall_thickness wall) stiff thick l loads) (All-nil InRange))
