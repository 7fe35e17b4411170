-- What one more ply adds to a partial schedule.
use Rattle.std.proofs.Common.{◌≡◌, refl, sym, ◌∙◌, ap, subst, ℕ, zero, suc, ◌+◌, ◌-◌, ◌*◌, ◌/◌, ◌≤◌, ◌<◌, ◌==◌, ◌≢◌, sum_by, ◌↔◌, ◌||◌, inl, inr, ℤ, pos, ◌+ℤ◌, ◌*ℤ◌, ◌≤ℤ◌, to_z, of_z, w64, List, [], ◌∷◌, ◌++◌, reverse, length, take, replicate, get_or, set, length-set, slice_get, Option, Some, None, IsSomeAnd, Any, Bool, true, false, IsTrue, cond, if◌then◌else◌, arith}
use Rattle.std.proofs.lemmas.Bool.{cases_lt, lt-ltb, le-ltb, cases_eq, eq-eqb, ne_eqb}
use Rattle.std.proofs.lemmas.Int.{ints, to_z-of_z}
use Rattle.std.proofs.lemmas.List.{append_assoc, append-nil, get_or-set_other, get_or-set_same, take-append-le, length-append, length-reverse, length-replicate, length-take, reverse-append, take_all}
use Rattle.std.proofs.lemmas.List.Elements.{All-nil, All-push, All-take, All-drop, All-head}
use Rattle.std.proofs.lemmas.List.Quantifiers.{Any-push}
use Rattle.std.proofs.lemmas.List.Folds.{sum_by-replicate}
use Rattle.std.proofs.lemmas.List.Sums.{sum_by-append, count_by-le-length}
use Rattle.std.proofs.Math.Seq.{take-append_seam, take-length, drop-append_seam}
use Rattle.lam_stock.specs.declared.item.Item.{Item}
use Rattle.lam_stock.specs.declared.item.ItemNo.{ItemNo}
use Rattle.lam_job.specs.JobData.{JobData}
use Rattle.lam_job.specs.Schedule.{items_of, wall_of}
use Rattle.lam_job.specs.Wall.{wall_thickness}
use Rattle.lam_job.specs.Rules.{times_of, IsSlanted, HasRun}
use Rattle.lam_job.specs.Partial.{Partial, half_of, half, child, fixed_plies, thickest, RunsTooLong}
use Rattle.lam_job.proofs.Listed.{items_of-append, items_of-one}
use Rattle.lam_stock.specs.Stock.{IsKnown}
use Rattle.lam_rules.specs.declared.step.Step.{Step}
use Rattle.lam_rules.specs.declared.runs.Runs.{Runs}
use Rattle.lam_rules.specs.Conditions.{IsPartial}
use Rattle.lam_rules.specs.Growing.{Grown}
use Rattle.lam_rules.specs.inside.RunsOf.{AreRunsOf}
use Rattle.lam_job.proofs.ThicknessSteps.{small_fits}
use Rattle.lam_rules.specs.inside.Steps.{places_fixed, AreNumbersOf, AreRunning, cut_at}
use Rattle.lam_rules.proofs.Among.{none_among, all_not}
use Rattle.lam_rules.proofs.VisibleBreaks.{slanted_kept}
use Rattle.lam_rules.proofs.Thickest.{thick-append, wall_is, liner_share}

-- the fixed plies before and after one more ply: it comes behind the prefix, once for each place that it fixes
pub record IsFixedWith (before after prefix : List ItemNo) (places : ℕ) (ply : ItemNo) : Type 0 where
  pub tail : List ItemNo
  pub before_is : before ≡ prefix ++ tail
  pub after_is : after ≡ prefix ++ (replicate places ply ++ tail)

abbrev fixed : Bool → Partial → List ItemNo
fixed symmetric p = if symmetric then p.prefix ++ reverse (take (p.n - length p.prefix) p.prefix) else p.prefix

doubled : (n : ℕ) (x : List ItemNo) (ply : ItemNo) → length x < n / 2
    → IsFixedWith (fixed true (record { n = n; prefix = x })) (fixed true (record { n = n; prefix = x ++ ply ∷ [] })) x 2 ply
doubled n x ply low =
    let y = x ++ ply ∷ [] in
    let long : length y ≡ length x + 1 = length-append x (ply ∷ []) in
    record {
      tail = reverse x;
      before_is = ap (λ l. x ++ reverse l) (take_all (n - length x) x (omega arith));
      after_is = ap (λ l. y ++ reverse l) (take_all (n - length y) y (omega (arith, long)))
          ∙ ap (λ l. y ++ l) (reverse-append x (ply ∷ []))
          ∙ append_assoc x (ply ∷ []) (ply ∷ reverse x);
    }

alone : (n : ℕ) (x : List ItemNo) (ply : ItemNo) → n / 2 ≤ length x → length x < (n + 1) / 2
    → IsFixedWith (fixed true (record { n = n; prefix = x })) (fixed true (record { n = n; prefix = x ++ ply ∷ [] })) x 1 ply
alone n x ply high low =
    let y = x ++ ply ∷ [] in
    let long : length y ≡ length x + 1 = length-append x (ply ∷ []) in
    let rest : n - length y ≡ length x = omega (arith, long) in
    record {
      tail = reverse x;
      before_is = ap (λ l. x ++ reverse l) (take_all (n - length x) x (omega arith));
      after_is = ap (λ k. y ++ reverse (take k y)) rest
          ∙ ap (λ l. y ++ reverse l) (take-append_seam x (ply ∷ []))
          ∙ append_assoc x (ply ∷ []) (reverse x);
    }

fixed_by : (symmetric : Bool) (p : Partial) (ply : ItemNo) → length p.prefix < half_of symmetric p.n
    → IsFixedWith (fixed symmetric p) (fixed symmetric (child p ply)) p.prefix (places_fixed symmetric p.n (length p.prefix)) ply
fixed_by false p ply room = record {
  tail = [];
  before_is = sym (append-nil p.prefix);
  after_is = refl;
}
fixed_by true p ply room =
    let k = length p.prefix in
    let F : ℕ → Type 0 = λ c. IsFixedWith (fixed true p) (fixed true (child p ply)) p.prefix c ply in
    elim (cases_lt k (p.n / 2)) [
      | inl low ↦ subst F (sym (ap (λ (b : Bool). if b then 2 else 1) (lt-ltb k (p.n / 2) low))) (doubled p.n p.prefix ply low)
      | inr high ↦ subst F (sym (ap (λ (b : Bool). if b then 2 else 1) (le-ltb k (p.n / 2) high))) (alone p.n p.prefix ply high room)
    ]

thick-replicate : (stock : List Item) (ply : ItemNo) (i : Item) → slice_get stock ply.0 ≡ Some i → (n : ℕ)
    → wall_thickness (items_of stock (replicate n ply)) ≡ pos n *ℤ i.lamina.t
thick-replicate stock ply i is zero = omega (arith, ints)
thick-replicate stock ply i is (suc n) =
    let more = thick-replicate stock ply i is n in
    let first : wall_thickness (items_of stock (ply ∷ replicate n ply)) ≡ wall_thickness (items_of stock (ply ∷ [])) +ℤ wall_thickness (items_of stock (replicate n ply))
    = thick-append stock (ply ∷ []) (replicate n ply) in
    let one : wall_thickness (items_of stock (ply ∷ [])) ≡ i.lamina.t = ap wall_thickness (items_of-one stock ply i is) ∙ omega (arith, ints) in
    let e : pos (suc n) *ℤ i.lamina.t ≡ i.lamina.t +ℤ (pos n *ℤ i.lamina.t) = omega (arith, ints) in
    omega (arith, ints, more, first, one, e)

-- ---- a partial that is not full, and one ply more

module _ (job : JobData) (p : Partial) (ply : ItemNo) (room : length p.prefix < half job p.n) where
  abbrev places : ℕ
  places = places_fixed job.rules.symmetric p.n (length p.prefix)

  pub fixed_more : IsFixedWith (fixed_plies job p) (fixed_plies job (child p ply)) p.prefix places ply
  fixed_more = fixed_by job.rules.symmetric p ply room

  -- a sum over the fixed plies
  sum_more : (f : ItemNo → ℕ) → sum_by f (fixed_plies job (child p ply)) ≡ sum_by f (fixed_plies job p) + places * f ply
  sum_more f =
      let m = fixed_more in
      let before : sum_by f (fixed_plies job p) ≡ sum_by f p.prefix + sum_by f m.tail
      = ap (sum_by f) m.before_is ∙ sum_by-append f p.prefix m.tail in
      let after : sum_by f (fixed_plies job (child p ply)) ≡ sum_by f p.prefix + (places * f ply + sum_by f m.tail)
      = ap (sum_by f) m.after_is ∙ sum_by-append f p.prefix (replicate places ply ++ m.tail)
      ∙ ap (λ n. sum_by f p.prefix + n) (sum_by-append f (replicate places ply) m.tail ∙ ap (λ n. n + sum_by f m.tail) (sum_by-replicate f places ply)) in
      omega (arith, before, after)

  pub times_same : (item : ItemNo) → item.0 ≡ ply.0 → times_of item (fixed_plies job (child p ply)) ≡ times_of item (fixed_plies job p) + places
  times_same item same =
      sum_more (λ other. cond (other.0 == item.0) 1 0)
      ∙ ap (λ b. times_of item (fixed_plies job p) + places * cond b 1 0) (eq-eqb ply.0 item.0 (sym same)) ∙ omega arith

  pub times_other : (item : ItemNo) → item.0 ≢ ply.0 → times_of item (fixed_plies job (child p ply)) ≡ times_of item (fixed_plies job p)
  times_other item other =
      sum_more (λ other. cond (other.0 == item.0) 1 0)
      ∙ ap (λ b. times_of item (fixed_plies job p) + places * cond b 1 0) (ne_eqb ply.0 item.0 (λ e. other (sym e))) ∙ omega arith

  pub places_more : length (fixed_plies job (child p ply)) ≡ length (fixed_plies job p) + places
  places_more =
      let m = fixed_more in
      let before : length (fixed_plies job p) ≡ length p.prefix + length m.tail
      = ap length m.before_is ∙ length-append p.prefix m.tail in
      let after : length (fixed_plies job (child p ply)) ≡ length p.prefix + (places + length m.tail)
      = ap length m.after_is ∙ length-append p.prefix (replicate places ply ++ m.tail)
      ∙ ap (λ n. length p.prefix + n) (length-append (replicate places ply) m.tail ∙ ap (λ n. n + length m.tail) (length-replicate places ply)) in
      omega (arith, before, after)

  -- the wall gets so much thicker
  pub thickness_more : (stock : List Item) (i : Item) → slice_get stock ply.0 ≡ Some i
      → wall_thickness (wall_of stock job (fixed_plies job (child p ply)))
      ≡ wall_thickness (wall_of stock job (fixed_plies job p)) +ℤ (pos places *ℤ i.lamina.t)
  thickness_more stock i is =
      let m = fixed_more in
      let thick : List ItemNo → ℤ = λ listed. wall_thickness (items_of stock listed) in
      let liner = liner_share stock job.liner_in_wall job.liner in
      let before : wall_thickness (wall_of stock job (fixed_plies job p)) ≡ liner +ℤ (thick p.prefix +ℤ thick m.tail)
      = wall_is stock job (fixed_plies job p) ∙ ap (λ l. liner +ℤ thick l) m.before_is ∙ ap (λ t. liner +ℤ t) (thick-append stock p.prefix m.tail) in
      let after : wall_thickness (wall_of stock job (fixed_plies job (child p ply))) ≡ liner +ℤ (thick p.prefix +ℤ ((pos places *ℤ i.lamina.t) +ℤ thick m.tail))
      = wall_is stock job (fixed_plies job (child p ply)) ∙ ap (λ l. liner +ℤ thick l) m.after_is
      ∙ ap (λ t. liner +ℤ t) (thick-append stock p.prefix (replicate places ply ++ m.tail)
      ∙ ap (λ t. thick p.prefix +ℤ t) (thick-append stock (replicate places ply) m.tail ∙ ap (λ t. t +ℤ thick m.tail) (thick-replicate stock ply i is places))) in
      omega (arith, ints, before, after)

-- ---- no ply

none_fixed : (symmetric : Bool) (n : ℕ) → fixed symmetric (record { n = n; prefix = [] }) ≡ []
none_fixed false n = refl
none_fixed true n = ap reverse (take_all (n - 0) [] (omega arith))

pub fixed_none : (job : JobData) (n : ℕ) → fixed_plies job (record { n = n; prefix = [] }) ≡ []
fixed_none job n = none_fixed job.rules.symmetric n

pub none_slanted : (stock : List Item) → IsTrue false ↔ Any IsSlanted (items_of stock [])
none_slanted stock = ((λ t. absurd (let e : false ≡ true = t in cc)), (λ any. let low = any.2 in absurd (omega (arith, low))))

-- ---- bounds

few_fixed : (symmetric : Bool) (p : Partial) → length (fixed symmetric p) ≤ length p.prefix + length p.prefix
few_fixed false p = omega arith
few_fixed true p =
    let k = p.n - length p.prefix in
    let a = length-append p.prefix (reverse (take k p.prefix)) in
    let r = length-reverse (take k p.prefix) in
    let t = length-take k p.prefix in
    omega (arith, a, r, t)

-- no more plies are fixed than twice those of the prefix
pub fixed_few : (job : JobData) (p : Partial) → length (fixed_plies job p) ≤ length p.prefix + length p.prefix
fixed_few job p = few_fixed job.rules.symmetric p

pub times_few : (job : JobData) (p : Partial) (item : ItemNo) → times_of item (fixed_plies job p) ≤ length p.prefix + length p.prefix
times_few job p item =
    let most = count_by-le-length (λ (ply : ItemNo). ply.0 == item.0) (fixed_plies job p) in
    let few = fixed_few job p in
    omega (arith, most, few)

half_few : (symmetric : Bool) (n : ℕ) → 1 ≤ n → half_of symmetric n ≤ n
half_few false n some = omega arith
half_few true n some = omega arith

pub half_within : (job : JobData) (n : ℕ) → 1 ≤ n → half job n ≤ n
half_within job n some = half_few job.rules.symmetric n some

-- ---- a slanted ply among one ply more

pub slanted_more : (stock : List Item) (plies : List ItemNo) (ply : ItemNo) (i : Item) (some own : Bool) → slice_get stock ply.0 ≡ Some i
    → (IsTrue some ↔ Any IsSlanted (items_of stock plies)) → (IsTrue own ↔ IsSlanted i)
    → IsTrue (some || own) ↔ Any IsSlanted (items_of stock (plies ++ ply ∷ []))
slanted_more stock plies ply i some own is before one =
    let grown : items_of stock (plies ++ ply ∷ []) ≡ items_of stock plies ++ i ∷ []
    = items_of-append stock plies (ply ∷ []) ∙ ap (λ l. items_of stock plies ++ l) (items_of-one stock ply i is) in
    subst (λ l. IsTrue (some || own) ↔ Any IsSlanted l) (sym grown) (by some own before one) where
      by : (some own : Bool) → (IsTrue some ↔ Any IsSlanted (items_of stock plies)) → (IsTrue own ↔ IsSlanted i)
          → IsTrue (some || own) ↔ Any IsSlanted (items_of stock plies ++ i ∷ [])
      by true own before one = ((λ t. slanted_kept (items_of stock plies) (i ∷ []) (before.0 refl)), (λ any. refl))
      by false true before one = ((λ t. Any-push IsSlanted (items_of stock plies) i (one.0 refl)), (λ any. refl))
      by false false before one = (
        (λ t. absurd (let e : false ≡ true = t in cc)),
        (λ any. absurd (none_among IsSlanted (items_of stock plies ++ i ∷ [])
            (All-push (λ (j : Item). ¬ IsSlanted j) (items_of stock plies) i
            (all_not IsSlanted (items_of stock plies) (λ some. let e : false ≡ true = before.1 some in cc))
            (λ s. let e : false ≡ true = one.1 s in cc))
            any)),
      )

-- ---- the running numbers of one ply more, and of one less

few_times : (places : ℕ) (t : ℤ) → places ≤ 2 → pos 0 ≤ℤ t → t ≤ℤ pos 20000 → (pos 0 ≤ℤ (pos places *ℤ t)) × ((pos places *ℤ t) ≤ℤ pos 40000)
few_times zero t few low high = (omega (arith, ints), omega (arith, ints))
few_times (suc zero) t few low high = (omega (arith, ints, low), omega (arith, ints, high))
few_times (suc (suc zero)) t few low high = (omega (arith, ints, low), omega (arith, ints, high))
few_times (suc (suc (suc n))) t few low high = absurd (omega (arith, few))

zeros : (n k : ℕ) → ◌≡◌ {A = ℕ} (get_or (replicate n 0) k 0) 0
zeros zero k = refl
zeros (suc n) zero = refl
zeros (suc n) (suc k) = zeros n k

first_known : (stock : List Item) (plies : List ItemNo) (ply : ItemNo) → IsKnown stock (plies ++ ply ∷ []) → IsKnown stock plies
first_known stock plies ply known =
    subst (IsKnown stock) (take-append_seam plies (ply ∷ [])) (All-take (λ (i : ItemNo). i.0 < length stock) (length plies) (plies ++ ply ∷ []) known)

pub last_known : (stock : List Item) (plies : List ItemNo) (ply : ItemNo) → IsKnown stock (plies ++ ply ∷ []) → ply.0 < length stock
last_known stock plies ply known =
    All-head (λ (i : ItemNo). i.0 < length stock) ply []
    (subst (IsKnown stock) (drop-append_seam plies (ply ∷ [])) (All-drop (λ (i : ItemNo). i.0 < length stock) (length plies) (plies ++ ply ∷ []) known))

module _ (stock : List Item) (job : JobData) where
  pub numbers_more : (p : Partial) (ply : ItemNo) (i : Item) (step : Step) (next : Runs) (places : ℕ) (own : Bool) (thickness : ℤ)
      → IsPartial stock job p → length p.prefix < half job p.n → slice_get stock ply.0 ≡ Some i → AreNumbersOf stock job p step
      → places ≡ places_fixed job.rules.symmetric p.n (length p.prefix) → places ≤ 2
      → ((plies : List ItemNo) → AreRunsOf plies step.runs → AreRunsOf (plies ++ ply ∷ []) next) → next.at_end ≤ step.runs.at_end + 1
      → (IsTrue own ↔ IsSlanted i) → pos 0 ≤ℤ i.lamina.t → i.lamina.t ≤ℤ pos 20000
      → thickness ≡ to_z w64 (of_z w64 step.thickness) +ℤ (pos places *ℤ to_z w64 (of_z w64 i.lamina.t))
      → AreNumbersOf stock job (child p ply)
      (record { runs = next; slanted = step.slanted || own; places = step.places + places; thickness = to_z w64 (of_z w64 thickness) })
  numbers_more p ply i step next places own thickness partial room is numbers count few runs short slanted low high computed =
      let k = length p.prefix in
      let x = p.prefix ++ ply ∷ [] in
      let long : length x ≡ k + 1 = length-append p.prefix (ply ∷ []) in
      let within = half_within job p.n partial.some in
      let least = numbers.least in
      let greatest = numbers.greatest in
      let so_far = numbers.places in
      let before = numbers.thickness in
      let at_end = numbers.short in
      let small = partial.few in
      let t = i.lamina.t in
      let first : to_z w64 (of_z w64 step.thickness) ≡ step.thickness
      = to_z-of_z w64 step.thickness (small_fits step.thickness (omega (arith, ints, least)) (omega (arith, ints, greatest, room, within, small))) in
      let second : to_z w64 (of_z w64 t) ≡ t = to_z-of_z w64 t (small_fits t (omega (arith, ints, low)) (omega (arith, ints, high))) in
      let sum : thickness ≡ step.thickness +ℤ (pos places *ℤ t)
      = computed ∙ ap (λ (z : ℤ). z +ℤ (pos places *ℤ to_z w64 (of_z w64 t))) first ∙ ap (λ (z : ℤ). step.thickness +ℤ (pos places *ℤ z)) second in
      let more = few_times places t few low high in
      let one = more.0 in
      let other = more.1 in
      let least' : pos 0 ≤ℤ thickness = omega (arith, ints, sum, least, one) in
      let greatest' : thickness ≤ℤ pos (2560000 + 40000 * (k + 1)) = omega (arith, ints, sum, greatest, other) in
      let fits : to_z w64 (of_z w64 thickness) ≡ thickness
      = to_z-of_z w64 thickness (small_fits thickness (omega (arith, ints, least')) (omega (arith, ints, greatest', room, within, small))) in
      record {
        runs = runs p.prefix numbers.runs;
        short = omega (arith, short, at_end, long);
        slanted = slanted_more stock p.prefix ply i step.slanted own is numbers.slanted slanted;
        places = ap (λ n. n + places) so_far ∙ ap (λ n. length (fixed_plies job p) + n) count ∙ sym (places_more job p ply room);
        thickness = fits ∙ sum ∙ ap (λ (z : ℤ). z +ℤ (pos places *ℤ t)) before
            ∙ ap (λ n. wall_thickness (wall_of stock job (fixed_plies job p)) +ℤ (pos n *ℤ t)) count
            ∙ sym (thickness_more job p ply room stock i is);
        least = omega (arith, ints, fits, least');
        greatest = omega (arith, ints, fits, greatest', long);
      }

  pub running_none : (n : ℕ) (none : List ItemNo) (step : Step) (most : ℤ) (numbers : List Step) (counts : List ℕ) (most' : ℤ)
      → length stock ≤ 64 → IsKnown stock job.liner → 1 ≤ n → n ≤ 56 → none ≡ []
      → AreNumbersOf stock job (record { n = n; prefix = [] }) step → length numbers ≡ 57 → ((d : Step) → get_or numbers 0 d ≡ step)
      → counts ≡ replicate 64 0 → most' ≡ to_z w64 (of_z w64 most) → most ≡ thickest stock → pos 0 ≤ℤ most → most ≤ℤ pos 20000
      → AreRunning stock job (record { n = n; prefix = none }) numbers counts most'
  running_none n none step most numbers counts most' items liner some few empty are many first counted narrow is low high =
      let fits : to_z w64 (of_z w64 most) ≡ most = to_z-of_z w64 most (small_fits most (omega (arith, ints, low)) (omega (arith, ints, high))) in
      let p : List ItemNo → Partial = λ l. record { n = n; prefix = l } in
      subst (λ l. AreRunning stock job (p l) numbers counts most') (sym empty) (record {
        few = items;
        liner = liner;
        partial = record { some = some; few = few; within = omega arith; known = All-nil (λ (i : ItemNo). i.0 < length stock) };
        many = many;
        steps = λ k d low. subst (λ j. AreNumbersOf stock job (cut_at j (p [])) (get_or numbers j d)) (let e : 0 ≡ k = omega (arith, low) in e)
            (subst (λ (s : Step). AreNumbersOf stock job (p []) s) (sym (first d)) are);
        table = ap length counted;
        times = λ item. ap (λ c. get_or c item.0 0) counted ∙ zeros 64 item.0 ∙ sym (ap (times_of item) (fixed_none job n));
        thickest = narrow ∙ fits ∙ is;
        least = omega (arith, ints, narrow, fits, low);
        greatest = omega (arith, ints, narrow, fits, high);
      })

  -- the numbers of the partial itself
  pub numbers_here : (p : Partial) (numbers : List Step) (counts : List ℕ) (most : ℤ) → AreRunning stock job p numbers counts most
      → (d : Step) → AreNumbersOf stock job p (get_or numbers (length p.prefix) d)
  numbers_here p numbers counts most r d =
      subst (λ l. AreNumbersOf stock job (record { n = p.n; prefix = l }) (get_or numbers (length p.prefix) d)) (take-length p.prefix)
      (r.steps (length p.prefix) d (omega arith))

  pub running_more : (p : Partial) (numbers : List Step) (counts : List ℕ) (most : ℤ) (ply : ItemNo) (step : Step) (places : ℕ)
      → AreRunning stock job p numbers counts most → length p.prefix < half job p.n → ply.0 < length stock
      → AreNumbersOf stock job (child p ply) step → places ≡ places_fixed job.rules.symmetric p.n (length p.prefix)
      → AreRunning stock job (child p ply) (set numbers (length p.prefix + 1) step) (set counts ply.0 (get_or counts ply.0 0 + places)) most
  running_more p numbers counts most ply step places r room known are is =
      let k = length p.prefix in
      let x = p.prefix ++ ply ∷ [] in
      let long : length x ≡ k + 1 = length-append p.prefix (ply ∷ []) in
      let within = half_within job p.n r.partial.some in
      let table = r.table in
      let many = r.many in
      let few = r.few in
      record {
        few = r.few;
        liner = r.liner;
        partial = record {
          some = r.partial.some;
          few = r.partial.few;
          within = omega (arith, long, room);
          known = All-push (λ (i : ItemNo). i.0 < length stock) p.prefix ply r.partial.known known;
        };
        many = length-set numbers (k + 1) step ∙ r.many;
        steps = λ j d low. elim (cases_eq j (k + 1)) [
          | inl same ↦ (subst (λ i. AreNumbersOf stock job (cut_at i (child p ply)) (get_or (set numbers (k + 1) step) i d)) (sym same)
              (subst (λ (s : Step). AreNumbersOf stock job (cut_at (k + 1) (child p ply)) s)
              (sym (get_or-set_same numbers (k + 1) step d (omega (arith, many, within, room, r.partial.few))))
              (subst (λ l. AreNumbersOf stock job (record { n = p.n; prefix = l }) step) (sym (ap (λ i. take i x) (sym long) ∙ take-length x)) are)))
          | inr other ↦ (subst (λ (s : Step). AreNumbersOf stock job (cut_at j (child p ply)) s)
              (sym (get_or-set_other numbers (k + 1) j step d other))
              (subst (λ l. AreNumbersOf stock job (record { n = p.n; prefix = l }) (get_or numbers j d))
              (sym (take-append-le j p.prefix (ply ∷ []) (omega (arith, low, long, other))))
              (r.steps j d (omega (arith, low, long, other)))))
        ];
        table = length-set counts ply.0 (get_or counts ply.0 0 + places) ∙ r.table;
        times = λ item. elim (cases_eq item.0 ply.0) [
          | inl same ↦ (ap (λ i. get_or (set counts ply.0 (get_or counts ply.0 0 + places)) i 0) same
              ∙ get_or-set_same counts ply.0 (get_or counts ply.0 0 + places) 0 (omega (arith, known, few, table))
              ∙ ap (λ n. n + places) (ap (λ i. get_or counts i 0) (sym same) ∙ r.times item)
              ∙ ap (λ n. times_of item (fixed_plies job p) + n) is
              ∙ sym (times_same job p ply room item same))
          | inr other ↦ (get_or-set_other counts ply.0 item.0 (get_or counts ply.0 0 + places) 0 other
              ∙ r.times item ∙ sym (times_other job p ply room item other))
        ];
        thickest = r.thickest;
        least = r.least;
        greatest = r.greatest;
      }

  pub running_less : (p : Partial) (numbers : List Step) (counts : List ℕ) (most : ℤ) (ply : ItemNo) (places : ℕ)
      → AreRunning stock job (child p ply) numbers counts most
      → places ≡ places_fixed job.rules.symmetric p.n (length p.prefix)
      → AreRunning stock job p numbers (set counts ply.0 (get_or counts ply.0 0 - places)) most
  running_less p numbers counts most ply places r is =
      let k = length p.prefix in
      let x = p.prefix ++ ply ∷ [] in
      let long : length x ≡ k + 1 = length-append p.prefix (ply ∷ []) in
      let whole = r.partial.within in
      let room : length p.prefix < half job p.n = omega (arith, whole, long) in
      let P : ItemNo → Type 0 = λ i. i.0 < length stock in
      let known : ply.0 < length stock = last_known stock p.prefix ply r.partial.known in
      let table = r.table in
      let few = r.few in
      record {
        few = r.few;
        liner = r.liner;
        partial = record {
          some = r.partial.some;
          few = r.partial.few;
          within = omega (arith, room);
          known = first_known stock p.prefix ply r.partial.known;
        };
        many = r.many;
        steps = λ j d low.
            subst (λ l. AreNumbersOf stock job (record { n = p.n; prefix = l }) (get_or numbers j d))
            (take-append-le j p.prefix (ply ∷ []) low)
            (r.steps j d (omega (arith, low, long)));
        table = length-set counts ply.0 (get_or counts ply.0 0 - places) ∙ r.table;
        times = λ item. elim (cases_eq item.0 ply.0) [
          | inl same ↦ (ap (λ i. get_or (set counts ply.0 (get_or counts ply.0 0 - places)) i 0) same
              ∙ get_or-set_same counts ply.0 (get_or counts ply.0 0 - places) 0 (omega (arith, known, few, table))
              ∙ ap (λ n. n - places) (ap (λ i. get_or counts i 0) (sym same) ∙ r.times item)
              ∙ (let more = times_same job p ply room item same in omega (arith, more, is)))
          | inr other ↦ (get_or-set_other counts ply.0 item.0 (get_or counts ply.0 0 - places) 0 other
              ∙ r.times item ∙ times_other job p ply room item other)
        ];
        thickest = r.thickest;
        least = r.least;
        greatest = r.greatest;
      }

-- ---- what the numbers tell

pub run_shown : (asked : Option ℕ) (plies : List ItemNo) (longest : ℕ) (told : Bool) → ((n : ℕ) → HasRun n plies ↔ (n ≤ longest))
    → (IsTrue told ↔ IsSomeAnd asked (λ most. most < longest)) → IsTrue told ↔ RunsTooLong asked plies
run_shown None plies longest told runs tells = tells
run_shown (Some most) plies longest told runs tells = (
  (λ t. let h = tells.0 t in (runs (suc most)).1 (omega (arith, h))),
  (λ run. let h = (runs (suc most)).0 run in tells.1 (omega (arith, h))),
)

-- a ply may come next, with these numbers
pub record Grows (g : Grown) (ply : ItemNo) (step : Step) : Type 0 where
  pub known : ply.0 < length g.stock
  pub room : length g.partial.prefix < half g.job g.partial.n
  pub numbers : AreNumbersOf g.stock g.job (child g.partial ply) step

pub grows : (g : Grown) (numbers : List Step) (counts : List ℕ) (most : ℤ) (ply : ItemNo) (step : Step) (places settled : ℕ) (next : Partial)
    → AreRunning g.stock g.job g.partial numbers counts most → Grows g ply step
    → places ≡ places_fixed g.job.rules.symmetric g.partial.n (length g.partial.prefix) → settled ≡ length g.partial.prefix → next ≡ child g.partial ply
    → AreRunning g.stock g.job next (set numbers (settled + 1) step) (set counts ply.0 (get_or counts ply.0 0 + places)) most
grows g numbers counts most ply step places settled next r ready is here grown =
    let more = set counts ply.0 (get_or counts ply.0 0 + places) in
    subst (λ (p : Partial). AreRunning g.stock g.job p (set numbers (settled + 1) step) more most) (sym grown)
    (subst (λ k. AreRunning g.stock g.job (child g.partial ply) (set numbers (k + 1) step) more most) (sym here)
    (running_more g.stock g.job g.partial numbers counts most ply step places r ready.room ready.known ready.numbers is))
