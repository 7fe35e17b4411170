use Rattle.std.proofs.Common.{◌≡◌, refl, sym, ◌∙◌, ap, ap₂, subst, ◌*◌, ◌^◌, pos, ◌*ℤ◌, ◌≤ℤ◌, ◌<ℤ◌, w64, rules, arith}
use Rattle.std.specs.Int.{w128}
use Rattle.std.proofs.lemmas.Int.{ints, to_z-of_z}
use Rattle.lam_fraction.proofs.numbers.Machine.{sizes, is_exact, fits_in_128, stored-64, stored-128}
use Rattle.lam_number.proofs.Casts.{read_narrow, read_wide}
use Rattle.lam_stock.proofs.ScaleFacts.{scale-within}
use Rattle.lam_job.specs.JobData.{PanelData}
use Rattle.lam_job.specs.Ranges.{IsPanel, IsFrom}
use Rattle.lam_wall.proofs.CatalogueWalls.{wall-thick, wall-thin}
use Rattle.lam_plate.specs.inside.Formulas as by
use Rattle.lam_plate.proofs.PanelSteps.{same_plate}
use Rattle.lam_plate.proofs.ShiftedUnits.{product-not_negative, side-square}
use Rattle.lam_plate.proofs.plate.plate_of.Goals as goal

pub stiffness_units-stiffness-requires-clause-some_h : goal.stiffness_units-stiffness-requires-clause-some_h
stiffness_units-stiffness-requires-clause-some_h g c =
    let h : stored-64 c.args.wall.now.h ≡ c.args.wall.now.h = search rules in
    let t = wall-thick c.requires.3.stands in
    subst (λ z. pos 1 ≤ℤ z) (sym h) (omega (arith, ints, t))

pub stiffness_units-stiffness-requires-clause-few_h : goal.stiffness_units-stiffness-requires-clause-few_h
stiffness_units-stiffness-requires-clause-few_h g c =
    let h : stored-64 c.args.wall.now.h ≡ c.args.wall.now.h = search rules in
    subst (λ z. z ≤ℤ pos 1280000) (sym h) (wall-thin c.requires.3.stands)

pub stiffness_units-stiffness-requires-clause-some_q0 : goal.stiffness_units-stiffness-requires-clause-some_q0
stiffness_units-stiffness-requires-clause-some_q0 g c =
    let q : stored-64 c.args.scale.now.q0 ≡ c.args.scale.now.q0 = search rules in
    let t = (scale-within c.requires.0 c.requires.0 c.args.scale.now c.requires.3.stands.plies.catalogue refl).0 in
    subst (λ z. pos 1 ≤ℤ z) (sym q) (omega (arith, ints, t))

pub stiffness_units-stiffness-requires-clause-few_q0 : goal.stiffness_units-stiffness-requires-clause-few_q0
stiffness_units-stiffness-requires-clause-few_q0 g c =
    let q : stored-64 c.args.scale.now.q0 ≡ c.args.scale.now.q0 = search rules in
    subst (λ z. z ≤ℤ pos 2097152) (sym q) (scale-within c.requires.0 c.requires.0 c.args.scale.now c.requires.3.stands.plies.catalogue refl).1

pub overflow_mul-load : goal.overflow_mul-load
overflow_mul-load g c = fits_in_128 (search (sizes, c.load_units-load.ensures.least, c.load_units-load.ensures.most) depth 30 fits 9000) refl

pub shift_for-shift-requires-clause-load : goal.shift_for-shift-requires-clause-load
shift_for-shift-requires-clause-load g c =
    let l = c.load_units-load.ensures in
    subst (λ z. pos 0 ≤ℤ z) (sym (is_exact (search (sizes, l.least, l.most) depth 30 fits 9000) refl))
    (product-not_negative (pos 20000) c.load_units-load.result (omega (arith, ints)) l.least)

pub shift_for-shift-requires-clause-stiffness : goal.shift_for-shift-requires-clause-stiffness
shift_for-shift-requires-clause-stiffness g c =
    let s = c.stiffness_units-stiffness.ensures.least in
    subst (λ z. pos 0 ≤ℤ z) (sym (to_z-of_z w128 c.stiffness_units-stiffness.result (record { sfits = c.stiffness_units-stiffness.type_inv }))) (omega (arith, ints, s))

pub waves_for-requires-clause-length : goal.waves_for-requires-clause-length
waves_for-requires-clause-length g c = subst (IsFrom (pos 2500) (pos 400000000)) (sym (is_exact (search (sizes, c.panel.invariant) depth 30 fits 9000) refl)) (side-square c.panel.inside.length c.panel.invariant.length)

pub waves_for-requires-clause-width : goal.waves_for-requires-clause-width
waves_for-requires-clause-width g c = subst (IsFrom (pos 2500) (pos 400000000)) (sym (is_exact (search (sizes, c.panel.invariant) depth 30 fits 9000) refl)) (side-square c.panel.inside.width c.panel.invariant.width)

pub shifted-requires-clause-least : goal.shifted-requires-clause-least
shifted-requires-clause-least g c =
    let s = c.stiffness_units-stiffness.ensures.least in
    subst (λ z. pos 0 ≤ℤ z) (sym (to_z-of_z w128 c.stiffness_units-stiffness.result (record { sfits = c.stiffness_units-stiffness.type_inv }))) (omega (arith, ints, s))

pub returns-clause-value : goal.returns-clause-value
returns-clause-value g c =
    let n = g.N.Enclosure.numbers in
    let h : stored-64 c.args.wall.now.h ≡ c.args.wall.now.h = search rules in
    let q : stored-64 c.args.scale.now.q0 ≡ c.args.scale.now.q0 = search rules in
    let l = c.load_units-load.ensures in
    let load = read_wide _ _ (record { sfits = c.load_units-load.type_inv }) l.value in
    let stiffness = read_wide _ _ (record { sfits = c.stiffness_units-stiffness.type_inv }) (c.stiffness_units-stiffness.ensures.value ∙ ap₂ by.stiffness_units q h) in
    let greatest : stored-128 (pos 20000 *ℤ stored-128 c.load_units-load.result) ≡ pos 20000 *ℤ by.load_units c.args.panel.now =
    is_exact (search (sizes, l.least, l.most) depth 30 fits 9000) refl ∙ ap (λ z. pos 20000 *ℤ z) l.value in
    let shift : c.shift_for-shift.result ≡ by.shift_for (pos 20000 *ℤ by.load_units c.args.panel.now) (by.stiffness_units c.args.scale.now.q0 c.args.wall.now.h) =
    c.shift_for-shift.ensures.value ∙ ap₂ by.shift_for greatest stiffness in
    let aa : stored-64 (stored-64 c.panel.inside.length *ℤ stored-64 c.panel.inside.length) ≡ c.args.panel.now.length *ℤ c.args.panel.now.length =
    is_exact (search (sizes, c.panel.invariant) depth 30 fits 9000) refl ∙ ap (λ (p : PanelData). p.length *ℤ p.length) c.panel.view_is in
    let bb : stored-64 (stored-64 c.panel.inside.width *ℤ stored-64 c.panel.inside.width) ≡ c.args.panel.now.width *ℤ c.args.panel.now.width =
    is_exact (search (sizes, c.panel.invariant) depth 30 fits 9000) refl ∙ ap (λ (p : PanelData). p.width *ℤ p.width) c.panel.view_is in
    let times : stored-64 c.most_times.result ≡ by.most_times n c.args.wall.now.d = read_narrow _ _ (record { sfits = c.most_times.type_inv }) c.most_times.ensures.value in
    same_plate c.bending_of.ensures.value aa bb
    (c.waves_for.ensures.value
    ∙ ap (λ t. by.waves_for t (stored-64 (stored-64 c.panel.inside.length *ℤ stored-64 c.panel.inside.length)) (stored-64 (stored-64 c.panel.inside.width *ℤ stored-64 c.panel.inside.width))) times
    ∙ ap₂ (by.waves_for (by.most_times n c.args.wall.now.d)) aa bb)
    load
    (read_narrow _ _ (record { sfits = c.shifted.type_inv }) (c.shifted.ensures.value ∙ ap₂ by.shifted stiffness shift))
    shift

pub returns-clause-ready : goal.returns-clause-ready
returns-clause-ready g c =
    let l = c.load_units-load.ensures in
    let load : stored-128 c.load_units-load.result ≡ c.load_units-load.result = to_z-of_z w128 c.load_units-load.result (record { sfits = c.load_units-load.type_inv }) in
    let greatest : stored-128 (pos 20000 *ℤ stored-128 c.load_units-load.result) ≡ pos 20000 *ℤ stored-128 c.load_units-load.result =
    is_exact (search (sizes, l.least, l.most) depth 30 fits 9000) refl ∙ ap (λ z. pos 20000 *ℤ z) (sym load) in
    let stiffness : stored-64 c.shifted.result ≡ c.shifted.result = to_z-of_z w64 c.shifted.result (record { sfits = c.shifted.type_inv }) in
    record {
      bending = c.bending_of.ensures.room;
      length = subst (IsFrom (pos 2500) (pos 400000000)) (sym (is_exact (search (sizes, c.panel.invariant) depth 30 fits 9000) refl)) (side-square c.panel.inside.length c.panel.invariant.length);
      width = subst (IsFrom (pos 2500) (pos 400000000)) (sym (is_exact (search (sizes, c.panel.invariant) depth 30 fits 9000) refl)) (side-square c.panel.inside.width c.panel.invariant.width);
      some_waves = c.waves_for.ensures.some;
      few_waves = c.waves_for.ensures.few;
      least_load = subst (λ z. pos 0 ≤ℤ z) (sym load) l.least;
      most_load = subst (λ z. z ≤ℤ pos 4494400000000000000000000) (sym load) l.most;
      shifted_load = subst (λ z. z <ℤ pos (2 ^ 62 * 2 ^ c.shift_for-shift.result)) greatest c.shift_for-shift.ensures.load;
      few_bits = c.shift_for-shift.ensures.few;
      least_stiffness = subst (λ z. pos 0 ≤ℤ z) (sym stiffness) c.shifted.ensures.least;
      most_stiffness = subst (λ z. z <ℤ pos (2 ^ 62)) (sym stiffness) c.shifted.ensures.most;
    }

pub returns-clause-panel : goal.returns-clause-panel
returns-clause-panel g c = subst IsPanel c.panel.view_is c.panel.invariant
