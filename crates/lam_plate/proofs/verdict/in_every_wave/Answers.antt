use Rattle.std.proofs.Common.{◌≡◌, refl, sym, ◌∙◌, ap₂, ◌+◌}
use Rattle.lam_fraction.proofs.numbers.Machine.{stored-64}
use Rattle.lam_number.specs.declared.strength.Verdict.TheVariants.{Fails}
use Rattle.lam_plate.specs.inside.Formulas as by
use Rattle.lam_plate.proofs.PanelSteps.{verdict-none, verdict-more, fails-together, stored-below}
use Rattle.lam_plate.proofs.verdict.in_every_wave.Goals as goal
use Rattle.lam_plate.proofs.verdict.in_every_wave.Goals.{in-Fails, in_default}

pub loop-passed-init : goal.loop-passed-init
loop-passed-init g c = sym (verdict-none g.N.Enclosure.numbers c.args.plate.now _)

pub returns-then-matches : goal.returns-then-matches
returns-then-matches g c =
    let n = g.N.Enclosure.numbers in
    let p = c.args.plate.now in
    let load = stored-below c.args.load c.requires.least c.requires.most in
    let fails : c.in_one_wave-wave.result ≡ Fails = elim c.match-matches.branch [ in-Fails w ↦ w.in-Fails.is | in_default w ↦ absurd (cc) ] in
    let wave : by.wave_verdict n (by.in_waves n.calc p (c.loop-passed.passed + 1)) c.args.load p.stiffness ≡ Fails =
    sym (c.in_one_wave-wave.ensures ∙ ap₂ (λ w s. by.wave_verdict n w (stored-64 c.args.load) s) c.in_waves.ensures (stored-below p.stiffness c.requires.plate.least_stiffness c.requires.plate.most_stiffness)
    ∙ ap₂ (λ l s. by.wave_verdict n (by.in_waves n.calc p (c.loop-passed.passed + 1)) l s) load refl) ∙ fails in
    sym (fails-together n p c.args.load c.loop-passed.passed p.waves c.loop-passed-test.true wave)

pub loop-passed-preserved : goal.loop-passed-preserved
loop-passed-preserved g c =
    let n = g.N.Enclosure.numbers in
    let p = c.args.plate.now in
    c.joined-verdict.ensures
    ∙ ap₂ by.joined c.loop-passed.invariant (c.in_one_wave-wave.ensures
    ∙ ap₂ (λ w s. by.wave_verdict n w (stored-64 c.args.load) s) c.in_waves.ensures (stored-below p.stiffness c.requires.plate.least_stiffness c.requires.plate.most_stiffness))
    ∙ sym (verdict-more n p (stored-64 c.args.load) c.loop-passed.passed)
