use Rattle.lam_tsai.proofs.ratio.printed_ratio.Goals as goal

pub returns-clause-value : goal.returns-clause-value
returns-clause-value g c = c.ratio.ensures.same c.args.scale.now c.args.item.now c.of-criterion.ensures.value

pub returns-clause-met : goal.returns-clause-met
returns-clause-met g c = c.ratio.ensures.all_meet c.args.scale.now c.args.item.now c.of-criterion.ensures.value

pub returns-clause-next : goal.returns-clause-next
returns-clause-next g c = c.ratio.ensures.not_next c.args.scale.now c.args.item.now c.of-criterion.ensures.value

pub returns-clause-ratio : goal.returns-clause-ratio
returns-clause-ratio g c = c.ratio.ensures.ratio c.args.scale.now c.args.item.now c.requires.item c.of-criterion.ensures.value
