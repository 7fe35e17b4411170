use Rattle.lam_sample.proofs.ValidSamples.{sample_in_range, sample_is_stock}
use Rattle.lam_sample.proofs.laws.samples_are_valid.Goals as goal

pub returns-clause-stock : goal.returns-clause-stock
returns-clause-stock c = sample_is_stock

pub returns-clause-range : goal.returns-clause-range
returns-clause-range c = sample_in_range
