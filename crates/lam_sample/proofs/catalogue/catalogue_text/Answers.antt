use Rattle.lam_sample.proofs.CatalogueRead.{catalogue_of_result}
use Rattle.lam_sample.proofs.catalogue.catalogue_text.Goals as goal

pub returns-clause-text : goal.returns-clause-text
returns-clause-text c = catalogue_of_result c.records.result c.args.draws.now c.records.ensures.text
