use Rattle.std.proofs.Common.{arith}
use Rattle.std.proofs.lemmas.Map.Text.{text_keys}
use Rattle.lam_outside.proofs.kept_files.MemoryFiles.add.Goals as goal

pub returns-in-Some-clause-others : goal.returns-in-Some-clause-others
returns-in-Some-clause-others c = λ n. grind (arith, text_keys)

pub returns-in-Some-clause-faults : goal.returns-in-Some-clause-faults
returns-in-Some-clause-faults c = λ n. grind (arith, text_keys)

pub returns-in_ok-insert-in-None-clause-others : goal.returns-in_ok-insert-in-None-clause-others
returns-in_ok-insert-in-None-clause-others c = λ n. grind (arith, text_keys)

pub returns-in_ok-insert-in-None-clause-faults : goal.returns-in_ok-insert-in-None-clause-faults
returns-in_ok-insert-in-None-clause-faults c = λ n. grind (arith, text_keys)
