use Rattle.std.proofs.Common.{arith}
use Rattle.std.proofs.lemmas.Map.Text.{text_keys}
use Rattle.lam_outside.proofs.kept_files.MemoryFilesFiles.take.Goals as goal

pub returns-then-is_due-clause-others : goal.returns-then-is_due-clause-others
returns-then-is_due-clause-others c = λ failed n apart. grind (arith, text_keys)

pub returns-then-is_due-clause-same : goal.returns-then-is_due-clause-same
returns-then-is_due-clause-same c = λ n. grind (arith, text_keys)

pub returns-then-is_due-clause-never_fall : goal.returns-then-is_due-clause-never_fall
returns-then-is_due-clause-never_fall c = λ n. grind (arith, text_keys)

pub returns-else-is_due-clause-unraised : goal.returns-else-is_due-clause-unraised
returns-else-is_due-clause-unraised c = λ unfailed n. grind (arith, text_keys)

pub returns-else-is_due-clause-same : goal.returns-else-is_due-clause-same
returns-else-is_due-clause-same c = λ n. grind (arith, text_keys)

pub returns-else-is_due-clause-never_fall : goal.returns-else-is_due-clause-never_fall
returns-else-is_due-clause-never_fall c = λ n. grind (arith, text_keys)
