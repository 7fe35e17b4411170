use Rattle.std.proofs.Common.{map, string_bytes, ◌∙◌}
use Rattle.clap.specs.Words.{app_of, found_of, rows_of}
use Rattle.lam_words.specs.inside.Spelled.{sorted_of}
use Rattle.lam_words.proofs.ByClap.{found_by, only_memory, simple_is, free_is}
use Rattle.lam_words.proofs.command.said_by_clap.Goals as goal

pub returns-in-Ok-try_get_matches_from : goal.returns-in-Ok-try_get_matches_from
returns-in-Ok-try_get_matches_from c =
    let matches = c.in-Ok-try_get_matches_from.ensures.matches (simple_is (app_of c.in-Ok.command) c.in-Ok.ensures) in
    found_by (app_of c.in-Ok.command) (map string_bytes c.args.words.now) (rows_of (found_of c.in-Ok-try_get_matches_from.matches)) (sorted_of c.said_by.result)
    c.in-Ok.ensures c.requires matches.0 c.said_by.ensures

pub unreachable-requires : goal.unreachable-requires
unreachable-requires c =
    let fails = c.in-Err-try_get_matches_from.ensures.kinds (free_is (app_of c.in-Ok.command) c.in-Ok.ensures) in
    c.in_default.not-OutOfMemory (c.kind.ensures
    ∙ only_memory (app_of c.in-Ok.command) (map string_bytes c.args.words.now) c.in-Err-try_get_matches_from.error c.in-Ok.ensures c.requires fails)
