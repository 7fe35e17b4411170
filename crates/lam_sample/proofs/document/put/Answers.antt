use Rattle.std.proofs.Common.{ap, ◌∙◌}
use Rattle.toml.specs.View.{members_view, table_view, view}
use Rattle.lam_sample.specs.inside.Document.{with_member}
use Rattle.lam_sample.proofs.MemberLaws.{put_member}
use Rattle.lam_sample.proofs.document.put.Goals as goal

pub returns : goal.returns
returns c =
    ap members_view c.in_ok-insert.ensures.entries ∙ put_member c.in_ok-key.key c.args.value c.args.table.now.entries
    ∙ ap (λ k. with_member k (view c.args.value) (table_view c.args.table.now)) c.in_ok-key.ensures.ok
