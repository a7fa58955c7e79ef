use Rattle.std.proofs.Common.{string_bytes}
use Rattle.serde_json.specs.View.{members_view, view}
use Rattle.ledger_records.proofs.Floats.{text_is}
use Rattle.ledger_records.proofs.json_lines.object_text.Goals as goal

pub returns : goal.returns
returns c =
    text_is (view c.from-object.result) (members_view c.in_ok-job_members.field-0.entries)
    c.args.line.now (string_bytes c.in_ok-text.text) c.from-object.ensures
    c.in_ok-job_members.ensures c.in_ok-text.ensures.text
