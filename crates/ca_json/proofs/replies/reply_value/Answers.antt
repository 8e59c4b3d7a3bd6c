use Rattle.std.proofs.Common.{◌∙◌, rules}
use Rattle.serde_json.proofs.Views.{view-Object}
use Rattle.ca_json.proofs.replies.reply_value.Goals as goal

pub returns-in-Ok-json-14 : goal.returns-in-Ok-json-14
returns-in-Ok-json-14 c = view-Object _ ∙ rw c.in-TooLong.is (search rules)
