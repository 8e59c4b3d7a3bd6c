use Rattle.std.proofs.Common.{◌∙◌, ap, rules}
use Rattle.serde_json.specs.Data.{object}
use Rattle.serde_json.proofs.Views.{view-Object}
use Rattle.ca_json.proofs.replies.verdicts_value.Goals as goal

pub returns-in-Ok-json-16 : goal.returns-in-Ok-json-16
returns-in-Ok-json-16 c = view-Object _ ∙ ap object (search rules)
