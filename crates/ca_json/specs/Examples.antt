-- Worked examples: the JSON of replies, written by hand. The prover computes the same texts.
use Rattle.std.specs.Prelude.{◌≡◌, [], ◌∷◌, codes, refl, Some}
use Rattle.std.specs.Fmt.{digits}
use Rattle.serde_json.proofs.OnLiterals.{serde_json_on_literals}
use Rattle.word_image.specs.declared.side.Side.TheVariants.{Right}
use Rattle.rule_text.specs.declared.text_fault.TextFault.TheVariants.{Form}
use Rattle.cert_values.specs.declared.shape_fault.Key.TheVariants.{Left}
use Rattle.cert_values.specs.declared.shape_fault.ShapeFault.TheVariants.{Shape}
use Rattle.cert_conditions.specs.declared.refusal.Refusal.TheVariants.{Format, Rank}
use Rattle.ca_questions.specs.Findings.{Finding, Cause}
use Rattle.ca_questions.specs.Replies.{Reply}
use Rattle.ca_json.specs.Replies.{json_text}

json_text-orphan : json_text (Reply.Found (Finding.Orphan (Some (0 ∷ 1 ∷ 0 ∷ 1 ∷ 0 ∷ [])))) ≡ codes "{\"finding\":{\"orphan\":\"01010\"},\"status\":\"done\"}"
unfolding digits serde_json_on_literals
json_text-orphan = refl

json_text-twins : json_text (Reply.NotFit (Cause.Twins (0 ∷ []) (1 ∷ []))) ≡ codes "{\"cause\":{\"twins\":[\"0\",\"1\"]},\"status\":\"notfit\"}"
unfolding digits serde_json_on_literals
json_text-twins = refl

json_text-form : json_text (Reply.RuleFault 1 (Form 3)) ≡ codes "{\"fault\":\"form\",\"operand\":1,\"place\":3,\"status\":\"rulefault\"}"
unfolding digits serde_json_on_literals
json_text-form = refl

json_text-rank : json_text (Reply.Refused (Rank Right 1)) ≡ codes "{\"at\":[1],\"cause\":\"rank\",\"side\":\"right\",\"status\":\"refused\"}"
unfolding digits serde_json_on_literals
json_text-rank = refl

json_text-shape : json_text (Reply.Refused (Format (Shape Left))) ≡ codes "{\"at\":[],\"because\":\"shape\",\"cause\":\"format\",\"key\":\"left\",\"status\":\"refused\"}"
unfolding digits serde_json_on_literals
json_text-shape = refl
