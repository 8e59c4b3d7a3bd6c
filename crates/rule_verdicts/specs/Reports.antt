-- The code has types of its own for a report and its parts. This file says which evidence their values represent.
use Rattle.std.specs.Prelude.{◌≡◌, ℕ, ⊤, take}
use Rattle.word_image.specs.LocalRules.{LocalRule, node_count}
use Rattle.cert_values.specs.Evidence.{InjectiveEvidence, SideEvidence, SumEvidence}
use Rattle.closing_test.specs.declared.split_room.LentClosing.{LentClosing}
use Rattle.closing_test.specs.declared.split_room.LentClosing.TheVariants.{Ahead, Split}
use Rattle.flux_conserve.specs.declared.verdict.Keeping.{Keeping}
use Rattle.flux_conserve.specs.declared.verdict.Keeping.TheVariants.{Flux, Ring}
use Rattle.certificate_laws.specs.LeastEvidence.{Evidence}
use Rattle.rule_verdicts.specs.declared.report.Injectivity.{Injectivity}
use Rattle.rule_verdicts.specs.declared.report.Injectivity.TheVariants.{Window, Twins}
use Rattle.rule_verdicts.specs.declared.report.Report.{Report}

-- the evidence about injectivity that a value of the code represents
abbrev pub injective_of : Injectivity → InjectiveEvidence
injective_of (Window n c) = InjectiveEvidence.Window n c
injective_of (Twins pair) = InjectiveEvidence.Twins pair.now.x pair.now.y

-- the evidence about a side that a value of the code represents
abbrev pub side_in : LentClosing → SideEvidence
side_in (Ahead n) = SideEvidence.Ahead n
side_in (Split x y) = SideEvidence.Split x.config y.config

-- if the evidence has two configurations, both of them have k states
abbrev pub AreOver : ℕ → LentClosing → Type 0
AreOver k (Ahead n) = ⊤
AreOver k (Split x y) = (x.states ≡ k) × (y.states ≡ k)

-- the evidence about the sum that a value of the code represents: a flux has a number for each node of the rule
abbrev pub sum_of : LocalRule → Keeping → SumEvidence
sum_of r (Flux flows) = SumEvidence.Flux (take (node_count r) flows)
sum_of r (Ring p) = SumEvidence.Ring p

-- the evidence that a report of the code represents
abbrev pub evidence_of : Report → Evidence
evidence_of e = record {
  rule = e.rule;
  weights = e.weights;
  orphan = e.orphan;
  injective = injective_of e.injective;
  right = side_in e.right;
  left = side_in e.left;
  conserving = sum_of e.rule e.conserving;
}
