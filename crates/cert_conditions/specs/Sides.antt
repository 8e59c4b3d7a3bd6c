-- A certificate has some parts for each side of the line, right or left: claims, which are bounds of ranks of pairs of
-- nodes, and evidence on right-closing or left-closing. This file selects them by the side.
use Rattle.std.specs.Prelude.{ℕ, List, Option}
use Rattle.tail_config.specs.Tails.{TailConfig, AgreeLeft, AgreeRight}
use Rattle.cert_values.specs.Evidence.{SideEvidence}
use Rattle.cert_values.specs.Certificates.{Certificate}
use Rattle.word_image.specs.declared.side.Side.{Side}
use Rattle.word_image.specs.declared.side.Side.TheVariants.{Right, Left}

-- the two configurations agree far out on the side opposite to this one: on the left if this side is the right
abbrev pub AgreeBehind : Side → TailConfig → TailConfig → Type 0
AgreeBehind Right = AgreeLeft
AgreeBehind Left = AgreeRight

-- the claims of a certificate for this side: the forward claims on the right, the backward claims on the left
abbrev pub claims_on : Certificate → Side → List (Option ℕ)
claims_on c Right = c.forward
claims_on c Left = c.backward

-- the evidence of a certificate that the rule is closing on this side, or that it isn't closing
abbrev pub evidence_on : Certificate → Side → SideEvidence
evidence_on c Right = c.right
evidence_on c Left = c.left
