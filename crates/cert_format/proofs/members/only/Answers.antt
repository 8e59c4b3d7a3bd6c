use Rattle.std.proofs.Common.{◌≡◌, ◌∙◌, sym, length, true}
use Rattle.serde_json.specs.View.{view}
use Rattle.cert_format.proofs.laws.Objects.{length-members, key-HasOnly, HasOnly-entry}
use Rattle.cert_format.proofs.members.only.Goals as goal

pub returns-then-len-ne1-clause-none : goal.returns-then-len-ne1-clause-none
returns-then-len-ne1-clause-none c d only =
    c.if-len-ne1.true (c.len.ensures.len ∙ length-members (view c.args.value.now) c.in_ok-members.members.now.entries c.in_ok-members.ensures only)

pub returns-then-not-is_named-clause-none : goal.returns-then-not-is_named-clause-none
returns-then-not-is_named-clause-none c d only =
    let named : c.is_named.result ≡ true =
    c.is_named.ensures.1 (key-HasOnly (view c.args.value.now) c.in_ok-members.members.now.entries c.in_ok-name.name.now c.in_ok-name.member.now c.in_ok-members.ensures c.in_ok-name.ensures.first only) in
    absurd (cc)

pub returns-clause-some : goal.returns-clause-some
returns-clause-some c =
    let named : c.is_named.result ≡ true = cc in
    let one : length c.in_ok-members.members.now.entries ≡ 1 = sym c.len.ensures.len ∙ c.if-len-ne1.false in
    HasOnly-entry (view c.args.value.now) c.in_ok-members.members.now.entries c.in_ok-name.name.now c.in_ok-name.member.now c.in_ok-members.ensures one c.in_ok-name.ensures.first (c.is_named.ensures.0 named)
