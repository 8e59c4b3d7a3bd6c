use Rattle.std.proofs.Common.{◌≡◌, ap, ◌∙◌, codes}
use Rattle.serde_json.specs.Data.{boolean, object, no_members}
use Rattle.serde_json.specs.View.{members_view}
use Rattle.cert_values.proofs.Common.{put_same}
use Rattle.ca_json.proofs.evidence.report_value.Goals as goal

-- the members come in the order of their keys, each after the last
pub returns : goal.returns
returns c =
    let none : members_view c.new-members.result.entries ≡ no_members = ap members_view c.new-members.ensures.empty in
    let m1 = c.in_ok-put.ensures.ok ∙ put_same (codes "conserving") c.in_ok-conserving.ensures none in
    let m2 = c.in_ok-put-2.ensures.ok ∙ put_same (codes "injective") c.in_ok-injective.ensures m1 in
    let m3 = c.in_ok-put-3.ensures.ok ∙ put_same (codes "left") c.in_ok-left.ensures m2 in
    let m4 = c.in_ok-put-4.ensures.ok ∙ put_same (codes "number") c.in_ok-number.ensures m3 in
    let m5 = c.in_ok-put-5.ensures.ok ∙ put_same (codes "open") (c.from-open.ensures ∙ ap boolean c.is_open.ensures) m4 in
    let m6 = c.in_ok-put-6.ensures.ok ∙ put_same (codes "right") c.in_ok-right.ensures m5 in
    let m7 = c.in_ok-put-7.ensures.ok ∙ put_same (codes "rule") c.in_ok-rule.ensures m6 in
    let m8 = c.in_ok-put-8.ensures.ok ∙ put_same (codes "surjective") c.in_ok-surjective.ensures m7 in
    c.from.ensures ∙ ap object (c.in_ok-put-9.ensures.ok ∙ put_same (codes "weights") c.in_ok-weights.ensures m8)
