use Rattle.std.proofs.Common.{◌≡◌, Some, ap, ◌∙◌, codes}
use Rattle.serde_json.specs.Data.{object, no_members}
use Rattle.serde_json.specs.View.{members_view}
use Rattle.cert_values.proofs.Common.{put_same}
use Rattle.ca_json.specs.Causes.{parts_json, put_named}
use Rattle.ca_json.proofs.laws.Refusals.{members_put-ascend}
use Rattle.ca_json.proofs.refusals.refusal_value.Goals as goal

-- the members come from the last key on, each before the last
pub returns : goal.returns
returns c =
    let p = c.in_ok-parts.parts in
    let none : members_view c.new-members.result.entries ≡ no_members = ap members_view c.new-members.ensures.empty in
    let m1 = c.in_ok-put_named.ensures ∙ ap (put_named (codes "status") (Some (codes "refused"))) none in
    let m2 = c.in_ok-put_named-2.ensures ∙ ap (put_named (codes "side") _) m1 in
    let m3 = c.in_ok-put_named-3.ensures ∙ ap (put_named (codes "key") _) m2 in
    let m4 = c.in_ok-put_named-4.ensures ∙ ap (put_named (codes "fault") _) m3 in
    let m5 = c.in_ok-put_named-5.ensures ∙ ap (put_named (codes "cause") (Some p.cause.now)) m4 in
    let m6 = c.in_ok-put_named-6.ensures ∙ ap (put_named (codes "because") _) m5 in
    c.from.ensures ∙ ap object (c.in_ok-put.ensures.ok ∙ put_same (codes "at") c.in_ok-at.ensures m6 ∙ members_put-ascend _ _ _ _ _ _) ∙ ap parts_json c.in_ok-parts.ensures.parts
