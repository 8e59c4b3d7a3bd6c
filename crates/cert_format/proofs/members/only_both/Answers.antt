use Rattle.std.proofs.Common.{◌≡◌, ◌-◌, ◌∙◌, sym, subst, length, true, Some, slice_get}
use Rattle.serde_json.specs.View.{view}
use Rattle.cert_format.proofs.laws.Objects.{length-members, keys-HasOnlyBoth, HasOnlyBoth-entries}
use Rattle.cert_format.proofs.members.only_both.Goals.{else-is_named-via-then-is_named+else-is_named-2, else-is_named-via-else-is_named}
use Rattle.cert_format.proofs.members.only_both.Goals as goal

pub returns-then-len-ne2-clause-none : goal.returns-then-len-ne2-clause-none
returns-then-len-ne2-clause-none c d e both =
    c.if-len-ne2.true (c.len.ensures.len ∙ length-members (view c.args.value.now) c.in_ok-members.members.now.entries c.in_ok-members.ensures both)

pub returns-then-is_named-2-clause-some : goal.returns-then-is_named-2-clause-some
returns-then-is_named-2-clause-some c =
    let es = c.in_ok-members.members.now.entries in
    let two : length es ≡ 2 = sym c.len.ensures.len ∙ c.if-len-ne2.false in
    let last : slice_get es 1 ≡ Some (c.in_ok-greater.greater.now, c.in_ok-greater.other.now) = subst (λ n. slice_get es (n - 1) ≡ Some (c.in_ok-greater.greater.now, c.in_ok-greater.other.now)) two c.in_ok-greater.ensures.last in
    HasOnlyBoth-entries (view c.args.value.now) es c.in_ok-lesser.lesser.now c.in_ok-greater.greater.now c.in_ok-lesser.member.now c.in_ok-greater.other.now c.in_ok-members.ensures two
    c.in_ok-lesser.ensures.first last (c.is_named.ensures.0 c.if-is_named.true) (c.is_named-then-is_named.ensures.0 c.if-is_named-2.true)

pub returns-clause-none : goal.returns-clause-none
returns-clause-none c d e both =
    let es = c.in_ok-members.members.now.entries in
    let two : length es ≡ 2 = sym c.len.ensures.len ∙ c.if-len-ne2.false in
    let last : slice_get es 1 ≡ Some (c.in_ok-greater.greater.now, c.in_ok-greater.other.now) = subst (λ n. slice_get es (n - 1) ≡ Some (c.in_ok-greater.greater.now, c.in_ok-greater.other.now)) two c.in_ok-greater.ensures.last in
    let names = keys-HasOnlyBoth (view c.args.value.now) es c.in_ok-lesser.lesser.now c.in_ok-greater.greater.now c.in_ok-lesser.member.now c.in_ok-greater.other.now c.in_ok-members.ensures
    c.in_ok-lesser.ensures.first last both in
    let first : c.is_named.result ≡ true = c.is_named.ensures.1 names.0 in
    elim c.else-is_named.branch as (λ _. ⊥) [
      | else-is_named-via-then-is_named+else-is_named-2 w ↦ let second : w.is_named-then-is_named.result ≡ true = w.is_named-then-is_named.ensures.1 names.1 in absurd (cc)
      | else-is_named-via-else-is_named w ↦ absurd (cc)
    ]
