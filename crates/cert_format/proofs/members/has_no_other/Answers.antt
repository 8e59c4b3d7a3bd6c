use Rattle.std.proofs.Common.{◌≡◌, refl, sym, subst, length, true, All, Contains, string_bytes}
use Rattle.std.specs.Map.Iter.{deref}
use Rattle.std.specs.Map.{keys_of as names_of}
use Rattle.std.proofs.lemmas.Map.Iter.{iter_turn, iter_end}
use Rattle.word_image.proofs.Common.{All-push, All-map}
use Rattle.serde_json.specs.View.{view}
use Rattle.cert_values.specs.CertificateTexts.{HasNoOther, keys_of}
use Rattle.cert_format.proofs.laws.Objects.{HasNoOther-entries, other_key, members_in-entries}
use Rattle.cert_format.proofs.members.has_no_other.Goals as goal

pub loop-key-preserved : goal.loop-key-preserved
loop-key-preserved c =
    let known : c.is_key.result ≡ true = cc in
    All-push (λ name. Contains (keys_of c.args.version) (string_bytes name.now)) c.loop-key.yielded c.in-Some-key.key c.loop-key.invariant (c.is_key.ensures.0 known)

pub returns-then-not-is_key : goal.returns-then-not-is_key
returns-then-not-is_key c =
    let es = c.in-Some.members.now.entries in
    let turn = iter_turn deref (names_of es) c.loop-key.yielded c.into_iter-key-iterator.result c.loop-key.key-iterator c.next.new.self c.next.result (cc) c.loop-key.yielded_by c.in-Some-key.key c.in-Some-key.is c.next.ensures.steps in
    let unknown : ¬ Contains (keys_of c.args.version) (string_bytes c.in-Some-key.key.now) = λ one. absurd (let known : c.is_key.result ≡ true = c.is_key.ensures.1 one in cc) in
    let same = members_in-entries (view c.args.value.now) es c.in-Some.ensures in
    ((λ t. absurd (cc)), λ no_other. absurd (other_key c.args.version es (length c.loop-key.yielded) c.in-Some-key.key.now turn.1 unknown (subst (HasNoOther c.args.version) same no_other)))

pub returns : goal.returns
returns c =
    let es = c.in-Some.members.now.entries in
    let end = iter_end deref (names_of es) c.loop-key.yielded c.into_iter-key-iterator.result c.loop-key.key-iterator c.next.new.self c.next.result (cc) c.loop-key.yielded_by c.in-None.is c.next.ensures.steps in
    let all = subst (All (λ name. Contains (keys_of c.args.version) (string_bytes name))) end.0 (All-map (λ name. Contains (keys_of c.args.version) (string_bytes name)) deref c.loop-key.yielded c.loop-key.invariant) in
    let same = members_in-entries (view c.args.value.now) es c.in-Some.ensures in
    ((λ t. subst (HasNoOther c.args.version) (sym same) (HasNoOther-entries c.args.version es all)), λ no_other. refl)
