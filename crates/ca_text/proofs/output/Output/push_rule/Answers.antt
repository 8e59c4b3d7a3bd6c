use Rattle.std.proofs.Common.{◌<◌, ◌≤◌, ◌++◌, length, codes, ap, subst, sym, arith, decimal}
use Rattle.std.proofs.lemmas.List.{length-map}
use Rattle.word_image.proofs.Common.{IsWord, All-weaker, lower_digit, window_count-le, word_text}
use Rattle.rule_text.specs.PrintedRules.{head, offset_text}
use Rattle.ca_text.specs.Rooms.{IsAppended}
use Rattle.ca_text.proofs.laws.Appended.{AppendsAtMost-appended, IsAppended-then}
use Rattle.ca_text.proofs.output.Output.push_rule.Goals as goal

pub push_word-requires : goal.push_word-requires
push_word-requires c =
    let r = c.args.rule.now in
    let most = c.keeps_limits.ensures.shape.most_states in
    subst (IsWord 16) (sym c.table.ensures.table) (All-weaker (λ a. a < r.states) (λ a. a < 16) (λ a below. omega arith) r.table c.keeps_limits.ensures.letters)

pub returns-clause-appended : goal.returns-clause-appended
returns-clause-appended c =
    let r = c.args.rule.now in
    let begin = head (decimal r.states) (decimal r.width) (offset_text r.offset) (codes "t") in
    subst (λ t. IsAppended c.push_word.result c.args.self.now c.push_word.new.self (begin ++ word_text t)) c.table.ensures.table
    (IsAppended-then c.push_word.result c.args.self.now c.push_word.new.self begin (word_text c.table.result.now) c.in_ok-push_head.ensures.appended.0 c.push_word.ensures.appended)

pub returns-clause-few : goal.returns-clause-few
returns-clause-few c room =
    let r = c.args.rule.now in
    let limits = c.keeps_limits.ensures in
    let begun = (c.in_ok-push_head.ensures.few (omega (arith, room))).1 in
    let letters : length (word_text c.table.result.now) ≤ 256 =
    omega (arith, length-map c.table.result.now lower_digit, ap length c.table.ensures.table, limits.entries, window_count-le r.states r.width r.offset limits.shape) in
    let pushed = AppendsAtMost-appended 256 c.push_word.result c.push_head.new.self c.push_word.new.self (word_text c.table.result.now) c.push_word.ensures.appended letters (omega (arith, begun, room)) in
    (pushed.0, omega (arith, pushed.1, begun))
