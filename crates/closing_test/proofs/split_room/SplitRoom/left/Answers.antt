use Rattle.std.proofs.Common.{◌≡◌, refl, subst, true≢false, sym, ap, ◌∙◌, arith}
use Rattle.word_image.proofs.Common.{length-reverse, LocalRule, mirrored}
use Rattle.tail_config.proofs.Common.{IsRightClosing, IsLeftClosing, mirror_of, TailConfig, TailOver, IsTail-mirror, IsShortTail}
use Rattle.tail_laws.proofs.Common.{IsLeftClosing-mirrored}
use Rattle.closing_test.specs.Closing.{IsLeastSplitOf, IsLeastLeftSplitOf, IsShortOver, tail_over}
use Rattle.closing_test.proofs.SplitTails.{IsShortTail-over}
use Rattle.closing_test.proofs.split_room.SplitRoom.left.Goals as goal
use Rattle.closing_test.proofs.split_room.SplitRoom.left.Goals.{After-k}

pub find_split-requires : goal.find_split-requires
find_split-requires c closing =
    let r : LocalRule = c.rule.result.now in
    let same : c.of.result ≡ mirrored r = c.of.ensures ∙ c.reflect.ensures.mirrored ∙ ap mirrored (c.rule-2.ensures ∙ sym c.rule.ensures) in
    true≢false (sym (c.in_default.ensures.closing.1 ((IsLeftClosing-mirrored c.in_default.ensures.rule).1 (subst IsRightClosing same closing))))

-- a mirrored configuration is as short
short-mirror : {r : LocalRule} {t : TailConfig} → IsShortOver (mirrored r) (tail_over (mirrored r) t) → IsShortOver r (tail_over r (mirror_of t))
short-mirror {r} {t} short = record {
  states = refl;
  left = omega (arith, length-reverse t.right, short.right);
  middle = omega (arith, length-reverse t.middle, short.middle);
  right = omega (arith, length-reverse t.left, short.left);
}

-- the mirror images of the least right split of the mirrored rule are the least left split
mirrored-split : {r : LocalRule} {x y : TailConfig} → IsLeastSplitOf (mirrored r) (tail_over (mirrored r) x) (tail_over (mirrored r) y)
    → IsLeastLeftSplitOf r (tail_over r (mirror_of x)) (tail_over r (mirror_of y))
mirrored-split {r} {x} {y} split = record {
  least = record { first = x; second = y; right = split.least; x_is = refl; y_is = refl };
  first = short-mirror split.first;
  second = short-mirror split.second;
}

-- the number of letters of the rule
states : (c : After-k) → c.k.result ≡ (let r : LocalRule = c.args.pairs.now in r.states)
states c = c.k.ensures.states ∙ ap (λ (r : LocalRule). r.states) c.graph.ensures

-- the split that is found
found : (c : After-k) → IsLeastLeftSplitOf c.args.pairs.now (record { states = c.k.result; config = c.mirror.new.self }) (record { states = c.k.result; config = c.mirror-2.new.self })
found c =
    let same : c.of.result ≡ mirrored c.args.pairs.now = c.of.ensures ∙ c.reflect.ensures.mirrored ∙ ap mirrored c.rule-2.ensures in
    rw (states c, c.mirror.ensures, c.mirror-2.ensures)
    (mirrored-split (subst (λ z. IsLeastSplitOf z (tail_over z c.self.inside.x) (tail_over z c.self.inside.y)) same (rw (← c.self.view_is) at c.find_split.ensures.split)))

-- the two configurations of a least left split are short
short-left : {r : LocalRule} {x y : TailOver} → IsLeastLeftSplitOf r x y → IsShortTail r.states x.config × IsShortTail r.states y.config
short-left h =
    let split = h.least.right.split.split in (
      IsShortTail-over (rw h.least.x_is (IsTail-mirror split.first)) h.first,
      IsShortTail-over (rw h.least.y_is (IsTail-mirror split.second)) h.second,
    )

pub split-requires-clause-first : goal.split-requires-clause-first
split-requires-clause-first c = rw (states c) (short-left (found c)).0

pub split-requires-clause-second : goal.split-requires-clause-second
split-requires-clause-second c = rw (states c) (short-left (found c)).1

pub returns : goal.returns
returns c =
    let not : ¬ IsLeftClosing c.args.pairs.now = λ closing. true≢false (sym (c.in_default.ensures.closing.1 (subst IsLeftClosing (sym c.rule.ensures) closing))) in
    rw c.split.ensures (not, found (goal.at.returns c).After-k)
