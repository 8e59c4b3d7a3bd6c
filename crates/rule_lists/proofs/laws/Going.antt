-- The search goes on: which rules are still to come.
use Rattle.std.proofs.Common.{◌≡◌, ◌≢◌, ℕ, ◌+◌, ◌-◌, ◌*◌, ◌^◌, ◌<◌, ◌≤◌, ◌↔◌, List, length, slice_index, set, Option, Some, None, IfSome, sym, ap, ap₂, ◌∙◌, subst, arith, add-mul, one-mul, pow-suc, MatchOption, pow-add, ext_get_or}
use Rattle.word_image.proofs.Common.{one-le-pow, mul-le, at-set, LocalRule, rule_from_parts}
use Rattle.rule_lists.specs.Ranks.{IsOrder, rank_of_first, rank}
use Rattle.rule_lists.specs.Tables.{IsTable, HasLetters, IsPast, IsFurther, how_far}
use Rattle.rule_lists.specs.Properties.{Has}
use Rattle.rule_lists.specs.Listed.{IsOfShape, IsListed, IsFilled, IsFirst, NoneIs, IsOn, RulesOutStart}
use Rattle.rule_lists.specs.declared.properties.Property.{Property}
use Rattle.rule_lists.proofs.laws.Ranks.{rank-same, rank-more, rank-set_last, same_letters, least_letter, rank-below}

-- the table of a rule of the shape has letters
pub IsTable-shape : {k m : ℕ} {q : LocalRule} → IsOfShape k m q → IsTable k (k ^ m) q.table
IsTable-shape h v l = grind arith

-- a table stays one with another letter
pub IsTable-set : (k size : ℕ) (t : List ℕ) (w a : ℕ) → IsTable k size t → a < k → w < length t → IsTable k size (set t w a)
IsTable-set k size t w a h letter within v l = at-set (λ _ b. b < k) t w 0 a within v (λ _. h v l) letter

-- the next window gets the least letter
pub IsOn-letter : {property : Property} {k m : ℕ} {fixed : List ℕ} {order old : List ℕ} (n : ℕ) → IsOrder (k ^ m) order → IsTable k (k ^ m) old
    → 0 < k → n < k ^ m → k ^ m ≤ length old
    → IsOn property k m fixed order old n (set old (slice_index order n) 0) (Some (n + 1))
IsOn-letter {property} {k} {m} {fixed} {order} {old} n h table some below long =
    let last : rank_of_first k order (set old (slice_index order n) 0) (n + 1) ≡ rank_of_first k order old n * k + 0 = rank-set_last k (k ^ m) order old n 0 h below long in
    record {
      table = IsTable-set k (k ^ m) old (slice_index order n) 0 table some (omega (arith, h.windows n below));
      within = omega arith;
      same = λ q listed.
          let letter : slice_index q.table (slice_index order n) < k = IsTable-shape listed.shape _ (h.windows n below) in
          let least = least_letter k (rank_of_first k order old n) (rank_of_first k order q.table n) _ letter in
          let more = rank-more k order q.table n in (
            (λ l. omega (arith, least.0 l, last, more)),
            (λ l. least.1 (omega (arith, l, last, more))),
          );
      further =
          let power : k ^ (k ^ m - n) ≡ k ^ (k ^ m - (n + 1)) * k = ap (λ e. k ^ e) (omega arith) ∙ pow-suc k (k ^ m - (n + 1)) in
          let same : rank_of_first k order old n * k ^ (k ^ m - n) ≡ rank_of_first k order (set old (slice_index order n) 0) (n + 1) * k ^ (k ^ m - (n + 1)) = rw (power, last) (omega arith) in
          omega (arith, ap (λ x. x * (k ^ m + 1)) same);
    }

-- the next letters in the order of ranks stand further on
IsFurther-next : (k size : ℕ) (order old new : List ℕ) (n i : ℕ) → 0 < k → n ≤ size → i ≤ n
    → rank_of_first k order new i * k ^ (n - i) ≡ rank_of_first k order old n + 1 → IsFurther k size order old n new i
IsFurther-next k size order old new n i some within less next =
    let rest : ℕ = k ^ (size - n) in
    let power : k ^ (size - i) ≡ k ^ (n - i) * rest = ap (λ e. k ^ e) (omega arith) ∙ pow-add k (n - i) (size - n) in
    let all : rank_of_first k order new i * k ^ (size - i) ≡ (rank_of_first k order old n + 1) * rest = rw power (omega (arith, ap (λ x. x * rest) next)) in
    let more : rank_of_first k order old n * rest + 1 ≤ rank_of_first k order new i * k ^ (size - i) =
    omega (arith, all, add-mul (rank_of_first k order old n) 1 rest, one-mul rest, one-le-pow (size - n) k some) in
    let grows = mul-le (rank_of_first k order old n * rest + 1) (size + 1) (rank_of_first k order new i * k ^ (size - i)) (size + 1) more (omega arith) in
    omega (arith, grows, add-mul (rank_of_first k order old n * rest) 1 (size + 1), one-mul (size + 1))

-- where no rule of the shape has the property and the letters that stand, the next letters are tried
pub IsOn-next : {property : Property} {k m : ℕ} {fixed : List ℕ} {order old new : List ℕ} {next : Option ℕ} (n : ℕ) → IsOrder (k ^ m) order → 0 < k
    → n ≤ k ^ m → IsTable k (k ^ m) old → RulesOutStart property k m fixed order old n
    → IsTable k (k ^ m) new → IfSome next (λ i. i ≤ n)
    → IfSome next (λ i. rank_of_first k order new i * k ^ (n - i) ≡ rank_of_first k order old n + 1)
    → ((t : List ℕ) → IsTable k (k ^ m) t → (rank_of_first k order old n < rank_of_first k order t n) ↔ IsPast k order new next t)
    → IsOn property k m fixed order old n new next
IsOn-next {property} {k} {m} {fixed} {order} {old} {new} {next} n h some within letters ruled_out table less following past = record {
  table = table;
  within = some_within next less;
  same = λ q listed.
      let word = IsTable-shape listed.shape in
      let none : rank_of_first k order old n ≢ rank_of_first k order q.table n =
      λ e. ruled_out q listed.shape listed.begins (same_letters k (k ^ m) order q.table old n h word letters within (sym e)) listed.has in (
        (λ l. (past q.table word).0 (omega (arith, l, none))),
        (λ l. omega (arith, (past q.table word).1 l)),
      );
  further = some_further next less following;
}
  where
    some_within : (o : Option ℕ) → IfSome o (λ i. i ≤ n) → IfSome o (λ i. i ≤ k ^ m)
    some_within None l = l
    some_within (Some i) l = omega arith

    some_further : (o : Option ℕ) → IfSome o (λ i. i ≤ n)
        → IfSome o (λ i. rank_of_first k order new i * k ^ (n - i) ≡ rank_of_first k order old n + 1)
        → IfSome o (λ i. IsFurther k (k ^ m) order old n new i)
    some_further None l e = l
    some_further (Some i) l e = IsFurther-next k (k ^ m) order old new n i some within l e

-- how far the search can still go
abbrev pub to_come : ℕ → ℕ → List ℕ → List ℕ → Option ℕ → ℕ
to_come k size order table None = 0
to_come k size order table (Some n) = k ^ size * (size + 1) + size + 1 - how_far k size order table n

-- no search gets further than the last table
how_far-most : (k size : ℕ) (order table : List ℕ) (n : ℕ) → IsOrder size order → IsTable k size table → n ≤ size
    → how_far k size order table n ≤ k ^ size * (size + 1) + size
how_far-most k size order table n h letters within =
    let below = rank-below k size order table n h letters within in
    let grows : rank_of_first k order table n * k ^ (size - n) ≤ k ^ n * k ^ (size - n) = mul-le (rank_of_first k order table n) (k ^ (size - n)) (k ^ n) (k ^ (size - n)) (omega arith) (omega arith) in
    let power : k ^ size ≡ k ^ n * k ^ (size - n) = ap (λ e. k ^ e) (omega arith) ∙ pow-add k n (size - n) in
    let all = mul-le (rank_of_first k order table n * k ^ (size - n)) (size + 1) (k ^ size) (size + 1) (omega (arith, grows, power)) (omega arith) in
    omega (arith, all)

-- less far where what stands is further on
pub to_come-less : (k size : ℕ) (order old new : List ℕ) (n : ℕ) (before next : Option ℕ) → before ≡ Some n → IsOrder size order → IsTable k size old
    → IsTable k size new → n ≤ size
    → IfSome next (λ i. i ≤ size) → IfSome next (λ i. IsFurther k size order old n new i)
    → to_come k size order new next < to_come k size order old before
to_come-less k size order old new n before None is h table letters within small further = let most = how_far-most k size order old n h table within in rw is (omega (arith, most))
to_come-less k size order old new n before (Some i) is h table letters within small further = let most = how_far-most k size order new i h letters small in rw is (omega (arith, most, further))

-- two rules of a shape with the same letters are one
pub same_rule : {k m : ℕ} {q r : LocalRule} → IsOfShape k m q → IsOfShape k m r
    → ((v : ℕ) → v < k ^ m → slice_index q.table v ≡ slice_index r.table v) → q ≡ r
same_rule {k} {m} {q} {r} first second same =
    let long : (s : LocalRule) → IsOfShape k m s → length s.table ≡ k ^ m = λ s e. e.rule.entries ∙ ap₂ (λ (a b : ℕ). a ^ b) e.states e.width in
    let tables : q.table ≡ r.table = ext_get_or 0 q.table r.table (long q first ∙ sym (long r second)) (λ v l. same v (omega (arith, long q first))) in
    rule_from_parts {r = q} {s = r} (first.states ∙ sym second.states) (first.width ∙ sym second.width) (first.offset ∙ sym second.offset) tables

-- a full table whose rule hasn't the property
pub RulesOutStart-rejected : (property : Property) (k m : ℕ) (fixed : List ℕ) (order table : List ℕ) (n : ℕ) (r : LocalRule) → IsOrder (k ^ m) order
    → n ≡ k ^ m → IsOfShape k m r
    → ((v : ℕ) → v < k ^ m → slice_index r.table v ≡ slice_index table v) → ¬ Has property r → RulesOutStart property k m fixed order table n
RulesOutStart-rejected property k m fixed order table n r h full shape letters hasnt q of begins same has =
    let each : (v : ℕ) → v < k ^ m → slice_index q.table v ≡ slice_index r.table v = λ v l.
    let (i, below, at) = h.all v l in
    subst (λ w. slice_index q.table w ≡ slice_index table w) at (same i (omega arith)) ∙ sym (letters v l) in
    hasnt (subst (Has property) (same_rule of shape each) has)

-- a full table that hasn't the letters of the beginning
pub RulesOutStart-other : (property : Property) (k m : ℕ) (fixed : List ℕ) (order table : List ℕ) (n j : ℕ) → IsOrder (k ^ m) order → j ≡ k → n ≡ k ^ m
    → ¬ HasLetters j n fixed table → RulesOutStart property k m fixed order table n
RulesOutStart-other property k m fixed order table n j h states full other q of begins same has =
    other (λ v l is_fixed.
    let (i, below, at) = h.all v (omega (arith, l, full)) in
    let is : slice_index q.table v ≡ slice_index table v = subst (λ w. slice_index q.table w ≡ slice_index table w) at (same i (omega (arith, below, full))) in
    sym is ∙ begins v (omega (arith, l, full)) (omega (arith, is_fixed, states)))

-- a full table whose rule has the property is the first to come
pub IsFirst-filled : (property : Property) (k m : ℕ) (fixed : List ℕ) (order table : List ℕ) (n : ℕ) (next : Option ℕ) (From : LocalRule → Type 0) (r : LocalRule) → IsOrder (k ^ m) order → next ≡ Some n → IsFilled property k m fixed table n r
    → ((q : LocalRule) → IsListed property k m fixed q → (From q ↔ IsPast k order table next q.table)) → IsFirst property k m fixed order From r
IsFirst-filled property k m fixed order table n next From r h is filled same = grind (arith, rank-same)

-- the first of the same rules
pub first_of_same : (property : Property) (k m : ℕ) (fixed order : List ℕ) (o : Option LocalRule) (From To : LocalRule → Type 0)
    → ((q : LocalRule) → IsListed property k m fixed q → (From q ↔ To q))
    → MatchOption o (NoneIs property k m fixed From) (IsFirst property k m fixed order From)
    → MatchOption o (NoneIs property k m fixed To) (IsFirst property k m fixed order To)
first_of_same property k m fixed order None From To same none = λ q listed to. none q listed ((same q listed).1 to)
first_of_same property k m fixed order (Some r) From To same first = grind arith

-- the tables past a rule's own letters are those of a greater rank
pub past_rank : (k m : ℕ) (order letters new : List ℕ) (next : Option ℕ) (n : ℕ) (r q : LocalRule) → IsOrder (k ^ m) order → n ≡ k ^ m
    → ((v : ℕ) → v < k ^ m → slice_index letters v ≡ slice_index r.table v)
    → ((rank_of_first k order letters n < rank_of_first k order q.table n) ↔ IsPast k order new next q.table)
    → IsPast k order new next q.table ↔ (rank k order r.table < rank k order q.table)
past_rank k m order letters new next n r q h full same past = grind (arith, rank-same)
