-- The rule of a line has the property: it is the listed one at another offset.
use Rattle.std.proofs.Common.{◌≡◌, ℕ, ◌-◌, ◌^◌, List, ℤ, pos, ◌+ℤ◌, ◌≤ℤ◌, refl, arith}
use Rattle.word_image.specs.LocalRules.{least_place, greatest_place}
use Rattle.word_image.proofs.Common.{ints, LocalRule, IsRule, IsShape-offset, rule_from_parts}
use Rattle.rule_lists.specs.Listed.{IsListed, at_offset}
use Rattle.rule_lists.specs.Properties.{Has}
use Rattle.rule_lists.specs.Tables.{HasLetters}
use Rattle.rule_lists.specs.declared.properties.Property.{Property}
use Rattle.rule_lists.proofs.laws.Offsets.{Has-at_offset}
use Rattle.list_run.specs.Lines.{with_table}

-- a rule is accepted at each offset within the limits
IsRule-at_offset : {r : LocalRule} (o : ℤ) → IsRule r → least_place ≤ℤ o → (o +ℤ pos (r.width - 1)) ≤ℤ greatest_place → IsRule (at_offset r o)
IsRule-at_offset o rule least most = record { shape = IsShape-offset o rule.shape least most; entries = rule.entries; letters = rule.letters }

-- the rule of a line is accepted, and has the property
pub printed_has : (property : Property) (shape r : LocalRule) (letters : List ℕ) → IsRule shape → IsListed property shape.states shape.width letters r
    → IsRule (with_table shape r.table) × Has property (with_table shape r.table)
printed_has property shape r letters rule l =
    let same : at_offset r shape.offset ≡ with_table shape r.table = rule_from_parts l.shape.states l.shape.width refl refl in
    let moved = IsRule-at_offset shape.offset l.shape.rule rule.shape.least_offset (omega (arith, ints, l.shape.width, rule.shape.most_offset)) in
    (rw same at moved, rw same at ((Has-at_offset property r shape.offset l.shape.rule moved).0 l.has))

-- each rule of the offset that has the property and the letters is that of a line
pub is_printed : (property : Property) (shape q : LocalRule) (letters : List ℕ) → IsRule q → q.states ≡ shape.states → q.width ≡ shape.width
    → q.offset ≡ shape.offset
    → Has property q → HasLetters shape.states (shape.states ^ shape.width) letters q.table
    → (r : LocalRule) × IsListed property shape.states shape.width letters r × (q ≡ with_table shape r.table)
is_printed property shape q letters rule states width offset has begins =
    let zero_rule : IsRule (at_offset q (pos 0)) = IsRule-at_offset (pos 0) rule (omega (arith, ints)) (omega (arith, ints, rule.shape.most_width)) in (
      at_offset q (pos 0),
      record {
        shape = record { rule = zero_rule; states = states; width = width; offset = refl };
        has = (Has-at_offset property q (pos 0) rule zero_rule).0 has;
        begins = begins;
      },
      rule_from_parts states width offset refl,
    )
