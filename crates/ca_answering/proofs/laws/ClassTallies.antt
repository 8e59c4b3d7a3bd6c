-- The least rules of the classes of some rules, one rule more at a time, and what is kept for them.
use borrow.Author.Tests.{eqb-true}
use Rattle.std.proofs.Common.{◌≡◌, ◌≢◌, ℕ, nat_eq, Bool, true, false, true≢false, List, [], ◌∷◌, ◌++◌, get_or, is_some, None, Some, All, Contains, pos, refl, sym, ap, subst, ◌∙◌}
use Rattle.std.specs.Map.{keys_of, lookup}
use Rattle.std.proofs.lemmas.Cmp.{nat_eq_equiv}
use Rattle.std.proofs.lemmas.List.Quantifiers.{all_pairs_push}
use Rattle.std.proofs.lemmas.Map.Views.{Contains-from_lookup, IsSome-lookup_from_Contains}
use Rattle.word_image.proofs.Common.{get_or-map, length-map, All-push, All-map, All-weaker, All-contains, Contains-get_or, Contains-append_left, Contains-push, LocalRule, IsRule, wolfram_number}
use Rattle.rule_classes.specs.Classes.{IsLeastOfClass}
use Rattle.rule_classes.proofs.laws.Numbers.{same_number}
use Rattle.rule_verdicts.specs.declared.truths.Truths.{Truths}
use Rattle.rule_verdicts.specs.Truths.{AreTruths}
use Rattle.ca_questions.proofs.Common.{AreLeastRules, IsLeastOfItsClass}
use Rattle.ca_answering.specs.ClassTallies.{IsRuleAdded, IsDecided, rule_in, rules_in}
use Rattle.ca_answering.specs.ClassTallies.IsRuleAdded.{Old, New}

-- the least rule of the class of r is in the list
abbrev pub HasLeast : List LocalRule → LocalRule → Type 0
HasLeast leasts r = (g : LocalRule) × Contains leasts g × IsLeastOfItsClass r g

-- g is the least rule of the class of some rule of the list
abbrev IsNeeded : List LocalRule → LocalRule → Type 0
IsNeeded rules g = (r : LocalRule) × Contains rules r × IsLeastOfItsClass r g

-- the least rules of one rule more: its least rule is added to the list
pub AreLeastRules-push : {rules leasts more : List LocalRule} {r g : LocalRule} → IsLeastOfItsClass r g → IsRuleAdded g leasts more
    → AreLeastRules rules leasts → AreLeastRules (rules ++ r ∷ []) more
AreLeastRules-push {rules = rules} {r = r} {g = g} least (Old leasts there) are = record {
  distinct = are.distinct;
  complete = All-push (HasLeast leasts) rules r are.complete (g, there, least);
  no_others = All-weaker (IsNeeded rules) (IsNeeded (rules ++ r ∷ [])) (λ h needed. (needed.0, Contains-append_left rules (r ∷ []) needed.0 needed.1, needed.2)) leasts are.no_others;
}
AreLeastRules-push {rules = rules} {r = r} {g = g} least (New leasts absent) are = record {
  distinct = all_pairs_push ◌≢◌ leasts g are.distinct (λ k d within same. absent (subst (Contains leasts) same (Contains-get_or leasts k d within)));
  complete = All-push (HasLeast (leasts ++ g ∷ [])) rules r
      (All-weaker (HasLeast leasts) (HasLeast (leasts ++ g ∷ [])) (λ q has. (has.0, Contains-append_left leasts (g ∷ []) has.0 has.1, has.2)) rules are.complete)
      (g, Contains-push leasts g, least);
  no_others = All-push (IsNeeded (rules ++ r ∷ [])) leasts g
      (All-weaker (IsNeeded rules) (IsNeeded (rules ++ r ∷ [])) (λ h needed. (needed.0, Contains-append_left rules (r ∷ []) needed.0 needed.1, needed.2)) leasts are.no_others)
      (r, Contains-push rules r, least);
}

-- the rule of an entry is among the rules
Contains-rules_in : (k m : ℕ) (entries : List (ℕ × Truths)) (e : ℕ × Truths) → Contains entries e → Contains (rules_in k m entries) (rule_in k m e)
Contains-rules_in k m entries e (i, within, at) =
    (i, rw length-map within, get_or-map (rule_in k m) entries i e (rule_in k m e) within ∙ ap (rule_in k m) at)

module _ {k m : ℕ} (entries : List (ℕ × Truths)) (decided : All (IsDecided k m) entries) {r : LocalRule} (accepted : IsRule r)
    (states : r.states ≡ k) (width : r.width ≡ m) (offset : r.offset ≡ pos 0) where
  -- what is found under its number holds of it
  pub decided_found : (t : Truths) → lookup (nat_eq (wolfram_number r)) entries ≡ Some t → AreTruths r t × Contains (rules_in k m entries) r
  decided_found t found =
      let among = Contains-from_lookup eqb-true (wolfram_number r) t entries found in
      let is : IsDecided k m (wolfram_number r, t) = All-contains (IsDecided k m) entries (wolfram_number r, t) decided among in
      let same : rule_in k m (wolfram_number r, t) ≡ r = same_number is.accepted accepted (sym states) (sym width) (sym offset) is.number in
      (subst (λ (q : LocalRule). AreTruths q t) same is.truths, rw same at (Contains-rules_in k m entries (wolfram_number r, t) among))

  -- where nothing is found the rule isn't among them
  pub decided_absent : lookup (nat_eq (wolfram_number r)) entries ≡ None → ¬ Contains (rules_in k m entries) r
  decided_absent none there =
      All-contains (λ q. ¬ (q ≡ r)) (rules_in k m entries) r (All-map (λ q. ¬ (q ≡ r)) (rule_in k m) entries others) there refl
    where
      others : All (λ (e : ℕ × Truths). ¬ (rule_in k m e ≡ r)) entries
      others i d within same =
          let is : IsDecided k m (get_or entries i d) = decided i d within in
          let key : (get_or entries i d).0 ≡ wolfram_number r = sym is.number ∙ ap wolfram_number same in
          let among : Contains (keys_of entries) (wolfram_number r) = (i, rw length-map within, get_or-map (λ (e : ℕ × Truths). e.0) entries i d (wolfram_number r) within ∙ key) in
          true≢false (sym (IsSome-lookup_from_Contains nat_eq_equiv (wolfram_number r) entries among) ∙ ap is_some none)

-- the least rule of a class has the shape of the rule, at offset 0
pub least_shape : {r g : LocalRule} (mirror : Bool) → IsLeastOfClass r mirror g → (g.states ≡ r.states) × (g.width ≡ r.width) × (g.offset ≡ pos 0)
least_shape true is = ((is.member).recoloured.states, (is.member).recoloured.width, (is.member).offset)
least_shape false is = ((is.member).recoloured.states, (is.member).recoloured.width, (is.member).offset)
