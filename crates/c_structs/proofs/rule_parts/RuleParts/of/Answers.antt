use Rattle.std.proofs.Common.{ℕ, ◌-◌, List, ◌++◌, length, replicate, sym, ap, ◌∙◌, arith, w8, FitsSigned, rules}
use Rattle.std.proofs.lemmas.Int.{to_z-of_z}
use Rattle.word_image.proofs.Common.{window_count-le}
use Rattle.c_structs.proofs.rule_parts.RuleParts.of.Goals as goal

pub padded-requires : goal.padded-requires
padded-requires c =
    let r = c.args.rule.now in
    let limits = c.keeps_limits.ensures in
    omega (arith, ap length c.table.ensures.table, limits.entries, window_count-le r.states r.width r.offset limits.shape)

pub returns : goal.returns
returns c =
    let fits : FitsSigned w8 c.o.result = search rules in
    record {
      states = c.k.ensures.states;
      width = c.m.ensures.width;
      offset = to_z-of_z w8 c.o.result fits ∙ c.o.ensures.offset;
      windows = c.size.ensures.size ∙ sym c.keeps_limits.ensures.entries;
      letters = c.padded.ensures ∙ ap (λ (t : List ℕ). t ++ replicate (256 - length t) 0) c.table.ensures.table;
    }
