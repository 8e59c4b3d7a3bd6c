use Rattle.std.proofs.Common.{◌≡◌, ℕ, ◌+◌, ◌*◌, ◌%◌, ◌≤◌, ◌++◌, List, length, map, slice_index, slice_range, refl, sym, ap, subst, ◌∙◌, arith, mod-lt}
use Rattle.word_image.proofs.Common.{LocalRule, IsRule, node_count, node_count_pos, windows-nodes}
use Rattle.inverse_table.specs.ImageValues.{labels_from}
use Rattle.inverse_table.proofs.ImageLaws.{AreLonger, AreLonger-row, AreImageValues-longer, row-long}
use Rattle.inverse_table.proofs.image_values.write_longer.Goals as goal

-- the row of the node that the words so far have come to is within the table, and has the labels of its edges
record IsRow (r : LocalRule) (table : List ℕ) (word place row : ℕ) : Type 0 where
  inside : place + row ≤ length table
  labels : slice_range table place (place + row) ≡ labels_from r (word % node_count r)

is_row : {r : LocalRule} {table : List ℕ} {word place row : ℕ} → IsRule r → table ≡ r.table → row ≡ r.states → place ≡ word % node_count r * r.states
    → IsRow r table word place row
is_row {r} {table} {word} {place} {row} rule is same at = grind (arith, row-long, mod-lt, node_count_pos)

pub row_at-requires : goal.row_at-requires
row_at-requires c = (is_row c.k-k.ensures.rule c.table-table.ensures.table (c.from-row.ensures ∙ c.k-k.ensures.states) c.loop-image.invariant.place).inside

pub next_row-place-requires : goal.next_row-place-requires
next_row-place-requires c = grind (arith, is_row)

pub loop-image-preserved : goal.loop-image-preserved
loop-image-preserved c =
    let r = c.args.rule.now in
    let images = c.args.images.now in
    let before = c.loop-image.list.items in
    let word : ℕ = c.loop-image.image-index in
    let node : ℕ = word % node_count r in
    let first : ℕ = slice_index images word * c.from.result in
    let same : c.from-row.result ≡ r.states = c.from-row.ensures ∙ c.k-k.ensures.states in
    let is = is_row {word = word} c.k-k.ensures.rule c.table-table.ensures.table same c.loop-image.invariant.place in
    let letters : c.from.result ≡ r.states = c.from.ensures ∙ c.k-k.ensures.states in
    let row = AreLonger-row c.k-k.ensures.rule images before word node first c.loop-image.invariant.longer refl (ap (λ k. slice_index images word * k) letters) in
    let size : length c.table-table.result.now ≡ node_count r * c.from-row.result = ap length c.table-table.ensures.table ∙ c.k-k.ensures.rule.entries ∙ windows-nodes c.k-k.ensures.rule ∙ ap (λ k. node_count r * k) (sym same) in
    record {
      longer = subst (AreLonger r images (word + 1)) (sym (c.push_all.ensures.items ∙ ap (λ labels. before ++ map (λ label. first + label) labels) (c.row_at.ensures ∙ is.labels))) row;
      room = omega (arith, c.push_all.ensures.room, c.loop-image.invariant.room);
      place = c.next_row-place.ensures.next (node_count r) word size (c.loop-image.invariant.place ∙ ap (λ k. node * k) (sym same)) ∙ ap (λ k. (word + 1) % node_count r * k) same;
    }

pub returns-clause-longer : goal.returns-clause-longer
returns-clause-longer c = λ n values.
    let images = c.args.images.now in
    let all : c.loop-image.image-index ≡ length images = omega arith in
    AreImageValues-longer c.k-k.ensures.rule n images _ (subst (λ i. AreLonger c.args.rule.now images i c.loop-image.list.items) all c.loop-image.invariant.longer) values
