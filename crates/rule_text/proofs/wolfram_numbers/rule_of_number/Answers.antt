use Rattle.std.proofs.Common.{◌≡◌, ◌^◌, ◌<◌, refl, sym, subst, to_z, of_z, w8, rules}
use Rattle.std.proofs.lemmas.Int.{to_z-of_z}
use Rattle.word_image.proofs.Common.{false≢true, IsRule, window_count-le, part_long}
use Rattle.rule_text.proofs.laws.Numbers.{IsRule-number}
use Rattle.rule_text.proofs.wolfram_numbers.rule_of_number.Goals as goal

pub returns-then-not-write_number : goal.returns-then-not-write_number
returns-then-not-write_number c =
    let k = c.args.k in
    let e = c.if-not-write_number.ensures in
    let size : c.pow-size.result ≡ k ^ c.args.m = search rules in
    let long = part_long c.pow-size.result (k ^ c.args.m) _ refl size (window_count-le k c.args.m c.args.o c.requires) in
    λ below. false≢true (e.fits.1 (subst (λ j. c.args.number < k ^ j) (sym long) below))

pub unreachable-requires : goal.unreachable-requires
unreachable-requires c =
    let k = c.args.k in
    let m = c.args.m in
    let o = c.args.o in
    let e = c.if-not-write_number.ensures in
    let same : to_z w8 (of_z w8 o) ≡ o = to_z-of_z w8 o (search rules) in
    let size : c.pow-size.result ≡ k ^ m = search rules in
    let long = part_long c.pow-size.result (k ^ m) _ refl size (window_count-le k m o c.requires) in
    let rule : IsRule (record { states = k; width = m; offset = to_z w8 (of_z w8 o); table = c.write_number.new.table }) =
    IsRule-number k m o (to_z w8 (of_z w8 o)) _ c.args.number c.write_number.new.table c.requires same long (e.fits.0 refl) e.letters in
    false≢true (c.in-Err.ensures.accepted.1 rule)
