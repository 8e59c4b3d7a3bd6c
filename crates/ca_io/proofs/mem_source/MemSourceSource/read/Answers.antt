use Rattle.std.proofs.Common.{◌≡◌, take, drop, ◌++◌, ap, sym, ◌∙◌, arith, length, length-take-le, min, ℕ}
use Rattle.ca_io.proofs.laws.Pieces.{drop-cut}
use Rattle.ca_io.proofs.mem_source.MemSourceSource.read.Goals as goal

pub returns-clause-gave : goal.returns-clause-gave
returns-clause-gave c =
    let n = c.in_ok-n.n in
    let most = c.min-most.result in
    let buf = c.args.buf.now in
    let left = c.self.inside.plain in
    let given : n ≡ min (length (take most buf)) (length left) = (let same = c.in_ok-n.ensures.count in cc) in
    let fits : length (take most buf) ≡ most = length-take-le most buf (omega arith) in
    let first : c.read.new.buf ≡ take n left ++ drop n (take most buf) = c.read.ensures.first ∙ ap (λ (k : ℕ). take k left ++ drop k (take most buf)) (sym given) in
    ap (λ x. x ++ drop most buf) first ∙ drop-cut n most (take n left) buf (omega arith) ∙ ap (λ feed. take n feed.left ++ drop n buf) c.self.view_is
