-- Last cells are the first cells of the mirrored rule, and a trimmed rule is twice without its first cells.
use Rattle.std.proofs.Common.{◌≡◌, ℕ, ◌+◌, ◌-◌, ◌<◌, ◌≤◌, List, ◌++◌, length, take, drop, reverse, replicate, sym, ap, subst, ◌∙◌, arith, length-drop, ℤ, pos, negsuc, ◌+ℤ◌, neg_ℤ}
use Rattle.word_image.proofs.Common.{ints, length-reverse, reverse-reverse, drop-take, All-drop, LocalRule, IsRule, IsWord, mirrored, mirrored-mirrored, IsWord-reverse, local_map-mirrored, reverse-cut}
use Rattle.tail_config.proofs.Common.{IsConfig, TailConfig, IsTail, cell, image_cell, mirror_of, cell-below, IsTail-mirror, cell-mirror, image_of-backwards}
use Rattle.rule_algebra.specs.Algebra.{KeepsImages, Ignores, IsTrimmed}
use Rattle.rule_algebra.specs.Tables.{IsRest, DropsFirsts}
use Rattle.rule_algebra.proofs.laws.Trimming.{Ignores-over, Ignores-rest, behind_zeros, take-behind_zeros, KeepsImages-rest}

-- mirrored twice, a configuration is itself
mirror_of-mirror_of : (t : TailConfig) → mirror_of (mirror_of t) ≡ t
mirror_of-mirror_of t = grind (arith, reverse-reverse)

-- image cells that are kept are kept by the mirrored rules
KeepsImages-mirrored : {r g : LocalRule} → IsRule r → IsRule g → g.states ≡ r.states → KeepsImages (mirrored r) g → KeepsImages r (mirrored g)
KeepsImages-mirrored {r} {g} rule other same keeps = λ t i tail.
    let j : ℤ = pos (length t.middle) +ℤ negsuc 0 +ℤ neg_ℤ i in
    let there : IsTail r.states (mirror_of t) = IsTail-mirror tail in
    let back : i +ℤ j +ℤ pos 1 ≡ pos (length (reverse t.middle)) = omega (arith, ints, length-reverse t.middle) in
    let fore : j +ℤ i +ℤ pos 1 ≡ pos (length t.middle) = omega (arith, ints) in
    ap (λ u. image_cell (mirrored g) u i) (sym (mirror_of-mirror_of t))
    ∙ image_of-backwards other (subst (λ k. IsConfig k (cell (mirror_of t))) (sym same) (cell-below there)) (cell-mirror there) i j back
    ∙ keeps (mirror_of t) j there
    ∙ image_of-backwards rule (cell-below tail) (cell-mirror tail) j i fore

-- a reversed window without last cells and first cells
cut-reverse : (d e n : ℕ) (x : List ℕ) → d + e ≤ n → length x ≡ n
    → drop d (take (n - e) (reverse x)) ≡ reverse (drop e (take (n - d) x))
cut-reverse d e n x h long =
    let whole : e + (n - d - e) ≡ n - d = omega arith in
    ap (drop d) (reverse-cut e (n - e) x (omega arith)).0
    ∙ (reverse-cut (n - d - e) d (drop e x) (omega (arith, length-drop e x))).1
    ∙ ap reverse (sym (drop-take e (n - d - e) x) ∙ ap (λ j. drop e (take j x)) whole)

-- ignored last cells are ignored first cells of the mirrored rule
Ignores-mirrored : (r : LocalRule) (d e : ℕ) → d + e ≤ r.width → Ignores r d e → Ignores (mirrored r) e d
Ignores-mirrored r d e h =
    Ignores-over r (mirrored r) d e e d reverse (λ v word long. (IsWord-reverse r.states v word, length-reverse v ∙ long, sym (local_map-mirrored r v word long)))
    (λ v w lv lw same. cut-reverse d e r.width v h lv ∙ ap reverse same ∙ sym (cut-reverse d e r.width w h lw))

-- last cells that the rest ignores are ignored
lasts-rest : {r g : LocalRule} {n : ℕ} → IsRest r n g → (e : ℕ) → e ≤ g.width → Ignores g 0 e → Ignores r 0 e
lasts-rest {r} {g} {n} rest e h = Ignores-over g r 0 e 0 e (drop n)
    (λ v word long. (subst (λ k. IsWord k (drop n v)) (sym rest.states) (All-drop (λ a. a < r.states) n v word), omega (arith, length-drop n v, rest.width), rest.letters v word long))
    (λ v w lv lw same.
    let place : n + (g.width - e) ≡ r.width - e = omega (arith, rest.width) in
    let kept : (x : List ℕ) → take (g.width - e) (drop n x) ≡ drop n (take (r.width - e) x) = λ x. sym (drop-take n (g.width - e) x) ∙ ap (λ j. drop n (take j x)) place in
    kept v ∙ ap (drop n) same ∙ sym (kept w))

-- last cells that a rule ignores are ignored by the rest
rest-lasts : {r g : LocalRule} {n : ℕ} → IsRule r → IsRest r n g → (e : ℕ) → e ≤ g.width → Ignores r 0 e → Ignores g 0 e
rest-lasts {r} {g} {n} rule rest e h = Ignores-over r g 0 e 0 e (λ v. replicate n 0 ++ v) (behind_zeros rule rest)
    (λ v w lv lw same. take-behind_zeros rest e h v ∙ ap (λ u. replicate n 0 ++ u) same ∙ sym (take-behind_zeros rest e h w))

-- without its first cells and then, mirrored, without its first cells again, a rule is trimmed
pub IsTrimmed-rests : {r s g : LocalRule} → IsRule r → IsRule s → IsRule g → DropsFirsts r s → DropsFirsts (mirrored s) g → IsTrimmed r (mirrored g)
IsTrimmed-rests {r} {s} {g} rule middle last firsts lasts =
    let d : ℕ = firsts.count in
    let e : ℕ = lasts.count in
    let one = firsts.rest in
    let two = lasts.rest in
    let within : e ≤ s.width = omega (arith, two.width) in
    let keeps = KeepsImages-mirrored middle last two.states (KeepsImages-rest two) in
    record {
      first = d;
      last = e;
      two_left = omega (arith, one.width, two.width, last.shape.least_width);
      firsts_ignored = Ignores-rest one;
      most_firsts = firsts.most;
      lasts_ignored = lasts-rest one e within (subst (λ q. Ignores q 0 e) (mirrored-mirrored middle) (Ignores-mirrored (mirrored s) e 0 (omega arith) (Ignores-rest two)));
      most_lasts = λ f wide ignored.
          let short : f ≤ s.width = omega (arith, one.width) in
          lasts.most f (omega (arith, one.width)) (Ignores-mirrored s 0 f (omega arith) (rest-lasts rule one f short ignored));
      states = two.states ∙ one.states;
      width = omega (arith, one.width, two.width);
      offset = omega (arith, ints, one.offset, two.offset, one.width, two.width, last.shape.least_width, middle.shape.least_width);
      images = λ t i tail. keeps t i (subst (λ k. IsTail k t) (sym one.states) tail) ∙ KeepsImages-rest one t i tail;
    }
