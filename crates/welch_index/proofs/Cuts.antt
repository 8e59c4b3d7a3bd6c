-- How many nodes are at the cut between two words: last nodes of the first word that are first nodes of the second. Under
-- a rule with at most as many preimages of each word as there are nodes, the least such number is the product of the
-- fewest last nodes and the fewest first nodes, divided by the number of nodes.
use Rattle.std.proofs.Common.{mul-le-mul_left, mul_comm, ◌≡◌, ℕ, zero, suc, ◌-◌, ◌*◌, ◌^◌, ◌<◌, ◌≤◌, List, ◌++◌, length, refl, sym, ◌∙◌, subst, ⊎_elim, arith, le_of_mul-le-mul_right}
use Rattle.word_image.proofs.Common.{cases_lt, LocalRule, IsRule, IsWord, All-append, node_count, some_letter}
use Rattle.welch_index.proofs.Totals.{total, total-le, total-same, total-mul, total-const, total-swap, at_place, sign}
use Rattle.welch_index.proofs.Pulls.{pull, pull-append, pull-same, pull-sign, pull-nodes, pull-const, walks-all, walks-const, over, over-le, over-same, over-mul, over-total, over-least, over-equal, over-pull, over-behind}

-- the word is read from some walk that begins at the node: 1 or 0
abbrev pub reads : LocalRule → List ℕ → ℕ → ℕ
reads r w p = sign (pull r w (λ q. 1) p)

-- how many walks that spell the word end at the node
abbrev pub enters : LocalRule → List ℕ → ℕ → ℕ
enters r w t = total (λ p. pull r w (at_place t) p) (node_count r)

-- some walk that spells the word ends at the node: 1 or 0
abbrev pub ends : LocalRule → List ℕ → ℕ → ℕ
ends r w t = sign (enters r w t)

-- how many walks spell the word
abbrev pub spelled : LocalRule → List ℕ → ℕ
spelled r w = total (pull r w (λ q. 1)) (node_count r)

-- how many nodes are at the cut between the words
abbrev pub cut : LocalRule → List ℕ → List ℕ → ℕ
cut r u v = total (λ t. ends r u t * reads r v t) (node_count r)

-- how many last nodes a word has
abbrev pub last_count : LocalRule → List ℕ → ℕ
last_count r w = total (ends r w) (node_count r)

-- how many first nodes a word has
abbrev pub first_count : LocalRule → List ℕ → ℕ
first_count r w = total (reads r w) (node_count r)

-- all words z of m - 1 letters together lead from a node to each node once
pub over-led : {r : LocalRule} → IsRule r → (x : ℕ → ℕ) (q : ℕ) → q < node_count r → over r.states (r.width - 1) (λ z. pull r z x q) ≡ total x (node_count r)
over-led {r} rule x q l = over-pull rule (r.width - 1) x q l ∙ walks-all rule x q l

-- all words z of m - 1 letters together have no more nodes at the cuts of w and z v than pairs of a last node of w and a first node of v
pub cut-over : {r : LocalRule} → IsRule r → (w v : List ℕ) → over r.states (r.width - 1) (λ z. cut r w (z ++ v)) ≤ last_count r w * first_count r v
cut-over {r} rule w v =
    let k = r.states in
    let n = node_count r in
    let d = r.width - 1 in
    let each : (t : ℕ) → t < n → over k d (λ z. ends r w t * reads r (z ++ v) t) ≤ first_count r v * ends r w t = λ t l.
    let more = over-le k d (λ z. reads r (z ++ v) t) (λ z. pull r z (reads r v) t) (λ z hz lz.
    subst (λ (y : ℕ). sign y ≤ pull r z (reads r v) t) (sym (pull-append r z v (λ q. 1) t)) (pull-sign r z (pull r v (λ q. 1)) t)) in
    let led = over-led rule (reads r v) t l in
    let times = mul-le-mul_left (ends r w t) (subst (λ (y : ℕ). over k d (λ z. reads r (z ++ v) t) ≤ y) led more) in
    omega (arith, times, over-mul k d (ends r w t) (λ z. reads r (z ++ v) t), mul_comm (ends r w t) (first_count r v)) in
    let all = total-le (λ t. over k d (λ z. ends r w t * reads r (z ++ v) t)) (λ t. first_count r v * ends r w t) n each in
    omega (arith, over-total k d n (λ z t. ends r w t * reads r (z ++ v) t), all, total-mul (first_count r v) (ends r w) n, mul_comm (first_count r v) (last_count r w))

-- sums over the ends of the walks that spell a word
pub spelled-nodes : {r : LocalRule} → IsRule r → (w : List ℕ) (x : ℕ → ℕ) → total (pull r w x) (node_count r) ≡ total (λ t. x t * enters r w t) (node_count r)
spelled-nodes {r} rule w x =
    let n = node_count r in
    total-same _ _ n (λ p l. pull-nodes rule w x p l) ∙ total-swap (λ p t. x t * pull r w (at_place t) p) n n
    ∙ total-same _ _ n (λ t l. total-mul (x t) (λ p. pull r w (at_place t) p) n)

-- how many walks spell the words w z w, for all words z of m - 1 letters together
spelled-woven : {r : LocalRule} → IsRule r → (w : List ℕ) → over r.states (r.width - 1) (λ z. spelled r (w ++ (z ++ w))) ≡ spelled r w * spelled r w
spelled-woven {r} rule w =
    let k = r.states in
    let n = node_count r in
    let d = r.width - 1 in
    let s = spelled r w in
    over-total k d n (λ z. pull r (w ++ (z ++ w)) (λ q. 1))
    ∙ total-same _ _ n (λ p l.
    over-same k d _ _ (λ z. pull-append r w (z ++ w) (λ q. 1) p)
    ∙ over-behind r d w (λ z. pull r (z ++ w) (λ q. 1)) p
    ∙ pull-same rule w _ (λ q. s) (λ q h. over-same k d _ _ (λ z. pull-append r z w (λ q. 1) q) ∙ over-led rule (pull r w (λ q. 1)) q h) p l
    ∙ pull-const rule w s p l)
    ∙ total-mul s (pull r w (λ q. 1)) n

-- if each word is spelled by some walk, each is spelled by at least as many walks as there are nodes
enough : {r : LocalRule} → IsRule r → ((w : List ℕ) → IsWord r.states w → 0 < spelled r w) → (b : ℕ) (w : List ℕ) → IsWord r.states w
    → spelled r w ≤ b → node_count r ≤ spelled r w
enough rule every zero w word few = absurd (omega (arith, every w word, few))
enough {r} rule every (suc b) w word few =
    let k = r.states in
    let n = node_count r in
    let (z, hz, lz, least) = over-least k (r.width - 1) (λ z. spelled r (w ++ (z ++ w))) (some_letter rule) in
    let woven = w ++ (z ++ w) in
    let is = All-append (λ a. a < k) w (z ++ w) word (All-append (λ a. a < k) z w hz word) in
    ⊎_elim
    (λ less.
    let mean : n * spelled r woven ≤ spelled r w * spelled r w = omega (arith, least, spelled-woven rule w) in
    let shorter : spelled r woven < spelled r w = ⊎_elim (λ l. l) (λ le.
    let times = mul-le-mul_left n le in
    let back : n ≤ spelled r w = le_of_mul-le-mul_right {k = spelled r w} (omega (arith, times, mean)) (every w word) in
    absurd (omega (arith, back, less))) (cases_lt (spelled r woven) (spelled r w)) in
    let more = enough rule every b woven is (omega (arith, shorter, few)) in
    absurd (omega (arith, more, shorter, less)))
    (λ le. le)
    (cases_lt (spelled r w) n)

-- if each word is spelled by some walk, each is spelled by as many walks as there are nodes
pub spelled-all : {r : LocalRule} → IsRule r → ((w : List ℕ) → IsWord r.states w → 0 < spelled r w) → (w : List ℕ) → IsWord r.states w
    → spelled r w ≡ node_count r
spelled-all {r} rule every w word =
    let k = r.states in
    let n = node_count r in
    let l = length w in
    let all : over k l (λ z. spelled r z) ≡ k ^ l * n =
    over-total k l n (λ z. pull r z (λ q. 1))
    ∙ total-same _ _ n (λ p h. over-pull rule l (λ q. 1) p h ∙ walks-const r l 1 p)
    ∙ total-const (k ^ l * 1) n ∙ grind (arith, mul_comm) in
    over-equal k l n (λ z. spelled r z) (λ z hz lz. enough rule every (spelled r z) z hz (omega arith)) (omega (arith, all)) w word refl
