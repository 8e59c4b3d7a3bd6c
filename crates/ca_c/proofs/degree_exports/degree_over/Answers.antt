use Rattle.std.proofs.Common.{◌≡◌, w8, FitsSigned, to_z, of_z, refl, ap, subst, length, rules}
use Rattle.word_image.proofs.Common.{false≢true}
use Rattle.std.proofs.lemmas.Int.{to_z-of_z}
use Rattle.c_structs.specs.Reports.{rule_with}
use Rattle.c_structs.specs.Degrees.{IsDegreeFound}
use Rattle.c_structs.proofs.laws.Degrees.{IsDegreeCall-whole, IsDegreeCall-short}
use Rattle.ca_c.proofs.degree_exports.degree_over.Goals as goal
use Rattle.ca_c.proofs.degree_exports.degree_over.Goals.{After-find-made}

-- the numbers that the room finds
made : (c : After-find-made) → IsDegreeFound (rule_with c.args.states c.args.width c.args.offset c.args.table.now) c.find-made.result c.find-made.new.self
made c =
    let fits : FitsSigned w8 c.args.offset = search rules in
    let offset : to_z w8 (of_z w8 c.args.offset) ≡ c.args.offset = to_z-of_z w8 c.args.offset fits in
    subst (λ o. IsDegreeFound (rule_with c.args.states c.args.width o c.args.table.now) c.find-made.result c.find-made.new.self) offset c.find-made.ensures

pub returns-then-put-clause-found : goal.returns-then-put-clause-found
returns-then-put-clause-found c =
    let same = c.letters-found.ensures in
    let put = c.if-put.ensures in
    IsDegreeCall-whole (made (goal.at.returns-then-put-clause-found c).After-find-made) (ap length same) same (put.room.0 refl) (put.whole refl)

pub returns-else-put-clause-found : goal.returns-else-put-clause-found
returns-else-put-clause-found c =
    let same = c.letters-found.ensures in
    let put = c.if-put.ensures in
    IsDegreeCall-short (made (goal.at.returns-else-put-clause-found c).After-find-made) (ap length same) same (λ fits. false≢true (put.room.1 fits)) (put.kept refl)
