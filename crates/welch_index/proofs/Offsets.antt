-- The degree, the fewest last nodes and first nodes, and the multipliers don't depend on the offset.
use Rattle.std.proofs.Common.{ℕ, ◌↔◌, List, ℤ}
use Rattle.word_image.proofs.Common.{LocalRule, IsPreimage, IsLastNode, IsLastSet, IsSetOf-same, mirrored}
use Rattle.welch_index.specs.Fewest.{IsFirstNode, IsFirstSet, IsFewestLast, IsFewestFirst}
use Rattle.welch_index.specs.Degrees.{HasCutNodes, IsDegree, IsWalkEnd, HasWalkEnds, IsMultiplier, AreDegreeAndMultipliers}

-- the rule with another offset
abbrev pub moved : LocalRule → ℤ → LocalRule
moved r o = record { states = r.states; width = r.width; offset = o; table = r.table }

IsPreimage-moved : {r : LocalRule} {w x : List ℕ} (o : ℤ) → IsPreimage r w x → IsPreimage (moved r o) w x
IsPreimage-moved o p = record { word = p.word; long = p.long; maps = p.maps }

IsPreimage-back : (r : LocalRule) {w x : List ℕ} (o : ℤ) → IsPreimage (moved r o) w x → IsPreimage r w x
IsPreimage-back r o p = record { word = p.word; long = p.long; maps = p.maps }

IsLastNode-moved : (r : LocalRule) (w : List ℕ) (u : ℕ) (o : ℤ) → IsLastNode r w u ↔ IsLastNode (moved r o) w u
IsLastNode-moved r w u o = (
  λ h. record { x = h.x; preimage = IsPreimage-moved o h.preimage; last = h.last },
  λ h. record { x = h.x; preimage = IsPreimage-back r o h.preimage; last = h.last },
)

IsFirstNode-moved : (r : LocalRule) (w : List ℕ) (u : ℕ) (o : ℤ) → IsFirstNode r w u ↔ IsFirstNode (moved r o) w u
IsFirstNode-moved r w u o = (
  λ h. record { x = h.x; preimage = IsPreimage-moved o h.preimage; first = h.first },
  λ h. record { x = h.x; preimage = IsPreimage-back r o h.preimage; first = h.first },
)

HasCutNodes-moved : {r : LocalRule} {u v : List ℕ} {n : ℕ} (o : ℤ) → HasCutNodes r u v n → HasCutNodes (moved r o) u v n
HasCutNodes-moved {r} {u} {v} o h =
    record {
      nodes = h.nodes;
      before = h.before;
      after = h.after;
      both = IsSetOf-same (λ p l. ((λ b. ((IsLastNode-moved r u p o).0 b.0, (IsFirstNode-moved r v p o).0 b.1)), (λ b. ((IsLastNode-moved r u p o).1 b.0, (IsFirstNode-moved r v p o).1 b.1)))) h.both;
      count = h.count;
    }

HasCutNodes-back : (r : LocalRule) {u v : List ℕ} {n : ℕ} (o : ℤ) → HasCutNodes (moved r o) u v n → HasCutNodes r u v n
HasCutNodes-back r {u} {v} o h =
    record {
      nodes = h.nodes;
      before = h.before;
      after = h.after;
      both = IsSetOf-same (λ p l. ((λ b. ((IsLastNode-moved r u p o).1 b.0, (IsFirstNode-moved r v p o).1 b.1)), (λ b. ((IsLastNode-moved r u p o).0 b.0, (IsFirstNode-moved r v p o).0 b.1)))) h.both;
      count = h.count;
    }

-- a rule and the same rule with another offset have one degree
pub IsDegree-moved : (r : LocalRule) (d : ℕ) (o : ℤ) → IsDegree r d ↔ IsDegree (moved r o) d
IsDegree-moved r d o = (
  λ h. record { before = h.before; after = h.after; attained = HasCutNodes-moved o h.attained; least = λ u v n has. h.least u v n (HasCutNodes-back r o has) },
  λ h. record { before = h.before; after = h.after; attained = HasCutNodes-back r o h.attained; least = λ u v n has. h.least u v n (HasCutNodes-moved o has) },
)

IsLastSet-moved : {r : LocalRule} {w : List ℕ} {set : ℕ} (o : ℤ) → IsLastSet r w set → IsLastSet (moved r o) w set
IsLastSet-moved {r} {w} o h = record { word = h.word; last = IsSetOf-same (λ u l. IsLastNode-moved r w u o) h.last }

IsLastSet-back : (r : LocalRule) {w : List ℕ} {set : ℕ} (o : ℤ) → IsLastSet (moved r o) w set → IsLastSet r w set
IsLastSet-back r {w} o h = record { word = h.word; last = IsSetOf-same (λ u l. ((IsLastNode-moved r w u o).1, (IsLastNode-moved r w u o).0)) h.last }

IsFirstSet-moved : {r : LocalRule} {w : List ℕ} {set : ℕ} (o : ℤ) → IsFirstSet r w set → IsFirstSet (moved r o) w set
IsFirstSet-moved {r} {w} o h = record { word = h.word; first = IsSetOf-same (λ u l. IsFirstNode-moved r w u o) h.first }

IsFirstSet-back : (r : LocalRule) {w : List ℕ} {set : ℕ} (o : ℤ) → IsFirstSet (moved r o) w set → IsFirstSet r w set
IsFirstSet-back r {w} o h = record { word = h.word; first = IsSetOf-same (λ u l. ((IsFirstNode-moved r w u o).1, (IsFirstNode-moved r w u o).0)) h.first }

-- the fewest last nodes are the same
pub IsFewestLast-moved : (r : LocalRule) (n nodes : ℕ) (w : List ℕ) (o : ℤ) → IsFewestLast r n nodes w ↔ IsFewestLast (moved r o) n nodes w
IsFewestLast-moved r n nodes w o = (
  λ h. record {
    last = IsLastSet-moved o h.last;
    count = h.count;
    fewest = λ v c has. h.fewest v c (record { nodes = has.nodes; last = IsLastSet-back r o has.last; count = has.count });
    least = λ v has. h.least v (record { nodes = has.nodes; last = IsLastSet-back r o has.last; count = has.count });
  },
  λ h. record {
    last = IsLastSet-back r o h.last;
    count = h.count;
    fewest = λ v c has. h.fewest v c (record { nodes = has.nodes; last = IsLastSet-moved o has.last; count = has.count });
    least = λ v has. h.least v (record { nodes = has.nodes; last = IsLastSet-moved o has.last; count = has.count });
  },
)

-- the fewest first nodes are the same
pub IsFewestFirst-moved : (r : LocalRule) (n nodes : ℕ) (w : List ℕ) (o : ℤ) → IsFewestFirst r n nodes w ↔ IsFewestFirst (moved r o) n nodes w
IsFewestFirst-moved r n nodes w o = (
  λ h. record {
    first = IsFirstSet-moved o h.first;
    count = h.count;
    fewest = λ v c has. h.fewest v c (record { nodes = has.nodes; first = IsFirstSet-back r o has.first; count = has.count });
    least = λ v has. h.least v (record { nodes = has.nodes; first = IsFirstSet-back r o has.first; count = has.count });
  },
  λ h. record {
    first = IsFirstSet-back r o h.first;
    count = h.count;
    fewest = λ v c has. h.fewest v c (record { nodes = has.nodes; first = IsFirstSet-moved o has.first; count = has.count });
    least = λ v has. h.least v (record { nodes = has.nodes; first = IsFirstSet-moved o has.first; count = has.count });
  },
)

IsWalkEnd-moved : (r : LocalRule) (u : ℕ) (w : List ℕ) (v : ℕ) (o : ℤ) → IsWalkEnd r u w v ↔ IsWalkEnd (moved r o) u w v
IsWalkEnd-moved r u w v o = (
  λ h. record { x = h.x; preimage = IsPreimage-moved o h.preimage; first = h.first; last = h.last },
  λ h. record { x = h.x; preimage = IsPreimage-back r o h.preimage; first = h.first; last = h.last },
)

HasWalkEnds-moved : (r : LocalRule) (u : ℕ) (w : List ℕ) (n : ℕ) (o : ℤ) → HasWalkEnds r u w n ↔ HasWalkEnds (moved r o) u w n
HasWalkEnds-moved r u w n o = (
  λ h. record { nodes = h.nodes; word = h.word; from = h.from; ends = IsSetOf-same (λ v l. IsWalkEnd-moved r u w v o) h.ends; count = h.count },
  λ h. record { nodes = h.nodes; word = h.word; from = h.from; ends = IsSetOf-same (λ v l. ((IsWalkEnd-moved r u w v o).1, (IsWalkEnd-moved r u w v o).0)) h.ends; count = h.count },
)

IsMultiplier-moved : (r : LocalRule) (n : ℕ) (o : ℤ) → IsMultiplier r n ↔ IsMultiplier (moved r o) n
IsMultiplier-moved r n o = (
  λ h. record { from = h.from; word = h.word; attained = (HasWalkEnds-moved r h.from h.word n o).0 h.attained; most = λ u w c has. h.most u w c ((HasWalkEnds-moved r u w c o).1 has) },
  λ h. record { from = h.from; word = h.word; attained = (HasWalkEnds-moved r h.from h.word n o).1 h.attained; most = λ u w c has. h.most u w c ((HasWalkEnds-moved r u w c o).0 has) },
)

-- the degree and the multipliers are the same
pub AreDegreeAndMultipliers-moved : (r : LocalRule) (d n l : ℕ) (o : ℤ) → AreDegreeAndMultipliers r d n l ↔ AreDegreeAndMultipliers (moved r o) d n l
AreDegreeAndMultipliers-moved r d n l o =
    let turned = IsMultiplier-moved (mirrored r) l (mirrored (moved r o)).offset in (
      λ h. record { degree = (IsDegree-moved r d o).0 h.degree; right = (IsMultiplier-moved r n o).0 h.right; left = turned.0 h.left },
      λ h. record { degree = (IsDegree-moved r d o).1 h.degree; right = (IsMultiplier-moved r n o).1 h.right; left = turned.1 h.left },
    )
