-- The members of a refusal, put into an object from the last key on.
use Rattle.std.proofs.Common.{◌≡◌, ℕ, List, [], ◌∷◌, ◌++◌, codes, Option, Some, None, refl}
use Rattle.serde_json.specs.Data.{Data, string, Members, no_members, put}
use Rattle.ca_json.specs.Values.{members_of, status}
use Rattle.ca_json.specs.Causes.{named, put_named}

-- the members that are put, the last key first
abbrev pub members_put : Data → List ℕ → Option (List ℕ) → Option (List ℕ) → Option (List ℕ) → Option (List ℕ) → Members
members_put at cause because fault key side =
    put (codes "at") at (put_named (codes "because") because (put_named (codes "cause") (Some cause) (put_named (codes "fault") fault (put_named (codes "key") key (put_named (codes "side") side (put_named (codes "status") (Some (codes "refused")) no_members))))))

-- they stand in the order of their keys
pub members_put-ascend : (at : Data) (cause : List ℕ) (because fault key side : Option (List ℕ)) → members_put at cause because fault key side
    ≡ members_of ((codes "at", at) ∷ (named (codes "because") because ++ ((codes "cause", string cause) ∷ (named (codes "fault") fault ++ (named (codes "key") key ++ (named (codes "side") side ++ (status (codes "refused") ∷ [])))))))
members_put-ascend at cause None None None None = refl
members_put-ascend at cause None None (Some y) None = refl
members_put-ascend at cause None (Some x) None None = refl
members_put-ascend at cause None (Some x) (Some y) None = refl
members_put-ascend at cause (Some w) None None None = refl
members_put-ascend at cause (Some w) None (Some y) None = refl
members_put-ascend at cause (Some w) (Some x) None None = refl
members_put-ascend at cause (Some w) (Some x) (Some y) None = refl
members_put-ascend _ _ _ _ _ _ = refl
