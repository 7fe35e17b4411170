-- Where something is so of no element, it is so of none among them, and the other way round.
use Rattle.std.proofs.Common.{subst, List, get_or, All, Any}
use Rattle.std.proofs.lemmas.List.{get_or_default}

pub none_among : {X : Type 0} (P : X → Type 0) (xs : List X) → All (λ x. ¬ P x) xs → ¬ Any P xs
none_among {X} P xs all some = subst (λ (x : X). ¬ P x) some.3 (all some.0 some.1 some.2) some.4

pub all_not : {X : Type 0} (P : X → Type 0) (xs : List X) → ¬ Any P xs → All (λ x. ¬ P x) xs
all_not P xs none k d within is = none (k, get_or xs k d, within, get_or_default xs k (get_or xs k d) d within, is)
