-- What a test of an option says.
use Rattle.std.proofs.Common.{◌≡◌, refl, sym, ◌∙◌, Bool, true, false, Option, Some, None, is_some, not}
use Rattle.std.specs.Prelude.{IsNone, IsTrue}

pub one_is : {X : Type 0} (o : Option X) (b : Bool) → b ≡ is_some o → b ≡ true → (x : X) × (o ≡ Some x)
one_is (Some x) b is yes_it = (x, refl)
one_is None b is yes_it = absurd (let n : false ≡ true = sym is ∙ yes_it in cc)

pub none_is : {X : Type 0} (o : Option X) (b : Bool) → b ≡ is_some o → b ≡ false → o ≡ None
none_is None b is not_it = refl
none_is (Some x) b is not_it = absurd (let n : true ≡ false = sym is ∙ not_it in cc)

pub is_none_by : {X : Type 0} (o : Option X) (b : Bool) → b ≡ is_some o → b ≡ false → IsNone o
is_none_by o b is not_it = sym is ∙ not_it

pub some_not_none : {X : Type 0} (o : Option X) (b : Bool) → b ≡ is_some o → b ≡ true → IsNone o → ⊥
some_not_none o b is it none = let n : true ≡ false = sym it ∙ is ∙ none in cc

-- a test whether there is none
pub tests_none : {X : Type 0} (o : Option X) (b : Bool) → is_some o ≡ not b → (IsTrue b → IsNone o) × (IsNone o → IsTrue b)
tests_none o true is = ((λ it. is), (λ none. refl))
tests_none o false is =
    ((λ it. absurd (let n : false ≡ true = it in cc)), (λ none. absurd (let n : true ≡ false = sym is ∙ none in cc)))
