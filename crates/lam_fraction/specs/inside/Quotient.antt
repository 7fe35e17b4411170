-- Functions of classes, where what they give does not depend on the members that are taken.
use Rattle.std.specs.Prelude.{◌≡◌}
use mathlib.Core.Path.{◌∙◌}
use mathlib.Core.Quot.{Quot, mk, sound, Quot-set, lift, ind}

-- what two classes give, in a set
unfoldable pub of_two : {A B : Type 0} {R : A → A → Type 0} → IsSet B → (f : A → A → B)
    → ((a b c : A) → R a b → f a c ≡ f b c) → ((c a b : A) → R a b → f c a ≡ f c b) → Quot R → Quot R → B
of_two {R = R} set f left right x y =
    lift {r = R} set (λ a. lift {r = R} set (f a) (right a) y)
    (λ a b same. ind {r = R} {β = λ (z : Quot R). lift {r = R} set (f a) (right a) z ≡ lift {r = R} set (f b) (right b) z} (λ z. set _ _) (λ c. left a b c same) y)
    x

-- the class of what a member gives
unfoldable pub on_one : {A : Type 0} {R : A → A → Type 0} → (f : A → A) → ((a b : A) → R a b → R (f a) (f b)) → Quot R → Quot R
on_one {R = R} f same x = lift {r = R} Quot-set (λ a. mk (f a)) (λ a b h. sound (same a b h)) x

-- the class of what two members give, in either order
unfoldable pub on_two : {A : Type 0} {R : A → A → Type 0} → (f : A → A → A)
    → ((a b c : A) → R a b → R (f a c) (f b c)) → ((a b : A) → R (f a b) (f b a)) → Quot R → Quot R → Quot R
on_two {R = R} f same turned = of_two {R = R} Quot-set (λ a b. mk (f a b))
    (λ a b c h. sound (same a b c h)) (λ c a b h. sound (turned c a) ∙ sound (same a b c h) ∙ sound (turned b c))
