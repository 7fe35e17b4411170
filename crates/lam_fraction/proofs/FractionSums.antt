-- The laws of sums over lists at the fractions.
use Rattle.std.proofs.Common.{◌≡◌, pos, List, [], ◌∷◌, ◌++◌, map, reverse, length}
use Rattle.std.specs.List.{AllByRecursion}
use Rattle.lam_fraction.specs.Fraction.{ℚ, whole, ◌+ℚ◌, ◌-ℚ◌, ◌*ℚ◌, opposite, ◌≤ℚ◌, ◌<ℚ◌}
use Rattle.lam_fraction.specs.Sums.{sum_over}
use Rattle.lam_fraction.proofs.FractionRing.{rationals}
use Rattle.lam_fraction.proofs.FractionOrder.{ordered_rationals}
use Rattle.lam_fraction.proofs.Sums as Sums

-- ---- the list
pub sum-append : {A : Type 0} (f : A → ℚ) (xs ys : List A) → sum_over f (xs ++ ys) ≡ sum_over f xs +ℚ sum_over f ys
sum-append f xs ys = Sums.sum-append rationals f xs ys

pub sum-single : {A : Type 0} (f : A → ℚ) (x : A) → sum_over f (x ∷ []) ≡ f x
sum-single f x = Sums.sum-single rationals f x

pub sum-map : {A B : Type 0} (f : B → ℚ) (g : A → B) (xs : List A) → sum_over f (map g xs) ≡ sum_over (λ x. f (g x)) xs
sum-map f g xs = Sums.sum-map rationals f g xs

pub sum-reverse : {A : Type 0} (f : A → ℚ) (xs : List A) → sum_over f (reverse xs) ≡ sum_over f xs
sum-reverse f xs = Sums.sum-reverse rationals f xs

-- ---- what is summed
pub sum-same : {A : Type 0} (f g : A → ℚ) (xs : List A) → AllByRecursion (λ x. f x ≡ g x) xs → sum_over f xs ≡ sum_over g xs
sum-same f g xs h = Sums.sum-same rationals f g xs h

pub sum-zero : {A : Type 0} (xs : List A) → sum_over (λ x. whole (pos 0)) xs ≡ whole (pos 0)
sum-zero xs = Sums.sum-zero rationals xs

pub sum-constant : {A : Type 0} (c : ℚ) (xs : List A) → sum_over (λ x. c) xs ≡ whole (pos (length xs)) *ℚ c
sum-constant c xs = Sums.sum-constant rationals c xs

pub sum-plus : {A : Type 0} (f g : A → ℚ) (xs : List A) → sum_over (λ x. f x +ℚ g x) xs ≡ sum_over f xs +ℚ sum_over g xs
sum-plus f g xs = Sums.sum-plus rationals f g xs

pub sum-minus : {A : Type 0} (f g : A → ℚ) (xs : List A) → sum_over (λ x. f x -ℚ g x) xs ≡ sum_over f xs -ℚ sum_over g xs
unfolding ◌-ℚ◌
sum-minus f g xs = Sums.sum-minus rationals f g xs

pub sum-opposite : {A : Type 0} (f : A → ℚ) (xs : List A) → sum_over (λ x. opposite (f x)) xs ≡ opposite (sum_over f xs)
sum-opposite f xs = Sums.sum-opposite rationals f xs

pub sum-times_left : {A : Type 0} (k : ℚ) (f : A → ℚ) (xs : List A) → sum_over (λ x. k *ℚ f x) xs ≡ k *ℚ sum_over f xs
sum-times_left k f xs = Sums.sum-times_left rationals k f xs

pub sum-times_right : {A : Type 0} (k : ℚ) (f : A → ℚ) (xs : List A) → sum_over (λ x. f x *ℚ k) xs ≡ sum_over f xs *ℚ k
sum-times_right k f xs = Sums.sum-times_right rationals k f xs

-- a sum of sums, in either order
pub sum-exchange : {A B : Type 0} (f : A → B → ℚ) (xs : List A) (ys : List B) → sum_over (λ x. sum_over (λ y. f x y) ys) xs ≡ sum_over (λ y. sum_over (λ x. f x y) xs) ys
sum-exchange f xs ys = Sums.sum-exchange rationals f xs ys

-- ---- signs and order
pub sum_not_negative : {A : Type 0} (f : A → ℚ) (xs : List A) → AllByRecursion (λ x. whole (pos 0) ≤ℚ f x) xs → whole (pos 0) ≤ℚ sum_over f xs
sum_not_negative f xs h = Sums.sum_not_negative ordered_rationals f xs h

pub sum_positive : {A : Type 0} (f : A → ℚ) (x : A) (xs : List A) → whole (pos 0) <ℚ f x → AllByRecursion (λ x. whole (pos 0) ≤ℚ f x) xs → whole (pos 0) <ℚ sum_over f (x ∷ xs)
sum_positive f x xs h k = Sums.sum_positive ordered_rationals f x xs h k

pub sum_monotone : {A : Type 0} (f g : A → ℚ) (xs : List A) → AllByRecursion (λ x. f x ≤ℚ g x) xs → sum_over f xs ≤ℚ sum_over g xs
sum_monotone f g xs h = Sums.sum_monotone ordered_rationals f g xs h

-- a sum of what is not negative is zero only where each part is
pub sum_zero_each : {A : Type 0} (f : A → ℚ) (xs : List A) → AllByRecursion (λ x. whole (pos 0) ≤ℚ f x) xs → sum_over f xs ≡ whole (pos 0) → AllByRecursion (λ x. f x ≡ whole (pos 0)) xs
sum_zero_each f xs h e = Sums.sum_zero_each ordered_rationals f xs h e

-- what holds of all holds of each member of any list
pub of_each : {A : Type 0} (P : A → Type 0) (xs : List A) → ((x : A) → P x) → AllByRecursion P xs
of_each P [] h = tt
of_each P (x ∷ xs) h = (h x, of_each P xs h)
