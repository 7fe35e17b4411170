-- Loops over the members of a list: what is found at a place, and what is left behind it.
use Rattle.std.proofs.Common.{◌≡◌, refl, ◌∙◌, ℕ, ◌+◌, ◌<◌, List, [], ◌∷◌, ◌++◌, length, map, drop, get_or, Bool, true, false, Option, Some, None, append_assoc, drop-cons, add-one}
use Rattle.std.specs.List.{list_all, filter_map}
use Rattle.lam_job.specs.declared.fault.JobFault.{JobFault}
use Rattle.lam_job.specs.JobOf.{first_from}

module _ {A B : Type 0} (f : A → B) where
  left : (xs : List A) (i : ℕ) (d : A) → i < length xs → map f (drop i xs) ≡ f (get_or xs i d) ∷ map f (drop (i + 1) xs)
  left xs i d h = rw (drop-cons xs i d, add-one) refl

  pub all-passed : (p : B → Bool) (xs : List A) (i : ℕ) (d : A) (all : Bool) → i < length xs → p (f (get_or xs i d)) ≡ true
      → list_all p (map f (drop i xs)) ≡ all → list_all p (map f (drop (i + 1) xs)) ≡ all
  all-passed p xs i d all h e inv = rw (left xs i d h, e) at inv

  pub all-failed : (p : B → Bool) (xs : List A) (i : ℕ) (d : A) (all : Bool) → i < length xs → p (f (get_or xs i d)) ≡ false
      → list_all p (map f (drop i xs)) ≡ all → false ≡ all
  all-failed p xs i d all h e inv = rw (left xs i d h, e) at inv

  pub given-passed : {C : Type 0} (g : B → Option C) (xs : List A) (i : ℕ) (d : A) (y : C) (done all : List C) → i < length xs
      → g (f (get_or xs i d)) ≡ Some y → done ++ filter_map g (map f (drop i xs)) ≡ all
      → (done ++ y ∷ []) ++ filter_map g (map f (drop (i + 1) xs)) ≡ all
  given-passed g xs i d y done all h some inv = append_assoc done (y ∷ []) _ ∙ (rw (left xs i d h, some) at inv)

  pub from-passed : (fault : ℕ → B → Option JobFault) (xs : List A) (i n : ℕ) (d : A) (all : Option JobFault) → i < length xs → fault n (f (get_or xs i d)) ≡ None
      → first_from fault n (map f (drop i xs)) ≡ all → first_from fault (n + 1) (map f (drop (i + 1) xs)) ≡ all
  from-passed fault xs i n d all h e inv = rw (left xs i d h, e) at inv
