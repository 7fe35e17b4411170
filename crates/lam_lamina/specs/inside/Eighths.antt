-- Eight values as a function of their places.
use Rattle.std.specs.Prelude.{ℕ, nat_eq, if◌then◌else◌}
use Rattle.lam_lamina.specs.declared.eight.Eight.{Eight}

module _ {T : Type 0} where
  -- the value at a place; the last one at each place past it
  abbrev pub at : Eight T → ℕ → T
  at v k =
      if nat_eq k 0 then v.e0 else if nat_eq k 1 then v.e1 else if nat_eq k 2 then v.e2 else if nat_eq k 3 then v.e3
      else if nat_eq k 4 then v.e4 else if nat_eq k 5 then v.e5 else if nat_eq k 6 then v.e6 else v.e7

  -- the first eight values of a function
  abbrev pub eight_of : (ℕ → T) → Eight T
  eight_of f = record { e0 = f 0; e1 = f 1; e2 = f 2; e3 = f 3; e4 = f 4; e5 = f 5; e6 = f 6; e7 = f 7 }
