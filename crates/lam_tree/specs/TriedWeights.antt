-- The weights that a search tries, in this order: along the wall, round it, in shear, and mixed.
use Rattle.std.specs.Prelude.{◌+◌, ◌≤◌, ℤ, pos, negsuc, unsigned_abs, List, [], ◌∷◌}
use Rattle.std.proofs.Common.{lit≤}
use Rattle.lam_support.specs.declared.weight.Weight.{Weight}

abbrev pub weight : (x y s : ℤ) → unsigned_abs x ≤ 100 → unsigned_abs y ≤ 100 → unsigned_abs s ≤ 100 → 1 ≤ unsigned_abs x + unsigned_abs y + unsigned_abs s → Weight
weight x y s x_range y_range s_range some =
    record { x = x; y = y; s = s; x_range = x_range; y_range = y_range; s_range = s_range; some = some }

abbrev pub tried_weights : List Weight
tried_weights =
    weight (pos 1) (pos 0) (pos 0) (lit≤ tt) (lit≤ tt) (lit≤ tt) (lit≤ tt)
    ∷ weight (pos 0) (pos 1) (pos 0) (lit≤ tt) (lit≤ tt) (lit≤ tt) (lit≤ tt)
    ∷ weight (pos 0) (pos 0) (pos 1) (lit≤ tt) (lit≤ tt) (lit≤ tt) (lit≤ tt)
    ∷ weight (negsuc 0) (pos 0) (pos 0) (lit≤ tt) (lit≤ tt) (lit≤ tt) (lit≤ tt)
    ∷ weight (pos 0) (negsuc 0) (pos 0) (lit≤ tt) (lit≤ tt) (lit≤ tt) (lit≤ tt)
    ∷ weight (pos 0) (pos 0) (negsuc 0) (lit≤ tt) (lit≤ tt) (lit≤ tt) (lit≤ tt)
    ∷ weight (pos 1) (pos 1) (pos 0) (lit≤ tt) (lit≤ tt) (lit≤ tt) (lit≤ tt)
    ∷ weight (pos 1) (negsuc 0) (pos 0) (lit≤ tt) (lit≤ tt) (lit≤ tt) (lit≤ tt)
    ∷ weight (negsuc 0) (pos 1) (pos 0) (lit≤ tt) (lit≤ tt) (lit≤ tt) (lit≤ tt)
    ∷ weight (negsuc 0) (negsuc 0) (pos 0) (lit≤ tt) (lit≤ tt) (lit≤ tt) (lit≤ tt)
    ∷ weight (pos 1) (pos 2) (pos 0) (lit≤ tt) (lit≤ tt) (lit≤ tt) (lit≤ tt)
    ∷ weight (pos 2) (pos 1) (pos 0) (lit≤ tt) (lit≤ tt) (lit≤ tt) (lit≤ tt)
    ∷ []
