-- The scale of a catalogue.
use Rattle.std.specs.Prelude.{◌≡◌, ℕ, zero, suc, ◌*◌, ◌^◌, nat_le, if◌then◌else◌, List, ℤ, pos, ◌≤ℤ◌, unsigned_abs, fold, All, Any}
use Rattle.std.specs.Int.{int_max, int_min}
use Rattle.lam_stock.specs.declared.item.Item.{Item}
use Rattle.lam_stock.specs.declared.scale.Scale.{Scale}
use Rattle.lam_stock.specs.LimitNumbers.{greatest_modulus}
use Rattle.lam_stock.specs.Moduli.{stiffness_floor, stiffness_cap}

-- the greatest stiffness cap of some items
abbrev pub greatest_cap : List Item → ℤ
greatest_cap items = fold (λ greatest i. int_max greatest (stiffness_cap i.lamina)) (pos 0) items

-- the least stiffness floor of some items, and at most 400,000 MPa, which no item within its limits is above
abbrev pub least_floor : List Item → ℤ
least_floor items = fold (λ least i. int_min least (stiffness_floor i.lamina)) greatest_modulus items

-- the first of p, 2p, 4p, .. that is at least n, of so many of them
unfoldable pub first_power : ℕ → ℕ → ℕ → ℕ
first_power zero p n = p
first_power (suc more) p n = if nat_le n p then p else first_power more (2 * p) n

-- the least power of two that is at least n
abbrev pub power_above : ℕ → ℕ
power_above n = first_power 64 1 n

abbrev pub scale_of : List Item → Scale
scale_of items = record { q0 = pos (power_above (unsigned_abs (greatest_cap items))); floor = least_floor items }

-- the scale of some items: q0 is the least power of two that no stiffness cap is above, floor the least
-- stiffness floor
pub record IsScaleOf (items : List Item) (scale : Scale) : Type 0 where
  pub power : (k : ℕ) × (scale.q0 ≡ pos (2 ^ k))
  pub covers : All (λ i. stiffness_cap i.lamina ≤ℤ scale.q0) items
  pub least_power : (k : ℕ) → All (λ i. stiffness_cap i.lamina ≤ℤ pos (2 ^ k)) items → scale.q0 ≤ℤ pos (2 ^ k)
  pub below : All (λ i. scale.floor ≤ℤ stiffness_floor i.lamina) items
  pub reached : Any (λ i. scale.floor ≡ stiffness_floor i.lamina) items
