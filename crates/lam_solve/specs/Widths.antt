-- How wide the enclosed strains of a wall are, and the strains at its faces.
use Rattle.std.specs.Prelude.{ℕ, ◌+◌, ◌*◌, ◌^◌, ◌≤◌, pos, ◌*ℤ◌, ◌≤ℤ◌}
use Rattle.lam_fraction.specs.numbers.Numbers.{Numbers, width}
use Rattle.lam_stock.specs.declared.scale.Scale.{Scale}
use Rattle.lam_lamina.specs.Held.{IsNarrow}
use Rattle.lam_number.specs.declared.strength.FaceStrain.{FaceStrain}
use Rattle.lam_solve.specs.declared.strains.Strains.{Strains}

-- ---- by a radius, in units

-- the mid-plane strains in x and y reach 5/2 times the radius to each side of a centre, the shear 4 times, the bending strains
-- in x and y 5 times, and the twist 8 times; rounding adds no more than a unit and three slops
pub record AreNarrowBy {A : Type 0} (radius : ℕ) (n : Numbers A) (strains : Strains A) : Type 0 where
  pub ex : width n strains.ex ≤ 5 * radius + 1 + 3 * n.slop
  pub ey : width n strains.ey ≤ 5 * radius + 1 + 3 * n.slop
  pub g : width n strains.g ≤ 8 * radius + 3 * n.slop
  pub kx : width n strains.kx ≤ 10 * radius + 3 * n.slop
  pub ky : width n strains.ky ≤ 10 * radius + 3 * n.slop
  pub kg : width n strains.kg ≤ 16 * radius + 3 * n.slop

-- What a residual is at most in size, in slops: 4096 in the middle; half of 512 times 9, since an entry is at most 512 slops
-- wide and the components of the centre are less than 9 in sum; and half of a slop for the load, and a unit for rounding.
abbrev pub residual_slops : ℕ
residual_slops = 6402

-- a radius is the size of a residual over what the softest layer of a catalogue resists, the floor over q0
abbrev pub AreNarrowByScale : {A : Type 0} → Numbers A → Scale → Strains A → Type 0
AreNarrowByScale n scale strains = (radius : ℕ) → (pos (residual_slops * n.slop) *ℤ scale.q0) ≤ℤ (pos radius *ℤ scale.floor) → AreNarrowBy radius n strains

-- ---- whatever the catalogue

-- the mid-plane strains are at most 2^26 slops wide, and the bending strains at most 2^27
pub record AreNarrow {A : Type 0} (n : Numbers A) (strains : Strains A) : Type 0 where
  pub ex : IsNarrow (2 ^ 26) n strains.ex
  pub ey : IsNarrow (2 ^ 26) n strains.ey
  pub g : IsNarrow (2 ^ 26) n strains.g
  pub kx : IsNarrow (2 ^ 27) n strains.kx
  pub ky : IsNarrow (2 ^ 27) n strains.ky
  pub kg : IsNarrow (2 ^ 27) n strains.kg

-- ---- at a face

-- each is at most 11 slops wider than the mid-plane strain and the bending strain together
pub record WidenedByBending {A : Type 0} (n : Numbers A) (strains : Strains A) (face : FaceStrain A) : Type 0 where
  pub ex : width n face.ex ≤ width n strains.ex + width n strains.kx + 11 * n.slop
  pub ey : width n face.ey ≤ width n strains.ey + width n strains.ky + 11 * n.slop
  pub g : width n face.g ≤ width n strains.g + width n strains.kg + 11 * n.slop

-- each is at most 13·2^24 slops wide
pub record IsNarrowFace {A : Type 0} (n : Numbers A) (face : FaceStrain A) : Type 0 where
  pub ex : IsNarrow (13 * 2 ^ 24) n face.ex
  pub ey : IsNarrow (13 * 2 ^ 24) n face.ey
  pub g : IsNarrow (13 * 2 ^ 24) n face.g
