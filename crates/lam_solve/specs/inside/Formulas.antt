-- Formulas over any arithmetic: the same line gives the value of a call and the fraction that it holds.
use Rattle.std.specs.Prelude.{ℤ, pos, ◌*ℤ◌}
use Rattle.lam_fraction.specs.numbers.Arithmetic.{Arithmetic}
use Rattle.lam_number.specs.declared.strength.FaceStrain.{FaceStrain}
use Rattle.lam_job.specs.declared.load.Load.{Load}
use Rattle.lam_solve.specs.declared.six.Six.{Six}
use Rattle.lam_solve.specs.declared.strains.Strains.{Strains}

module _ {A : Type 0} (v : Arithmetic A) where
  -- the forces of a load over h q0, and twice its moments over h² q0
  abbrev pub loads : (q0 h : ℤ) → Load → Six A
  loads q0 h load = record {
    ex = v.ratio load.nx (pos 4 *ℤ (h *ℤ q0));
    ey = v.ratio load.ny (pos 4 *ℤ (h *ℤ q0));
    g = v.ratio load.nxy (pos 4 *ℤ (h *ℤ q0));
    kx = v.ratio (pos 2000 *ℤ load.mx) (h *ℤ (h *ℤ q0));
    ky = v.ratio (pos 2000 *ℤ load.my) (h *ℤ (h *ℤ q0));
    kg = v.ratio (pos 2000 *ℤ load.mxy) (h *ℤ (h *ℤ q0));
  }

  -- a mid-plane strain, and a share of what bending adds at the outer surface
  abbrev pub with_bending : A → A → A → A
  with_bending mid_plane bending z = v.sum mid_plane (v.product bending z)

  -- the strains at a place in a wall of thickness h
  abbrev pub at_face : Strains A → (place h : ℤ) → FaceStrain A
  at_face strains place h = record {
    ex = with_bending strains.ex strains.kx (v.ratio place h);
    ey = with_bending strains.ey strains.ky (v.ratio place h);
    g = with_bending strains.g strains.kg (v.ratio place h);
  }
