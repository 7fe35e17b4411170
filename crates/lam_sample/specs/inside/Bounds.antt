-- The ranges of what is drawn.
use Rattle.std.specs.Prelude.{◌≡◌, ◌≤◌, pos, Ok}
use Rattle.lam_direction.specs.Circle.{IsDirection}
use Rattle.lam_direction.specs.Reading.{direction_of}
use Rattle.lam_sample.specs.declared.items.Drawn.{Drawn}
use Rattle.lam_sample.specs.declared.loads.Loads.{Loads}

pub record IsDrawn (d : Drawn) : Type 0 where
  pub least_e1 : 5000 ≤ d.e1
  pub greatest_e1 : d.e1 ≤ 44000
  pub least_e2 : 5000 ≤ d.e2
  pub greatest_e2 : d.e2 ≤ 14000
  pub least_g12 : 2000 ≤ d.g12
  pub greatest_g12 : d.g12 ≤ 4900
  pub least_xt : 100000 ≤ d.xt
  pub greatest_xt : d.xt ≤ 499000
  pub least_xc : 80000 ≤ d.xc
  pub greatest_xc : d.xc ≤ 379000
  pub least_yt : 40000 ≤ d.yt
  pub greatest_yt : d.yt ≤ 79000
  pub least_yc : 100000 ≤ d.yc
  pub greatest_yc : d.yc ≤ 159000
  pub least_s : 40000 ≤ d.s
  pub greatest_s : d.s ≤ 79000
  pub least_t : 500 ≤ d.t
  pub greatest_t : d.t ≤ 2400
  pub direction : direction_of (pos d.direction.p) (pos d.direction.q) (pos d.direction.h)
      ≡ Ok (record { p = pos d.direction.p; q = pos d.direction.q; h = pos d.direction.h })
  pub is_direction : IsDirection (record { p = pos d.direction.p; q = pos d.direction.q; h = pos d.direction.h })
  pub greatest_p : d.direction.p ≤ 1000
  pub greatest_q : d.direction.q ≤ 1000
  pub greatest_h : d.direction.h ≤ 1000
  pub greatest_cost : d.cost ≤ 99

pub record AreLoads (l : Loads) : Type 0 where
  pub pressure : l.pressure ≤ 299
  pub least_diameter : 1000 ≤ l.diameter
  pub greatest_diameter : l.diameter ≤ 1999
  pub nx : l.nx ≤ 49000
  pub nxy : l.nxy ≤ 20000
