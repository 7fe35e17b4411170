-- The first sample, tried on numbers that were worked out apart.
use Rattle.std.proofs.Common.{◌≡◌, [], ◌∷◌, ◌/◌, map, refl}
use Rattle.lam_sample.specs.Draws.{step, steps}
use Rattle.lam_sample.specs.SampleJob.{loads_after}
use Rattle.lam_sample.specs.SampleStock.{drawn_after, point}

-- the first eleven draws, before they are taken modulo a number
first_draws : map (λ place. steps place 1 / 65536) (1 ∷ 2 ∷ 3 ∷ 4 ∷ 5 ∷ 6 ∷ 7 ∷ 8 ∷ 9 ∷ 10 ∷ 11 ∷ [])
    ≡ 16838 ∷ 5758 ∷ 10113 ∷ 17515 ∷ 31051 ∷ 5627 ∷ 23010 ∷ 7419 ∷ 16212 ∷ 4086 ∷ 2749 ∷ []
unfolding step
first_draws = refl

-- the first item of the first catalogue
first_item : drawn_after 1 ≡ record {
  e1 = 43000;
  e2 = 13000;
  g12 = 2300;
  xt = 415000;
  xc = 231000;
  yt = 67000;
  yc = 130000;
  s = 59000;
  t = 1700;
  direction = point 160 231 281;
  cost = 59;
}
unfolding step
first_item = refl

-- the loads of the first job
first_loads : loads_after (steps 66 1) ≡ record { pressure = 148; diameter = 1757; nx = 29000; nxy = 7000 }
unfolding step
first_loads = refl
