-- What the tests of the limits tell: the same as the limits as facts.
use Rattle.std.proofs.Common.{Bool, true, false, List, [], ◌∷◌, ℤ, ◌≤ℤ◌, int_le, IsTrue, is_ok, refl, rules}
use Rattle.std.specs.Prelude.{⊤}
use Rattle.std.specs.Bool.{Decides}
use Rattle.std.proofs.lemmas.Bool.Decides.{Decides-and, Decides-like}
use Rattle.lam_stock.specs.Limits.{NumbersInRange, AreWithinSixteen, IsStrength, KeepsCross, KeepsLimits, KeepsPoisson, KeepsRatio, KeepsSlack, HasSlack, ModuliInRange, RestInRange, StrengthsInRange}
use Rattle.lam_stock.specs.Tests as test
use Rattle.lam_stock.specs.declared.fault.StockCause.{StockCause}
use Rattle.lam_stock.specs.declared.item.Lamina.{Lamina}

le-tells : (x y : ℤ) → Decides (int_le x y) (x ≤ℤ y)
le-tells x y = ((λ h. record { le = search rules }), (λ h. search rules))

between-tells : (low high x : ℤ) → Decides (test.is_between low high x) ((low ≤ℤ x) × (x ≤ℤ high))
between-tells low high x = Decides-and _ _ (le-tells low x) (le-tells x high)

pub moduli-tells : (l : Lamina) → Decides (test.moduli_in_range l) (ModuliInRange l)
moduli-tells l =
    Decides-like _
    (λ h. record {
      least_e1 = h.0.0.0.0;
      greatest_e1 = h.0.0.0.1;
      least_e2 = h.0.0.1.0;
      greatest_e2 = h.0.0.1.1;
      least_n12 = h.0.1.0;
      greatest_n12 = h.0.1.1;
      least_g12 = h.1.0;
      greatest_g12 = h.1.1;
    })
    (λ m. ((((m.least_e1, m.greatest_e1), (m.least_e2, m.greatest_e2)), (m.least_n12, m.greatest_n12)), (m.least_g12, m.greatest_g12)))
    (Decides-and _ _ (Decides-and _ _ (Decides-and _ _ (between-tells _ _ l.e1) (between-tells _ _ l.e2)) (between-tells _ _ l.n12)) (between-tells _ _ l.g12))

strength-tells : (x : ℤ) → Decides (test.is_strength x) (IsStrength x)
strength-tells x = Decides-like _ (λ h. record { least = h.0; greatest = h.1 }) (λ s. (s.least, s.greatest)) (between-tells _ _ x)

pub strengths-tells : (l : Lamina) → Decides (test.strengths_in_range l) (StrengthsInRange l)
strengths-tells l =
    Decides-like _
    (λ h. record { xt = h.0.0.0.0; xc = h.0.0.0.1; yt = h.0.0.1; yc = h.0.1; s = h.1 })
    (λ m. ((((m.xt, m.xc), m.yt), m.yc), m.s))
    (Decides-and _ _ (Decides-and _ _ (Decides-and _ _ (Decides-and _ _ (strength-tells l.xt) (strength-tells l.xc)) (strength-tells l.yt)) (strength-tells l.yc)) (strength-tells l.s))

pub rest-tells : (l : Lamina) (cost : ℤ) → Decides (test.rest_in_range l cost) (RestInRange l cost)
rest-tells l cost =
    Decides-like _
    (λ h. record { least_f12 = h.0.0.0; greatest_f12 = h.0.0.1; least_t = h.0.1.0; greatest_t = h.0.1.1; least_cost = h.1.0; greatest_cost = h.1.1 })
    (λ m. (((m.least_f12, m.greatest_f12), (m.least_t, m.greatest_t)), (m.least_cost, m.greatest_cost)))
    (Decides-and _ _ (Decides-and _ _ (between-tells _ _ l.f12) (between-tells _ _ l.t)) (between-tells _ _ cost))

range-tells : (l : Lamina) (cost : ℤ) → Decides (test.in_range l cost) (NumbersInRange l cost)
range-tells l cost =
    Decides-like _ (λ h. record { moduli = h.0.0; strengths = h.0.1; rest = h.1 }) (λ m. ((m.moduli, m.strengths), m.rest))
    (Decides-and _ _ (Decides-and _ _ (moduli-tells l) (strengths-tells l)) (rest-tells l cost))

poisson-tells : (l : Lamina) → Decides (test.keeps_poisson l) (KeepsPoisson l)
poisson-tells l = Decides-like _ (λ h. record { kept = h }) (λ m. m.kept) (le-tells _ _)

near-tells : (a b : ℤ) → Decides (test.is_near a b) (AreWithinSixteen a b)
near-tells a b = Decides-like _ (λ h. record { first = h.0; second = h.1 }) (λ m. (m.first, m.second)) (Decides-and _ _ (le-tells _ _) (le-tells _ _))

ratio-tells : (l : Lamina) → Decides (test.keeps_ratio l) (KeepsRatio l)
ratio-tells l =
    Decides-like _ (λ h. record { along = h.0; across = h.1 }) (λ m. (m.along, m.across))
    (Decides-and _ _ (near-tells l.xt l.xc) (near-tells l.yt l.yc))

pub cross-tells : (l : Lamina) → Decides (test.keeps_cross l) (KeepsCross l)
cross-tells l = Decides-like _ (λ h. record { kept = h }) (λ m. m.kept) (le-tells _ _)

slack-of-tells : (l : Lamina) (x : ℤ) → Decides (test.has_slack l x) (HasSlack l x)
slack-of-tells l x = Decides-like _ (λ h. record { kept = h }) (λ m. m.kept) (le-tells _ _)

slack-tells : (l : Lamina) → Decides (test.keeps_slack l) (KeepsSlack l)
slack-tells l =
    Decides-like _
    (λ h. record { xt = h.0.0.0.0; xc = h.0.0.0.1; yt = h.0.0.1; yc = h.0.1; s = h.1 })
    (λ m. ((((m.xt, m.xc), m.yt), m.yc), m.s))
    (Decides-and _ _ (Decides-and _ _ (Decides-and _ _ (Decides-and _ _ (slack-of-tells l l.xt) (slack-of-tells l l.xc)) (slack-of-tells l l.yt)) (slack-of-tells l l.yc)) (slack-of-tells l l.s))

-- each test of a list holds
abbrev pub AllHold : List (StockCause × Bool) → Type 0
AllHold [] = ⊤
AllHold (test ∷ rest) = IsTrue test.1 × AllHold rest

-- no test of a list is the first that fails exactly where each holds
none-broken : (tests : List (StockCause × Bool)) → Decides (is_ok (test.first_broken tests)) (AllHold tests)
none-broken [] = ((λ h. tt), (λ h. refl))
none-broken ((why, true) ∷ rest) = ((λ h. (refl, (none-broken rest).0 h)), (λ h. (none-broken rest).1 h.1))
none-broken ((why, false) ∷ rest) = ((λ h. cc h), (λ h. cc h.0))

-- a lamina and its cost break none of the limits exactly where they keep each
pub limits-tell : (l : Lamina) (cost : ℤ) → Decides (is_ok (test.limits_of l cost)) (KeepsLimits l cost)
limits-tell l cost =
    Decides-like _
    (λ h. record {
      range = (range-tells l cost).0 h.0;
      poisson = (poisson-tells l).0 h.1.0;
      ratio = (ratio-tells l).0 h.1.1.0;
      cross = (cross-tells l).0 h.1.1.1.0;
      slack = (slack-tells l).0 h.1.1.1.1.0;
    })
    (λ k. ((range-tells l cost).1 k.range, ((poisson-tells l).1 k.poisson, ((ratio-tells l).1 k.ratio, ((cross-tells l).1 k.cross, ((slack-tells l).1 k.slack, tt))))))
    (none-broken (test.limit_tests l cost))
