-- Where an enclosure lies to a margin round 0.
use Rattle.std.specs.Prelude.{ℤ, neg_ℤ, int_lt, if◌then◌else◌}
use Rattle.lam_number.specs.declared.enclosure.Sign.{Sign}
use Rattle.lam_number.specs.declared.enclosure.Sign.TheVariants.{Below, Above, Mixed}

abbrev pub sign_of : ℤ → ℤ → ℤ → Sign
sign_of low high margin = if int_lt high (neg_ℤ margin) then Below else (if int_lt margin low then Above else Mixed)
