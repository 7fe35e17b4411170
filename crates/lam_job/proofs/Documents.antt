-- What the views of a TOML document show: its lists as lists, and the entries of its tables.
use Rattle.std.proofs.Common.{◌≡◌, refl, ap, List, [], ◌∷◌, map}
use Rattle.toml.specs.Data.{Data}
use Rattle.toml.specs.View.{view, items_of, items_view}
use Rattle.toml.specs.declared.value.Value.{Value}
use Rattle.lam_job.specs.JobOf.{list_of}

pub list_of-items : (ds : List Data) → list_of (items_of ds) ≡ ds
list_of-items [] = refl
list_of-items (d ∷ ds) = ap (λ l. d ∷ l) (list_of-items ds)

pub list_of-view : (vs : List Value) → list_of (items_view vs) ≡ map view vs
list_of-view vs = list_of-items (map view vs)
