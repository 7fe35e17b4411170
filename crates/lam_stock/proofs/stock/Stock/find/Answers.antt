use Rattle.std.proofs.Common.{◌≡◌, Some, sym, ◌∙◌, rules}
use Rattle.std.specs.Option.{option_map}
use Rattle.lam_stock.specs.Likeness.{place_of}
use Rattle.lam_stock.proofs.Names.{place-named}
use Rattle.lam_stock.proofs.stock.Stock.find.Goals as goal

pub returns-in_err-place-clause-own : goal.returns-in_err-place-clause-own
returns-in_err-place-clause-own c k i at named =
    let same : option_map (λ no. no.0) c.from_residual.result ≡ place_of c.args.name.now c.args.self.now = search rules in
    same ∙ place-named c.self.inside.items.items c.args.self.now k i c.args.name.now c.self.invariant.names c.self.view_is at named

pub returns-clause-own : goal.returns-clause-own
returns-clause-own c k i at named =
    let place : place_of c.args.name.now c.args.self.now ≡ Some c.in_ok-place.place = search rules in
    sym place ∙ place-named c.self.inside.items.items c.args.self.now k i c.args.name.now c.self.invariant.names c.self.view_is at named
