use Rattle.std.proofs.Common.{◌≡◌, ◌↔◌, ℕ, List, [], IsTrue, refl, sym, ap, subst, arith}
use Rattle.tile.specs.Tile.{TileState}
use Rattle.machine_core.proofs.Fields.{vec_at}
use Rattle.machine_core.proofs.LatchAges.{tile_told, none_told}
use Rattle.machine_core.proofs.machine.Machine.is_between_requests.Goals as goal

pub returns-then-at-len : goal.returns-then-at-len
returns-then-at-len g c =
    let there = vec_at c.self.inside.tiles c.args.processor c.index.result.now (omega arith) c.index.ensures in
    let told = tile_told c.self.inside c.args.self.now c.self.view_is c.args.processor c.index.result.now there in
    subst (λ (xs : List ℕ). IsTrue c.is_between_requests.result ↔ (xs ≡ [])) (ap (λ (u : TileState). u.processor.to_put) (sym told)) c.is_between_requests.ensures

pub returns-else-at-len : goal.returns-else-at-len
returns-else-at-len g c = (
  λ t. ap (λ (u : TileState). u.processor.to_put) (none_told c.self.inside c.args.self.now c.self.view_is c.args.processor (omega arith)),
  λ h. refl,
)
