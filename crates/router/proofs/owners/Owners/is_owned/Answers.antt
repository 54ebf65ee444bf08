use Rattle.std.proofs.Common.{◌≡◌, List, Option, ℕ, ap, sym, ◌∙◌}
use Rattle.router.specs.Table.{is_among}
use Rattle.router.proofs.Ownership.{is_owned-told}
use Rattle.router.proofs.owners.Owners.is_owned.Goals as goal

pub returns : goal.returns
returns c =
    let s = c.self.inside in
    let same : s.owned ≡ c.args.self.now = c.self.view_is in
    c.is_some.ensures
    ∙ sym (is_owned-told s.owned s.owner c.self.invariant.inverse c.args.output c.of.result (sym c.of.ensures))
    ∙ ap (λ l. is_among l c.args.output) same
