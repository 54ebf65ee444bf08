use Rattle.std.proofs.Common.{◌==◌, ap, ◌∙◌}
use Rattle.home_bank.specs.BankTable.{is_nil}
use Rattle.home_bank.proofs.FlitsToPut.{nothing_left}
use Rattle.home_bank.proofs.flits_left.FlitsLeft.is_empty.Goals as goal

pub returns : goal.returns
returns c =
    let a = c.self.inside in
    ap (λ k. a.next == k) c.len.ensures.value ∙ nothing_left a.next a.flits.items c.self.invariant ∙ ap is_nil c.self.view_is
