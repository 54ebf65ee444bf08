use Rattle.std.proofs.Common.{rules, ◌≡◌, ◌↔◌, Bool, true, length, sym, ◌∙◌, ap, subst}
use Rattle.std.proofs.lemmas.Iterator.{YieldsList-from_slice}
use Rattle.std.proofs.lemmas.Iterator.Search.{all_from_yields_List}
use Rattle.one_order.specs.Following.{is_finished}
use Rattle.machine_parts.specs.AbstractScripts.{AreFinished}
use Rattle.machine_parts.specs.Placed.{PlacedTile}
use Rattle.machine_parts.specs.Core.{run_of}
use Rattle.machine_parts.specs.ProgressMoves.{IsLive}
use Rattle.machine_parts.specs.Machine.{Core, built_to, all_finished}
use Rattle.machine_parts.proofs.Machines.{finished_of_machine}
use Rattle.machine_parts.proofs.Moves.{lives}
use Rattle.machine_core.specs.Inside.{core_of}
use Rattle.machine_core.proofs.Views.{finished_tiles}
use Rattle.machine_core.proofs.machine.Machine.finished.Goals as goal

pub returns-clause-value : goal.returns-clause-value
returns-clause-value g c =
    let all = all_from_yields_List (λ (v : PlacedTile). is_finished v.place.processor.state.operations.following) _ _ c.all.result c.all.ensures.ran
    (YieldsList-from_slice c.self.inside.tiles.items (c.iter.ensures.rest ∙ c.deref.ensures.value)) (λ x b q k. search rules) in
    rw (← c.self.view_is) (all ∙ sym (finished_tiles c.self.inside))

pub returns-clause-live : goal.returns-clause-live
returns-clause-live g c = λ busy.
    let is = c.self.invariant in
    let value : c.all.result ≡ all_finished c.args.self.now.state = returns-clause-value g c in
    subst (λ (x : Core). IsLive (built_to x) x.state) c.self.view_is
    (lives is.load (core_of c.self.inside) is.steps is.after (ap (λ (x : Core). all_finished x.state) c.self.view_is ∙ (sym value ∙ busy)))

pub returns-clause-scripts : goal.returns-clause-scripts
returns-clause-scripts g c = λ l steps h.
    let value : c.all.result ≡ all_finished c.args.self.now.state = returns-clause-value g c in
    subst (λ (b : Bool). (b ≡ true) ↔ AreFinished (run_of l steps) (length steps) l.scripts) (sym value) (finished_of_machine l c.args.self.now steps h)
