use Rattle.std.proofs.Common.{rules, ◌≡◌, ◌↔◌, Bool, true, length, sym, ◌∙◌, subst}
use Rattle.std.proofs.lemmas.Iterator.{YieldsList-from_slice}
use Rattle.std.proofs.lemmas.Iterator.Search.{all_from_yields_List}
use Rattle.fabric_rule.specs.AbstractScripts.{AreFinished}
use Rattle.fabric_rule.specs.Core.{run_of, after}
use Rattle.fabric_rule.specs.Runs.{IsAcceptedLoad}
use Rattle.fabric_rule.specs.Machine.{all_finished}
use Rattle.fabric_rule.proofs.Lawful.{finishes}
use Rattle.fabric.specs.Ending.{Ended, slot_finished}
use Rattle.fabric.proofs.EndsShown.{finished_slots}
use Rattle.fabric.proofs.ending.Final.finished.Goals as goal

pub returns-clause-value : goal.returns-clause-value
returns-clause-value g c =
    let all = all_from_yields_List slot_finished _ _ c.all.result c.all.ensures.ran
    (YieldsList-from_slice c.self.inside.slots.items (c.iter.ensures.rest ∙ c.deref.ensures.value)) (λ x b q k. search rules) in
    rw (← c.self.view_is) (all
    ∙ sym (finished_slots c.self.inside.slots.items c.self.inside.behind.me.0.load c.self.inside.behind.me.0.run c.self.invariant.0.accepted
    c.self.invariant.0.tiles))

pub returns-clause-scripts : goal.returns-clause-scripts
returns-clause-scripts g c =
    let value : c.all.result ≡ all_finished (after c.args.self.now.load c.args.self.now.run) = returns-clause-value g c in
    subst (λ (b : Bool). (b ≡ true) ↔ AreFinished (run_of c.args.self.now.load c.args.self.now.run) (length c.args.self.now.run) c.args.self.now.load.scripts)
    (sym value)
    (finishes c.args.self.now.load (subst (λ (e : Ended). IsAcceptedLoad e.load) c.self.view_is c.self.invariant.0.accepted) c.args.self.now.run)
