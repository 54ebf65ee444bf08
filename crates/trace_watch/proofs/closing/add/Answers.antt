use Rattle.std.proofs.Common.{List, inl, refl, sym, subst}
use Rattle.trace_watch.specs.declared.state.State.{State}
use Rattle.trace_watch.specs.States.{IsAmong, config_of, configs_of}
use Rattle.trace_watch.specs.Chains.{IsIndexed}
use Rattle.trace_watch.proofs.Grown.{one_more_push}
use Rattle.trace_watch.proofs.Chains.{push_indexed}
use Rattle.trace_watch.proofs.closing.add.Goals as goal

pub is_there-requires-clause-indexed : goal.is_there-requires-clause-indexed
is_there-requires-clause-indexed g c =
    subst (λ (ss : List (State _)). IsIndexed c.args.index.now (configs_of ss)) (sym c.deref.ensures.value) c.requires

pub returns-then-is_there-clause-added : goal.returns-then-is_there-clause-added
returns-then-is_there-clause-added g c = inl (
  refl,
  subst (λ (ss : List (State _)). IsAmong (configs_of ss) (config_of c.args.state))
      c.deref.ensures.value (c.if-is_there.ensures.yes refl),
)

pub returns-clause-added : goal.returns-clause-added
returns-clause-added g c = one_more_push c.args.found.now.items c.push.new.found.items c.args.state c.in_ok-push.ensures

pub returns-clause-indexed : goal.returns-clause-indexed
returns-clause-indexed g c =
    push_indexed c.args.index.now c.note.new.self c.args.found.now.items c.push.new.found.items c.deref.result.now
    c.args.state c.deref.ensures.value (c.if-is_there.ensures.no refl) c.in_ok-note.ensures.places
    c.in_ok-note.ensures.long
    (λ found. c.in_ok-note.ensures.chained found (config_of c.args.state) c.place-place.ensures.place) c.in_ok-push.ensures c.requires
