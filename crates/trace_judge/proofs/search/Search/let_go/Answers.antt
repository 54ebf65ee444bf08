use Rattle.trace_judge.proofs.Lets.{holds_lets, search_within, search_back}
use Rattle.trace_judge.proofs.search.Search.let_go.Goals as goal

pub kept-requires-clause-within : goal.kept-requires-clause-within
kept-requires-clause-within g c =
    search_within c.args.opening.now c.args.events.now c.args.whole.now c.args.k c.args.self.now c.deref.result.now
    c.deref-2.result.now c.deref.ensures.value c.deref-2.ensures.value c.requires

pub kept-requires-clause-back : goal.kept-requires-clause-back
kept-requires-clause-back g c = search_back c.args.opening.now c.args.events.now c.args.whole.now c.args.k c.args.self.now c.deref-2.result.now c.deref-2.ensures.value c.requires

pub returns : goal.returns
returns g c =
    holds_lets c.args.opening.now c.args.events.now c.args.whole.now c.args.k _ c.args.self.now _ _ c.deref.result.now
    c.deref-2.result.now c.deref.ensures.value c.deref-2.ensures.value c.in_ok-words.ensures c.requires
