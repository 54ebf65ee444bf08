use Rattle.trace_watch.proofs.Beginning.{follows_begin}
use Rattle.trace_watch.proofs.watch.begin.Goals as goal

pub returns : goal.returns
returns g c =
    follows_begin c.args.opening.now c.in_ok-first_words.field-0 c.new.result
    c.in_ok-first_words.ensures.sized c.in_ok-first_words.ensures.first c.new.ensures.items
