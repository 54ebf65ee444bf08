use Rattle.std.proofs.Common.{map, subst, true}
use Rattle.std.specs.Prelude.{MatchOption}
use Rattle.network_adaptive.specs.Choosing.{choosing_of}
use Rattle.dead_sets.specs.FillingFlags.{filling_of, IsDeadBy}
use Rattle.dead_sets.proofs.Told.{fills, greatest}
use Rattle.dead_sets.proofs.deciding.decide.Goals as goal

pub returns-in-Some : goal.returns-in-Some
returns-in-Some g c =
    let a = c.args in
    fills a.kinds.now a.joins.now a.replies.now a.ways a.choices.now a.marks.now c.requires.shaped c.in_ok-numbers.field-0 c.in_ok-numbers.ensures
    c.in-Greatest.flags c.in-Some.items c.in-Greatest.is
    (subst (λ o. MatchOption o (Unit {0}) (λ items. IsDeadBy (choosing_of a.kinds.now a.joins.now a.ways a.choices.now a.marks.now) a.replies.now (map filling_of items.items) true))
    c.in-Some.is c.in_ok-items-in-Greatest.ensures.dead)

pub returns-in-None : goal.returns-in-None
returns-in-None g c =
    let a = c.args in
    greatest a.kinds.now a.joins.now a.replies.now a.ways a.choices.now a.marks.now c.requires.shaped c.in_ok-numbers.field-0 c.in_ok-numbers.ensures
    c.in-Greatest.flags c.in-Greatest.is
