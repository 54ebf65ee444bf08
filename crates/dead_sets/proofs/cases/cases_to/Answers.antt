use Rattle.std.proofs.Common.{◌≡◌, ◌<◌, ◌∙◌, Bool, true, false, not, List, length, sym, ap, subst, arith}
use Rattle.network_judge.specs.Table.{is_receiver}
use Rattle.std.proofs.lemmas.List.{get_or_read}
use Rattle.network_adaptive.specs.Spread.{block_base, choice_step}
use Rattle.network_adaptive.specs.Flags.{AreComes}
use Rattle.dead_sets.specs.Cases.{AddsCases, IsChoiceCase}
use Rattle.dead_sets.proofs.Gathered.{with_replies, without_replies}
use Rattle.dead_sets.proofs.cases.cases_to.Goals as goal

pub returns-then-not-index-clause-added : goal.returns-then-not-index-clause-added
returns-then-not-index-clause-added g c =
    let a = c.args in
    let seen : List Bool = c.in_ok-seen.seen.items in
    let is : c.base_of-base.result ≡ block_base a.kinds.now a.ways a.to = c.base_of-base.ensures.value in
    let comes = subst (λ z. AreComes a.kinds.now a.joins.now (choice_step a.kinds.now a.choices.now z a.ways a.none.now) a.to seen) is c.in_ok-seen.ensures in
    let size = c.in_ok-seen.ensures.size in
    let within = c.requires.low in
    let low : a.to < length seen = omega arith in
    let read = get_or_read seen a.to c.index.result.now low c.index.ensures false in
    without_replies a.kinds.now a.joins.now a.replies.now a.choices.now a.ways a.none.now a.to seen comes
    a.cases.now.at.items c.choice_cases.new.cases.at.items a.cases.now.ways_out.items c.choice_cases.new.cases.ways_out.items
    (λ up last. (let down = c.if-not-index.true in let bad : true ≡ false = sym up ∙ (sym read ∙ down) in cc))
    (subst (λ z. AddsCases (IsChoiceCase a.kinds.now a.choices.now z a.ways seen)
    a.cases.now.at.items a.cases.now.ways_out.items c.choice_cases.new.cases.at.items c.choice_cases.new.cases.ways_out.items) is
    (subst (λ (v : List Bool). AddsCases (IsChoiceCase a.kinds.now a.choices.now c.base_of-base.result a.ways v)
    a.cases.now.at.items a.cases.now.ways_out.items c.choice_cases.new.cases.at.items c.choice_cases.new.cases.ways_out.items)
    c.deref.ensures.value c.in_ok-choice_cases.ensures.added))

pub returns-clause-added : goal.returns-clause-added
returns-clause-added g c =
    let a = c.args in
    let seen : List Bool = c.in_ok-seen.seen.items in
    let is : c.base_of-base.result ≡ block_base a.kinds.now a.ways a.to = c.base_of-base.ensures.value in
    let comes = subst (λ z. AreComes a.kinds.now a.joins.now (choice_step a.kinds.now a.choices.now z a.ways a.none.now) a.to seen) is c.in_ok-seen.ensures in
    let size = c.in_ok-seen.ensures.size in
    let within = c.requires.low in
    let low : a.to < length seen = omega arith in
    let read = get_or_read seen a.to c.index.result.now low c.index.ensures false in
    with_replies a.kinds.now a.joins.now a.replies.now a.choices.now a.ways a.none.now a.to seen comes
    a.cases.now.at.items c.choice_cases.new.cases.at.items c.reply_cases.new.cases.at.items a.cases.now.ways_out.items
    c.choice_cases.new.cases.ways_out.items c.reply_cases.new.cases.ways_out.items (sym read ∙ c.if-not-index.false)
    (ap (λ z. not (is_receiver z)) c.requires.to)
    (subst (λ z. AddsCases (IsChoiceCase a.kinds.now a.choices.now z a.ways seen)
    a.cases.now.at.items a.cases.now.ways_out.items c.choice_cases.new.cases.at.items c.choice_cases.new.cases.ways_out.items) is
    (subst (λ (v : List Bool). AddsCases (IsChoiceCase a.kinds.now a.choices.now c.base_of-base.result a.ways v)
    a.cases.now.at.items a.cases.now.ways_out.items c.choice_cases.new.cases.at.items c.choice_cases.new.cases.ways_out.items)
    c.deref.ensures.value c.in_ok-choice_cases.ensures.added))
    c.in_ok-reply_cases.ensures.added
