use Rattle.std.proofs.Common.{◌≡◌, ◌+◌, ◌∙◌, [], length, sym, ap, subst, arith}
use Rattle.network_judge.specs.Table.{is_receiver}
use Rattle.dead_sets.specs.Cases.{AddsCases}
use Rattle.dead_sets.proofs.Gathered.{CasesSo, cases_start, cases_more, cases_skip}
use Rattle.dead_sets.proofs.cases.cases_of.Goals as goal

pub loop-to-init : goal.loop-to-init
loop-to-init g c =
    let a = c.args in
    let r = cases_start a.kinds.now a.joins.now a.replies.now a.choices.now a.ways a.none.now c.new.result.items c.new-2.result.items c.new.ensures.items
    c.new-2.ensures.items in
    record { within = r.0; added = r.1 }

pub loop-to-preserved : goal.loop-to-preserved
loop-to-preserved g c =
    let a = c.args in
    let l = c.loop-to in
    record {
      within = c.in_ok-cases_to.ensures.within;
      added = cases_more a.kinds.now a.joins.now a.replies.now a.choices.now a.ways a.none.now l.to (l.to + 1) l.cases.at.items
          c.cases_to.new.cases.at.items l.cases.ways_out.items c.cases_to.new.cases.ways_out.items (omega arith) l.invariant.added
          c.in_ok-cases_to.ensures.added;
    }

pub loop-to-preserved-then-not-is_receiver : goal.loop-to-preserved-then-not-is_receiver
loop-to-preserved-then-not-is_receiver g c =
    let a = c.args in
    let l = c.loop-to in
    record {
      within = l.invariant.within;
      added = cases_skip a.kinds.now a.joins.now a.replies.now a.choices.now a.ways a.none.now c.requires.receivers l.to (l.to + 1) l.cases.at.items
          l.cases.ways_out.items (omega arith) (ap is_receiver (sym c.kind_at.ensures) ∙ (sym c.is_receiver.ensures ∙ c.if-not-is_receiver.true)) l.invariant.added;
    }

pub returns-clause-all : goal.returns-clause-all
returns-clause-all g c =
    let a = c.args in
    let l = c.loop-to in
    let end : l.to ≡ length a.kinds.now = omega arith in
    subst (λ z. AddsCases (CasesSo a.kinds.now a.joins.now a.replies.now a.choices.now a.ways a.none.now z) [] [] l.cases.at.items l.cases.ways_out.items)
    end l.invariant.added
