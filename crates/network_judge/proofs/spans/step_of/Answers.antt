use Rattle.std.proofs.Common.{◌≡◌, ◌≢◌, ◌∙◌, ◌<◌, inl, inr, ap, sym, subst, arith}
use Rattle.std.proofs.lemmas.Bool.{cases_order}
use Rattle.network_judge.specs.Table.{Table, table_of, channels_of}
use Rattle.network_judge.specs.Ways.{place}
use Rattle.network_judge.proofs.Walks.{further, one_more}
use Rattle.network_judge.proofs.Still.{on_within, simple}
use Rattle.network_judge.proofs.Parts.{not_behind, fewer}
use Rattle.network_judge.proofs.spans.step_of.Goals as goal

pub loop-step-preserved : goal.loop-step-preserved
loop-step-preserved c =
    let t : Table = table_of c.args.kinds.now c.args.joins.now c.args.choices.now in
    let i = c.args.from in
    let j = c.args.to in
    let l = c.loop-step in
    record {
      here = further t i j l.step l.at c.in-Some.next l.invariant.here c.in-Some.ensures.some;
      others = one_more (λ k. place t j i k ≢ c.args.x) l.step l.invariant.others (λ e. c.if-at-x.false (l.invariant.here ∙ e));
      goes_on = one_more (λ k. place t j i k ≢ j) l.step l.invariant.goes_on (λ e. c.if-at-to.false (l.invariant.here ∙ e));
    }

pub returns-then-at-x-clause-some : goal.returns-then-at-x-clause-some
returns-then-at-x-clause-some c =
    let t : Table = table_of c.args.kinds.now c.args.joins.now c.args.choices.now in
    let l = c.loop-step in
    record {
      here = sym l.invariant.here ∙ c.if-at-x.true;
      on = λ len way. not_behind t c.args.from c.args.to len l.step way l.invariant.goes_on;
    }

pub returns-then-at-to-clause-none : goal.returns-then-at-to-clause-none
returns-then-at-to-clause-none c =
    let t : Table = table_of c.args.kinds.now c.args.joins.now c.args.choices.now in
    let l = c.loop-step in
    let end : place (table_of c.args.kinds.now c.args.joins.now c.args.choices.now) c.args.to c.args.from c.loop-step.step ≡ c.args.to = sym l.invariant.here ∙ c.if-at-to.true in
    λ len k way low. λ here. elim (cases_order k c.loop-step.step) [
      | inl same ↦ c.if-at-x.false (l.invariant.here ∙ (ap (place t c.args.to c.args.from) (sym same) ∙ here))
      | inr apart ↦ elim apart [
        | inl less ↦ l.invariant.others k less here
        | inr more ↦ simple t c.args.from c.args.to len way l.step len (omega arith) (omega arith) (end ∙ sym way.arrives)
      ]
    ]

pub returns-in-None-clause-none : goal.returns-in-None-clause-none
returns-in-None-clause-none c =
    let t : Table = table_of c.args.kinds.now c.args.joins.now c.args.choices.now in
    let l = c.loop-step in
    λ len k way low. λ here. (let before = not_behind t c.args.from c.args.to len l.step way l.invariant.goes_on in
    c.in-None.ensures.none way.under_way.receiver
    (subst (λ z. z < channels_of t) (sym l.invariant.here) (on_within t c.args.from c.args.to len way l.step before)))

pub returns-clause-none : goal.returns-clause-none
returns-clause-none c =
    let t : Table = table_of c.args.kinds.now c.args.joins.now c.args.choices.now in
    let l = c.loop-step in
    let end = c.loop-step-test.false in
    λ len k way low. λ here. (let few = fewer t c.args.from c.args.to len way in l.invariant.others k (omega arith) here)
