use Rattle.std.proofs.Common.{◌≡◌, ◌+◌, ◌∙◌, true, false, length, sym, arith}
use Rattle.dead_sets.proofs.Gathered.{choices_begin, choices_skip, choices_put, choices_end}
use Rattle.dead_sets.proofs.cases.choice_cases.Goals as goal

pub loop-x-init : goal.loop-x-init
loop-x-init g c = record {
  within = c.requires.within;
  added = choices_begin c.args.kinds.now c.args.choices.now c.args.base c.args.ways c.args.seen.now c.args.cases.now.at.items c.args.cases.now.ways_out.items;
}

pub loop-x-preserved-then-not-seen-x : goal.loop-x-preserved-then-not-seen-x
loop-x-preserved-then-not-seen-x g c =
    let a = c.args in
    let l = c.loop-x in
    record {
      within = l.invariant.within;
      added = choices_skip a.kinds.now a.choices.now a.base a.ways a.seen.now l.x (l.x + 1) a.cases.now.at.items l.cases.at.items
          a.cases.now.ways_out.items l.cases.ways_out.items (omega arith)
          (λ up leads. (let down = c.if-not-seen-x.true in let bad : true ≡ false = sym up ∙ down in cc)) l.invariant.added;
    }

pub loop-x-preserved-then-not-goes_on : goal.loop-x-preserved-then-not-goes_on
loop-x-preserved-then-not-goes_on g c =
    let a = c.args in
    let l = c.loop-x in
    record {
      within = l.invariant.within;
      added = choices_skip a.kinds.now a.choices.now a.base a.ways a.seen.now l.x (l.x + 1) a.cases.now.at.items l.cases.at.items
          a.cases.now.ways_out.items l.cases.ways_out.items (omega arith)
          (λ up leads. (let down = sym c.goes_on.ensures ∙ c.if-not-goes_on.true in let bad : true ≡ false = sym leads ∙ down in cc)) l.invariant.added;
    }

pub loop-x-preserved : goal.loop-x-preserved
loop-x-preserved g c =
    let a = c.args in
    let l = c.loop-x in
    let size = l.cases.at.ok.0 in
    let case : c.len-case.result ≡ length l.cases.at.items = omega (arith, c.len-case.ensures, size) in
    let r = choices_put a.kinds.now a.choices.now a.base a.ways a.seen.now l.x (l.x + 1) c.len-case.result a.cases.now.at.items l.cases.at.items _
    a.cases.now.ways_out.items l.cases.ways_out.items _ (omega arith) (omega arith) c.if-not-seen-x.false
    (sym c.goes_on.ensures ∙ c.if-not-goes_on.false) l.invariant.within l.invariant.added c.in_ok-push.ensures.items case c.in_ok-choices_to.ensures in
    record { within = r.0; added = r.1 }

pub returns-clause-added : goal.returns-clause-added
returns-clause-added g c =
    let a = c.args in
    let l = c.loop-x in
    choices_end a.kinds.now a.choices.now a.base a.ways a.seen.now l.x a.cases.now.at.items l.cases.at.items a.cases.now.ways_out.items
    l.cases.ways_out.items (omega arith) l.invariant.added
