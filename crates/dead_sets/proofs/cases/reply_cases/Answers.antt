use Rattle.std.proofs.Common.{◌≡◌, ◌+◌, length, arith}
use Rattle.dead_sets.proofs.Gathered.{replies_begin, replies_skip, replies_put, replies_end}
use Rattle.dead_sets.proofs.cases.reply_cases.Goals as goal

pub loop-place-init : goal.loop-place-init
loop-place-init g c = record {
  within = c.requires.within;
  added = replies_begin c.args.count c.args.replies.now c.args.from c.args.cases.now.at.items c.args.cases.now.ways_out.items;
}

pub loop-place-preserved-then-reply-from : goal.loop-place-preserved-then-reply-from
loop-place-preserved-then-reply-from g c =
    let a = c.args in
    let l = c.loop-place in
    record {
      within = l.invariant.within;
      added = replies_skip a.count a.replies.now a.from l.place (l.place + 1) a.cases.now.at.items l.cases.at.items a.cases.now.ways_out.items
          l.cases.ways_out.items (omega arith) (λ same low. absurd (c.if-reply-from.true same)) l.invariant.added;
    }

pub loop-place-preserved-then-reply-count : goal.loop-place-preserved-then-reply-count
loop-place-preserved-then-reply-count g c =
    let a = c.args in
    let l = c.loop-place in
    record {
      within = l.invariant.within;
      added = replies_skip a.count a.replies.now a.from l.place (l.place + 1) a.cases.now.at.items l.cases.at.items a.cases.now.ways_out.items
          l.cases.ways_out.items (omega arith) (λ same low. let high = c.if-reply-count.true in absurd (omega arith)) l.invariant.added;
    }

pub loop-place-preserved : goal.loop-place-preserved
loop-place-preserved g c =
    let a = c.args in
    let l = c.loop-place in
    let size = l.cases.at.ok.0 in
    let case : c.len-case.result ≡ length l.cases.at.items = omega (arith, c.len-case.ensures, size) in
    let r = replies_put a.count a.replies.now a.from l.place (l.place + 1) c.len-case.result a.cases.now.at.items l.cases.at.items _
    a.cases.now.ways_out.items l.cases.ways_out.items _ (omega arith) c.requires.from c.if-reply-from.false c.if-reply-count.false
    l.invariant.within l.invariant.added c.in_ok-push.ensures.items case c.in_ok-push-2.ensures.items in
    record { within = r.0; added = r.1 }

pub returns-clause-added : goal.returns-clause-added
returns-clause-added g c =
    let a = c.args in
    let l = c.loop-place in
    replies_end a.count a.replies.now a.from l.place a.cases.now.at.items l.cases.at.items a.cases.now.ways_out.items l.cases.ways_out.items
    (omega arith) l.invariant.added
