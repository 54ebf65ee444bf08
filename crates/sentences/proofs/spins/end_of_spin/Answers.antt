use Rattle.std.proofs.Common.{◌≡◌, ◌∙◌, ◌==◌, sym, arith, rules, Some, None, drop, true, false}
use Rattle.sentences.specs.Spins.{reply_of_next}
use Rattle.sentences.proofs.Behind.{stops_behind, finds_behind, misses_behind}
use Rattle.sentences.proofs.Spent.{stops, finds, misses}
use Rattle.sentences.proofs.spins.end_of_spin.Goals as goal

pub returns-in_err-reply-clause-spent : goal.returns-in_err-reply-clause-spent
returns-in_err-reply-clause-spent c = λ over.
    let none : c.from_residual.result ≡ None = search rules in
    let next : reply_of_next (drop c.loop-left.next c.args.replies.now) ≡ None = search rules in
    rw none
    (sym (c.loop-left.invariant.spent over) ∙ stops c.args.spin over c.loop-left.left (drop c.loop-left.next c.args.replies.now) (omega arith) next)

pub returns-in_err-reply-clause-behind : goal.returns-in_err-reply-clause-behind
returns-in_err-reply-clause-behind c =
    let none : c.from_residual.result ≡ None = search rules in
    let next : reply_of_next (drop c.loop-left.next c.args.replies.now) ≡ None = search rules in
    rw none
    (sym (stops_behind c.args.spin.sought c.loop-left.left (drop c.loop-left.next c.args.replies.now) (omega arith) next) ∙ c.loop-left.invariant.behind)

pub returns-then-reply-spin-clause-spent : goal.returns-then-reply-spin-clause-spent
returns-then-reply-spin-clause-spent c = λ over.
    let next : reply_of_next (drop c.loop-left.next c.args.replies.now) ≡ Some c.in_ok-reply.reply = search rules in
    let same : (c.in_ok-reply.reply == c.args.spin.sought) ≡ true = search rules in
    sym (c.loop-left.invariant.spent over)
    ∙ finds c.args.spin over c.loop-left.left c.loop-left.next c.in_ok-reply.reply c.args.replies.now (omega arith) next same

pub returns-then-reply-spin-clause-behind : goal.returns-then-reply-spin-clause-behind
returns-then-reply-spin-clause-behind c =
    let next : reply_of_next (drop c.loop-left.next c.args.replies.now) ≡ Some c.in_ok-reply.reply = search rules in
    let same : (c.in_ok-reply.reply == c.args.spin.sought) ≡ true = search rules in
    sym (finds_behind c.args.spin.sought c.loop-left.left c.loop-left.next c.in_ok-reply.reply c.args.replies.now (omega arith) next same)
    ∙ c.loop-left.invariant.behind

pub loop-left-preserved : goal.loop-left-preserved
loop-left-preserved c =
    let next : reply_of_next (drop c.loop-left.next c.args.replies.now) ≡ Some c.in_ok-reply.reply = search rules in
    let other : (c.in_ok-reply.reply == c.args.spin.sought) ≡ false = search rules in
    record {
      spent = λ over.
          sym (misses c.args.spin over c.loop-left.left c.loop-left.next c.in_ok-reply.reply c.args.replies.now (omega arith) next other)
          ∙ c.loop-left.invariant.spent over;
      behind = sym (misses_behind c.args.spin.sought c.loop-left.left c.loop-left.next c.in_ok-reply.reply c.args.replies.now (omega arith) next other)
          ∙ c.loop-left.invariant.behind;
    }
