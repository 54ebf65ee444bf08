use Rattle.std.proofs.Common.{◌≡◌, ◌+◌, ◌∙◌, rules, sym, Some, None, drop}
use Rattle.sentences.specs.Spins.{reply_of_next, spent_from}
use Rattle.sentences.proofs.Behind.{none_behind_reply, one_behind, passes_behind}
use Rattle.sentences.proofs.Spent.{one_operation, passes}
use Rattle.sentences.proofs.spins.end_of_line.Goals as goal

pub returns-in_ok-_reply-in_default-clause-spent : goal.returns-in_ok-_reply-in_default-clause-spent
returns-in_ok-_reply-in_default-clause-spent c = λ rest.
    let next : reply_of_next (drop c.args.first c.args.replies.now) ≡ Some c.in_ok-_reply-in_default._reply = search rules in
    one_operation c.args.place c.args.line rest (drop c.args.first c.args.replies.now) c.in_default.not-Fence c.in_default.not-Spin
    ∙ passes (spent_from (c.args.place + 1) rest) c.args.first c.in_ok-_reply-in_default._reply c.args.replies.now next

pub returns-in_ok-_reply-in_default-clause-behind : goal.returns-in_ok-_reply-in_default-clause-behind
returns-in_ok-_reply-in_default-clause-behind c =
    let next : reply_of_next (drop c.args.first c.args.replies.now) ≡ Some c.in_ok-_reply-in_default._reply = search rules in
    sym (one_behind c.args.line (drop c.args.first c.args.replies.now) c.in_default.not-Fence c.in_default.not-Spin
    ∙ passes_behind c.args.first c.in_ok-_reply-in_default._reply c.args.replies.now next)
