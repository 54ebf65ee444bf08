use Rattle.std.proofs.Common.{◌<◌, arith, length}
use Rattle.std.proofs.lemmas.List.{get_or_read, length-map}
use Rattle.script_lines.specs.Views.{lists_of}
use Rattle.script.proofs.Counted.{counted_push}
use Rattle.script.proofs.progress.Progress.add.Goals as goal

pub returns-clause-counted : goal.returns-clause-counted
returns-clause-counted g c =
    let low : c.args.p < length (lists_of c.args.self.now.lists.items) =
    omega (arith, length-map c.args.self.now.lists.items (λ list. list.lines.items), c.requires.tile) in
    let there = get_or_read c.args.self.now.counts.items _ _ (omega (arith, c.requires.counted.room)) c.index-count.ensures 0 in
    rw c.in_ok-push_line.ensures.value
    (counted_push c.args.self.now.words (lists_of c.args.self.now.lists.items) c.args.self.now.counts.items c.args.self.now.total c.args.p c.args.line
    c.index-count.result.now c.operations-operations.result c.requires.counted low c.requires.line
    there c.operations-operations.ensures (λ e. omega (arith, there, c.in_default.ensures.later e))
    (omega (arith, there, c.operations-operations.ensures, c.in_default.ensures.few)) (omega (arith, c.operations-operations.ensures, c.in_default.ensures.all)))
