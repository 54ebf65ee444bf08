use Rattle.std.proofs.Common.{◌<◌, arith, get_or, length, ℕ}
use Rattle.model_text.specs.Noted.{note_of_log}
use Rattle.model_text.specs.Views.{log_so_far}
use Rattle.model_text.proofs.Growing.{mapped_more, same_read}
use Rattle.model_text.proofs.notes.push_notes.Goals as goal

pub loop-i-preserved : goal.loop-i-preserved
loop-i-preserved g c =
    let n : ℕ = get_or c.args.numbers.now c.loop-i.i 0 in
    let low : c.loop-i.i < length c.args.numbers.now = omega arith in
    mapped_more (note_of_log (log_so_far c.args.log.now)) c.args.numbers.now c.loop-i.i n c.args.notes.now.items c.loop-i.notes.items
    c.push.new.self.items c.note_of_log.result low (same_read c.args.numbers.now c.loop-i.i 0 n low) c.note_of_log.ensures
    c.in_ok-push.ensures.items c.loop-i.invariant
