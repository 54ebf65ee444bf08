use Rattle.std.proofs.Common.{◌<◌, length, arith}
use Rattle.std.proofs.lemmas.Option.{slice_get-get_or}
use Rattle.trace_guess.proofs.Explaining.{words_more, told_more}
use Rattle.trace_guess.proofs.explained.told_by.Goals as goal

pub loop-x-preserved : goal.loop-x-preserved
loop-x-preserved g c =
    let l : c.loop-x.x < length c.args.order.now = omega arith in
    record {
      told = told_more c.args.words.now c.loop-x.words c.args.order.now c.loop-x.x _ c.loop-x.told.items
          c.push.new.self.items c.in-Some.reply (slice_get-get_or c.args.order.now c.loop-x.x _ l) c.in-Some.ensures.0
          c.loop-x.invariant.words c.loop-x.invariant.told c.in_ok-push.ensures.items;
      words = words_more c.args.words.now c.loop-x.words c.serve.new.words c.args.order.now c.loop-x.x _
          (slice_get-get_or c.args.order.now c.loop-x.x _ l) c.in-Some.ensures.1 c.loop-x.invariant.words;
    }
