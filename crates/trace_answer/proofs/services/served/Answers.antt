use Rattle.std.proofs.Common.{◌<◌, ap, arith, length, ℕ}
use Rattle.packet.specs.declared.kinds.Reply.{Reply}
use Rattle.trace_answer.specs.Services.{call_at}
use Rattle.trace_answer.proofs.Given.{call_there}
use Rattle.trace_answer.proofs.Growing.{reply_served, still_inside, word_served}
use Rattle.trace_answer.proofs.services.served.Goals as goal

pub index-requires : goal.index-requires
index-requires g c =
    let low : c.loop-i.i < length c.args.order.now = omega arith in
    let inside : (call_at c.args.order.now c.loop-i.i).operation.address < length c.args.words.now.items =
    c.requires c.loop-i.i (call_at c.args.order.now c.loop-i.i) (call_there c.args.order.now c.loop-i.i low) in
    omega (arith, still_inside c.args.words.now.items c.loop-i.words.items c.args.order.now c.loop-i.i _ inside c.loop-i.invariant.words)

pub index_mut-requires : goal.index_mut-requires
index_mut-requires g c =
    let low : c.loop-i.i < length c.args.order.now = omega arith in
    let inside : (call_at c.args.order.now c.loop-i.i).operation.address < length c.args.words.now.items =
    c.requires c.loop-i.i (call_at c.args.order.now c.loop-i.i) (call_there c.args.order.now c.loop-i.i low) in
    omega (arith, still_inside c.args.words.now.items c.loop-i.words.items c.args.order.now c.loop-i.i _ inside c.loop-i.invariant.words)

pub loop-i-preserved : goal.loop-i-preserved
loop-i-preserved g c =
    let low : c.loop-i.i < length c.args.order.now = omega arith in
    let inside : (call_at c.args.order.now c.loop-i.i).operation.address < length c.args.words.now.items =
    c.requires c.loop-i.i (call_at c.args.order.now c.loop-i.i) (call_there c.args.order.now c.loop-i.i low) in
    record {
      told = reply_served c.args.words.now.items c.loop-i.words.items c.args.order.now c.loop-i.told.items c.push.new.self.items c.loop-i.i c.index.result.now
          c.apply-word.result.1 low inside c.loop-i.invariant.words c.index.ensures (ap (λ (p : ℕ × Reply). p.1) c.apply-word.ensures)
          c.loop-i.invariant.told c.in_ok-push.ensures.items;
      words = word_served c.args.words.now.items c.loop-i.words.items c.args.order.now c.loop-i.i c.index.result.now c.apply-word.result.0 low inside
          c.loop-i.invariant.words c.index.ensures (ap (λ (p : ℕ × Reply). p.0) c.apply-word.ensures);
    }
