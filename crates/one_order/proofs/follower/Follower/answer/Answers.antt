use Rattle.std.proofs.Common.{◌∙◌, ap, arith}
use Rattle.one_order.specs.Following.{Following, after_answer}
use Rattle.one_order.proofs.Kept.{answered_last, answered_other}
use Rattle.one_order.proofs.follower.Follower.answer.Goals as goal
use Rattle.one_order.proofs.follower.Follower.answer.Goals.{then-from, else-from}

pub invariant_of-self : goal.invariant_of-self
invariant_of-self g c = elim c.if-from.branch [
  | then-from w ↦ (answered_last c.self.inside c.args.index c.args.reply c.saturating_sub-self-inside.result w.spin_answered-self-inside.result
      c.if-from.self-inside c.as_slice.result.now c.unfenced-self-inside.result c.self.invariant
      (let t = w.if-from.true in let f = c.from.ensures in let k = c.from-2.ensures in omega arith)
      c.saturating_sub-self-inside.ensures w.spin_answered-self-inside.ensures w.self-inside-is c.as_slice.ensures.value
      c.unfenced-self-inside.ensures.within c.unfenced-self-inside.ensures.place).kept
  | else-from w ↦ (answered_other c.self.inside c.args.index c.args.reply c.saturating_sub-self-inside.result
      c.if-from.self-inside c.as_slice.result.now c.unfenced-self-inside.result c.self.invariant
      (λ e. w.if-from.false (let f = c.from.ensures in let k = c.from-2.ensures in omega arith))
      c.saturating_sub-self-inside.ensures w.self-inside-is c.as_slice.ensures.value
      c.unfenced-self-inside.ensures.within c.unfenced-self-inside.ensures.place).kept
]

pub returns : goal.returns
returns g c = elim c.if-from.branch [
  | then-from w ↦ (answered_last c.self.inside c.args.index c.args.reply c.saturating_sub-self-inside.result w.spin_answered-self-inside.result
      c.if-from.self-inside c.as_slice.result.now c.unfenced-self-inside.result c.self.invariant
      (let t = w.if-from.true in let f = c.from.ensures in let k = c.from-2.ensures in omega arith)
      c.saturating_sub-self-inside.ensures w.spin_answered-self-inside.ensures w.self-inside-is c.as_slice.ensures.value
      c.unfenced-self-inside.ensures.within c.unfenced-self-inside.ensures.place).shows
      ∙ ap (λ (f : Following). after_answer f c.args.index c.args.reply) c.self.view_is
  | else-from w ↦ (answered_other c.self.inside c.args.index c.args.reply c.saturating_sub-self-inside.result
      c.if-from.self-inside c.as_slice.result.now c.unfenced-self-inside.result c.self.invariant
      (λ e. w.if-from.false (let f = c.from.ensures in let k = c.from-2.ensures in omega arith))
      c.saturating_sub-self-inside.ensures w.self-inside-is c.as_slice.ensures.value
      c.unfenced-self-inside.ensures.within c.unfenced-self-inside.ensures.place).shows
      ∙ ap (λ (f : Following). after_answer f c.args.index c.args.reply) c.self.view_is
]
