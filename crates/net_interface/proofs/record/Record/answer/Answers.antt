use Rattle.std.proofs.Common.{◌+◌, ◌<◌, ◌∷◌, [], length, sym, subst, ◌∙◌, ap, arith, length-append, slice_set}
use Rattle.std.proofs.lemmas.List.{get_or_read}
use Rattle.torus.specs.declared.step.OpId.{OpId}
use Rattle.packet.specs.declared.kinds.Op.TheVariants.{Load as Loads}
use Rattle.one_order.specs.ProcessorRecord.{ProcessorRecord, answered_by, answer_of}
use Rattle.one_order.specs.Following.{Following, left_of}
use Rattle.one_order.proofs.Histories.{with_answer}
use Rattle.one_order.proofs.Shown.{left_after_answer}
use Rattle.net_interface.specs.Inside.{record_of, AreOperationsOf}
use Rattle.net_interface.proofs.Recorded.{answers_within, issued_there, after_answered, answered_record}
use Rattle.net_interface.proofs.record.Record.answer.Goals as goal

pub push_within-requires : goal.push_within-requires
push_within-requires g c =
    let s = c.self.inside in
    let is = c.self.invariant in
    let id : OpId = record { 0 = c.give_back-index.result } in
    let within = answers_within is.lines _ (is.now + 1) (answered_by (record_of s) c.args.response)
    (after_answered is.lines is.past is.now (record_of s) is.operations c.args.response id c.give_back-index.ensures.holder) in
    let n = length-append s.answers.items (answer_of (record_of s) c.args.response ∷ []) in
    omega (arith, within, n, is.answers_room, s.answers.ok.0)

pub invariant_of-self : goal.invariant_of-self
invariant_of-self g c =
    let s = c.self.inside in
    let is = c.self.invariant in
    let id : OpId = record { 0 = c.give_back-index.result } in
    let low : c.give_back-index.result < length s.issued.items =
    issued_there is.lines is.past is.now (record_of s) is.operations c.args.response id c.give_back-index.ensures.holder in
    let read = get_or_read s.issued.items _ _ low c.index.ensures (record { address = 0; op = Loads }) in
    let w = is.operations.held c.args.response.tag.0 id c.give_back-index.ensures.holder in
    let less = left_after_answer s.follower c.give_back-index.result c.args.response.reply in
    let left = ap (λ (f : Following). left_of f) c.answer.ensures in
    record {
      lines = is.lines;
      past = slice_set is.past id.0 (with_answer w.0 is.now c.args.response.reply);
      now = is.now + 1;
      operations = subst (λ (b : ProcessorRecord). AreOperationsOf is.lines (slice_set is.past id.0 (with_answer w.0 is.now c.args.response.reply)) (is.now + 1)
          b)
          (sym (answered_record (record_of s) c.args.response c.give_back-index.result c.index.result.now c.answer.new.self c.give_back-index.new.tags
          c.push_within.new.items.items
          c.give_back-index.ensures.holder read c.answer.ensures c.give_back-index.ensures.given c.push_within.ensures.items))
          (after_answered is.lines is.past is.now (record_of s) is.operations c.args.response id c.give_back-index.ensures.holder);
      issued_room = omega (arith, is.issued_room, less, left);
      answers_room = omega (arith, is.answers_room, c.push_within.ensures.capacity, less, left);
    }

pub returns : goal.returns
returns g c =
    let s = c.self.inside in
    let is = c.self.invariant in
    let id : OpId = record { 0 = c.give_back-index.result } in
    let low : c.give_back-index.result < length s.issued.items =
    issued_there is.lines is.past is.now (record_of s) is.operations c.args.response id c.give_back-index.ensures.holder in
    let read = get_or_read s.issued.items _ _ low c.index.ensures (record { address = 0; op = Loads }) in
    answered_record (record_of s) c.args.response c.give_back-index.result c.index.result.now c.answer.new.self c.give_back-index.new.tags
    c.push_within.new.items.items
    c.give_back-index.ensures.holder read c.answer.ensures c.give_back-index.ensures.given c.push_within.ensures.items
    ∙ ap (λ (b : ProcessorRecord). answered_by b c.args.response) c.self.view_is
