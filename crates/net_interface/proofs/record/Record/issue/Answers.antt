use Rattle.std.proofs.Common.{◌≡◌, List, ◌∷◌, [], ◌++◌, length, Some, None, sym, subst, ◌∙◌, ap, arith, length-append}
use Rattle.packet.specs.declared.kinds.Operation.{Operation}
use Rattle.one_order.specs.Following.{Following, left_of}
use Rattle.one_order.specs.ProcessorRecord.{ProcessorRecord, ready}
use Rattle.net_interface.specs.Inside.{record_of, AreOperationsOf}
use Rattle.net_interface.proofs.Recorded.{left_falls, after_issued, issued_record}
use Rattle.net_interface.proofs.record.Record.issue.Goals as goal

pub push_within-requires : goal.push_within-requires
push_within-requires g c =
    let s = c.self.inside in
    let is = c.self.invariant in
    let fact : ready (record_of s) ≡ Some (c.args.tag.0, c.args.operation) = ap ready c.self.view_is ∙ c.requires in
    let less = left_falls is.lines is.past is.now (record_of s) is.operations c.args.tag.0 c.args.operation fact in
    omega (arith, less, is.issued_room, s.issued.ok.0)

pub invariant_of-self : goal.invariant_of-self
invariant_of-self g c =
    let s = c.self.inside in
    let is = c.self.invariant in
    let fact : ready (record_of s) ≡ Some (c.args.tag.0, c.args.operation) = ap ready c.self.view_is ∙ c.requires in
    let less = left_falls is.lines is.past is.now (record_of s) is.operations c.args.tag.0 c.args.operation fact in
    let left = ap (λ (f : Following). left_of f) c.issue-index.ensures.state in
    let more = ap (λ (os : List Operation). length os) c.push_within.ensures.items ∙ length-append s.issued.items (c.args.operation ∷ []) in
    record {
      lines = is.lines;
      past = is.past ++ record { operation = c.args.operation; issue = is.now; answer = None } ∷ [];
      now = is.now;
      operations = subst (λ (b : ProcessorRecord). AreOperationsOf is.lines
          (is.past ++ record { operation = c.args.operation; issue = is.now; answer = None } ∷ []) is.now b)
          (sym (issued_record (record_of s) c.args.tag.0 c.issue-index.result c.args.operation c.issue-index.new.self c.hold.new.tags
          c.push_within.new.items.items
          c.issue-index.ensures.index c.issue-index.ensures.state c.hold.ensures c.push_within.ensures.items))
          (after_issued is.lines is.past is.now (record_of s) is.operations c.args.tag.0 c.args.operation fact);
      issued_room = omega (arith, is.issued_room, c.push_within.ensures.capacity, less, left, more);
      answers_room = omega (arith, is.answers_room, less, left, more);
    }
