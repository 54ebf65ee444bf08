use Rattle.std.proofs.Common.{◌≤◌, ◌<◌, ◌+◌, length, refl, sym, subst, arith}
use Rattle.script_lines.specs.Lines.{operations_of}
use Rattle.one_order.specs.Following.{left_of}
use Rattle.one_order.specs.ProcessorRecord.{ProcessorRecord}
use Rattle.net_interface.specs.Inside.{record_of}
use Rattle.net_interface.proofs.Recorded.{issued_is}
use Rattle.net_interface.proofs.Reserved.{line_kept}
use Rattle.net_interface.proofs.record.Record.append.Goals as goal

pub append-requires-clause-few : goal.append-requires-clause-few
append-requires-clause-few g c =
    let is = c.self.invariant in
    let room = subst (λ (b : ProcessorRecord). length b.issued + left_of b.following + operations_of c.args.line ≤ c.args.room) (sym c.self.view_is)
    c.requires.room in
    let same = issued_is is.lines is.past is.now (record_of c.self.inside) is.operations in
    let few = c.requires.few in
    omega (arith, room, same, few)

pub invariant_of-self-2 : goal.invariant_of-self-2
invariant_of-self-2 g c =
    let room = subst (λ (b : ProcessorRecord). length b.issued + left_of b.following + operations_of c.args.line ≤ c.args.room) (sym c.self.view_is)
    c.requires.room in
    let last = subst (λ (b : ProcessorRecord). 0 < length b.issued + left_of b.following) (sym c.self.view_is) in
    line_kept c.self.inside _ c.self.invariant refl c.try_reserve.ensures.items c.try_reserve-2.ensures.items c.args.line c.in_ok-append.ensures.appended
    c.requires.loads (λ tells. last (c.requires.last tells))
    (omega (arith, room, c.in_ok-try_reserve.ensures.ok, c.try_reserve.ensures.len, c.len.ensures))
    (omega (arith, room, c.in_ok-try_reserve-2.ensures.ok, c.try_reserve-2.ensures.len, c.len-2.ensures))
