use Rattle.std.proofs.Common.{sym, ap, ◌∙◌, arith}
use Rattle.torus.specs.Shape.{tiles_of}
use Rattle.fabric.proofs.Starting.{right_start}
use Rattle.fabric.proofs.Sharing.{halves}
use Rattle.fabric_rule.specs.Groups.{other_groups}
use Rattle.fabric.proofs.Fresh.{tied_start, seated_start, rest_later, fresh_half, rest_half}
use Rattle.fabric.proofs.opening.cut_off.Goals as goal

pub split_seat-other-requires : goal.split_seat-other-requires
split_seat-other-requires g c = (c.requires.seat.0.table, c.requires.seat.1, halves c.args.row.now.key.load _ _)

pub invariant_of-result : goal.invariant_of-result
invariant_of-result g c =
    let s = c.split_seat-other.ensures in
    let t = c.in_ok-slots.ensures in
    let b = c.requires.built in (
      seated_start c.args.row.now.table_id c.args.seat c.split_seat-other.new.seat c.in_ok-slots.slots.items c.args.from c.args.to c.requires.seat.0 s.0
          (ap (λ m. m.1) s.2 ∙ c.requires.seat.0.placed.no_slot) (ap (λ m. m.0) s.2) c.requires.group.0
          (tied_start c.args.seat.me.0.load c.args.all.now.items c.in_ok-slots.slots.items c.args.from c.args.to c.requires.group.1 c.requires.group.2
          c.requires.all t.len t.inside t.outside),
      right_start c.args.row.now.table_id c.args.seat c.split_seat-other.new.seat c.args.from c.args.to c.requires.seat.0 (ap (λ m. m.0) s.2)
          c.requires.group.0 c.in_ok-flags.flags
          (λ gs own. c.in_ok-flags.ensures.right c.args.seat.me.0.load gs (sym b.torus_is) (sym b.depth_is) (sym b.words_are) own),
    )

pub new-requires-clause-some : goal.new-requires-clause-some
new-requires-clause-some g c = let ok = c.requires.seat.0.placed.accepted in let low = ok.depth.0 in let is = c.requires.built.depth_is in
    omega (arith, low, is)

pub new-requires-clause-few : goal.new-requires-clause-few
new-requires-clause-few g c = let ok = c.requires.seat.0.placed.accepted in let high = ok.depth.1 in let is = c.requires.built.depth_is in
    omega (arith, high, is)

pub new-requires-clause-words : goal.new-requires-clause-words
new-requires-clause-words g c = let ok = c.requires.seat.0.placed.accepted in let most = ok.size.1 in let is = c.requires.built.words_are in
    omega (arith, most, is)

pub new-requires-clause-tiles : goal.new-requires-clause-tiles
new-requires-clause-tiles g c =
    let to = c.requires.group.2 in
    let same = ap tiles_of c.requires.built.torus_is in
    omega (arith, to, same)

pub returns-in_err-slots-clause-all : goal.returns-in_err-slots-clause-all
returns-in_err-slots-clause-all g c = rest_later _ c.args.all.now.items _ _ _ c.requires.group.1 c.taken.ensures.same c.taken.ensures.rest c.requires.all

pub returns-in_err-flags-clause-all : goal.returns-in_err-flags-clause-all
returns-in_err-flags-clause-all g c = rest_later _ c.args.all.now.items _ _ _ c.requires.group.1 c.taken.ensures.same c.taken.ensures.rest c.requires.all

pub returns-clause-all : goal.returns-clause-all
returns-clause-all g c = rest_later _ c.args.all.now.items _ _ _ c.requires.group.1 c.taken.ensures.same c.taken.ensures.rest c.requires.all

pub returns-clause-seat : goal.returns-clause-seat
returns-clause-seat g c =
    let s = c.split_seat-other.ensures in
    fresh_half c.args.row.now.table_id c.args.seat c.split_seat-other.new.seat c.args.from c.args.to c.requires.seat.0 s.0 (ap (λ m. m.0) s.2)
    c.requires.group.0

pub returns-clause-left : goal.returns-clause-left
returns-clause-left g c =
    let s = c.split_seat-other.ensures in
    rest_half c.args.row.now.table_id c.args.seat c.split_seat-other.result (other_groups c.args.seat.me.0.groups) c.requires.seat.0 s.3 (ap (λ m. m.1) s.4)
    (ap (λ m. m.0) s.4)
