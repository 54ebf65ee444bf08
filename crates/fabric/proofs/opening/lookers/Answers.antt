use Rattle.std.proofs.Common.{rules, arith, ◌≡◌, ℕ, [], length, replicate, ap, ◌∙◌}
use Rattle.fabric.specs.Opening.{fresh}
use Rattle.fabric.proofs.Sharing.{notes}
use Rattle.fabric.proofs.Looking.{rest_stays, looks_on, knows_load, one_looker_more}
use Rattle.fabric.proofs.opening.lookers.Goals as goal

pub loop-init : goal.loop-init
loop-init g c = record { seat = c.requires.0; count = ap length c.new-seats.ensures.items; seats = c.new-seats.ensures.items }

pub split_seat-one-requires : goal.split_seat-one-requires
split_seat-one-requires g c = (c.loop.invariant.seat.table, c.requires.1, notes c.args.row.now.key.load _ _)

pub invariant_of-push : goal.invariant_of-push
invariant_of-push g c = let s = c.split_seat-one.ensures in
    looks_on _ _ c.loop.seat c.split_seat-one.result c.loop.invariant.seat s.3 (ap (λ m. m.1) s.4) (ap (λ m. m.0) s.4)

pub loop-preserved : goal.loop-preserved
loop-preserved g c =
    let i = c.loop.invariant in
    let s = c.split_seat-one.ensures in
    record {
      seat = rest_stays _ _ c.loop.seat c.split_seat-one.new.seat i.seat s.0 (ap (λ m. m.1) s.2) (ap (λ m. m.0) s.2);
      count = search (rules, arith);
      seats = one_looker_more _ _ _ _ c.loop.counter i.seats c.in_ok-push.ensures.items
          (knows_load _ _ c.loop.seat c.split_seat-one.result i.seat s.3 (ap (λ m. m.0) s.4));
    }

pub returns : goal.returns
returns g c =
    let end : c.loop.counter ≡ c.args.probes = omega arith in
    c.loop.invariant.seats ∙ ap (λ (n : ℕ). replicate n (fresh c.args.row.now.table_id c.args.seat.now.me.0.load [])) end
