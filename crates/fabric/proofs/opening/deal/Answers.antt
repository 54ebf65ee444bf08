use Rattle.std.proofs.Common.{rules, arith, refl, sym, ◌≡◌, ℕ, List, [], ◌∷◌, ◌++◌, drop, map, ap, ◌∙◌, subst}
use Rattle.std.proofs.lemmas.List.{drop_more}
use Rattle.torus.specs.Shape.{tiles_of}
use Rattle.fabric_rule.specs.Core.{Load}
use Rattle.fabric_rule.specs.Groups.{first_group, other_groups}
use Rattle.fabric.specs.Key.{ranges, Rises}
use Rattle.fabric.specs.Seats.{Knowing}
use Rattle.fabric.specs.Opening.{fresh, HasRest, IsBuilt}
use Rattle.fabric.proofs.Looking.{rest_itself}
use Rattle.fabric.proofs.Ranges.{range_here}
use Rattle.fabric.proofs.Parting.{drop_none, part_more, part_last, fresh_as_loaded, rest_as_loaded}
use Rattle.fabric.proofs.opening.deal.Goals as goal

pub loop-cut-init : goal.loop-cut-init
loop-cut-init g c = record {
  seat = c.requires.seat.0;
  rises = c.requires.cuts.0;
  all = c.requires.all;
  seats = ap (λ (l : List Knowing). l ++ map (fresh c.args.row.now.table_id c.args.seat.me.0.load) (ranges 0 c.args.cuts.now c.args.count))
      c.new-seats.ensures.items;
}

pub cut_off-requires-clause-seat : goal.cut_off-requires-clause-seat
cut_off-requires-clause-seat g c = (rest_itself _ _ _ c.loop-cut.rest c.loop-cut.invariant.seat, c.requires.seat.1)

pub cut_off-requires-clause-all : goal.cut_off-requires-clause-all
cut_off-requires-clause-all g c = rest_as_loaded c.loop-cut.invariant.all (sym c.loop-cut.invariant.seat.loaded)

pub cut_off-requires-2-clause-seat : goal.cut_off-requires-2-clause-seat
cut_off-requires-2-clause-seat g c = (rest_itself _ _ _ c.loop-cut.rest c.loop-cut.invariant.seat, c.requires.seat.1)

pub cut_off-requires-2-clause-all : goal.cut_off-requires-2-clause-all
cut_off-requires-2-clause-all g c = rest_as_loaded c.loop-cut.invariant.all (sym c.loop-cut.invariant.seat.loaded)

pub cut_off-requires-clause-group : goal.cut_off-requires-clause-group
cut_off-requires-clause-group g c =
    let i = c.loop-cut.invariant in
    let p = range_here _ _ _ _ _ _ (drop_more c.args.cuts.now c.loop-cut.cut-index 0 (omega arith)) i.rises i.seat.grouped in
    let same = ap (λ (l : Load). tiles_of l.shape) i.seat.loaded in
    let q = c.requires.cuts.1 in
    let le = p.2 in
    (p.0, p.1, omega arith)

pub loop-cut-preserved : goal.loop-cut-preserved
loop-cut-preserved g c =
    let i = c.loop-cut.invariant in
    let k = c.in_ok-one.ensures in
    let more = drop_more c.args.cuts.now c.loop-cut.cut-index 0 (omega arith) in
    let push : c.push.new.self.items ≡ c.loop-cut.seats.items ++ c.in_ok-one.one ∷ [] = c.in_ok-push.ensures.items in
    record {
      seat = subst (λ (p : Load × List (List ℕ)). HasRest c.args.row.now.table_id p.0 p.1 c.in_ok-one.other)
          (λ j. (i.seat.loaded j, ap other_groups (i.seat.grouped ∙ ap (λ (l : List ℕ). ranges c.loop-cut.from l c.args.count) more) j)) k.left;
      rises = (subst (λ (l : List ℕ). Rises c.loop-cut.from l c.args.count) more i.rises).1;
      all = rest_as_loaded c.cut_off.ensures.all i.seat.loaded;
      seats = part_more (fresh c.args.row.now.table_id c.args.seat.me.0.load) c.loop-cut.seats.items c.push.new.self.items c.in_ok-one.one c.loop-cut.from _
          c.args.count _ _ push
          (fresh_as_loaded k.seat i.seat.loaded) i.seats _ more;
    }

pub returns-clause-seats : goal.returns-clause-seats
returns-clause-seats g c =
    let i = c.loop-cut.invariant in
    let k = c.in_ok-one-2.ensures in
    let none : drop c.loop-cut.cut-index c.args.cuts.now ≡ [] = drop_none c.args.cuts.now c.loop-cut.cut-index (omega arith) in
    let push : c.push-2.new.self.items ≡ c.loop-cut.seats.items ++ c.in_ok-one-2.one ∷ [] = search rules in
    part_last (fresh c.args.row.now.table_id c.args.seat.me.0.load) c.loop-cut.seats.items c.push-2.new.self.items c.in_ok-one-2.one c.loop-cut.from
    c.args.count c.args.count _ _ push
    (fresh_as_loaded k.seat i.seat.loaded) i.seats refl none

pub returns-clause-left : goal.returns-clause-left
returns-clause-left g c =
    let i = c.loop-cut.invariant in
    let none : drop c.loop-cut.cut-index c.args.cuts.now ≡ [] = drop_none c.args.cuts.now c.loop-cut.cut-index (omega arith) in
    subst (λ (p : Load × List (List ℕ)). HasRest c.args.row.now.table_id p.0 p.1 c.in_ok-one-2.other)
    (λ j. (i.seat.loaded j, ap other_groups (i.seat.grouped ∙ ap (λ (l : List ℕ). ranges c.loop-cut.from l c.args.count) none) j)) c.in_ok-one-2.ensures.left

pub cut_off-requires-clause-built : goal.cut_off-requires-clause-built
cut_off-requires-clause-built g c = subst (λ (l : Load). IsBuilt l c.args.built.now.torus c.args.built.now.depth c.args.built.now.words) (sym c.loop-cut.invariant.seat.loaded) c.requires.built

pub cut_off-requires-2-clause-built : goal.cut_off-requires-2-clause-built
cut_off-requires-2-clause-built g c = subst (λ (l : Load). IsBuilt l c.args.built.now.torus c.args.built.now.depth c.args.built.now.words) (sym c.loop-cut.invariant.seat.loaded) c.requires.built

pub cut_off-requires-2-clause-group : goal.cut_off-requires-2-clause-group
cut_off-requires-2-clause-group g c =
    let i = c.loop-cut.invariant in
    let none : drop c.loop-cut.cut-index c.args.cuts.now ≡ [] = drop_none c.args.cuts.now c.loop-cut.cut-index (omega arith) in
    let same = ap (λ (l : Load). tiles_of l.shape) i.seat.loaded in
    let q = c.requires.cuts.1 in (
      ap first_group (i.seat.grouped ∙ ap (λ (l : List ℕ). ranges c.loop-cut.from l c.args.count) none),
      subst (λ (l : List ℕ). Rises c.loop-cut.from l c.args.count) none i.rises,
      omega (arith, q, same),
    )
