use Rattle.std.proofs.Common.{◌≡◌, ◌<◌, ◌-◌, Some, length, refl, arith, slice_get}
use Rattle.std.proofs.lemmas.Option.{slice_get_read}
use Rattle.trace_watch.specs.States.{config_of, configs_of}
use Rattle.trace_watch.proofs.Grown.{get_config, long_configs}
use Rattle.trace_watch.proofs.Loops.{index_there}
use Rattle.trace_watch.proofs.Chains.{chain_begun, chain_skip, chain_ended}
use Rattle.trace_watch.proofs.index.Index.is_there.Goals as goal

pub loop-next-init : goal.loop-next-init
loop-next-init g c =
    let there : slice_get c.args.self.now.heads.items c.args.place ≡ Some c.index-next.result.now =
    slice_get_read c.args.self.now.heads.items (length c.args.self.now.heads.items) c.args.place c.index-next.result.now
    refl c.requires.inside c.index-next.ensures in
    let e = c.requires.indexed.long in
    let f = long_configs c.args.found.now in
    let m = c.requires.indexed.chained.inside c.args.place c.index-next.result.now there in
    record {
      inside = omega arith;
      left = chain_begun c.args.self.now.heads.items c.args.self.now.links.items (configs_of c.args.found.now)
          (config_of c.args.state.now) (length c.args.self.now.heads.items) c.args.place c.index-next.result.now refl
          c.requires.place there c.requires.indexed.long c.requires.indexed.chained;
    }

pub returns-then-is_covered-clause-yes : goal.returns-then-is_covered-clause-yes
returns-then-is_covered-clause-yes g c = λ t.
    let some = c.loop-next-test.true in
    let inside = c.loop-next.invariant.inside in
    let l : c.loop-next.next - 1 < length c.args.found.now = omega arith in (
      config_of c.index-found-at.result,
      (
        c.loop-next.next - 1,
        get_config c.args.found.now (c.loop-next.next - 1) c.index-found-at.result
            (index_there c.args.found.now (c.loop-next.next - 1) c.index-found-at.result l c.index-found-at.is),
      ),
      c.if-is_covered.ensures.yes refl,
    )

pub loop-next-smaller : goal.loop-next-smaller
loop-next-smaller g c =
    let some = c.loop-next-test.true in
    let inside = c.loop-next.invariant.inside in
    let e = c.requires.indexed.long in
    let f = long_configs c.args.found.now in
    let m = c.requires.indexed.chained.lower (c.loop-next.next - 1) c.index-next-in-loop-next.result.now
    (slice_get_read c.args.self.now.links.items (length c.args.self.now.links.items) (c.loop-next.next - 1)
    c.index-next-in-loop-next.result.now refl (omega arith) c.index-next-in-loop-next.ensures) in
    omega arith

pub loop-next-preserved : goal.loop-next-preserved
loop-next-preserved g c =
    let some = c.loop-next-test.true in
    let inside = c.loop-next.invariant.inside in
    let e = c.requires.indexed.long in
    let f = long_configs c.args.found.now in
    let l : c.loop-next.next - 1 < length c.args.found.now = omega arith in
    let linked : slice_get c.args.self.now.links.items (c.loop-next.next - 1) ≡ Some c.index-next-in-loop-next.result.now =
    slice_get_read c.args.self.now.links.items (length c.args.self.now.links.items) (c.loop-next.next - 1)
    c.index-next-in-loop-next.result.now refl (omega arith) c.index-next-in-loop-next.ensures in
    let m = c.requires.indexed.chained.lower (c.loop-next.next - 1) c.index-next-in-loop-next.result.now linked in
    record {
      inside = omega arith;
      left = chain_skip c.args.self.now.links.items c.args.found.now (config_of c.args.state.now) c.index-found-at.result
          c.loop-next.next (c.loop-next.next - 1) c.index-next-in-loop-next.result.now (omega arith)
          (index_there c.args.found.now (c.loop-next.next - 1) c.index-found-at.result l c.index-found-at.is)
          (c.if-is_covered.ensures.no refl) linked c.loop-next.invariant.left;
    }

pub returns-clause-no : goal.returns-clause-no
returns-clause-no g c = λ t.
    let none = c.loop-next-test.false in
    chain_ended c.args.self.now.links.items (configs_of c.args.found.now) (config_of c.args.state.now) c.loop-next.next
    (omega arith) c.loop-next.invariant.left
