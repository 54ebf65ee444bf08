use Rattle.std.proofs.Common.{rules, ◌≡◌, length, arith, ◌≤◌, ◌++◌, ◌∷◌, [], ◌∙◌}
use Rattle.fabric.proofs.Slots.{inside_all, inside_more, outside_more, untouched_more, rest_more}
use Rattle.fabric.proofs.taking.taken.Goals as goal

pub loop-t-preserved : goal.loop-t-preserved
loop-t-preserved g c =
    let i = c.loop-t.invariant in
    let k = c.take_if-slot.ensures in
    let push : c.push.new.self.items ≡ c.loop-t.slots.items ++ c.take_if-slot.result ∷ [] = c.in_ok-push.ensures.items in
    record {
      len = search rules;
      same = k.same ∙ i.same;
      inside = inside_more _ _ _ _ _ _ _ _ _ _ c.is_between-wanted.ensures push i.len k.wanted k.not_wanted k.others i.inside i.untouched;
      outside = outside_more c.args.all.now.items _ _ _ _ _ _ _ _ _ c.is_between-wanted.ensures push i.len k.wanted k.not_wanted k.others i.outside;
      untouched = untouched_more _ _ _ _ _ _ _ _ _ _ c.is_between-wanted.ensures push i.len k.wanted k.not_wanted k.others i.untouched;
      rest = rest_more _ _ _ _ _ _ _ _ _ _ c.is_between-wanted.ensures push i.len k.wanted k.not_wanted k.others i.rest;
    }

pub returns-clause-inside : goal.returns-clause-inside
returns-clause-inside g c =
    let i = c.loop-t.invariant in
    let same = i.same in
    let past : length c.args.all.now.items ≤ c.loop-t.t = search (rules, arith) in
    inside_all c.args.all.now.items c.loop-t.slots.items _ _ _ i.len past i.inside

pub returns-clause-outside : goal.returns-clause-outside
returns-clause-outside g c = c.loop-t.invariant.outside

pub returns-clause-same : goal.returns-clause-same
returns-clause-same g c = c.loop-t.invariant.same

pub returns-clause-rest : goal.returns-clause-rest
returns-clause-rest g c = c.loop-t.invariant.rest
