use Rattle.std.proofs.Common.{◌≡◌, ◌≤◌, List, subst, drop, length, arith}
use Rattle.script_lines.specs.declared.line.Line.{Line}
use Rattle.one_order.specs.Following.{past_fences}
use Rattle.one_order.proofs.Kept.{first_kept, first_shows}
use Rattle.one_order.proofs.follower.Follower.new.Goals as goal

pub invariant_of-result : goal.invariant_of-result
invariant_of-result g c =
    let m = c.past_fences-at in
    let place = subst (λ (ls : List Line). drop m.result ls ≡ past_fences ls) c.as_slice.ensures.value m.ensures.place in
    record {
      within = subst (λ (ls : List Line). m.result ≤ length ls) c.as_slice.ensures.value m.ensures.within;
      few = first_kept c.args.lines.items c.requires.followable c.requires.few m.result place;
      loads = c.requires.followable.loads;
      more = tt;
      waiting = omega arith;
    }

pub returns : goal.returns
returns g c =
    let m = c.past_fences-at in
    first_shows c.args.lines.items m.result (subst (λ (ls : List Line). drop m.result ls ≡ past_fences ls) c.as_slice.ensures.value m.ensures.place)
