-- Each processor's end is added, until one has no script or no answers.
use Rattle.std.proofs.Common.{◌≡◌, ◌≤◌, ◌+◌, List, [], inl, inr, drop, length, sym, ◌∙◌, ap, arith, refl, slice_get, Some, None}
use Rattle.std.specs.Option.{option_copied}
use Rattle.std.specs.Str.Lines.{lines}
use Rattle.std.proofs.lemmas.List.{drop_all}
use Rattle.sentences.proofs.Ending.{none_left, own_answers, spins_end, spins_more, unfinished_end, unfinished_more}
use Rattle.sentences.proofs.scripts.end_of_lists.Goals as goal

pub loop-own-preserved : goal.loop-own-preserved
loop-own-preserved g c =
    let p = c.loop-own.processor in
    let i = c.loop-own.own-index in
    let k = c.loop-own.invariant in
    let inside = c.loop-own-test.true in
    let there : slice_get c.args.scripts.now.lists c.loop-own.processor ≡ Some c.in-Some.script.now =
    sym (ap option_copied (sym c.in-Some.is) ∙ c.lines.ensures.value) in
    let place = k.place in
    let few = k.few in
    let one = c.unfinished_of-unfinished.ensures.few in
    record {
      place = omega (arith, place);
      few = omega (arith, few, one);
      spins = spins_more p i (lines c.args.text.now) c.args.answers.now c.args.scripts.now.lists _ c.in-Some.script.now inside there
          c.loop-own.spins.items c.add_spins.new.found.items _ c.deref.result.now c.in_ok-add_spins.ensures (c.deref.ensures.value ∙ c.in_ok-end.ensures.spins) k.spins;
      unfinished = unfinished_more p i (lines c.args.text.now) c.args.answers.now c.args.scripts.now.lists _ c.in-Some.script.now inside there
          c.loop-own.unfinished c.unfinished_of-unfinished.result _ _ c.in_ok-end.end.is_answered c.in_ok-end.ensures.answered
          c.unfinished_of-unfinished.ensures.is refl k.unfinished;
    }

pub returns-in_default : goal.returns-in_default
returns-in_default g c =
    let k = c.loop-own.invariant in
    let none : drop c.loop-own.processor c.args.scripts.now.lists ≡ [] =
    none_left c.args.scripts.now.lists c.loop-own.processor (sym (ap option_copied (sym c.in_default.is) ∙ c.lines.ensures.value)) in
    record {
      spins = spins_end c.loop-own.spins.items _ c.loop-own.processor (lines c.args.text.now) _ _ (inr none) k.spins;
      unfinished = unfinished_end c.loop-own.unfinished _ _ _ (inr none) k.unfinished;
      answered = c.answered_in-answered.ensures;
    }

pub returns : goal.returns
returns g c =
    let k = c.loop-own.invariant in
    let past : length c.args.answers.now ≤ c.loop-own.own-index = omega arith in
    let none = ap own_answers (drop_all c.loop-own.own-index c.args.answers.now past) in
    record {
      spins = spins_end c.loop-own.spins.items _ c.loop-own.processor (lines c.args.text.now) _ _ (inl none) k.spins;
      unfinished = unfinished_end c.loop-own.unfinished _ _ _ (inl none) k.unfinished;
      answered = c.answered_in-answered.ensures;
    }
