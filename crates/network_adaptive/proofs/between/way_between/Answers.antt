use Rattle.std.proofs.Common.{◌≡◌, ◌<◌, ◌∙◌, ℕ, List, [], Bool, true, length, set, sym, ap, subst, arith, append-nil}
use Rattle.std.proofs.lemmas.List.{length-set}
use Rattle.network_judge.specs.Marks.{is_marked_at}
use Rattle.network_adaptive.specs.Spread.{down}
use Rattle.network_adaptive.specs.Between.{LeadsToWait, StepsToward, IsWayBetween}
use Rattle.network_adaptive.proofs.Flags.{set_keeps, fewer_down}
use Rattle.network_adaptive.proofs.Ways.{GoesOnBy, goes_on_more, has_step, shut_here, step_parts}
use Rattle.network_adaptive.proofs.between.way_between.Goals as goal

pub loop-alloc-init : goal.loop-alloc-init
loop-alloc-init g c =
    let a = c.args in
    let marks : List Bool = a.marks.now in
    let low : a.x < length marks = (let size = c.requires.marks in let x = c.requires.x in omega arith) in
    record {
      size = ap length c.in_ok-shut.ensures ∙ (length-set marks a.x true ∙ c.requires.marks);
      inside = c.requires.x;
      kept = λ z up. subst (λ (v : List Bool). is_marked_at v z ≡ true) (sym c.in_ok-shut.ensures) (set_keeps marks a.x z low up);
      leads = subst (λ (v : List Bool). LeadsToWait a.kinds.now a.choices.now a.base a.ways v a.x a.y) (sym c.in_ok-shut.ensures)
          (shut_here a.kinds.now a.choices.now a.base a.ways marks a.x a.y low c.requires.leads);
      way = subst (λ (v : List ℕ). GoesOnBy a.kinds.now a.choices.now a.base a.ways marks a.x v a.x a.y) (sym c.new-over.ensures.items) (λ rest w. w);
    }

pub step_toward-requires-clause-has : goal.step_toward-requires-clause-has
step_toward-requires-clause-has g c =
    let a = c.args in
    has_step a.kinds.now a.choices.now a.base a.ways c.deref.result.now c.loop-alloc.at a.y
    (subst (λ (v : List Bool). LeadsToWait a.kinds.now a.choices.now a.base a.ways v c.loop-alloc.at a.y) (sym c.deref.ensures.value) c.loop-alloc.invariant.leads)
    (sym c.waits_at.ensures ∙ c.loop-alloc-test.true)

pub loop-alloc-preserved : goal.loop-alloc-preserved
loop-alloc-preserved g c =
    let a = c.args in
    let i = c.loop-alloc.invariant in
    let shut : List Bool = c.loop-alloc.shut.items in
    let at : ℕ = c.loop-alloc.at in
    let next : ℕ = c.in_ok-at.at in
    let s : StepsToward a.kinds.now a.choices.now a.base a.ways shut at a.y next =
    subst (λ (v : List Bool). StepsToward a.kinds.now a.choices.now a.base a.ways v at a.y next) c.deref.ensures.value c.in_ok-at.ensures in
    let inside : next < length a.kinds.now = (step_parts a.kinds.now a.choices.now a.base a.ways shut at next s.step).0 in
    let low : next < length shut = (let size = i.size in omega arith) in
    record {
      size = length-set shut next true ∙ i.size;
      inside = inside;
      kept = λ z up. set_keeps shut next z low (i.kept z up);
      leads = shut_here a.kinds.now a.choices.now a.base a.ways shut next a.y low s.leads;
      way = subst (λ (v : List ℕ). GoesOnBy a.kinds.now a.choices.now a.base a.ways a.marks.now a.x v next a.y) (sym c.in_ok-push.ensures.items)
          (goes_on_more a.kinds.now a.choices.now a.base a.ways a.marks.now shut a.x at next a.y c.loop-alloc.over.items i.kept s.step i.way);
    }

pub loop-alloc-smaller : goal.loop-alloc-smaller
loop-alloc-smaller g c =
    let a = c.args in
    let shut : List Bool = c.loop-alloc.shut.items in
    let at : ℕ = c.loop-alloc.at in
    let next : ℕ = c.in_ok-at.at in
    let s : StepsToward a.kinds.now a.choices.now a.base a.ways shut at a.y next =
    subst (λ (v : List Bool). StepsToward a.kinds.now a.choices.now a.base a.ways v at a.y next) c.deref.ensures.value c.in_ok-at.ensures in
    let parts = step_parts a.kinds.now a.choices.now a.base a.ways shut at next s.step in
    let low : next < length shut = (let size = c.loop-alloc.invariant.size in let inside = parts.0 in omega arith) in
    let fewer = fewer_down shut next low parts.1 in
    let less : down (set shut next true) < down shut = omega arith in
    less

pub returns : goal.returns
returns g c =
    let a = c.args in
    subst (λ (v : List ℕ). IsWayBetween a.kinds.now a.choices.now a.base a.ways a.marks.now a.x v a.y) (append-nil c.loop-alloc.over.items)
    (c.loop-alloc.invariant.way [] (sym c.waits_at.ensures ∙ c.loop-alloc-test.false))
