use Rattle.std.proofs.Common.{◌≡◌, ◌+◌, ℕ, Vec, map, refl, ap, ◌∙◌, length, arith, drop}
use Rattle.std.proofs.lemmas.List.{take_at}
use Rattle.network_traffic.proofs.Numbers.{numbers_before, numbers_else, numbers_here}
use Rattle.network_traffic.proofs.plan.all_numbers.Goals as goal

pub loop-k-preserved : goal.loop-k-preserved
loop-k-preserved g c =
    let new = c.add_number.new.all in
    let size : length new ≡ c.loop-k.all.len =
    (let a = c.add_number.auto.all in let b = ap length c.deref_mut.ensures.value in let d = c.loop-k.all.ok.0 in omega (arith, a, b, d)) in
    ap (map (λ (v : Vec ℕ _). v.items)) (take_at new (drop (length new) c.loop-k.all.items) c.loop-k.all.len size)
    ∙ c.in_ok-add_number.ensures (numbers_before c.args.packets.now c.loop-k.k) (numbers_before c.args.packets.now (c.loop-k.k + 1)) c.args.channels
    (ap (map (λ (v : Vec ℕ _). v.items)) c.deref_mut.ensures.value ∙ c.loop-k.invariant)
    (λ y. numbers_else c.args.packets.now c.loop-k.k _ _ y c.loop-k-test.true refl)
    (numbers_here c.args.packets.now c.loop-k.k _ _ c.loop-k-test.true refl)
