use Rattle.std.proofs.Common.{◌≡◌, ℕ, Bool, true, refl, sym, ◌∙◌, subst, arith}
use Rattle.core_laws.specs.Routers.{PortFlags}
use Rattle.machine_parts.specs.Ports.{flags_of}
use Rattle.fabric_rule.proofs.Filling.{take_kept, put_kept, credit_kept, full_kept, filled_now, filled_more, all_filled}
use Rattle.fabric_rule.proofs.seat_flags.fill.Goals as goal

pub loop-input-init : goal.loop-input-init
loop-input-init g c = record {
  design = refl;
  takes = λ u i h. h;
  puts = λ u i h. h;
  credits = λ u o h. h;
  full = λ u i h. h;
  filled = λ i low. absurd (omega (arith, low));
}

pub loop-input-preserved : goal.loop-input-preserved
loop-input-preserved g c =
    let k = c.loop-input.invariant in
    let is = sym c.router_moved.ensures.flags in
    let t : ℕ = c.args.tile in
    let n : ℕ = c.loop-input.input in
    let d = c.loop-input.ports.design in
    let f : PortFlags = flags_of c.loop-input.ports in
    record {
      design = c.router_moved.ensures.design ∙ k.design;
      takes = λ u i h. subst (λ (x : PortFlags). x.takes u i ≡ true) is (take_kept t n d f u i (k.takes u i h));
      puts = λ u i h. subst (λ (x : PortFlags). x.puts u i ≡ true) is (put_kept t n d f u i (k.puts u i h));
      credits = λ u o h. subst (λ (x : PortFlags). x.credits u o ≡ true) is (credit_kept t n d f u o (k.credits u o h));
      full = λ u i h. subst (λ (x : PortFlags). x.full u i ≡ true) is (full_kept t n d f u i (k.full u i h));
      filled = filled_more ((flags_of c.router_moved.new.self).full t) n
          (λ i low. subst (λ (x : PortFlags). x.full t i ≡ true) is (full_kept t n d f t i (k.filled i low)))
          (subst (λ (x : PortFlags). x.full t n ≡ true) is (filled_now t n d f));
    }

pub returns-clause-design : goal.returns-clause-design
returns-clause-design g c = c.loop-input.invariant.design

pub returns-clause-takes : goal.returns-clause-takes
returns-clause-takes g c = c.loop-input.invariant.takes

pub returns-clause-puts : goal.returns-clause-puts
returns-clause-puts g c = c.loop-input.invariant.puts

pub returns-clause-credits : goal.returns-clause-credits
returns-clause-credits g c = c.loop-input.invariant.credits

pub returns-clause-full : goal.returns-clause-full
returns-clause-full g c = c.loop-input.invariant.full

pub returns-clause-filled : goal.returns-clause-filled
returns-clause-filled g c = all_filled c.loop-input.ports.full c.args.tile (λ i low. c.loop-input.invariant.filled i (omega (arith, low)))
