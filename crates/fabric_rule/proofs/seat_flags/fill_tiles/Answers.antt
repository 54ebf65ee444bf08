use Rattle.std.proofs.Common.{◌≡◌, ◌≢◌, ⊎_elim, ℕ, true, refl, sym, ◌∙◌, subst, arith}
use Rattle.std.proofs.lemmas.Bool.{cases_eq}
use Rattle.machine_parts.specs.Ports.{flags_of}
use Rattle.fabric_rule.proofs.seat_flags.fill_tiles.Goals as goal

pub loop-tile-init : goal.loop-tile-init
loop-tile-init g c = record {
  design = refl;
  takes = λ u i h. h;
  puts = λ u i h. h;
  credits = λ u o h. h;
  full = λ u i h. h;
  filled = λ u i from low. absurd (omega (arith, from, low));
}

pub loop-tile-preserved : goal.loop-tile-preserved
loop-tile-preserved g c =
    let k = c.loop-tile.invariant in
    let e = c.fill.ensures in
    record {
      design = e.design ∙ k.design;
      takes = λ u i h. e.takes u i (k.takes u i h);
      puts = λ u i h. e.puts u i (k.puts u i h);
      credits = λ u o h. e.credits u o (k.credits u o h);
      full = λ u i h. e.full u i (k.full u i h);
      filled = λ u i from low. ⊎_elim
          (λ (same : u ≡ c.loop-tile.tile). subst (λ (n : ℕ). (flags_of c.fill.new.ports).full n i ≡ true) (sym same) (e.filled i))
          (λ (other : u ≢ c.loop-tile.tile). e.full u i (k.filled u i from (omega (arith, low, other)))) (cases_eq u c.loop-tile.tile);
    }

pub returns-clause-design : goal.returns-clause-design
returns-clause-design g c = c.loop-tile.invariant.design

pub returns-clause-takes : goal.returns-clause-takes
returns-clause-takes g c = c.loop-tile.invariant.takes

pub returns-clause-puts : goal.returns-clause-puts
returns-clause-puts g c = c.loop-tile.invariant.puts

pub returns-clause-credits : goal.returns-clause-credits
returns-clause-credits g c = c.loop-tile.invariant.credits

pub returns-clause-full : goal.returns-clause-full
returns-clause-full g c = c.loop-tile.invariant.full

pub returns-clause-filled : goal.returns-clause-filled
returns-clause-filled g c = λ u i from low. c.loop-tile.invariant.filled u i from (omega (arith, from, low))
