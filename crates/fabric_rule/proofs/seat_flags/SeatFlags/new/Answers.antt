use Rattle.std.proofs.Common.{◌≡◌, ⊎_elim, ℕ, ◌<◌, ◌≤◌, Bool, true, false, List, [], length, refl, sym, ap, ◌∙◌, subst, arith}
use Rattle.std.proofs.lemmas.Bool.{cases_lt}
use Rattle.torus.specs.Shape.{Shape}
use Rattle.tile.specs.Tile.{Design}
use Rattle.core_laws.specs.Core.{Load, design_of}
use Rattle.core_laws.specs.Routers.{PortFlags}
use Rattle.machine_parts.specs.Awake.{Awake, is_choice_awake}
use Rattle.machine_parts.specs.Ports.{flags_of, is_raised}
use Rattle.machine_parts.proofs.KeptSleepers.{every_choice}
use Rattle.fabric_rule.specs.Border.{TakesInside, CreditsInside}
use Rattle.fabric_rule.proofs.Counting.{fresh_right}
use Rattle.fabric_rule.proofs.Falling.{true_isnt}
use Rattle.fabric_rule.proofs.Filling.{no_tile}
use Rattle.fabric_rule.proofs.seat_flags.SeatFlags.new.Goals as goal

pub returns : goal.returns
returns g c =
    let e = c.fill_tiles.ensures in
    let e2 = c.fill_tiles-2.ensures in
    let fresh = sym c.in_ok-ports.ensures.1 in
    let words : List ℕ = c.fill_tiles-2.new.ports.full in
    let within = c.requires.tiles.1 in
    let few = c.tiles-tiles.ensures.accepted.tiles in
    let built : Design = record { shape = c.args.torus; depth = c.args.depth; words = c.args.words } in
    record {
      right = λ load gs shape depth long own.
          let same : built ≡ design_of load = λ i. record { shape = sym shape i; depth = sym depth i; words = sym long i } in
          fresh_right load gs _ (ap (λ (w : Awake). w.design) c.in_ok-awake.ensures ∙ same) (e2.design ∙ e.design ∙ c.in_ok-ports.ensures.0 ∙ same)
          (λ k z. ap (λ (w : Awake). is_choice_awake w k z) c.in_ok-awake.ensures ∙ every_choice (record { design = built; flags = [] }) k z)
          (λ t i. e2.takes t i (e.takes t i (subst (λ (f : PortFlags). f.takes t i ≡ true) fresh refl)))
          (λ t i. e2.puts t i (e.puts t i (subst (λ (f : PortFlags). f.puts t i ≡ true) fresh refl)))
          (λ t o. e2.credits t o (e.credits t o (subst (λ (f : PortFlags). f.credits t o ≡ true) fresh refl)))
          (λ t i out. ⊎_elim
          (λ (before : t < c.args.first). absurd (true_isnt (is_raised words t i) (e2.full t i (e.filled t i (omega arith) before)) out))
          (λ (from : c.args.first ≤ t). ⊎_elim (λ (to : t < c.args.end). own t from to)
          (λ (past : c.args.end ≤ t). ⊎_elim (λ (low : t < 64). absurd (true_isnt (is_raised words t i) (e2.filled t i past low) out))
          (λ (high : 64 ≤ t). absurd (true_isnt (is_raised words t i) (no_tile words t i high) out)) (cases_lt t 64))
          (cases_lt t c.args.end))
          (cases_lt t c.args.first))
          (subst (λ (s : Shape). TakesInside s gs c.border-border_takes.result.0) (sym shape) (c.border-border_takes.ensures.takes gs own))
          (subst (λ (s : Shape). CreditsInside s gs c.border-border_takes.result.1) (sym shape) (c.border-border_takes.ensures.credits gs own));
    }
