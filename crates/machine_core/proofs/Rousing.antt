-- All choices of all agents may count as awake.
use Rattle.std.proofs.Common.{◌≡◌, Bool, true, false, sym, ◌∙◌, ap, subst}
use Rattle.machine_parts.specs.Core.{design_of, after}
use Rattle.machine_parts.specs.Routers.{PortFlags, OtherPortsSleep}
use Rattle.machine_parts.specs.Awake.{Awake, is_choice_awake, all_roused}
use Rattle.machine_parts.specs.Ports.{AwakePorts, flags_of, ports_roused}
use Rattle.machine_parts.proofs.KeptSleepers.{every_choice}
use Rattle.machine_core.specs.declared.machine.Machine.TheInside.{Inside}
use Rattle.machine_core.specs.Inside.{IsMachine}
use Rattle.machine_core.proofs.Fields.{with_parts}

module _ {A : Type 0} (a : Inside A) (is : IsMachine a) (awake : Awake) (awake_is : awake ≡ all_roused a.awake) (ports : AwakePorts)
    (design : ports.design ≡ a.ports.design) (flags : flags_of ports ≡ ports_roused (flags_of a.ports)) where
  open_ports : OtherPortsSleep (design_of is.load) (after is.load is.steps) (ports_roused (flags_of a.ports))
  open_ports = record {
    takes = λ t i out. absurd (cc);
    puts = λ t i out. absurd (cc);
    credits = λ t o out. absurd (cc);
    full = is.ports.full;
  }

  pub all_awake : IsMachine (with_parts a a.tiles a.row a.book awake ports a.left)
  all_awake = record {
    load = is.load;
    steps = is.steps;
    after = is.after;
    seen = is.seen;
    banks = is.banks;
    room = is.room;
    built = ap (λ (w : Awake). w.design) awake_is ∙ is.built;
    sleepers = λ k z out.
        let clash : ◌≡◌ {A = Bool} true false =
        sym (every_choice a.awake k z) ∙ (ap (λ (w : Awake). is_choice_awake w k z) (sym awake_is) ∙ out) in absurd (cc);
    routed = design ∙ is.routed;
    ports = subst (λ (f : PortFlags). OtherPortsSleep (design_of is.load) (after is.load is.steps) f) (sym flags) open_ports;
  }
