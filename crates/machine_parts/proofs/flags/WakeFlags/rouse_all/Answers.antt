use Rattle.std.proofs.Common.{ℕ, List, ◌∙◌, ap, replicate, refl}
use Rattle.machine_parts.specs.Awake.{Awake}
use Rattle.machine_parts.specs.Inside.{awake_of}
use Rattle.machine_parts.proofs.AllSet.{all_255, as_replicated}
use Rattle.machine_parts.proofs.flags.WakeFlags.rouse_all.Goals as goal

pub returns-then-self : goal.returns-then-self
returns-then-self g c =
    rw (← c.self.view_is)
    (ap (λ (fs : List ℕ). let w : Awake = record { design = (awake_of c.self.inside).design; flags = fs } in w)
    (as_replicated c.self.inside.awake (c.self.invariant.all c.if-self.true) ∙ ap (λ (n : ℕ). replicate n 255) c.self.invariant.flags))

pub invariant_of-self : goal.invariant_of-self
invariant_of-self g c =
    let h = c.self.invariant in
    record {
      accepted = h.accepted;
      flags = refl;
      some = h.some;
      few = h.few;
      words = h.words;
      ends = h.ends;
      all = λ e. all_255 192;
    }
