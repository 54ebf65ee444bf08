use Rattle.std.proofs.Common.{List, inl, refl, subst, ℕ}
use Rattle.machine_record.specs.Calls.{IsRestored}
use Rattle.command_live.proofs.obeying.loaded.Goals as goal

pub returns-in-Ok-restore : goal.returns-in-Ok-restore
returns-in-Ok-restore g c =
    inl (
      record {
        bytes = c.in-Ok.bytes.items;
        spelled = c.in-Ok.ensures.ok;
        makes = subst (λ (bs : List ℕ). IsRestored bs c.in-Ok-restore.made) c.deref.ensures.value c.in-Ok-restore.ensures.ok;
      },
      refl,
    )
