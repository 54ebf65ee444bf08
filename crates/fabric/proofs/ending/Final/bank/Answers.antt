use Rattle.std.proofs.Common.{Some, ap, sym, ◌∙◌, refl}
use Rattle.fabric.proofs.EndsShown.{no_entries, entries_known}
use Rattle.fabric.proofs.ending.Final.bank.Goals as goal

pub returns-in_default : goal.returns-in_default
returns-in_default g c = sym (no_entries c.args.self.now.load c.args.self.now.run c.args.bank c.in_default.ensures.accepted (c.in_default.ensures.none.0 refl))

pub returns : goal.returns
returns g c = ap Some c.entries.ensures
    ∙ sym (entries_known c.args.self.now.load c.args.self.now.run c.args.bank c.in-Some.tile.now.place c.in-Some.ensures.some.place)
