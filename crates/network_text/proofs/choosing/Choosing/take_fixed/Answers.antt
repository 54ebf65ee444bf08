use Rattle.std.proofs.Common.{map, refl}
use Rattle.network_text.proofs.Fixed.{fixed_read}
use Rattle.network_text.proofs.choosing.Choosing.take_fixed.Goals as goal

pub returns-clause-read : goal.returns-clause-read
returns-clause-read g c =
    fixed_read c.args.self.now _ c.take.result (map (λ word. word.now) c.args.words.now) refl refl c.requires c.take.ensures.value c.take.ensures.read
