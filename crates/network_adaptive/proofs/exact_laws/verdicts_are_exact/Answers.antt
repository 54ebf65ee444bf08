use Rattle.std.proofs.Common.{◌≡◌, true, false, sym, ◌∙◌}
use Rattle.network_adaptive.proofs.Exactly.{no_numbers}
use Rattle.network_adaptive.proofs.exact_laws.verdicts_are_exact.Goals as goal

pub returns : goal.returns
returns c = record {
  numbers_or_cycle = λ n answers a b. no_numbers n answers b.1.0 b.1.1.0 b.1.1.1 a.1.0 a.1.1;
  escapes_or_none = λ n escapes none. (let first = none.1.1 in let s = first.stuck in let out = escapes none.0 none.1.0 s.comes s.input in
      let bad : true ≡ false = sym out.1 ∙ s.none out.0 in cc);
}
