use Rattle.std.proofs.Common.{◌∙◌, arith}
use Rattle.machine_core.proofs.Views.{few_words}
use Rattle.machine_core.proofs.machine.Machine.words.Goals as goal

pub overflow_cast-result : goal.overflow_cast-result
overflow_cast-result g c = let few = few_words c.self.inside c.self.invariant in let n = c.self.inside.opening.ok.0 in omega (arith, few, n)

pub returns : goal.returns
returns g c = rw (← c.self.view_is) (c.len.ensures ∙ c.self.inside.opening.ok.0)
