use Rattle.std.proofs.Common.{◌≡◌, None, ap, set, map, ◌∙◌}
use Rattle.flit_buffer.specs.Tries.{flit_in}
use Rattle.router.proofs.Words.{emptied_latch, written}
use Rattle.router.proofs.latches.Latches.clear.Goals as goal

pub returns : goal.returns
returns c =
    let words = c.self.inside.words.items in
    ap (map flit_in) (written words c.deref_mut.result.now c.args.input 0 c.deref_mut.ensures.value)
    ∙ emptied_latch words c.args.input ∙ ap (λ l. set l c.args.input None) c.self.view_is
