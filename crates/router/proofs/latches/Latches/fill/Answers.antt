use Rattle.std.proofs.Common.{◌≡◌, Some, ap, set, map, ◌∙◌}
use Rattle.flit_buffer.specs.Tries.{flit_in}
use Rattle.router.proofs.Words.{filled_latch, written}
use Rattle.router.proofs.latches.Latches.fill.Goals as goal

pub returns : goal.returns
returns c =
    let words = c.self.inside.words.items in
    ap (map flit_in) (written words c.deref_mut.result.now c.args.input c.args.flit c.deref_mut.ensures.value)
    ∙ filled_latch words c.args.input c.args.flit c.requires.flit ∙ ap (λ l. set l c.args.input (Some c.args.flit)) c.self.view_is
