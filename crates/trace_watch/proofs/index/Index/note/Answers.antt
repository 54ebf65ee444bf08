use Rattle.std.proofs.Common.{◌≡◌, Some, length, refl, arith, slice_get}
use Rattle.std.proofs.lemmas.Option.{slice_get_read}
use Rattle.trace_watch.proofs.Chains.{chained_there}
use Rattle.trace_watch.proofs.index.Index.note.Goals as goal

pub returns-clause-chained : goal.returns-clause-chained
returns-clause-chained g c = λ found d p are here.
    let there : slice_get c.args.self.now.heads.items c.args.place ≡ Some c.index.result.now =
    slice_get_read c.args.self.now.heads.items (length c.args.self.now.heads.items) c.args.place c.index.result.now
    refl c.requires c.index.ensures in
    let sized = c.push.new.self.ok.0 in
    let counted = c.len.ensures in
    chained_there c.args.self.now.heads.items c.args.self.now.links.items found d c.args.place c.len.result
    c.index.result.now c.push.new.self.items c.requires p there c.in_ok-push.ensures.items (omega arith) here are
