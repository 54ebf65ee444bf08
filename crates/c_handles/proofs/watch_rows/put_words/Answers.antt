use Rattle.std.proofs.Common.{◌<◌, List, length, ◌++◌, Some, sym, ◌∙◌, ap, arith}
use Rattle.std.proofs.lemmas.Option.{slice_get-get_or}
use Rattle.trace_watch.specs.States.{Config, configs_of}
use Rattle.c_handles.specs.WatchRows.{word_rows}
use Rattle.c_handles.proofs.WatchPut.{put_said}
use Rattle.c_handles.proofs.watch_rows.put_words.Goals as goal

pub loop-i-preserved : goal.loop-i-preserved
loop-i-preserved g c =
    let l : c.loop-i.i < length c.args.words.now = omega arith in
    put_said word_rows (λ v. configs_of v.items) c.args.words.now c.loop-i.i c.index-words-i.result c.args.rows.now.items c.loop-i.rows.items
    c.put_word.new.rows.items (slice_get-get_or c.args.words.now c.loop-i.i c.index-words-i.result l ∙ ap Some (sym c.index-words-i.is))
    c.loop-i.invariant
    (c.in_ok-put_word.ensures ∙ ap (λ (cs : List Config). c.loop-i.rows.items ++ word_rows cs) (ap configs_of c.deref.ensures.value))
