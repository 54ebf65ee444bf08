use Rattle.std.proofs.Common.{inl, ℕ, List, ◌∙◌, ap}
use Rattle.torusmem_c.specs.Room.{put_outcome, put_over}
use Rattle.torusmem_c.proofs.watch_saving.put_saved.Goals as goal

pub returns-in-Ok : goal.returns-in-Ok
returns-in-Ok c = inl (record {
  bytes = c.in-Ok.bytes.items;
  saved = c.in-Ok.ensures;
  buffer = c.put_over.ensures.buffer ∙ ap (λ (bs : List ℕ). put_over bs c.args.out.now) c.as_slice.ensures.value;
  answer = c.put_over.ensures.value ∙ ap (λ (bs : List ℕ). put_outcome bs c.args.out.now) c.as_slice.ensures.value;
})
