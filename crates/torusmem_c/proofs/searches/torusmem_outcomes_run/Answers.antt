-- The text that is said is what goes into the buffer, with the code of how the search ended.
use Rattle.std.proofs.Common.{inl, ℕ, List, ◌∙◌, ap}
use Rattle.torusmem_c.specs.Room.{put_as, put_over}
use Rattle.torusmem_c.proofs.searches.torusmem_outcomes_run.Goals as goal

pub returns-in-Ok : goal.returns-in-Ok
returns-in-Ok c = inl (record {
  said = c.in-Ok.said;
  is = c.in-Ok.ensures.said;
  buffer = c.put_as.ensures.buffer ∙ ap (λ (xs : List ℕ). put_over xs c.args.out.now) c.as_slice.ensures.value;
  answer = c.put_as.ensures.value ∙ (λ i. put_as (c.outcomes_code.ensures i) (c.as_slice.ensures.value i) c.args.out.now);
})
