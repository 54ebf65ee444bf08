use Rattle.std.proofs.Common.{inl, ℕ, List, ◌∙◌, ap}
use Rattle.torusmem_c.specs.Room.{put_as, put_over}
use Rattle.torusmem_c.proofs.networks.torusmem_network_answer.Goals as goal

pub returns-in-Ok : goal.returns-in-Ok
returns-in-Ok c = inl (record {
  said = c.in-Ok.answer;
  is = c.in-Ok.ensures;
  buffer = c.put_as.ensures.buffer ∙ ap (λ (bs : List ℕ). put_over bs c.args.out.now) c.as_slice.ensures.value;
  answer = c.put_as.ensures.value ∙ (λ i. put_as (c.rising_code.ensures i) (c.as_slice.ensures.value i) c.args.out.now);
})
