-- The text that is said is what goes into the buffer, and what is found of the outcomes is told.
use Rattle.std.proofs.Common.{inl, ℕ, List, length, ◌∙◌, ap}
use Rattle.torusmem_c.specs.Room.{put_code, put_over}
use Rattle.torusmem_c.specs.Searches.{searched_record}
use Rattle.torusmem_c.proofs.searches.torusmem_outcomes.Goals as goal

pub returns-in-Ok : goal.returns-in-Ok
returns-in-Ok c =
    let text = c.as_slice-text.ensures.value in
    let code = c.put_code-code.ensures.value ∙ (λ i. put_code (c.outcomes_code.ensures i) (text i) c.args.out.now) in
    inl
    (record {
      said = c.in-Ok.said;
      is = c.in-Ok.ensures.said;
      buffer = c.put_code-code.ensures.buffer ∙ ap (λ (xs : List ℕ). put_over xs c.args.out.now) text;
      answer = c.searched_record.ensures ∙ (λ i. searched_record (code i) (c.found_in.ensures i) (length (text i)));
    })
