use Rattle.std.proofs.Common.{◌∙◌, ap, ◌++◌}
use Rattle.network_answer.proofs.Sized.{three_parts}
use Rattle.network_answer.proofs.jam.judged_text.Goals as goal

pub returns : goal.returns
returns g c = record {
  jammed = c.in_ok-text.text.items;
  first = c.in_ok-text.ensures;
  sized = c.in_ok-sized.sized.items;
  lengths = c.in_ok-sized.ensures;
  last = c.in_ok-last.last.items;
  totals = c.in_ok-last.ensures;
  is = three_parts c.in_ok-text.text.items c.in_ok-sized.sized.items c.in_ok-last.last.items c.extend_from_slice.new.self.items
      c.extend_from_slice-2.new.self.items
      (c.in_ok-extend_from_slice.ensures.items ∙ ap (λ s. c.in_ok-text.text.items ++ s) c.deref.ensures.value)
      (c.in_ok-extend_from_slice-2.ensures.items ∙ ap (λ s. c.extend_from_slice.new.self.items ++ s) c.deref-2.ensures.value);
}
