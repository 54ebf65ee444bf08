use Rattle.std.proofs.Common.{refl}
use Rattle.report_check.proofs.Blank.{get_or-blank}
use Rattle.report_check.proofs.making.shaped.Goals as goal

pub returns : goal.returns
returns g c = record {
  section = refl;
  version = refl;
  tiles = refl;
  words = refl;
  memory = c.in_ok-zeros.ensures;
  next_init = refl;
  entries = record {
    last_bank = refl;
    count_is = refl;
    newer_is = refl;
    sized = λ bank. rw (c.in_ok-banks.ensures.empty bank);
    each = λ bank place. rw (c.in_ok-banks.ensures.empty bank);
  };
  next_answer = refl;
  next_word = refl;
  orders = record {
    next_is = refl;
    at_bank = λ bank. rw c.in_ok-zeros-2.ensures (get_or-blank _ bank 0);
    named = λ event low. c.in_ok-no_events.ensures.blank event;
  };
  unanswered = λ is. refl;
  told = λ is. cc;
}
