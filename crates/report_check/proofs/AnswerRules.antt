-- An answer that breaks no rule is allowed.
use Rattle.std.proofs.Common.{◌≡◌, Option, Some, None, map, refl, sym}
use Rattle.std.specs.Prelude.{slice_get}
use Rattle.std.proofs.lemmas.Bool.{eqb-true, ltb-true, leb-true}
use Rattle.std.proofs.lemmas.Option.{none-some}
use Rattle.report_lines.specs.declared.line.EntryLine.{EntryLine}
use Rattle.report_lines.specs.declared.line.AnswerLine.{AnswerLine}
use Rattle.report_check.specs.Seen.{Seen, above_last, entries_at, is_answered, key_of}
use Rattle.report_check.specs.Good.{NamesUnansweredEntry, AllowedAnswer}
use Rattle.report_check.specs.declared.rule.Kind.TheVariants as kind
use Rattle.report_check.specs.Broken.{named_broken, answer_broken}
use Rattle.report_check.proofs.RuleTests.{unless_kept, or_kept, last_kept, not_true, reply_true}
use Rattle.report_check.proofs.HeadRules.{behind_kept}

named_kept : (s : Seen) (a : AnswerLine) (found : Option EntryLine) → slice_get (entries_at s.entries a.bank) a.place ≡ found → named_broken s a found ≡ None
    → NamesUnansweredEntry s a
named_kept s a None is h = absurd (none-some _ (sym h))
named_kept s a (Some e) is h =
    let once = last_kept _ _ _ h in
    let reply = last_kept _ _ _ once.0 in
    record {
      entry = e;
      there = is;
      source = eqb-true e.source a.processor (unless_kept _ _ reply.0);
      reply = reply_true e.reply a.reply reply.1;
      once = not_true (is_answered s.answers a.bank a.place) once.1;
    }

pub answer_kept : (s : Seen) (a : AnswerLine) → answer_broken s a ≡ None → AllowedAnswer s a
answer_kept s a h =
    let named = or_kept _ (named_broken s a (slice_get (entries_at s.entries a.bank) a.place)) h in
    let rises = last_kept _ _ _ named.0 in
    let index = last_kept _ _ _ rises.0 in
    record {
      section = behind_kept s 5 kind.Answer index.0;
      index = ltb-true a.index 4096 index.1;
      rises = leb-true (above_last (map key_of s.answers)) (key_of a) rises.1;
      names = named_kept s a (slice_get (entries_at s.entries a.bank) a.place) refl named.1;
    }
