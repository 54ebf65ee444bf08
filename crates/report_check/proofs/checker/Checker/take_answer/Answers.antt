use Rattle.std.proofs.Common.{◌≡◌, ◌+◌, ◌<◌, ◌∙◌, None, length, arith, sym, ap, refl}
use Rattle.std.proofs.lemmas.Option.{slice_get_within}
use Rattle.report_check.specs.Good.{AllowedAnswer}
use Rattle.report_check.specs.Seen.{key_of, entries_at}
use Rattle.report_check.specs.Broken.{answer_broken}
use Rattle.report_check.specs.Shows.{bank_of}
use Rattle.report_check.proofs.AnswerRules.{answer_kept}
use Rattle.report_check.proofs.Banks.{answer_shown}
use Rattle.report_check.proofs.Pushes.{above_map_push}
use Rattle.report_check.proofs.checker.Checker.take_answer.Goals as goal

pub returns : goal.returns
returns g c s shows =
    let none : answer_broken s c.args.answer.now ≡ None = cc (c.answer_broken.ensures s shows) in
    let allowed : AllowedAnswer s c.args.answer.now = answer_kept s c.args.answer.now none in
    let there = slice_get_within (entries_at s.entries c.args.answer.now.bank) c.args.answer.now.place allowed.names.entry allowed.names.there in
    let inside : c.args.answer.now.place < length (bank_of c.args.self.now.banks.items c.args.answer.now.bank) =
    omega (arith, there, shows.entries.sized c.args.answer.now.bank) in (
      none,
      record {
        section = refl;
        version = shows.version;
        tiles = shows.tiles;
        words = shows.words;
        memory = shows.memory;
        next_init = shows.next_init;
        entries = answer_shown _ _ _ _ _ _ _ c.args.answer.now shows.entries inside (c.mark_answered.ensures.here inside) c.mark_answered.ensures.others;
        next_answer = ap (λ n. n + 1) c.key_of.ensures.value ∙ sym (above_map_push key_of s.answers c.args.answer.now);
        next_word = shows.next_word;
        orders = shows.orders;
        unanswered = λ is. absurd (omega (arith, is));
        told = λ is. cc;
      },
    )
