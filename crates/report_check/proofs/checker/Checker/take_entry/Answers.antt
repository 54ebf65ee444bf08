use Rattle.std.proofs.Common.{Bool, ◌||◌, ◌≡◌, ◌∙◌, None, arith, ap, refl, ℕ, List, ◌<◌, vec_len, slice_index, slice_set}
use Rattle.packet.specs.Memory.{new_word}
use Rattle.report_lines.specs.declared.line.EntryLine.{EntryLine}
use Rattle.report_check.specs.Good.{AllowedEntry}
use Rattle.report_check.specs.Broken.{entry_broken}
use Rattle.report_check.proofs.EntryRules.{entry_kept}
use Rattle.report_check.proofs.Banks.{entry_shown}
use Rattle.report_check.proofs.checker.Checker.take_entry.Goals as goal

pub returns : goal.returns
returns g c s shows =
    let e : EntryLine = c.args.entry.now in
    let none : entry_broken s e ≡ None = cc (c.entry_broken.ensures s shows) in
    let allowed : AllowedEntry s e = entry_kept s e none in
    let inside : e.bank < vec_len c.args.self.now.banks = omega (arith, allowed.next.bank, shows.tiles, c.args.self.now.banks_sized) in
    let word : c.word_at.result ≡ slice_index s.memory e.address = c.word_at.ensures ∙ ap (λ (m : List ℕ). slice_index m e.address) shows.memory in
    let value : c.apply-word.result.0 ≡ new_word e.op (slice_index s.memory e.address) = ap (λ p. p.0) c.apply-word.ensures ∙ ap (new_word e.op) word in (
      none,
      record {
        section = refl;
        version = shows.version;
        tiles = shows.tiles;
        words = shows.words;
        memory = c.write_at.ensures.written
            ∙ ap (λ (v : ℕ). slice_set c.args.self.now.memory.items e.address v) value
            ∙ ap (λ (m : List ℕ). slice_set m e.address (new_word e.op (slice_index s.memory e.address))) shows.memory;
        next_init = shows.next_init;
        entries = entry_shown _ _ _ _ _ _ _ e _ _ (omega (arith, shows.entries.count_is, allowed.next.room)) (ap (λ (b : Bool). c.args.self.now.has_newer || b) c.is_newer.ensures) shows.entries
            (shows.unanswered allowed.section.early) allowed.next.next (c.in_ok-push_served.ensures.here inside) c.in_ok-push_served.ensures.others;
        next_answer = shows.next_answer;
        next_word = shows.next_word;
        orders = shows.orders;
        unanswered = λ _. shows.unanswered allowed.section.early;
        told = λ is. cc;
      },
    )
