-- An entry that breaks no rule is allowed.
use Rattle.std.proofs.Common.{◌≡◌, ◌%◌, ◌==◌, true, None, length}
use Rattle.std.proofs.lemmas.Bool.{eqb-true, ltb-true, leb-true}
use Rattle.packet.specs.Memory.{reply_of_one}
use Rattle.report_lines.specs.Contents.{is_newer}
use Rattle.report_lines.specs.declared.line.EntryLine.{EntryLine}
use Rattle.report_check.specs.Seen.{Seen, last_bank, entries_at, line_operation}
use Rattle.report_check.specs.Good.{IsNext, IsHome, AllowedEntry}
use Rattle.report_check.specs.declared.rule.Kind.TheVariants as kind
use Rattle.report_check.specs.Broken.{◌<|>◌, place_broken, next_broken, home_broken, reply_broken, entry_broken}
use Rattle.report_check.proofs.RuleTests.{unless_kept, or_kept, last_kept, not_or, reply_true}
use Rattle.report_check.proofs.HeadRules.{place_kept}

next_kept : (s : Seen) (e : EntryLine) → next_broken s e ≡ None → IsNext s e
next_kept s e h =
    let room = last_kept _ _ _ h in
    let tag = last_kept _ _ _ room.0 in
    let source = last_kept _ _ _ tag.0 in
    let place = last_kept _ _ _ source.0 in
    let rises = last_kept _ _ _ place.0 in
    record {
      bank = ltb-true e.bank s.tiles (unless_kept _ _ rises.0);
      rises = leb-true (last_bank s.entries) e.bank rises.1;
      next = eqb-true e.place (length (entries_at s.entries e.bank)) place.1;
      source = ltb-true e.source s.tiles source.1;
      tag = ltb-true e.tag 16 tag.1;
      room = ltb-true (length s.entries) 65536 room.1;
    }

-- what the address and the operation keep
record Homed (s : Seen) (e : EntryLine) : Type 0 where
  home : IsHome s e
  version : is_newer e.op ≡ true → s.version ≡ 2

home_kept : (s : Seen) (e : EntryLine) → home_broken s e ≡ None → Homed s e
home_kept s e h =
    let version = last_kept _ _ _ h in
    let home = last_kept _ _ _ version.0 in
    record {
      home = record {
        inside = ltb-true e.address s.words (unless_kept _ _ home.0);
        home = eqb-true (e.address % s.tiles) e.bank home.1;
      };
      version = λ newer. eqb-true s.version 2 (not_or (is_newer e.op) (s.version == 2) version.1 newer);
    }

pub entry_kept : (s : Seen) (e : EntryLine) → entry_broken s e ≡ None → AllowedEntry s e
entry_kept s e h =
    let reply = or_kept (place_broken s.section 4 kind.Entry <|> next_broken s e <|> home_broken s e) (reply_broken s e) h in
    let home = or_kept (place_broken s.section 4 kind.Entry <|> next_broken s e) (home_broken s e) reply.0 in
    let next = or_kept (place_broken s.section 4 kind.Entry) (next_broken s e) home.0 in
    let homed = home_kept s e home.1 in
    record {
      section = place_kept s 4 kind.Entry next.0;
      next = next_kept s e next.1;
      home = homed.home;
      version = homed.version;
      reply = reply_true e.reply (reply_of_one (line_operation e) s.memory) (unless_kept _ _ reply.1);
    }
