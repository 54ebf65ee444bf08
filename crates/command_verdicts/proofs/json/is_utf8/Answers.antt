-- The reader of strings takes UTF-8 alone.
use Rattle.std.proofs.Common.{sym}
use Rattle.std.proofs.lemmas.Str.{is_utf8-from_IsUtf8}
use Rattle.command_verdicts.proofs.Strings.{is_no_utf8}
use Rattle.command_verdicts.proofs.json.is_utf8.Goals as goal

pub returns-in-Ok : goal.returns-in-Ok
returns-in-Ok c = sym (is_utf8-from_IsUtf8 c.args.bytes.now c.in-Ok.ensures.cases.1)

pub returns-in-Err : goal.returns-in-Err
returns-in-Err c = is_no_utf8 c.args.bytes.now c.in-Err.ensures.cases.0
