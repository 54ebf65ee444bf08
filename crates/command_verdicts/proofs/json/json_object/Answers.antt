-- The parts of the object, one after the other.
use Rattle.std.proofs.Common.{ℕ, List, ◌++◌, ap, ◌∙◌}
use Rattle.std.specs.Prelude.{codes}
use Rattle.std.specs.Str.Lines.{lines}
use Rattle.command_verdicts.specs.Json.{json_string, json_strings, verdict_word}
use Rattle.command_verdicts.proofs.Strings.{five}
use Rattle.command_verdicts.proofs.json.json_object.Goals as goal

pub returns : goal.returns
returns g c =
    five (codes "{\"command\": " ++ json_string c.args.command.now) (codes ", \"verdict\": " ++ json_string (verdict_word c.args.verdict))
    (codes ", \"lines\": [") (json_strings (lines c.args.text.now)) (codes "]}\n") _ _ _ _ _
    (c.in_ok-put_behind.ensures
    ∙ (ap (λ (o : List ℕ). o ++ (codes "{\"command\": " ++ json_string c.as_bytes.result.now)) c.new-json.ensures.items
    ∙ ap (λ (line : List ℕ). codes "{\"command\": " ++ json_string line) c.as_bytes.ensures.value))
    (c.in_ok-put_behind-2.ensures
    ∙ ap (λ (line : List ℕ). c.put_behind.new.json.items ++ (codes ", \"verdict\": " ++ json_string line))
    (c.as_bytes-2.ensures.value ∙ c.verdict_word.ensures))
    c.in_ok-extend_from_slice.ensures.items c.in_ok-put_strings.ensures c.in_ok-extend_from_slice-2.ensures.items
