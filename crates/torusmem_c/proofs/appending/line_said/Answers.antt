use Rattle.std.proofs.Common.{◌≡◌, Bool, ◌∙◌, ap}
use Rattle.script_lines.specs.declared.line.Value.{Value}
use Rattle.torusmem_c.specs.Appending.{is_first_last, is_second_last, numbered_line, c_value}
use Rattle.torusmem_c.proofs.appending.line_said.Goals as goal

pub returns : goal.returns
returns c =
    let one : c.value_of-one.result ≡ c_value (is_first_last c.args.lasts) c.args.first =
    c.value_of-one.ensures ∙ ap (λ (b : Bool). c_value b c.args.first) c.is_first_last.ensures in
    let two : c.value_of-two.result ≡ c_value (is_second_last c.args.lasts) c.args.second =
    c.value_of-two.ensures ∙ ap (λ (b : Bool). c_value b c.args.second) c.is_second_last.ensures in
    c.line_of.ensures ∙ (λ i. numbered_line c.args.number c.args.address (one i) (two i) c.args.first c.args.second)
