use Rattle.std.proofs.Common.{◌≡◌, List, ℕ, Some, true, length, ap, sym, ◌∙◌}
use Rattle.std.specs.Prelude.{nat_eq}
use Rattle.std.specs.List.{starts_with}
use Rattle.std.proofs.lemmas.List.{take_rest}
use Rattle.report_lines.proofs.Words.{behind-true, behind-false}
use Rattle.report_lines.proofs.numbers.behind.Goals as goal

pub returns-then-starts_with : goal.returns-then-starts_with
returns-then-starts_with c =
    let begins : starts_with nat_eq c.args.text.now c.args.word.now ≡ true =
    ap (λ (w : List ℕ). starts_with nat_eq c.args.text.now w) (sym c.as_bytes.ensures.value) ∙ sym c.starts_with.ensures.value ∙ c.if-starts_with.true in
    behind-true c.args.word.now c.args.text.now begins ∙ ap Some (sym (take_rest c.args.text.now (length c.args.word.now)))

pub returns-else-starts_with : goal.returns-else-starts_with
returns-else-starts_with c =
    behind-false c.args.word.now c.args.text.now
    (ap (λ (w : List ℕ). starts_with nat_eq c.args.text.now w) (sym c.as_bytes.ensures.value) ∙ sym c.starts_with.ensures.value ∙ c.if-starts_with.false)
