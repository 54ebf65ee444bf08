use Rattle.std.proofs.Common.{◌≡◌, length, replicate, ap, sym, ◌∙◌, arith, rules}
use Rattle.std.specs.List.{count_by}
use Rattle.std.proofs.lemmas.Bool.Decides.{nat_tests}
use Rattle.network_judge.specs.declared.table.Kind.TheVariants.{Hop}
use Rattle.network_judge.specs.Table.{ejects}
use Rattle.network_text.proofs.Bounds.{product_none}
use Rattle.network_text.proofs.Fresh.{no_replies, no_ejections, hops_alone}
use Rattle.network_text.proofs.reading.Reading.take_channels.Goals as goal

pub returns-clause-read : goal.returns-clause-read
returns-clause-read g c =
    let r = c.args.self.now in
    let empty : length r.kinds.items ≡ 0 = grind (arith, nat_tests, c.if-not-is_empty.ensures) in
    let hops : c.in_ok-self.field-0.items ≡ replicate c.args.count Hop = search rules in
    let none : count_by ejects r.kinds.items ≡ 0 = no_ejections r.kinds.items empty in
    let new : count_by ejects c.in_ok-self.field-0.items ≡ 0 = ap (count_by ejects) hops ∙ hops_alone c.args.count in
    record {
      channels = omega (arith, c.in_ok-self.ensures.len);
      ejections = c.requires.ejections ∙ none ∙ sym new;
      few = product_none (length c.in_ok-self.field-0.items) (count_by ejects c.in_ok-self.field-0.items) new;
      given = λ b. (let low = c.requires.given b in absurd (omega arith));
      full = λ b. (let low = c.requires.given b in absurd (omega arith));
      columns = λ b. (let low = c.requires.given b in absurd (omega arith));
      replies = no_replies r.kinds.items c.in_ok-self.field-0.items r.joins.items r.choices.items r.replies.items empty c.requires.replies;
      names = c.requires.names;
    }
