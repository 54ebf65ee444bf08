use Rattle.std.proofs.Common.{◌≡◌, ◌<◌, true, length, get_or, refl, sym, ◌∙◌, ap, arith}
use Rattle.std.proofs.lemmas.List.{length-set, get_or_read}
use Rattle.std.specs.List.{count_by}
use Rattle.network_judge.specs.declared.table.Kind.TheVariants.{Injection, Hop}
use Rattle.network_judge.specs.Table.{ejects}
use Rattle.network_text.specs.Network.{is_hop, with_kind}
use Rattle.network_text.specs.Reading.{reading_of}
use Rattle.network_text.proofs.Bounds.{product_same}
use Rattle.network_text.proofs.Hops.{same_count, same_columns, same_full, same_replies}
use Rattle.network_text.proofs.reading.Reading.take_inject.Goals as goal

pub returns-clause-read : goal.returns-clause-read
returns-clause-read g c =
    let r = c.args.self.now in
    let x = c.args.channel in
    let low : x < length r.kinds.items = c.in_default.ensures.there in
    let hop : is_hop (get_or r.kinds.items x Hop) ≡ true =
    sym (ap is_hop (get_or_read r.kinds.items x c.index.result.now low c.index.ensures Hop)) ∙ sym c.is_hop.ensures ∙ c.if-not-is_hop.false in
    let size = length-set r.kinds.items x Injection in
    let same = same_count r.kinds.items x low hop in
    record {
      channels = omega (arith, c.requires.channels);
      ejections = c.requires.ejections ∙ sym same;
      few = product_same (length r.kinds.items) _ (count_by ejects r.kinds.items) _ size same c.requires.few;
      given = λ b. let low = c.requires.given b in omega arith;
      full = λ b. same_full r.kinds.items r.joins.items r.choices.items x low hop (c.requires.full b);
      columns = λ b. same_columns r.kinds.items r.columns.items x hop (c.requires.columns b);
      replies = same_replies (reading_of r).table (with_kind (reading_of r) x Injection).table r.replies.items x Injection hop refl c.requires.replies;
      names = c.requires.names;
    }
