use Rattle.std.proofs.Common.{◌≡◌, ◌+◌, ◌<◌, true, length, get_or, refl, sym, ◌∙◌, ap, arith}
use Rattle.std.proofs.lemmas.List.{length-set, get_or_read}
use Rattle.network_judge.specs.declared.table.Kind.TheVariants.{Ejection, Hop}
use Rattle.network_text.specs.Network.{is_hop, with_kind}
use Rattle.network_text.specs.Reading.{reading_of}
use Rattle.network_text.proofs.Bounds.{product_same}
use Rattle.network_text.proofs.Hops.{one_more, same_replies}
use Rattle.network_text.proofs.reading.Reading.take_eject.Goals as goal

pub returns-clause-read : goal.returns-clause-read
returns-clause-read g c =
    let r = c.args.self.now in
    let x = c.args.channel in
    let low : x < length r.kinds.items = c.in_default.ensures.there in
    let hop : is_hop (get_or r.kinds.items x Hop) ≡ true =
    sym (ap is_hop (get_or_read r.kinds.items x c.index.result.now low c.index.ensures Hop)) ∙ sym c.is_hop.ensures ∙ c.if-not-is_hop.false in
    let size = length-set r.kinds.items x Ejection in
    let more = one_more r.kinds.items x low hop in
    let count = c.requires.ejections in
    record {
      channels = omega (arith, c.requires.channels);
      ejections = omega arith;
      few = product_same c.len.result _ (r.ejections + 1) _ (omega (arith, size, c.len.ensures)) (omega arith) (omega (arith, c.if-len-self-gt-MOST_CHOICES.false));
      given = λ b. let no = c.if-self.false in absurd (cc);
      full = λ b. let no = c.if-self.false in absurd (cc);
      columns = λ b. let no = c.if-self.false in absurd (cc);
      replies = same_replies (reading_of r).table (with_kind (reading_of r) x Ejection).table r.replies.items x Ejection hop refl c.requires.replies;
      names = c.requires.names;
    }
