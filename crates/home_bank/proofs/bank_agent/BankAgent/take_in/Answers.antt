use Rattle.std.proofs.Common.{◌∷◌, ◌++◌, [], sym, ap, ◌∙◌, subst}
use Rattle.packet.specs.declared.kinds.Packet.TheVariants as packet
use Rattle.packet.specs.declared.assembler.Offered.TheVariants.{Whole}
use Rattle.packet.specs.Spelling.{Spells}
use Rattle.packet.proofs.Spelled.{IsSpellable-spelled}
use Rattle.home_bank.specs.Inside.{BeginsAtWord}
use Rattle.home_bank.proofs.RequestWords.{request_word, begun_after}
use Rattle.home_bank.proofs.bank_agent.BankAgent.take_in.Goals as goal

pub invariant_of-self : goal.invariant_of-self
invariant_of-self g c =
    let b = c.self.inside in
    let r = c.in-Whole-Request.request in
    let spelled : Spells (packet.Request r) (b.assembler ++ c.args.flit ∷ []) =
    (c.offer.ensures.whole (packet.Request r)).0 (c.in-Whole-Request.is ∙ ap Whole c.in-Whole-Request.field-0-is) in
    record {
      limits = c.self.invariant.limits;
      inputs = c.self.invariant.inputs;
      outputs = c.self.invariant.outputs;
      begun = subst BeginsAtWord (sym c.offer.ensures.left) (begun_after b.assembler c.args.flit c.offer.result c.self.invariant.begun c.requires);
      waiting = IsSpellable-spelled (packet.Request r) (b.assembler ++ c.args.flit ∷ []) spelled;
      word = request_word b.assembler c.args.flit r c.self.invariant.begun c.requires spelled;
    }
