use Rattle.std.proofs.Common.{◌≡◌, ◌++◌, ◌∷◌, [], sym, ◌∙◌, subst, rules}
use Rattle.std.specs.Prelude.{slice_get}
use Rattle.network_judge.specs.Replies.{AreReplies}
use Rattle.network_text.specs.Reading.{reading_of}
use Rattle.network_text.proofs.Added.{added, ejects_there, injects_there}
use Rattle.network_text.proofs.reading.Reading.take_reply.Goals as goal

pub returns-clause-read : goal.returns-clause-read
returns-clause-read g c =
    let r = c.args.self.now in
    let pushed : c.push.new.self.items ≡ r.replies.items ++ record { from = c.args.from; to = c.args.to } ∷ [] = search rules in
    record {
      channels = c.requires.channels;
      ejections = c.requires.ejections;
      few = c.requires.few;
      given = c.requires.given;
      full = c.requires.full;
      columns = c.requires.columns;
      replies = subst (AreReplies (reading_of r).table) (sym pushed)
          (added (reading_of r).table r.replies.items c.args.from c.args.to
          (ejects_there (slice_get r.kinds.items c.args.from) (sym c.ejects.ensures ∙ c.if-not-ejects.false))
          (injects_there (slice_get r.kinds.items c.args.to) (sym c.injects.ensures ∙ c.if-not-injects.false)) c.requires.replies);
      names = c.requires.names;
    }
