use Rattle.std.proofs.Common.{◌≡◌, ◌∙◌, sym, ap, Some, None, ℕ, slice_get, slice_set}
use Rattle.std.specs.Prelude.{Option}
use Rattle.sentences.proofs.Noted.{noted, not_noted, not_there}
use Rattle.sentences.proofs.replies.note.Goals as goal

pub returns-in-Some-None : goal.returns-in-Some-None
returns-in-Some-None c = λ before count is.
    let free : slice_get c.args.replies.now c.args.answer.index ≡ Some None =
    sym c.noted_at.ensures ∙ (c.in-Some-None.is ∙ ap (λ (o : Option ℕ). Some o) c.in-Some-None.field-0-is) in
    ap (λ (n : ℕ). slice_set c.args.replies.now c.args.answer.index (Some n)) c.reply_number.ensures
    ∙ noted before c.args.answer count c.args.replies.now is free

pub returns-in-Some-Some : goal.returns-in-Some-Some
returns-in-Some-Some c = λ before count is.
    let taken : slice_get c.args.replies.now c.args.answer.index ≡ Some (Some c.in-Some-Some._reply) =
    sym c.noted_at.ensures ∙ (c.in-Some-Some.is ∙ ap (λ (o : Option ℕ). Some o) c.in-Some-Some.field-0-is) in
    not_noted before c.args.answer count c.in-Some-Some._reply c.args.replies.now is taken

pub returns-in-None : goal.returns-in-None
returns-in-None c = λ before count is.
    let out : slice_get c.args.replies.now c.args.answer.index ≡ None = sym c.noted_at.ensures ∙ c.in-None.is in
    not_there before c.args.answer count c.args.replies.now is out
