-- A line that is refused ends the watch.
use Rattle.std.proofs.Common.{◌≡◌, ◌∙◌, ap, sym, inl, inr, ℕ, List, map, take}
use Rattle.std.proofs.lemmas.Result.{err_from_is_err_and}
use Rattle.command_watch.specs.Stream.{after_stream_line}
use Rattle.command_watch.specs.Views.{stream_of}
use Rattle.command_watch.proofs.Refusing.{refused_line}
use Rattle.command_watch.proofs.watching.Watching.take_line.Goals as goal

pub returns-in_err-take : goal.returns-in_err-take
returns-in_err-take g c =
    let p = err_from_is_err_and c.from_residual.result c.from_residual.ensures.1 in
    rw (p.1, p.2) (refused_line _ _ c.args.bound (stream_of c.take.new.self) c.args.self.now.watch c.args.self.now.watch
    c.in_err-take.field-0.0 (elim c.in_err-take.ensures [
      | inl memory ↦ inl memory
      | inr bad ↦ inr (ap (λ (words : List (List ℕ)). after_stream_line (stream_of c.args.self.now.reading) c.args.number words)
          (sym c.first_words-count.ensures.words) ∙ bad)
    ]))
