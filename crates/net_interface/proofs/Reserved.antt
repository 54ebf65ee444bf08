-- A record with more room, and with a line at the end of its script.
use Rattle.std.proofs.Common.{◌≡◌, ℕ, true, ◌+◌, ◌<◌, ◌≤◌, List, [], ◌∷◌, ◌++◌, length, Option, sym, ap, subst, arith, refl, ◌∙◌}
use Rattle.std.specs.Prelude.{vec_capacity}
use Rattle.torus.specs.declared.step.OpId.{OpId}
use Rattle.packet.specs.declared.kinds.Operation.{Operation}
use Rattle.script_lines.specs.declared.line.Line.{Line}
use Rattle.script_lines.specs.declared.line.Line.TheVariants.{Spin}
use Rattle.script_lines.specs.Lines.{operation_count, operations_of, mentions_last}
use Rattle.one_order.specs.declared.answer.Answer.{Answer}
use Rattle.one_order.specs.Following.{Following, first_of, left_of, follower_with}
use Rattle.one_order.specs.ProcessorRecord.{ProcessorRecord, record_with}
use Rattle.one_order.proofs.Grown.{left_with}
use Rattle.one_order.proofs.Places.{count_past_fences}
use Rattle.net_interface.specs.Inside.{record_of, AreOperationsOf, IsRecord}
use Rattle.net_interface.specs.declared.record.Record.TheInside as in_record
use Rattle.net_interface.proofs.Recorded.{after_line}

-- what is left at the start is what the script can make
left_start : (lines : List Line) → left_of (first_of lines) ≡ operation_count lines
unfolding left_of first_of
left_start lines = let same = count_past_fences lines in omega (arith, same)

pub left_first : (lines : List Line) (f : Following) → f ≡ first_of lines → left_of f ≡ operation_count lines
left_first lines f e = ap left_of e ∙ left_start lines

-- a record, said of its parts
parts : (b : ProcessorRecord) (f : Following) (tags : List (Option OpId)) (issued : List Operation) (answers : List Answer) → f ≡ b.following → tags ≡ b.tags
    → issued ≡ b.issued → answers ≡ b.answers
    → ◌≡◌ {A = ProcessorRecord} (record { following = f; tags = tags; issued = issued; answers = answers }) b
parts b f tags issued answers e t i a = rw (e, t, i, a) refl

module _ {A : Type 0} (r s : in_record.Inside A) (is : IsRecord r) (tags : s.tags ≡ r.tags) (issued : s.issued.items ≡ r.issued.items)
    (answers : s.answers.items ≡ r.answers.items) where
  pub kept : s.follower ≡ r.follower → vec_capacity r.issued ≤ vec_capacity s.issued → vec_capacity r.answers ≤ vec_capacity s.answers → IsRecord s
  kept following more more_answers = record {
    lines = is.lines;
    past = is.past;
    now = is.now;
    operations = subst (λ (b : ProcessorRecord). AreOperationsOf is.lines is.past is.now b)
        (sym (parts (record_of r) s.follower s.tags s.issued.items s.answers.items following tags issued answers)) is.operations;
    issued_room = let room = is.issued_room in let n = ap length issued in let k = ap left_of following in omega (arith, room, n, k, more);
    answers_room = let room = is.answers_room in let n = ap length issued in let k = ap left_of following in omega (arith, room, n, k, more_answers);
  }

  module _ (line : Line) (following : s.follower ≡ follower_with line r.follower) where
    pub line_kept : ((a v m : ℕ) → line ≡ Spin a v m → 0 < m) → (mentions_last line ≡ true → 0 < length r.issued.items + left_of r.follower)
        → length r.issued.items + left_of r.follower + operations_of line ≤ vec_capacity s.issued
        → length r.issued.items + left_of r.follower + operations_of line ≤ vec_capacity s.answers → IsRecord s
    line_kept some last enough enough_answers = record {
      lines = is.lines ++ line ∷ [];
      past = is.past;
      now = is.now;
      operations = subst (λ (b : ProcessorRecord). AreOperationsOf (is.lines ++ line ∷ []) is.past is.now b)
          (sym (parts (record_with line (record_of r)) s.follower s.tags s.issued.items s.answers.items following tags issued answers))
          (after_line is.lines is.past is.now (record_of r) is.operations line some last);
      issued_room = let n = ap length issued in let k = ap left_of following in let l = left_with r.follower line in omega (arith, n, k, l, enough);
      answers_room = let n = ap length issued in let k = ap left_of following in let l = left_with r.follower line in omega (arith, n, k, l, enough_answers);
    }

    pub line_shows : record_of s ≡ record_with line (record_of r)
    line_shows = parts (record_with line (record_of r)) s.follower s.tags s.issued.items s.answers.items following tags issued answers
