-- What an answer keeps true.
use Rattle.std.proofs.Common.{◌≡◌, ◌≢◌, ⊎_elim, ℕ, ◌<◌, ◌+◌, false, List, [], ◌∷◌, ◌++◌, length, Some, None, refl, sym, ◌∙◌}
use Rattle.std.proofs.Common.{ap, subst, arith, slice_get}
use Rattle.std.specs.Prelude.{Option, option_map, slice_set, is_some, Ok}
use Rattle.std.proofs.lemmas.Bool.{cases_eq}
use Rattle.std.proofs.lemmas.List.{length-set}
use Rattle.packet.specs.declared.kinds.Reply.{Reply}
use Rattle.packet.specs.Kinds.{code_of}
use Rattle.trace_laws.specs.declared.event.Event.TheVariants.{Answer}
use Rattle.trace_laws.specs.Traces.{TraceAnswersAt}
use Rattle.trace_laws.proofs.Lists.{get_within, get_set_same, set_get_same, get_set_other}
use Rattle.trace_lines.specs.Form.{reply_read, unwanted_reply}
use Rattle.trace_lines.specs.Reasons.{map_err}
use Rattle.trace_text.specs.declared.issued.Issued.{Issued}
use Rattle.trace_text.specs.declared.reason.TraceReason.TheVariants as reason
use Rattle.trace_text.specs.IssueNumbers.{numbers_of}
use Rattle.trace_text.specs.Kept.{IsKeptIssue, IsKnownAs, AreIndexed}
use Rattle.trace_text.specs.Traced.{TraceReading, with_event, if_issued, answer_of_index}
use Rattle.trace_text.proofs.Growing.{longer, issued_before, answered_with, was_issued, issued_later, answer_grows}
use Rattle.trace_text.proofs.Outcomes.{one_ok, bind_ok, else_ok, unless_ok, or_ok}

-- operations are found by processor and index once one has its reply
answer_indexed : (numbers : List (List ℕ)) (issued : List Issued) → AreIndexed numbers issued → (n : ℕ) (i : Issued) → slice_get issued n ≡ Some i
    → (reply : Reply) → AreIndexed numbers (slice_set issued n (record i { reply = Some reply }))
answer_indexed numbers issued found n i at reply m j h =
    let told : Issued = record i { reply = Some reply } in
    ⊎_elim {C = slice_get (numbers_of numbers j.processor) j.index ≡ Some m}
    (λ (here : m ≡ n).
    let is : j ≡ told = get_set_same issued n i told j at (ap (slice_get (slice_set issued n told)) (sym here) ∙ h) in
    ap (λ (u : Issued). slice_get (numbers_of numbers u.processor) u.index) is ∙ (found n i at ∙ ap (λ (q : ℕ). Some q) (sym here)))
    (λ (other : m ≢ n). found m j (sym (get_set_other issued n m told other) ∙ h))
    (cases_eq m n)

-- a new answer
answer_kept : (r : TraceReading) → IsKeptIssue r → (line n : ℕ) (i : Issued) → slice_get r.issued n ≡ Some i → i.reply ≡ None → (reply : Reply)
    → IsKeptIssue (with_event (record r { issued = slice_set r.issued n (record i { reply = Some reply }) }) line (Answer n reply))
answer_kept r k line n i at none reply =
    let told : Issued = record i { reply = Some reply } in
    let other : (m : ℕ) → m ≢ n → slice_get (slice_set r.issued n told) m ≡ slice_get r.issued m =
    λ m ne. get_set_other r.issued n m told ne in
    let new : (j id : ℕ) (s : Reply) → TraceAnswersAt r.events j id s → id ≢ n = λ j id s old e.
    let b = k.replied j id s old in
    let there : slice_get r.issued n ≡ Some b.0 = ap (slice_get r.issued) (sym e) ∙ b.1 in
    let same : i ≡ b.0 = cc in
    let wrong : None ≡ Some s = sym none ∙ (ap (λ (x : Issued). x.reply) same ∙ b.2) in
    cc in
    record {
      words = k.words;
      processors = k.processors;
      opened = k.opened;
      trace = answer_grows r.head.words r.events n reply k.trace (k.issued n (get_within r.issued n i at)) (λ j s old. new j n s old refl);
      lines = longer r.lines line ∙ (ap (λ l. l + 1) k.lines ∙ sym (longer r.events (Answer n reply)));
      known = λ j c h.
          let named = k.known j c (issued_before r.events n reply j c h) in
          ⊎_elim {C = IsKnownAs (slice_set r.issued n told) c}
          (λ (e : c.id ≡ n).
          let there : slice_get r.issued n ≡ Some named.0 = ap (slice_get r.issued) (sym e) ∙ named.1 in
          let same : i ≡ named.0 = cc in
          (told, ap (slice_get (slice_set r.issued n told)) e ∙ set_get_same r.issued n i told at, ap (λ (x : Issued). x.operation) same ∙ named.2))
          (λ (ne : c.id ≢ n). (named.0, other c.id ne ∙ named.1, named.2))
          (cases_eq c.id n);
      issued = λ m l.
          let low : m < length r.issued = omega (arith, length-set r.issued n told) in
          issued_later (r.events ++ Answer n reply ∷ []) (length r.events) (length (r.events ++ Answer n reply ∷ [])) m
          (let g = longer r.events (Answer n reply) in omega arith)
          (was_issued r.events (Answer n reply) (length r.events) m (k.issued m low));
      replied = λ j id s h. ⊎_elim
          (λ old. let b = k.replied j id s old in (b.0, other id (new j id s old) ∙ b.1, b.2))
          (λ last.
          (told, ap (slice_get (slice_set r.issued n told)) (sym last.1) ∙ set_get_same r.issued n i told at, ap (λ (x : Reply). Some x) last.2))
          (answered_with r.events n reply j id s h);
      indexed = answer_indexed r.numbers r.issued k.indexed n i at reply;
      placed = λ j c h. k.placed j c (issued_before r.events n reply j c h);
      addressed = k.addressed;
      below = k.below;
    }

none_is : (o : Option Reply) → is_some o ≡ false → o ≡ None
none_is (Some q) h = absurd (cc)
none_is None h = refl

pub answer_of_index_kept : (r next : TraceReading) → IsKeptIssue r → (line p index : ℕ) (told : Option ℕ)
    → answer_of_index r line p index told ≡ Ok next → IsKeptIssue next
answer_of_index_kept r next k line p index told h =
    let n = bind_ok (if_issued r p (slice_get (numbers_of r.numbers p) index)) _ next h in
    let i = bind_ok (if_issued r p (slice_get r.issued n.0)) _ next n.2 in
    let fits = unless_ok (option_map reason.Line (unwanted_reply (code_of i.0.operation.op) told)) _ next i.2 in
    let new = else_ok (is_some i.0.reply) _ _ next fits.1 in
    let s = bind_ok (map_err reason.Line (reply_read told)) _ next new.1 in
    let same : with_event (record r { issued = slice_set r.issued n.0 (record i.0 { reply = Some s.0 }) }) line (Answer n.0 s.0) ≡ next = one_ok _ next s.2 in
    subst IsKeptIssue same
    (answer_kept r k line n.0 i.0 (or_ok (slice_get r.issued n.0) _ i.0 i.1) (none_is i.0.reply new.0) s.0)
