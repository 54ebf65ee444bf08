-- What a line leaves true of the head, and what it gives.
use Rattle.std.proofs.Common.{◌≡◌, ⊎_elim, ℕ, ◌<◌, List, [], ◌∷◌, subst}
use Rattle.std.specs.Prelude.{Bool, Result, Ok, not, codes}
use Rattle.std.specs.Str.{bytes_eq}
use Rattle.packet.specs.declared.kinds.Operation.{Operation}
use Rattle.packet.specs.Reading.{op_with}
use Rattle.lexer.specs.Words.{begins_comment}
use Rattle.trace_lines.specs.declared.form.Form.{Form}
use Rattle.trace_lines.specs.declared.reason.LineReason.{LineReason}
use Rattle.trace_lines.specs.Form.{number_at, spelled_form, limited_word, form_operation, told_of}
use Rattle.std.specs.Prelude.{nat_lt}
use Rattle.trace_lines.specs.Head.{HeadSpec, after_title, after_init_line, processor_read}
use Rattle.trace_lines.specs.Reasons.{map_err}
use Rattle.trace_lines.proofs.Refused.{unmapped}
use Rattle.trace_text.specs.declared.line.TraceLine.{TraceLine}
use Rattle.trace_text.specs.declared.line.TraceLine.TheVariants.{Nothing, Issue, Answer}
use Rattle.trace_text.specs.declared.reason.TraceReason.{TraceReason}
use Rattle.trace_text.specs.declared.reason.TraceReason.TheVariants as reason
use Rattle.trace_text.specs.Kept.{IsKeptIssue}
use Rattle.trace_text.specs.Lines.{head_given, event_given, words_within, issue_of_form, issue_given, answer_given, keyword_given, line_given}
use Rattle.trace_text.specs.Traced.{TraceReading}
use Rattle.trace_text.proofs.KeptSettings.{init_kept, words_kept, title_kept}
use Rattle.trace_text.proofs.Outcomes.{one_ok, bind_ok, then_ok, if_ok, lt_true, low_processor}

-- an issue is one of a processor below 4096, on a word of the memory
abbrev pub IsInside : ℕ → TraceLine → Type 0
IsInside words Nothing = Unit {0}
IsInside words (Issue p o) = (p < 4096) × (o.address < words)
IsInside words (Answer p index told) = Unit {0}

-- a line leaves a head that fits what was read, and gives an event of that memory
pub record Fits (r : TraceReading) (read : HeadSpec × TraceLine) : Type 0 where
  pub kept : IsKeptIssue (record r { head = read.0 })
  pub event : IsInside read.0.words read.1

head_fits : (r : TraceReading) (made : Result HeadSpec LineReason) (read : HeadSpec × TraceLine) → head_given made ≡ Ok read
    → ((head : HeadSpec) → made ≡ Ok head → IsKeptIssue (record r { head = head })) → Fits r read
head_fits r made read h kept =
    let w = bind_ok (map_err reason.Line made) _ read h in
    subst (λ (x : HeadSpec × TraceLine). Fits r x) (one_ok (w.0, Nothing) read w.2)
    (record { kept = kept w.0 (unmapped reason.Line made w.0 w.1); event = tt })

event_fits : (r : TraceReading) → IsKeptIssue r → (given : Result TraceLine TraceReason) (read : HeadSpec × TraceLine)
    → event_given r.head given ≡ Ok read → ((event : TraceLine) → given ≡ Ok event → IsInside r.head.words event) → Fits r read
event_fits r k given read h inside =
    let w = bind_ok given _ read h in
    subst (λ (x : HeadSpec × TraceLine). Fits r x) (one_ok (r.head, w.0) read w.2) (record { kept = k; event = inside w.0 w.1 })

-- a good operation is inside the memory
inside_of : (words : ℕ) (form : Form) (o : Operation) → form_operation words form ≡ Ok o → o.address < words
inside_of words form o h =
    let low = then_ok (nat_lt form.address words) _ _ o h in
    let first = bind_ok (limited_word 4 form.first) _ o low.1 in
    let second = bind_ok (limited_word 5 form.second) _ o first.2 in
    let same : record { address = form.address; op = op_with form.code first.0 second.0 } ≡ o = one_ok _ o second.2 in
    subst (λ (p : Operation). p.address < words) same (lt_true form.address words low.0)

form_inside : (h : HeadSpec) (p : ℕ) (form : Form) (event : TraceLine) → issue_of_form h p form ≡ Ok event → IsInside h.words event
form_inside h p form event is =
    let q = bind_ok (map_err reason.Line (processor_read h p)) _ event is in
    let o = bind_ok (map_err reason.Line (form_operation h.words form)) _ event q.2 in
    subst (IsInside h.words) (one_ok (Issue q.0 o.0) event o.2)
    (low_processor h p q.0 (unmapped reason.Line _ q.0 q.1), inside_of h.words form o.0 (unmapped reason.Line _ o.0 o.1))

issue_inside : (h : HeadSpec) (values : List (List ℕ)) (event : TraceLine) → issue_given h values ≡ Ok event → IsInside h.words event
issue_inside h [] event is = absurd (cc)
issue_inside h (processor ∷ []) event is = absurd (cc)
issue_inside h (processor ∷ word ∷ operands) event is =
    let p = bind_ok (map_err reason.Line (number_at 1 processor)) _ event is in
    let form = bind_ok (map_err reason.Line (spelled_form word operands)) _ event p.2 in
    form_inside h p.0 form.0 event form.2

answer_inside : (h : HeadSpec) (values : List (List ℕ)) (event : TraceLine) → answer_given h values ≡ Ok event → IsInside h.words event
answer_inside h [] event is = absurd (cc)
answer_inside h (a ∷ []) event is = absurd (cc)
answer_inside h (a ∷ b ∷ []) event is = absurd (cc)
answer_inside h (a ∷ b ∷ c ∷ d ∷ more) event is = absurd (cc)
answer_inside h (processor ∷ index ∷ reply ∷ []) event is =
    let p = bind_ok (map_err reason.Line (number_at 1 processor)) _ event is in
    let x = bind_ok (map_err reason.Line (number_at 2 index)) _ event p.2 in
    let told = bind_ok (map_err reason.Line (told_of reply)) _ event x.2 in
    let q = bind_ok (map_err reason.Line (processor_read h p.0)) _ event told.2 in
    subst (IsInside h.words) (one_ok (Answer q.0 x.0 told.0) event q.2) tt

keyword_fits : (r : TraceReading) → IsKeptIssue r → (most : ℕ) (late : Bool) (keyword : List ℕ) (values : List (List ℕ)) (read : HeadSpec × TraceLine)
    → keyword_given most late r.head keyword values ≡ Ok read → Fits r read
keyword_fits r k most late keyword values read h = ⊎_elim
    (λ m. head_fits r (after_title r.head (codes "trace") keyword values) read m.1 (title_kept r k keyword values))
    (λ m. ⊎_elim
    (λ m. event_fits r k (issue_given r.head values) read m.1 (issue_inside r.head values))
    (λ m. ⊎_elim
    (λ m. event_fits r k (answer_given r.head values) read m.1 (answer_inside r.head values))
    (λ m. ⊎_elim
    (λ m. head_fits r (after_init_line r.head late values) read m.1 (init_kept r k late values))
    (λ m. let w = then_ok (bytes_eq keyword (codes "words")) _ (head_given (words_within most r.head values)) read m.1 in
    head_fits r (words_within most r.head values) read w.1 (words_kept r k most values))
    (if_ok (bytes_eq keyword (codes "init")) _ _ read m.1))
    (if_ok (bytes_eq keyword (codes "answer")) _ _ read m.1))
    (if_ok (bytes_eq keyword (codes "issue")) _ _ read m.1))
    (if_ok (not r.head.begun) _ _ read h)

pub line_fits : (r : TraceReading) → IsKeptIssue r → (most : ℕ) (late : Bool) (words : List (List ℕ)) (read : HeadSpec × TraceLine)
    → line_given most late r.head words ≡ Ok read → Fits r read
line_fits r k most late [] read h =
    subst (λ (x : HeadSpec × TraceLine). Fits r x) (one_ok (r.head, Nothing) read h) (record { kept = k; event = tt })
line_fits r k most late (keyword ∷ values) read h = ⊎_elim
    (λ m. subst (λ (x : HeadSpec × TraceLine). Fits r x) (one_ok (r.head, Nothing) read m.1) (record { kept = k; event = tt }))
    (λ m. keyword_fits r k most late keyword values read m.1)
    (if_ok (begins_comment keyword) (Ok (r.head, Nothing)) (keyword_given most late r.head keyword values) read h)
