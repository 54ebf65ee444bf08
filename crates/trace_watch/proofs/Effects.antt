-- Operations that take effect, and that are answered.
use Rattle.std.proofs.Common.{◌≡◌, ◌≢◌, ⊎_elim, ℕ, ◌<◌, List, [], ◌∷◌, ◌++◌, length, Some, refl, sym, ◌∙◌, ap, subst}
use Rattle.std.proofs.Common.{arith, slice_get, take, get_or}
use Rattle.std.proofs.lemmas.List.{take_at, take-append-le}
use Rattle.packet.specs.declared.kinds.Reply.{Reply}
use Rattle.packet.specs.Memory.{new_word, reply_to, reply_of_one}
use Rattle.trace_laws.specs.declared.event.Call.{Call}
use Rattle.trace_laws.specs.declared.event.Event.{Event}
use Rattle.trace_laws.specs.declared.event.Event.TheVariants.{Issue, Answer}
use Rattle.trace_laws.specs.Traces.{IsTrace, TraceIssuesAt, TraceAnswersAt, IsAnswered}
use Rattle.trace_laws.specs.Orders.{IsOn, memory_of}
use Rattle.trace_laws.specs.Locality.{IsOrderOn}
use Rattle.trace_laws.proofs.Lists.{get_push_cases, get_append_left, get_push, get_within}
use Rattle.trace_laws.proofs.Memory.{word_changed}
use Rattle.trace_laws.specs.Configs.{IsIn}
use Rattle.trace_watch.specs.Named.{NamedConfig, NamedEffect, HasEffect, IsLike, IsWithoutCall, named_after}
use Rattle.trace_watch.specs.Known.{IsReplied, Explains, IsPendingCall}
use Rattle.trace_watch.proofs.Events.{issue_up, answered_up, answer_cases, same_number, issue_down}

-- what says the same is explained by the same order
pub explains_like : (opening : List ℕ) (t : List Event) (w : ℕ) (order : List Call) (c d : NamedConfig) → IsLike d c
    → Explains opening t w order c → Explains opening t w order d
explains_like opening t w order c d like x = record {
  legal = x.legal;
  word = like.word ∙ x.word;
  pending = λ e on. x.pending e ((like.effects e).0 on);
  replied = λ e on. x.replied e ((like.effects e).0 on);
  all = λ p call h never. let r = x.all p call h never in (r.0, (like.effects r.0).1 r.1, r.2);
}

-- an operation's reply stays what it was in a longer order
replied_later : (opening : List ℕ) (order : List Call) (b : Call) (e : NamedEffect) → IsReplied opening order e
    → IsReplied opening (order ++ b ∷ []) e
replied_later opening order b e r =
    let short = get_within order r.at r.call r.there in
    let same : take r.at (order ++ b ∷ []) ≡ take r.at order = take-append-le r.at order (b ∷ []) (omega arith) in
    record {
      at = r.at;
      call = r.call;
      there = get_append_left order (b ∷ []) r.at r.call r.there;
      number = r.number;
      reply = r.reply ∙ ap (λ (l : List Call). reply_of_one r.call.operation (memory_of opening l)) (sym same);
    }

-- an open operation takes effect
pub explains_after : (opening : List ℕ) (t : List Event) (w : ℕ) (order : List Call) (c : NamedConfig) (b : Call)
    → w < length opening → IsPendingCall t b → b.operation.address ≡ w → (HasEffect c b.id → ⊥)
    → Explains opening t w order c → Explains opening t w (order ++ b ∷ []) (named_after c b)
explains_after opening t w order c b inside waits here none x =
    let o = x.legal in
    let apart : (p : ℕ) (d : Call) → slice_get order p ≡ Some d → d.id ≢ b.id = λ p d h e.
    let r = x.all p d h (λ a. waits.unanswered (subst (λ (n : ℕ). IsAnswered t n) e a)) in
    none (r.0, r.1, r.2 ∙ e) in
    let silent : (d : Call) (i : ℕ) (r : Reply) → b ≡ d → TraceAnswersAt t i d.id r → ⊥ = λ d i r e told.
    waits.unanswered (i, r, subst (λ (f : Call). TraceAnswersAt t i f.id r) (sym e) told) in
    let legal : IsOrderOn w opening t (order ++ b ∷ []) = record {
      here = λ p d h. ⊎_elim {C = d.operation.address ≡ w}
          (λ old. o.here p d old)
          (λ new. ap (λ (f : Call). f.operation.address) (sym new.1) ∙ here)
          (get_push_cases order b p d h);
      once = λ p q d f h k e. ⊎_elim {C = p ≡ q}
          (λ (old : slice_get order p ≡ Some d). ⊎_elim {C = p ≡ q}
          (λ (also : slice_get order q ≡ Some f). o.once p q d f old also e)
          (λ (new : (q ≡ length order) × (b ≡ f)).
          absurd (apart p d old (e ∙ ap (λ (g : Call). g.id) (sym new.1))))
          (get_push_cases order b q f k))
          (λ (new : (p ≡ length order) × (b ≡ d)). ⊎_elim {C = p ≡ q}
          (λ (old : slice_get order q ≡ Some f).
          absurd (apart q f old (sym e ∙ ap (λ (g : Call). g.id) (sym new.1))))
          (λ (also : (q ≡ length order) × (b ≡ f)). new.0 ∙ sym also.0)
          (get_push_cases order b q f k))
          (get_push_cases order b p d h);
      issued = λ p d h. ⊎_elim {C = (i : ℕ) × TraceIssuesAt t i d}
          (λ old. o.issued p d old)
          (λ new. subst (λ (f : Call). (i : ℕ) × TraceIssuesAt t i f) new.1 waits.issued)
          (get_push_cases order b p d h);
      answered = λ i j d r issue at told.
          let on : IsOn order d.id = o.answered i j d r issue at told in
          (on.0, on.1, get_append_left order (b ∷ []) on.0 on.1 on.2, on.3);
      real_time = λ i j p q d f r less told issue h k. ⊎_elim {C = p < q}
          (λ (old : slice_get order p ≡ Some d). ⊎_elim {C = p < q}
          (λ (also : slice_get order q ≡ Some f). o.real_time i j p q d f r less told issue old also)
          (λ (new : (q ≡ length order) × (b ≡ f)).
          let l = get_within order p d old in let n = new.0 in omega arith)
          (get_push_cases order b q f k))
          (λ (new : (p ≡ length order) × (b ≡ d)). absurd (silent d i r new.1 told))
          (get_push_cases order b p d h);
      replies = λ i p d r h told. ⊎_elim {C = r ≡ reply_of_one d.operation (memory_of opening (take p (order ++ b ∷ [])))}
          (λ (old : slice_get order p ≡ Some d).
          let l = get_within order p d old in
          let same : take p (order ++ b ∷ []) ≡ take p order = take-append-le p order (b ∷ []) (omega arith) in
          o.replies i p d r old told
          ∙ ap (λ (m : List Call). reply_of_one d.operation (memory_of opening m)) (sym same))
          (λ (new : (p ≡ length order) × (b ≡ d)). absurd (silent d i r new.1 told))
          (get_push_cases order b p d h);
    } in
    let effect : NamedEffect = record { id = b.id; reply = reply_to b.operation.op c.word } in
    let told : IsReplied opening (order ++ b ∷ []) effect = record {
      at = length order;
      call = b;
      there = get_push order b;
      number = refl;
      reply = ap (λ (v : ℕ). reply_to b.operation.op v) x.word
          ∙ (ap (λ (v : ℕ). reply_to b.operation.op (get_or (memory_of opening order) v 0)) (sym here)
          ∙ ap (λ (m : List Call). reply_of_one b.operation (memory_of opening m))
          (sym (take_at order (b ∷ []) (length order) refl)));
    } in
    record {
      legal = legal;
      word = ap (λ (v : ℕ). new_word b.operation.op v) x.word ∙ sym (word_changed opening order b w here inside);
      pending = λ e on a. ⊎_elim {C = ⊥}
          (λ (old : slice_get c.effects on.0 ≡ Some e). x.pending e (on.0, old) a)
          (λ (new : (on.0 ≡ length c.effects) × (effect ≡ e)).
          waits.unanswered (subst (λ (f : NamedEffect). IsAnswered t f.id) (sym new.1) a))
          (get_push_cases c.effects effect on.0 e on.1);
      replied = λ e on. ⊎_elim {C = IsReplied opening (order ++ b ∷ []) e}
          (λ (old : slice_get c.effects on.0 ≡ Some e). replied_later opening order b e (x.replied e (on.0, old)))
          (λ (new : (on.0 ≡ length c.effects) × (effect ≡ e)).
          subst (λ (f : NamedEffect). IsReplied opening (order ++ b ∷ []) f) new.1 told)
          (get_push_cases c.effects effect on.0 e on.1);
      all = λ p d h never. ⊎_elim {C = HasEffect (named_after c b) d.id}
          (λ (old : slice_get order p ≡ Some d).
          let r = x.all p d old never in
          (r.0, (r.1.0, get_append_left c.effects (effect ∷ []) r.1.0 r.0 r.1.1), r.2))
          (λ (new : (p ≡ length order) × (b ≡ d)).
          (effect, (length c.effects, get_push c.effects effect), ap (λ (f : Call). f.id) new.1))
          (get_push_cases order b p d h);
    }

-- an operation that took effect is answered with its reply
pub explains_answer : (words : ℕ) (opening : List ℕ) (t : List Event) (w : ℕ) (order : List Call) (c d : NamedConfig)
    (e : NamedEffect) (id : ℕ) (reply : Reply)
    → IsTrace words (t ++ Answer id reply ∷ []) → IsIn c.effects e → e.id ≡ id → e.reply ≡ reply
    → IsWithoutCall id c d → Explains opening t w order c → Explains opening (t ++ Answer id reply ∷ []) w order d
explains_answer words opening t w order c d e id reply is on number told less x =
    let o = x.legal in
    let more = t ++ Answer id reply ∷ [] in
    let r = x.replied e on in
    let now : TraceAnswersAt more (length t) id reply = get_push t (Answer id reply) in
    let legal : IsOrderOn w opening more order = record {
      here = o.here;
      once = o.once;
      issued = λ p f h. let q = o.issued p f h in (q.0, issue_up t (Answer id reply) q.0 f q.1);
      answered = λ i j f s issue at a. ⊎_elim {C = IsOn order f.id}
          (λ (old : TraceAnswersAt t j f.id s). o.answered i j f s (issue_down t id reply i f issue) at old)
          (λ (new : (j ≡ length t) × (Answer id reply ≡ Answer f.id s)).
          (r.at, r.call, r.there, r.number ∙ (number ∙ (same_number id f.id reply s new.1).0)))
          (answer_cases t (Answer id reply) j f.id s a);
      real_time = λ i j p q f g s less a issue h k. ⊎_elim {C = p < q}
          (λ (old : TraceAnswersAt t i f.id s).
          o.real_time i j p q f g s less old (issue_down t id reply j g issue) h k)
          (λ (new : (i ≡ length t) × (Answer id reply ≡ Answer f.id s)).
          let l = get_within t j (Issue g) (issue_down t id reply j g issue) in let n = new.0 in absurd (omega arith))
          (answer_cases t (Answer id reply) i f.id s a);
      replies = λ i p f s h a. ⊎_elim {C = s ≡ reply_of_one f.operation (memory_of opening (take p order))}
          (λ (old : TraceAnswersAt t i f.id s). o.replies i p f s h old)
          (λ (new : (i ≡ length t) × (Answer id reply ≡ Answer f.id s)).
          let same = same_number id f.id reply s new.1 in
          let place : r.at ≡ p = o.once r.at p r.call f r.there h (r.number ∙ (number ∙ same.0)) in
          let there : slice_get order p ≡ Some r.call = ap (λ (n : ℕ). slice_get order n) (sym place) ∙ r.there in
          let call : r.call ≡ f = cc in
          sym same.1 ∙ (sym told ∙ (r.reply
          ∙ (ap (λ (n : ℕ). reply_of_one r.call.operation (memory_of opening (take n order))) place
          ∙ ap (λ (g : Call). reply_of_one g.operation (memory_of opening (take p order))) call))))
          (answer_cases t (Answer id reply) i f.id s a);
    } in
    record {
      legal = legal;
      word = less.word ∙ x.word;
      pending = λ f in_d a.
          let q = (less.effects f).0 in_d in
          ⊎_elim {C = ⊥}
          (λ (old : TraceAnswersAt t a.0 f.id a.1). x.pending f q.0 (a.0, a.1, old))
          (λ (new : (a.0 ≡ length t) × (Answer id reply ≡ Answer f.id a.1)).
          q.1 (sym (same_number id f.id reply a.1 new.1).0))
          (answer_cases t (Answer id reply) a.0 f.id a.1 a.2);
      replied = λ f in_d. x.replied f ((less.effects f).0 in_d).0;
      all = λ p f h never.
          let q = x.all p f h (λ a. never (answered_up t (Answer id reply) f.id a)) in
          let other : q.0.id ≡ id → ⊥ = λ s. never (
            length t,
            reply,
            subst (λ (n : ℕ). TraceAnswersAt more (length t) n reply) (sym s ∙ q.2) now,
          ) in
          (q.0, (less.effects q.0).1 (q.1, other), q.2);
    }
