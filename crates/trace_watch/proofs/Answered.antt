-- An answer of an open operation, and what is open before and after it.
use Rattle.std.proofs.Common.{◌≡◌, ◌≢◌, ◌⊎◌, ◌↔◌, inl, inr, ⊎_elim, ℕ, zero, suc, ◌<◌, List, [], ◌∷◌, ◌++◌, length, Some, refl, sym, ◌∙◌, ap, subst}
use Rattle.std.proofs.Common.{slice_get}
use Rattle.std.proofs.lemmas.Bool.{cases_eq}
use Rattle.packet.specs.declared.kinds.Reply.{Reply}
use Rattle.trace_laws.specs.declared.event.Call.{Call}
use Rattle.trace_laws.specs.declared.event.Event.{Event}
use Rattle.trace_laws.specs.declared.event.Event.TheVariants.{Answer}
use Rattle.trace_laws.specs.Traces.{IsTrace, TraceAnswersAt, IsAnswered}
use Rattle.trace_laws.proofs.Issues.{one_call}
use Rattle.trace_laws.proofs.Lists.{get_push}
use Rattle.trace_laws.specs.Configs.{IsIn}
use Rattle.trace_watch.specs.Matchings.{AreDistinctPartners, Other}
use Rattle.trace_watch.specs.Named.{NamedEffect}
use Rattle.trace_watch.specs.Known.{IsOpenOn, ArePendingOn}
use Rattle.trace_watch.proofs.Events.{answer_cases, answered_up, issue_down, issue_up, same_number}

-- an operation has taken effect, or not
pub effect_cases : (es : List NamedEffect) (id : ℕ)
    → ((e : NamedEffect) × IsIn es e × (e.id ≡ id)) ⊎ ((e : NamedEffect) → IsIn es e → e.id ≡ id → ⊥)
effect_cases [] id = inr (λ e on n. absurd (let h : slice_get [] on.0 ≡ Some e = on.1 in cc))
effect_cases (f ∷ es) id = ⊎_elim
    {C = ((e : NamedEffect) × IsIn (f ∷ es) e × (e.id ≡ id)) ⊎ ((e : NamedEffect) → IsIn (f ∷ es) e → e.id ≡ id → ⊥)}
    (λ (yes : f.id ≡ id). inl (f, (0, refl), yes))
    (λ (ne : f.id ≢ id). ⊎_elim
    {C = ((e : NamedEffect) × IsIn (f ∷ es) e × (e.id ≡ id)) ⊎ ((e : NamedEffect) → IsIn (f ∷ es) e → e.id ≡ id → ⊥)}
    (λ there. inl (there.0, (suc there.1.0, there.1.1), there.2))
    (λ none. inr (λ e on n. rest ne none e on.0 on.1 n))
    (effect_cases es id))
    (cases_eq f.id id)
  where
    rest : f.id ≢ id → ((e : NamedEffect) → IsIn es e → e.id ≡ id → ⊥) → (e : NamedEffect) (k : ℕ)
        → slice_get (f ∷ es) k ≡ Some e → e.id ≡ id → ⊥
    rest ne none e zero h n = let s : f ≡ e = cc in ne (ap (λ (g : NamedEffect). g.id) s ∙ n)
    rest ne none e (suc k) h n = none e (k, h) n

-- an answer of open operation b on word w, while these are open there
pub record IsAnswer (words : ℕ) (opening : List ℕ) (t : List Event) (w : ℕ) (b : Call) (reply : Reply)
    (calls others : List Call) : Type 0 where
  pub inside : w < length opening
  pub well : IsTrace words t
  pub is : IsTrace words (t ++ Answer b.id reply ∷ [])
  pub waits : IsOpenOn t w b
  pub pending : ArePendingOn t w calls
  pub rest : (c : Call) → IsIn others c ↔ (IsIn calls c × (c.id ≡ b.id → ⊥))

-- the open operations of one number are one
pub one_open : (words : ℕ) (t : List Event) (w : ℕ) (c d : Call) → IsTrace words t → IsOpenOn t w c → IsOpenOn t w d
    → c.id ≡ d.id → c ≡ d
one_open words t w c d is a b e =
    one_call words t is a.pending.issued.0 b.pending.issued.0 c d a.pending.issued.1 b.pending.issued.1 e

module _ {words : ℕ} {opening : List ℕ} {t : List Event} {w : ℕ} {b : Call} {reply : Reply} {calls others : List Call}
    (a : IsAnswer words opening t w b reply calls others) where
  abbrev pub more : List Event
  more = t ++ Answer b.id reply ∷ []

  pub now : TraceAnswersAt more (length t) b.id reply
  now = get_push t (Answer b.id reply)

  pub other_open : (c : Call) → IsIn others c → IsOpenOn t w c
  other_open c on =
      let q = (a.rest c).0 on in
      record { pending = a.pending.each c q.0; here = a.pending.here c q.0 }

  pub open_other : (c : Call) → Other (IsOpenOn t w) b.id c → IsIn others c
  open_other c o =
      let issue = o.0.pending.issued in
      (a.rest c).1 (
        ⊎_elim {C = IsIn calls c}
            (λ (told : IsAnswered t c.id). absurd (o.0.pending.unanswered told))
            (λ (on : IsIn calls c). on)
            (a.pending.all issue.0 c issue.1 o.0.here),
        o.1,
      )

  pub distinct : AreDistinctPartners others
  distinct c d on also e = one_open words t w c d a.well (other_open c on) (other_open d also) e

  -- what is open after the answer
  pub later_down : (c : Call) → IsOpenOn more w c → Other (IsOpenOn t w) b.id c
  later_down c o =
      let issue = o.pending.issued in (
        record {
          pending = record {
            issued = (issue.0, issue_down t b.id reply issue.0 c issue.1);
            unanswered = λ told. o.pending.unanswered (answered_up t (Answer b.id reply) c.id told);
          };
          here = o.here;
        },
        λ e. o.pending.unanswered (length t, reply, subst (λ (n : ℕ). TraceAnswersAt more (length t) n reply) (sym e) now),
      )

  pub later_up : (c : Call) → Other (IsOpenOn t w) b.id c → IsOpenOn more w c
  later_up c o =
      let issue = o.0.pending.issued in
      record {
        pending = record {
          issued = (issue.0, issue_up t (Answer b.id reply) issue.0 c issue.1);
          unanswered = λ told. ⊎_elim {C = ⊥}
              (λ (old : TraceAnswersAt t told.0 c.id told.1). o.0.pending.unanswered (told.0, told.1, old))
              (λ (new : (told.0 ≡ length t) × (Answer b.id reply ≡ Answer c.id told.1)).
              o.1 (sym (same_number b.id c.id reply told.1 new.1).0))
              (answer_cases t (Answer b.id reply) told.0 c.id told.1 told.2);
        };
        here = o.0.here;
      }

  pub other_later : (c : Call) → IsIn others c → IsOpenOn more w c
  other_later c on = later_up c (other_open c on, ((a.rest c).0 on).1)

  pub open_others : (c : Call) → IsOpenOn more w c → IsIn others c
  open_others c o = open_other c (later_down c o)
