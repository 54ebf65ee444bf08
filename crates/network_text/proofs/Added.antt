-- The replies, with one more.
use Rattle.std.proofs.Common.{◌≡◌, inl, inr, ℕ, true, None, Some, List, [], ◌∷◌, ◌++◌, length, refl, sym, ◌∙◌, ap, arith}
use Rattle.std.specs.Prelude.{Option}
use Rattle.std.proofs.lemmas.Bool.{cases_lt}
use Rattle.std.proofs.lemmas.List.{length_push, get_or_push, get_or_append_left}
use Rattle.network_judge.specs.declared.table.Kind.TheVariants.{Injection, Hop, Ejection}
use Rattle.network_judge.specs.declared.table.Kind.{Kind}
use Rattle.network_judge.specs.declared.table.Reply.{Reply}
use Rattle.network_judge.specs.Table.{Table, kind_of, is_sender, is_receiver}
use Rattle.network_judge.specs.Replies.{AreReplies, reply_at}

-- from an ejection channel to an injection channel
pub added : (t : Table) (replies : List Reply) (a b : ℕ) → kind_of t a ≡ Some Ejection → kind_of t b ≡ Some Injection
    → AreReplies t replies → AreReplies t (replies ++ record { from = a; to = b } ∷ [])
added t replies a b from to are = λ x y r.
    let z : Reply = record { from = a; to = b } in
    let none : Reply = record { from = 0; to = 0 } in
    elim (cases_lt r.place (length replies)) [
      | inl low ↦ (
          let same : reply_at (replies ++ z ∷ []) r.place ≡ reply_at replies r.place = get_or_append_left replies (z ∷ []) none r.place low in
          are x y (record {
            place = r.place;
            here = low;
            from = sym (ap (λ (q : Reply). q.from) same) ∙ r.from;
            to = sym (ap (λ (q : Reply). q.to) same) ∙ r.to;
          }))
      | inr high ↦ (
          let here = r.here in
          let size = length_push replies z in
          let last : r.place ≡ length replies = omega arith in
          let same : reply_at (replies ++ z ∷ []) r.place ≡ z = ap (reply_at (replies ++ z ∷ [])) last ∙ get_or_push replies z none (length replies) refl in
          let is_a : a ≡ x = sym (ap (λ (q : Reply). q.from) same) ∙ r.from in
          let is_b : b ≡ y = sym (ap (λ (q : Reply). q.to) same) ∙ r.to in
          (ap (kind_of t) (sym is_a) ∙ from, ap (kind_of t) (sym is_b) ∙ to))
    ]

-- a channel that ejects, and one that injects
pub ejects_there : (k : Option Kind) → is_receiver k ≡ true → k ≡ Some Ejection
ejects_there None h = absurd (cc)
ejects_there (Some Injection) h = absurd (cc)
ejects_there (Some Hop) h = absurd (cc)
ejects_there (Some Ejection) h = refl

pub injects_there : (k : Option Kind) → is_sender k ≡ true → k ≡ Some Injection
injects_there None h = absurd (cc)
injects_there (Some Injection) h = refl
injects_there (Some Hop) h = absurd (cc)
injects_there (Some Ejection) h = absurd (cc)
