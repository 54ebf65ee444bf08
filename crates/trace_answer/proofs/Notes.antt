-- What is noted of the words that operations of a part found.
use Rattle.std.proofs.Common.{◌≡◌, ◌⊎◌, ⊎_elim, inl, inr, ℕ, ◌==◌, ◌&&◌, Bool, true, false, cond, List, Some, refl, sym, ◌∙◌, ap, subst, slice_get}
use Rattle.std.specs.Prelude.{nat_eq}
use Rattle.std.specs.HashSet.{contains}
use Rattle.std.proofs.lemmas.Bool.{eqb-true}
use Rattle.state_search.specs.Parts.{IsKept}
use Rattle.trace_laws.proofs.Lists.{same_get}
use Rattle.trace_text.specs.declared.issued.Issued.{Issued}
use Rattle.trace_answer.specs.declared.noted.FoundWords.{FoundWords}
use Rattle.trace_answer.specs.declared.leaving.Words.TheVariants.{One, Any}
use Rattle.trace_answer.specs.Leaving.{found_of}
use Rattle.trace_answer.specs.Noted.{AddsNote, AddsNotes, AddsNotesOf, IsNoteFrom, IsNoteOf, Note, Word, Anything, Something, has, same_pair}

both_true : (x y : Bool) → (x && y) ≡ true → (x ≡ true) × (y ≡ true)
both_true true y e = (refl, e)
both_true false y e = absurd (let n : false ≡ true = e in cc)

cond_true : (x y : Bool) → cond x true y ≡ true → (x ≡ true) ⊎ (y ≡ true)
cond_true true y e = inl refl
cond_true false y e = inr e

cond_right : (x y : Bool) → y ≡ true → cond x true y ≡ true
cond_right true y e = refl
cond_right false y e = e

-- a word more that is found
pub word_added : {A : Type 0} (old : FoundWords A) (new : FoundWords A) (a w : ℕ) → new.any ≡ old.any → new.some ≡ old.some
    → ((q : ℕ × ℕ) → contains same_pair new.words q ≡ cond (same_pair (a, w) q) true (contains same_pair old.words q))
    → contains same_pair new.words (a, w) ≡ true → AddsNote old new a (Word w)
word_added {A} old new a w any some others now = record {
  only = only;
  old_ones = old_ones;
  this = now;
}
  where
    only : (b : ℕ) (n : Note) → has new b n ≡ true → (has old b n ≡ true) ⊎ ((a ≡ b) × (Word w ≡ n))
    only b (Word v) h = ⊎_elim {C = (has old b (Word v) ≡ true) ⊎ ((a ≡ b) × (Word w ≡ Word v))}
        (λ (e : same_pair (a, w) (b, v) ≡ true). let t = both_true (a == b) (w == v) e in
        inr (eqb-true a b t.0, ap Word (eqb-true w v t.1)))
        (λ (e : contains same_pair old.words (b, v) ≡ true). inl e)
        (cond_true _ _ (sym (others (b, v)) ∙ h))
    only b Anything h = inl (subst (λ z. contains nat_eq z b ≡ true) any h)
    only b Something h = inl (subst (λ z. contains nat_eq z b ≡ true) some h)

    old_ones : (b : ℕ) (n : Note) → has old b n ≡ true → has new b n ≡ true
    old_ones b (Word v) h = others (b, v) ∙ cond_right _ _ h
    old_ones b Anything h = subst (λ z. contains nat_eq z b ≡ true) (sym any) h
    old_ones b Something h = subst (λ z. contains nat_eq z b ≡ true) (sym some) h

-- the notes of a word, or of any
pub word_and_some : {A : Type 0} (old mid new : FoundWords A) (a w : ℕ) → AddsNote old mid a (Word w) → AddsNote mid new a Something
    → AddsNotesOf old new a (One w)
word_and_some old mid new a w one some = record {
  only = λ b n h. ⊎_elim {C = (has old b n ≡ true) ⊎ ((a ≡ b) × IsNoteOf (One w) n)}
      (λ (was : has mid b n ≡ true). ⊎_elim {C = (has old b n ≡ true) ⊎ ((a ≡ b) × IsNoteOf (One w) n)}
      (λ (older : has old b n ≡ true). inl older)
      (λ (here : (a ≡ b) × (Word w ≡ n)). inr (here.0, subst (IsNoteOf (One w)) here.1 refl))
      (one.only b n was))
      (λ (here : (a ≡ b) × (Something ≡ n)). inr (here.0, subst (IsNoteOf (One w)) here.1 (w, refl)))
      (some.only b n h);
  old_ones = λ b n h. some.old_ones b n (one.old_ones b n h);
  these = these;
}
  where
    these : (n : Note) → IsNoteOf (One w) n → has new a n ≡ true
    these (Word v) e = let same : w ≡ v = cc in some.old_ones a (Word v) (subst (λ z. has mid a (Word z) ≡ true) same one.this)
    these Anything e = absurd (let n : One w ≡ Any = e in cc)
    these Something e = some.this

pub any_and_some : {A : Type 0} (old mid new : FoundWords A) (a : ℕ) → AddsNote old mid a Anything → AddsNote mid new a Something
    → AddsNotesOf old new a Any
any_and_some old mid new a any some = record {
  only = λ b n h. ⊎_elim {C = (has old b n ≡ true) ⊎ ((a ≡ b) × IsNoteOf Any n)}
      (λ (was : has mid b n ≡ true). ⊎_elim {C = (has old b n ≡ true) ⊎ ((a ≡ b) × IsNoteOf Any n)}
      (λ (older : has old b n ≡ true). inl older)
      (λ (here : (a ≡ b) × (Anything ≡ n)). inr (here.0, subst (IsNoteOf Any) here.1 refl))
      (any.only b n was))
      (λ (here : (a ≡ b) × (Something ≡ n)). inr (here.0, subst (IsNoteOf Any) here.1 (0, tt)))
      (some.only b n h);
  old_ones = λ b n h. some.old_ones b n (any.old_ones b n h);
  these = these;
}
  where
    these : (n : Note) → IsNoteOf Any n → has new a n ≡ true
    these (Word v) e = absurd (let n : Any ≡ One v = e in cc)
    these Anything e = some.old_ones a Anything any.this
    these Something e = some.this

-- the notes of an operation that is kept
pub notes_of_kept : {A : Type 0} (issued : List Issued) (kept : List Bool) (k : ℕ) (first : Issued) (old new : FoundWords A)
    → slice_get issued k ≡ Some first → IsKept kept k
    → AddsNotesOf old new first.operation.address (found_of first.operation.op first.reply) → AddsNotes issued kept k old new
notes_of_kept issued kept k first old new at is added = record {
  only = λ a n h. ⊎_elim {C = (has old a n ≡ true) ⊎ IsNoteFrom issued kept k a n}
      (λ (older : has old a n ≡ true). inl older)
      (λ (here : (first.operation.address ≡ a) × IsNoteOf (found_of first.operation.op first.reply) n).
      inr (first, at, is, here.0, here.1))
      (added.only a n h);
  old_ones = added.old_ones;
  these = λ a n from.
      let same : from.0 ≡ first = same_get issued k from.0 first from.1 at in
      let here : first.operation.address ≡ a = ap (λ (i : Issued). i.operation.address) (sym same) ∙ from.3 in
      subst (λ z. has new z n ≡ true) here
      (added.these n (subst (λ (i : Issued). IsNoteOf (found_of i.operation.op i.reply) n) same from.4));
}
