-- Values that are tried: none of them twice, and each one that operations leave.
use Rattle.std.proofs.Common.{◌≡◌, ◌⊎◌, inl, inr, ⊎_elim, ℕ, zero, suc, ◌<◌, ◌≤◌, List, [], ◌∷◌, ◌++◌, length, Some, None, refl, sym, ◌∙◌, ap, subst, arith, slice_get, length-append}
use Rattle.std.specs.Prelude.{Contains, slice_index}
use Rattle.std.proofs.lemmas.Bool.{cases_lt}
use Rattle.std.proofs.lemmas.List.Elements.{Contains-push_cases}
use Rattle.packet.specs.declared.kinds.Reply.{Reply}
use Rattle.packet.specs.Memory.{new_word}
use Rattle.trace_laws.specs.declared.event.Event.{Event}
use Rattle.trace_laws.proofs.Lists.{get_push_cases}
use Rattle.trace_text.specs.Traced.{TraceSpec, opening_of}
use Rattle.trace_why.specs.declared.calls.CallAt.{CallAt}
use Rattle.trace_why.specs.declared.untold.Untold.{Untold}
use Rattle.trace_why.specs.declared.untold.Untold.TheVariants.{Memory, Values, Undecided}
use Rattle.trace_why.specs.Calls.{AreOpenOn, IsAnsweredOn, IsAnsweredAtEvent}
use Rattle.trace_why.specs.Values.{left_word, IsReachedIn, IsLeftBefore, IsLeftOf, IsTried, AreApart, AreApartAnd, IsOverfullWord}
use Rattle.trace_why.specs.Why.{IsUntold}
use Rattle.trace_why.proofs.Places.{in_contains}

-- a value more
abbrev pub IsOrNew : List ℕ → ℕ → ℕ → Type 0
IsOrNew values value v = Contains values v ⊎ (v ≡ value)

apart_none : AreApart []
apart_none = λ x y v h g. absurd (let e : None ≡ Some v = h in cc)

apart_push : (values : List ℕ) (value : ℕ) → AreApart values → (Contains values value → ⊥) → AreApart (values ++ value ∷ [])
apart_push values value apart new = λ x y v h g. ⊎_elim {C = x ≡ y}
    (λ (a : slice_get values x ≡ Some v). ⊎_elim {C = x ≡ y}
    (λ (b : slice_get values y ≡ Some v). apart x y v a b)
    (λ (b : (y ≡ length values) × (value ≡ v)). absurd (new (in_contains values value (x, a ∙ ap (λ (z : ℕ). Some z) (sym b.1)))))
    (get_push_cases values value y v g))
    (λ (a : (x ≡ length values) × (value ≡ v)). ⊎_elim {C = x ≡ y}
    (λ (b : slice_get values y ≡ Some v). absurd (new (in_contains values value (y, b ∙ ap (λ (z : ℕ). Some z) (sym a.1)))))
    (λ (b : (y ≡ length values) × (value ≡ v)). a.0 ∙ sym b.0)
    (get_push_cases values value y v g))
    (get_push_cases values value x v h)

pub pushed_only : (values : List ℕ) (value : ℕ) → AreApart values → (Contains values value → ⊥)
    → AreApartAnd (IsOrNew values value) (values ++ value ∷ [])
pushed_only values value apart new = record {
  apart = apart_push values value apart new;
  each = λ v h. ⊎_elim {C = IsOrNew values value v}
      (λ (old : Contains values v). inl old)
      (λ (e : value ≡ v). inr (sym e))
      (Contains-push_cases values value v h);
}

pub same_only : (values : List ℕ) (value : ℕ) → AreApart values → AreApartAnd (IsOrNew values value) values
same_only values value apart = record { apart = apart; each = λ v h. inl h }

-- where as many are there as are allowed, and another one comes
pub one_too_many : (values : List ℕ) (value bound : ℕ) → AreApart values → (Contains values value → ⊥) → bound ≤ length values
    → IsOverfullWord (IsOrNew values value) bound Values
one_too_many values value bound apart new full =
    (values ++ value ∷ [], omega (arith, length-append values (value ∷ [])), pushed_only values value apart new)

-- no value, and one alone
pub none_only : (P : ℕ → Type 0) → AreApartAnd P []
none_only P = record { apart = apart_none; each = λ v h. let l = h.1 in absurd (omega arith) }

pub alone_only : (value : ℕ) → AreApartAnd (λ v. v ≡ value) ([] ++ value ∷ [])
alone_only value = record {
  apart = apart_push [] value apart_none (λ h. let l = h.1 in omega arith);
  each = λ v h. ⊎_elim {C = v ≡ value}
      (λ (old : Contains [] v). let l = old.1 in absurd (omega arith))
      (λ (e : value ≡ v). sym e)
      (Contains-push_cases [] value v h);
}

-- what holds of values holds where less is said
pub less_only : (P Q : ℕ → Type 0) → ((v : ℕ) → P v → Q v) → (values : List ℕ) → AreApartAnd P values → AreApartAnd Q values
less_only P Q less values only = record { apart = only.apart; each = λ v h. less v (only.each v h) }

pub less_overfull : (P Q : ℕ → Type 0) → ((v : ℕ) → P v → Q v) → (bound : ℕ) (e : Untold) → IsOverfullWord P bound e → IsOverfullWord Q bound e
less_overfull P Q less bound Memory o = tt
less_overfull P Q less bound Values o = (o.0, o.1, less_only P Q less o.0 o.2)
less_overfull P Q less bound (Undecided why) o = absurd o

-- what one of some operations leaves of a value
pub left_old : (values : List ℕ) (calls : List CallAt) (u : ℕ) → AreApart values → AreApartAnd (IsLeftOf values calls u) values
left_old values calls u apart = record { apart = apart; each = λ v h. inl h }

pub left_more : (old values : List ℕ) (calls : List CallAt) (u value n : ℕ) (found : CallAt) → ((v : ℕ) → Contains values v → IsLeftOf old calls u v)
    → slice_get calls n ≡ Some found → value ≡ new_word found.call.operation.op u → (v : ℕ) → IsOrNew values value v → IsLeftOf old calls u v
left_more old values calls u value n found each at is v h = ⊎_elim {C = IsLeftOf old calls u v}
    (λ (there : Contains values v). each v there)
    (λ (e : v ≡ value). inr (found, in_contains calls found (n, at), e ∙ is))
    h

-- some values, or what operations on a word left that were answered before an event
abbrev pub IsOrLeft : List Event → ℕ → ℕ → List ℕ → ℕ → Type 0
IsOrLeft trace k w values v = Contains values v ⊎ IsLeftBefore trace k w v

pub or_left_old : (trace : List Event) (k w : ℕ) (values : List ℕ) → AreApart values → AreApartAnd (IsOrLeft trace k w values) values
or_left_old trace k w values apart = record { apart = apart; each = λ v h. inl h }

pub or_left_more : (trace : List Event) (k w i : ℕ) (old values : List ℕ) (value : ℕ) (found : CallAt) (reply : Reply)
    → ((v : ℕ) → Contains values v → IsOrLeft trace k w old v) → i < k → IsAnsweredOn trace i w found reply
    → value ≡ left_word found.call.operation.op reply → (v : ℕ) → IsOrNew values value v → IsOrLeft trace k w old v
or_left_more trace k w i old values value found reply each low on is v h = ⊎_elim {C = IsOrLeft trace k w old v}
    (λ (there : Contains values v). each v there)
    (λ (e : v ≡ value). inr (i, found, reply, low, on, e ∙ is))
    h

-- what operations leave of some values, one of them after the other
pub reached_old : (values : List ℕ) (calls : List CallAt) → AreApart values → AreApartAnd (IsReachedIn values calls 1) values
reached_old values calls apart = record { apart = apart; each = λ v h. inl h }

pub reached_one : (old from values : List ℕ) (calls : List CallAt) (u n : ℕ) → ((v : ℕ) → Contains values v → IsReachedIn old calls 1 v)
    → from ≡ old → slice_get from n ≡ Some u → (v : ℕ) → IsLeftOf values calls u v → IsReachedIn old calls 1 v
reached_one old from values calls u n each same at v h = ⊎_elim {C = IsReachedIn old calls 1 v}
    (λ (there : Contains values v). each v there)
    (λ (s : (c : CallAt) × Contains calls c × (v ≡ new_word c.call.operation.op u)).
    inr (u, s.0, subst (λ (xs : List ℕ). Contains xs u) same (in_contains from u (n, at)), s.1, s.2))
    h

pub reached_next : (base values : List ℕ) (calls : List CallAt) (n : ℕ) → ((v : ℕ) → Contains values v → IsReachedIn base calls n v)
    → (v : ℕ) → IsReachedIn values calls 1 v → IsReachedIn base calls (suc n) v
reached_next base values calls n each v h = ⊎_elim {C = IsReachedIn base calls (suc n) v}
    (λ (there : Contains values v). inl (each v there))
    (λ (s : (u : ℕ) × (c : CallAt) × Contains values u × Contains calls c × (v ≡ new_word c.call.operation.op u)).
    inr (s.0, s.1, each s.0 s.2, s.3, s.4))
    h

pub reached_later : (base : List ℕ) (calls : List CallAt) (n m v : ℕ) → n ≤ m → IsReachedIn base calls n v → IsReachedIn base calls m v
reached_later base calls n zero v l h = let e : n ≡ 0 = omega arith in subst (λ (k : ℕ). IsReachedIn base calls k v) e h
reached_later base calls n (suc m) v l h = ⊎_elim {C = IsReachedIn base calls (suc m) v}
    (λ (low : n < suc m). inl (reached_later base calls n m v (omega arith) h))
    (λ (high : suc m ≤ n). let e : n ≡ suc m = omega arith in subst (λ (k : ℕ). IsReachedIn base calls k v) e h)
    (cases_lt n (suc m))

-- the value that the first of them finds
pub reached_first : (base : List ℕ) (calls : List CallAt) (n v : ℕ) → IsReachedIn base calls n v
    → (u : ℕ) × Contains base u × IsReachedIn (u ∷ []) calls n v
reached_first base calls zero v h = (v, h, in_contains (v ∷ []) v (zero, refl))
reached_first base calls (suc n) v h = ⊎_elim {C = (u : ℕ) × Contains base u × IsReachedIn (u ∷ []) calls (suc n) v}
    (λ (r : IsReachedIn base calls n v). let f = reached_first base calls n v r in (f.0, f.1, inl f.2))
    (λ (s : (u : ℕ) × (c : CallAt) × IsReachedIn base calls n u × Contains calls c × (v ≡ new_word c.call.operation.op u)).
    let f = reached_first base calls n s.0 s.2 in (f.0, f.1, inr (s.0, s.1, f.2, s.3, s.4)))
    h

-- values that stand on a word before anything that is open takes effect
abbrev pub IsBefore : List ℕ → List Event → ℕ → ℕ → ℕ → Type 0
IsBefore opening trace k w v = (v ≡ slice_index opening w) ⊎ IsLeftBefore trace k w v

pub or_left_before : (opening : List ℕ) (events trace : List Event) (k w : ℕ) (values : List ℕ) → events ≡ trace
    → ((v : ℕ) → Contains values v → v ≡ slice_index opening w) → (v : ℕ) → IsOrLeft events k w values v → IsBefore opening trace k w v
or_left_before opening events trace k w values same each v h = ⊎_elim {C = IsBefore opening trace k w v}
    (λ (there : Contains values v). inl (each v there))
    (λ (left : IsLeftBefore events k w v). inr (subst (λ (es : List Event). IsLeftBefore es k w v) same left))
    h

pub reached_tried : (opening : List ℕ) (trace : List Event) (k w : ℕ) (base : List ℕ) (pending : List CallAt) → AreOpenOn trace k w pending
    → ((u : ℕ) → Contains base u → IsBefore opening trace k w u) → (n v : ℕ) → n ≤ length pending → IsReachedIn base pending n v
    → IsTried opening trace k w v
reached_tried opening trace k w base pending opens before n v l h =
    let f = reached_first base pending n v h in record {
      first = f.0;
      found = before f.0 f.1;
      pending = pending;
      opens = opens;
      reached = reached_later (f.0 ∷ []) pending n (length pending) v l f.2;
    }

pub before_tried : (opening : List ℕ) (trace : List Event) (k w : ℕ) (pending : List CallAt) → AreOpenOn trace k w pending → (v : ℕ)
    → IsBefore opening trace k w v → IsTried opening trace k w v
before_tried opening trace k w pending opens v is = record {
  first = v;
  found = is;
  pending = pending;
  opens = opens;
  reached = reached_later (v ∷ []) pending 0 (length pending) v (omega arith) (in_contains (v ∷ []) v (zero, refl));
}

-- where too many are tried
pub tried_untold : (t : TraceSpec) (k tries bound : ℕ) (call : CallAt) (P : ℕ → Type 0) → IsAnsweredAtEvent t.events k call
    → ((v : ℕ) → P v → IsTried (opening_of t) t.events k call.call.operation.address v) → (e : Untold) → IsOverfullWord P tries e
    → IsUntold t k tries bound e
tried_untold t k tries bound call P answer is Memory o = tt
tried_untold t k tries bound call P answer is Values o = record {
  call = call;
  answer = answer;
  many = (o.0, o.1, less_only P (IsTried (opening_of t) t.events k call.call.operation.address) is o.0 o.2);
}
tried_untold t k tries bound call P answer is (Undecided why) o = absurd o
