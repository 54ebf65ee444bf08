-- How the code compares effects and configurations.
use Rattle.std.proofs.Common.{◌≡◌, ℕ, suc, ◌+◌, ◌≤◌, length, Some, slice_get, Bool, true, false, cond, List, [], ◌∷◌, refl, sym, ap, subst, arith}
use Rattle.std.specs.Prelude.{drop}
use Rattle.trace_laws.specs.Configs.{IsIn}
use Rattle.trace_watch.specs.declared.state.Effect.{Effect}
use Rattle.trace_watch.specs.declared.state.Glimpse.{Glimpse}
use Rattle.trace_watch.specs.States.{AreCovered, Config, Covers, IsGlimpsed, is_before, spot}
use Rattle.trace_watch.proofs.Sifting.{drop_at, drop_end}

-- the place of one more effect, as the code looks for it
pub spot_on : (effects : List Effect) (i : ℕ) (f e : Effect) → slice_get effects i ≡ Some f → is_before f e ≡ true
    → spot effects e ≡ i + spot (drop i effects) e → spot effects e ≡ i + 1 + spot (drop (i + 1) effects) e
spot_on effects i f e here first was =
    let split : spot (drop i effects) e ≡ spot (f ∷ drop (suc i) effects) e =
    ap (λ (es : List Effect). spot es e) (drop_at effects i f here) in
    let next : spot (f ∷ drop (suc i) effects) e ≡ suc (spot (drop (suc i) effects) e) =
    ap (λ (b : Bool). cond b (suc (spot (drop (suc i) effects) e)) 0) first in
    let one : suc i ≡ i + 1 = omega arith in
    let more : spot (drop (suc i) effects) e ≡ spot (drop (i + 1) effects) e =
    ap (λ (n : ℕ). spot (drop n effects) e) one in
    omega (arith, was, split, next, more)

pub spot_here : (effects : List Effect) (i : ℕ) (f e : Effect) → slice_get effects i ≡ Some f → is_before f e ≡ false
    → spot effects e ≡ i + spot (drop i effects) e → i ≡ spot effects e
spot_here effects i f e here late was =
    let split : spot (drop i effects) e ≡ spot (f ∷ drop (suc i) effects) e =
    ap (λ (es : List Effect). spot es e) (drop_at effects i f here) in
    let next : spot (f ∷ drop (suc i) effects) e ≡ 0 =
    ap (λ (b : Bool). cond b (suc (spot (drop (suc i) effects) e)) 0) late in
    omega (arith, was, split, next)

pub spot_end : (effects : List Effect) (i : ℕ) (e : Effect) → length effects ≤ i
    → spot effects e ≡ i + spot (drop i effects) e → i ≡ spot effects e
spot_end effects i e all was =
    let none : spot (drop i effects) e ≡ 0 = ap (λ (es : List Effect). spot es e) (drop_end effects i all) in
    omega (arith, was, none)

pub covered_long : (es fs : List Effect) → AreCovered es fs → length es ≡ length fs
covered_long [] [] a = refl
covered_long [] (f ∷ fs) a = absurd a
covered_long (e ∷ es) [] a = absurd a
covered_long (e ∷ es) (f ∷ fs) a = ap suc (covered_long es fs a.3)

-- effects cover others where they do from place i on
pub record Covering (es fs : List Effect) (i : ℕ) : Type 0 where
  pub up : AreCovered (drop i es) (drop i fs) → AreCovered es fs
  pub down : AreCovered es fs → AreCovered (drop i es) (drop i fs)

pub covering_none : (es fs : List Effect) → Covering es fs 0
covering_none es fs = record { up = λ a. a; down = λ a. a }

split_at : (es fs : List Effect) (i : ℕ) (e f : Effect) → slice_get es i ≡ Some e → slice_get fs i ≡ Some f
    → AreCovered (drop i es) (drop i fs) → AreCovered (e ∷ drop (suc i) es) (f ∷ drop (suc i) fs)
split_at es fs i e f here there a = subst (λ (xs : List Effect). AreCovered xs (f ∷ drop (suc i) fs))
    (drop_at es i e here) (subst (λ (xs : List Effect). AreCovered (drop i es) xs) (drop_at fs i f there) a)

pub covering_more : (es fs : List Effect) (i : ℕ) (e f : Effect) → slice_get es i ≡ Some e → slice_get fs i ≡ Some f
    → (e.op ≡ f.op) × (e.reply ≡ f.reply) × (f.newest ≤ e.newest) → Covering es fs i → Covering es fs (i + 1)
covering_more es fs i e f here there c was = subst (λ (n : ℕ). Covering es fs n) one (record {
  up = λ a. was.up (subst (λ (xs : List Effect). AreCovered xs (drop i fs)) (sym (drop_at es i e here))
      (subst (λ (xs : List Effect). AreCovered (e ∷ drop (suc i) es) xs) (sym (drop_at fs i f there))
      (c.0, c.1, c.2, a)));
  down = λ a. (split_at es fs i e f here there (was.down a)).3;
})
  where
    one : suc i ≡ i + 1
    one = omega arith

pub covering_not : (es fs : List Effect) (i : ℕ) (e f : Effect) → slice_get es i ≡ Some e → slice_get fs i ≡ Some f
    → (e.op ≡ f.op → e.reply ≡ f.reply → f.newest ≤ e.newest → ⊥) → Covering es fs i → AreCovered es fs → ⊥
covering_not es fs i e f here there never was a =
    let s = split_at es fs i e f here there (was.down a) in never s.0 s.1 s.2

pub covering_all : (es fs : List Effect) (i : ℕ) → length es ≤ i → length fs ≤ i → Covering es fs i → AreCovered es fs
covering_all es fs i all also was = was.up
    (subst (λ (xs : List Effect). AreCovered xs (drop i fs)) (sym (drop_end es i all))
    (subst (λ (xs : List Effect). AreCovered [] xs) (sym (drop_end fs i also)) tt))

-- a configuration tells of as much, as the code compares it
pub covers_read : (c d : Config) (es fs : List Effect) (gs hs : List Glimpse) → es ≡ c.effects → fs ≡ d.effects
    → gs ≡ c.seen → hs ≡ d.seen → c.word ≡ d.word → AreCovered es fs
    → ((g : Glimpse) → IsIn hs g → IsGlimpsed gs g) → Covers c d
covers_read c d es fs gs hs e f g h word effects seen = record {
  word = word;
  effects = subst (λ (xs : List Effect). AreCovered xs d.effects) e
      (subst (λ (xs : List Effect). AreCovered es xs) f effects);
  seen = λ x on. subst (λ (xs : List Glimpse). IsGlimpsed xs x) g
      (seen x (subst (λ (xs : List Glimpse). IsIn xs x) (sym h) on));
}

pub seen_read : (gs hs ks ls : List Glimpse) → gs ≡ ks → hs ≡ ls
    → ((g : Glimpse) → IsIn ls g → IsGlimpsed ks g) → (g : Glimpse) → IsIn hs g → IsGlimpsed gs g
seen_read gs hs ks ls e f seen g on = subst (λ (xs : List Glimpse). IsGlimpsed xs g) (sym e)
    (seen g (subst (λ (xs : List Glimpse). IsIn xs g) f on))
