-- Bounds that are lowered to the newest open operations.
use Rattle.std.proofs.Common.{◌≡◌, ◌≢◌, inl, inr, ⊎_elim, ℕ, zero, suc, ◌≤◌, true, List, [], ◌∷◌, ◌++◌, Some, None, refl, sym, ◌∙◌, ap, subst, arith}
use Rattle.std.proofs.Common.{slice_get, append-nil}
use Rattle.std.proofs.lemmas.Bool.{cases_eq}
use Rattle.packet.specs.declared.kinds.Op.{Op}
use Rattle.packet.specs.Memory.{reply_to}
use Rattle.trace_laws.specs.declared.event.Call.{Call}
use Rattle.trace_laws.specs.declared.event.Event.{Event}
use Rattle.trace_laws.specs.Configs.{IsIn}
use Rattle.trace_watch.specs.declared.state.Effect.{Effect}
use Rattle.trace_watch.specs.declared.state.Glimpse.{Glimpse}
use Rattle.trace_watch.specs.States.{AreCovered, Config, HasSeen, IsGlimpsed, IsIdleHere, is_idle, newest_number, seen_by}
use Rattle.trace_watch.specs.Matchings.{IsNewestOf, Matches, MayBe, Other}
use Rattle.trace_watch.specs.Named.{NamedConfig}
use Rattle.trace_watch.specs.Lowered.{AreLowered, AreLoweredGlimpses, IsBounded, IsLowered}
use Rattle.trace_watch.specs.Known.{AreIdleHere, AreIdleIn, Explains, IsExplainedWatch, IsOpenOn}
use Rattle.trace_watch.proofs.Covering.{covered_append, covered_match, like_named, other_has}
use Rattle.trace_watch.proofs.Idle.{IsTightened}

-- a lowered bound is no higher
bounded_low : (calls : List Call) (e : Effect) (n : ℕ) → IsBounded calls e n → n ≤ e.newest
bounded_low calls e n b = ⊎_elim {C = n ≤ e.newest}
    (λ (c : (call : Call) × IsNewestOf calls (MayBe e) call × (n ≡ call.id)).
    let l = c.1.may.early in let s = c.2 in omega (arith, l, s))
    (λ (u : ((call : Call) → IsIn calls call → MayBe e call → ⊥) × (n ≡ e.newest)). let s = u.1 in omega (arith, s))
    b

pub lowered_covered : (calls : List Call) (es fs : List Effect) → AreLowered calls es fs → AreCovered es fs
lowered_covered calls [] [] a = tt
lowered_covered calls [] (f ∷ fs) a = absurd a
lowered_covered calls (e ∷ es) [] a = absurd a
lowered_covered calls (e ∷ es) (f ∷ fs) a =
    (sym a.0, sym a.1, bounded_low calls e f.newest a.2, lowered_covered calls es fs a.3)

-- and it leaves no operation out
bounded_may : (calls : List Call) (e f : Effect) (c : Call) → f.op ≡ e.op → IsBounded calls e f.newest → IsIn calls c
    → MayBe e c → MayBe f c
bounded_may calls e f c asks b on may = record {
  asks = may.asks ∙ sym asks;
  early = ⊎_elim {C = c.id ≤ f.newest}
      (λ (x : (call : Call) × IsNewestOf calls (MayBe e) call × (f.newest ≡ call.id)).
      let l = x.1.newest on.0 c on.1 may in let s = x.2 in omega (arith, l, s))
      (λ (u : ((call : Call) → IsIn calls call → MayBe e call → ⊥) × (f.newest ≡ e.newest)). absurd (u.0 c on may))
      b;
}

pub match_lowered : (P : Call → Type 0) (calls : List Call) (es fs gs : List Effect) (cs : List Call)
    → ((c : Call) → P c → IsIn calls c) → AreLowered calls es fs → Matches P (es ++ gs) cs → Matches P (fs ++ gs) cs
match_lowered P calls [] [] gs cs part a m = m
match_lowered P calls [] (f ∷ fs) gs cs part a m = absurd a
match_lowered P calls (e ∷ es) [] gs cs part a m = absurd a
match_lowered P calls (e ∷ es) (f ∷ fs) gs [] part a m = absurd m
match_lowered P calls (e ∷ es) (f ∷ fs) gs (c ∷ cs) part a m = (
  m.0,
  bounded_may calls e f c a.0 a.2 (part c m.0) m.1,
  match_lowered (Other P c.id) calls es fs gs cs (λ d o. part d o.0) a.3 m.2,
)

pub match_lowered_all : (P : Call → Type 0) (calls : List Call) (es fs : List Effect) (cs : List Call)
    → ((c : Call) → P c → IsIn calls c) → AreLowered calls es fs → Matches P es cs → Matches P fs cs
match_lowered_all P calls es fs cs part a m =
    subst (λ (xs : List Effect). Matches P xs cs) (append-nil fs)
    (match_lowered P calls es fs [] cs part a (subst (λ (xs : List Effect). Matches P xs cs) (sym (append-nil es)) m))

-- what a covered list has
covered_below : (es fs : List Effect) (k : ℕ) (f : Effect) → AreCovered es fs → slice_get fs k ≡ Some f
    → (e : Effect) × IsIn es e × (f.newest ≤ e.newest)
covered_below es [] k f a h = absurd (let n : None ≡ Some f = h in cc)
covered_below [] (g ∷ fs) k f a h = absurd a
covered_below (e ∷ es) (g ∷ fs) zero f a h =
    let s : g ≡ f = cc in
    let n = ap (λ (x : Effect). x.newest) s in
    let l = a.2 in
    (e, (zero, refl), omega (arith, n, l))
covered_below (e ∷ es) (g ∷ fs) (suc k) f a h =
    let r = covered_below es fs k f a.3 h in (r.0, (suc r.1.0, r.1.1), r.2)

-- lowered bounds leave a configuration that orders lead to
idle_down : (calls : List Call) (old new : List Glimpse) (es : List Effect) → AreLoweredGlimpses calls old new
    → AreIdleIn new es → AreIdleIn old es
idle_down calls old new es low idle = λ e on.
    let i = idle e on in
    let h = low.down i.glimpse i.there in
    record {
      glimpse = h.0;
      there = h.1;
      idle = subst (λ (w : ℕ). is_idle e.op w ≡ true) (sym h.2) i.idle;
      reply = i.reply ∙ ap (λ (w : ℕ). reply_to e.op w) (sym h.2);
      low = let l = i.low in let m = h.3 in omega (arith, l, m);
    }

pub lowered_sound : (opening : List ℕ) (t : List Event) (w : ℕ) (calls : List Call) (c d : Config)
    → ((x : Call) → IsOpenOn t w x → IsIn calls x) → IsLowered calls c d → IsExplainedWatch opening t w c
    → IsExplainedWatch opening t w d
lowered_sound opening t w calls c d part low x = record {
  fits = (x.fits.0, match_lowered_all (IsOpenOn t w) calls c.effects d.effects x.fits.0 part low.effects x.fits.1);
  explained = λ es idle cs m.
      let r = x.explained es (idle_down calls c.seen d.seen es low.seen idle) cs
      (covered_match (IsOpenOn t w) (c.effects ++ es) (d.effects ++ es) cs
      (covered_append c.effects d.effects es (lowered_covered calls c.effects d.effects low.effects)) m) in (
        r.0,
        subst (λ (n : NamedConfig). Explains opening t w r.0 n) (sym (like_named c d es cs (sym low.word)
            (lowered_covered calls c.effects d.effects low.effects))) r.1,
      );
  issued = λ f on.
      let r = covered_below c.effects d.effects on.0 f (lowered_covered calls c.effects d.effects low.effects) on.1 in
      let q = x.issued r.0 r.1 in
      let l = r.2 in
      let m = q.3 in
      (q.0, q.1, q.2, omega (arith, l, m));
  seen = λ g on.
      let h = low.seen.down g on in
      let q = x.seen h.0 h.1 in
      let l = h.3 in
      let m = q.3 in
      (q.0, q.1, q.2, omega (arith, l, m));
}

-- what an operation may have found, it still may
pub idle_lowered : (P : Call → Type 0) (calls : List Call) (c d : Config) (es gs : List Effect)
    → ((x : Call) → P x → IsIn calls x) → IsLowered calls c d → AreIdleHere c es
    → ((g : Effect) → IsIn gs g → IsTightened P es g) → AreIdleHere d gs
idle_lowered P calls c d es gs part low idle tight = λ g on.
    let r = tight g on in
    let i = idle r.0 r.1 in
    let call = r.5.0 in
    record {
      word = i.word;
      idle = subst (λ (o : Op). is_idle o i.word ≡ true) (sym r.2) i.idle;
      reply = r.3 ∙ (i.reply ∙ ap (λ (o : Op). reply_to o i.word) (sym r.2));
      there = ⊎_elim {C = HasSeen d.word d.seen (record { word = i.word; newest = g.newest })}
          (λ (e : i.word ≡ c.word). inl (e ∙ sym low.word))
          (λ (h : IsGlimpsed c.seen (record { word = i.word; newest = r.0.newest })).
          let k = low.seen.up h.0 call h.1 (part call r.5.1) (record {
            idle = subst (λ (o : Op). is_idle o h.0.word ≡ true) (sym (r.5.2 ∙ r.2))
                (subst (λ (w : ℕ). is_idle r.0.op w ≡ true) (sym h.2) i.idle);
            early = let l = r.4 in let m = h.3 in let n = r.5.3 in omega (arith, l, m, n);
          }) in
          inr (k.0, k.1, k.2 ∙ h.2, (let l = k.3 in let n = r.5.3 in omega (arith, l, n))))
          i.there;
    }

-- and so with bounds that are the numbers of its operations
pub idle_tight : (P : Call → Type 0) (c : Config) (es gs : List Effect) → AreIdleHere c es
    → ((g : Effect) → IsIn gs g → IsTightened P es g) → AreIdleHere c gs
idle_tight P c es gs idle tight = λ g on.
    let r = tight g on in
    let i = idle r.0 r.1 in
    record {
      word = i.word;
      idle = subst (λ (o : Op). is_idle o i.word ≡ true) (sym r.2) i.idle;
      reply = r.3 ∙ (i.reply ∙ ap (λ (o : Op). reply_to o i.word) (sym r.2));
      there = ⊎_elim {C = HasSeen c.word c.seen (record { word = i.word; newest = g.newest })}
          (λ (e : i.word ≡ c.word). inl e)
          (λ (h : IsGlimpsed c.seen (record { word = i.word; newest = r.0.newest })).
          inr (h.0, h.1, h.2, (let l = h.3 in let m = r.4 in omega (arith, l, m))))
          i.there;
    }

-- once another word is there
pub idle_seen : (calls : List Call) (c : Config) (word : ℕ) (es : List Effect)
    → ((e : Effect) → IsIn es e → e.newest ≤ newest_number calls) → AreIdleHere c es → (e : Effect) → IsIn es e
    → IsIdleHere word (seen_by calls c word) e
idle_seen calls c word es low idle = λ e on.
    let i = idle e on in
    record {
      word = i.word;
      idle = i.idle;
      reply = i.reply;
      there = ⊎_elim {C = HasSeen word (seen_by calls c word) (record { word = i.word; newest = e.newest })}
          (λ (same : i.word ≡ word). inl same)
          (λ (ne : i.word ≢ word). inr (behind e (low e on) i.word ne i.there))
          (cases_eq i.word word);
    }
  where
    first : Glimpse
    first = record { word = c.word; newest = newest_number calls }

    behind : (e : Effect) → e.newest ≤ newest_number calls → (v : ℕ) → v ≢ word
        → HasSeen c.word c.seen (record { word = v; newest = e.newest })
        → IsGlimpsed (seen_by calls c word) (record { word = v; newest = e.newest })
    behind e l v ne has = ⊎_elim {C = IsGlimpsed (seen_by calls c word) (record { word = v; newest = e.newest })}
        (λ (s : v ≡ c.word).
        (first, other_has word (first ∷ c.seen) 0 first refl (λ y. ne (s ∙ y)), sym s, l))
        (λ (h : IsGlimpsed c.seen (record { word = v; newest = e.newest })).
        (h.0, other_has word (first ∷ c.seen) (suc h.1.0) h.0 h.1.1 (λ y. ne (sym h.2 ∙ y)), h.2, h.3))
        has
