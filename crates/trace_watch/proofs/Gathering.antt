-- The loops that gather the configurations after an answer.
use Rattle.std.proofs.Common.{◌≡◌, ◌≢◌, ◌⊎◌, inl, inr, ◌↔◌, ⊎_elim, ℕ, ◌+◌, ◌<◌, ◌≤◌, List, [], length, Some, None, refl, sym, ◌∙◌, ap, subst, arith, slice_get}
use Rattle.std.specs.List.{remove}
use Rattle.std.proofs.lemmas.Bool.{cases_eq}
use Rattle.packet.specs.declared.kinds.Reply.{Reply}
use Rattle.packet.specs.Memory.{new_word, reply_to}
use Rattle.trace_laws.specs.declared.event.Call.{Call}
use Rattle.trace_laws.proofs.Lists.{get_within}
use Rattle.trace_laws.specs.Configs.{IsIn}
use Rattle.trace_watch.specs.declared.state.Effect.{Effect}
use Rattle.trace_watch.specs.declared.state.State.{State}
use Rattle.trace_watch.specs.declared.state.Glimpse.{Glimpse}
use Rattle.trace_watch.specs.States.{Config, config_of, configs_of, less_one, seen_by, taken}
use Rattle.trace_watch.specs.Lowered.{AreLowered, AreLoweredGlimpses, IsLowered, MayFind}
use Rattle.trace_watch.specs.Matchings.{AreDistinctPartners, FitsPartner, HasNewest, IsPart, MayBe}
use Rattle.trace_watch.specs.Closed.{Closes, FromOne, Gathers, IsAmongLowered, IsAnsweredBy, IsClaimed, IsClaimedAt, IsIdleClaim, IsOneMore, IsTakenConfig, LoweredFrom, MayClaim}
use Rattle.trace_watch.specs.Crowds.{IsOverfullCrowd}
use Rattle.trace_watch.proofs.Grown.{get_config, goes_among, goes_more, goes_same, long_configs, more_among, more_from, more_goes}

-- nothing is of a kind
pub gathers_nothing : (others : List Call) (Kind : Config → Type 0) (old : List Config)
    → (AreDistinctPartners others → (d : Config) → Kind d → ⊥) → Gathers others Kind old old
gathers_nothing others Kind old none = record {
  grows = goes_same old;
  from = λ d on. inl on;
  all = λ apart d is. absurd (none apart d is);
}

-- one configuration is
pub gathers_one : (others : List Call) (Kind : Config → Type 0) (old new : List Config) (c low : Config) → Kind c
    → ((d : Config) → Kind d → c ≡ d) → IsLowered others c low → IsOneMore old low new → Gathers others Kind old new
gathers_one others Kind old new c low is one lowers more = record {
  grows = more_goes old new low more;
  from = λ d on. ⊎_elim {C = IsIn old d ⊎ LoweredFrom others Kind d}
      (λ (l : IsIn old d). inl l)
      (λ (e : low ≡ d). inr (c, is, subst (λ (f : Config). IsLowered others c f) e lowers)) (more_from old new low d more on);
  all = λ apart d kind. subst (λ (f : Config). IsAmongLowered others new f) (one d kind)
      (low, lowers, more_among old new low more);
}

-- an effect that may not be of the answered operation
pub claim_none : {A : Type 0} (others : List Call) (call : Call) (reply : Reply) (s : State A) (k : ℕ) (e : Effect)
    (old : List Config) → slice_get s.effects.items k ≡ Some e → (e.reply ≡ reply → MayBe e call → ⊥)
    → Gathers others (IsClaimedAt others call reply (config_of s) k) old old
claim_none others call reply s k e old there never =
    gathers_nothing others (IsClaimedAt others call reply (config_of s) k) old (λ apart d claims.
    let also : slice_get s.effects.items k ≡ Some claims.0 = claims.1 in
    let same : claims.0 ≡ e = cc in
    never (subst (λ (f : Effect). f.reply ≡ reply) same claims.2) (subst (λ (f : Effect). MayBe f call) same claims.3))

-- the others are not enough without it
pub claim_stuck : {A : Type 0} (others : List Call) (call : Call) (reply : Reply) (s : State A) (k : ℕ)
    (es : List Effect) (old : List Config) → es ≡ remove s.effects.items k
    → (AreDistinctPartners others → FitsPartner (IsIn others) es → ⊥)
    → Gathers others (IsClaimedAt others call reply (config_of s) k) old old
claim_stuck others call reply s k es old is never =
    gathers_nothing others (IsClaimedAt others call reply (config_of s) k) old (λ apart d claims.
    never apart (subst (λ (fs : List Effect). FitsPartner (IsIn others) fs) (sym is) claims.4))

-- a configuration that is lowered, as the code reads it
lowered_read : (others : List Call) (c low : Config) (word : ℕ) (es : List Effect) (gs : List Glimpse) → word ≡ c.word
    → es ≡ c.effects → gs ≡ c.seen → IsLowered others (record { word = word; effects = es; seen = gs }) low
    → IsLowered others c low
lowered_read others c low word es gs w e g lowers = record {
  word = lowers.word ∙ w;
  effects = subst (λ (xs : List Effect). AreLowered others xs low.effects) e lowers.effects;
  seen = subst (λ (xs : List Glimpse). AreLoweredGlimpses others xs low.seen) g lowers.seen;
}

-- they are
pub claim_one : {A B : Type 0} (others : List Call) (call : Call) (reply : Reply) (s : State B) (low : State A) (k : ℕ) (e : Effect)
    (es fs : List Effect) (gs : List Glimpse) (old new : List Config) → slice_get s.effects.items k ≡ Some e
    → e.reply ≡ reply → MayBe e call → es ≡ remove s.effects.items k → fs ≡ remove s.effects.items k
    → gs ≡ s.seen.items → FitsPartner (IsIn others) es
    → IsLowered others (record { word = s.word; effects = fs; seen = gs }) (config_of low)
    → IsOneMore old (config_of low) new → Gathers others (IsClaimedAt others call reply (config_of s) k) old new
claim_one others call reply s low k e es fs gs old new there told may is also saw fit lowers more =
    gathers_one others (IsClaimedAt others call reply (config_of s) k) old new (less_one (config_of s) k) (config_of low)
    (e, there, told, may, subst (λ (xs : List Effect). FitsPartner (IsIn others) xs) is fit, refl)
    (λ d claims. sym claims.5)
    (lowered_read others (less_one (config_of s) k) (config_of low) s.word fs gs refl also saw lowers) more

-- no word that was there may have been found
pub found_none : {A : Type 0} (others : List Call) (call : Call) (reply : Reply) (s : State A) (seen : List Glimpse)
    (old : List Config) → seen ≡ s.seen.items
    → ((g : Glimpse) → IsIn seen g → MayFind g call → reply_to call.operation.op g.word ≡ reply → ⊥)
    → Gathers others (IsIdleClaim others call reply (config_of s)) old old
found_none others call reply s seen old read never =
    gathers_nothing others (IsIdleClaim others call reply (config_of s)) old (λ apart d claims.
    never claims.0 (subst (λ (gs : List Glimpse). IsIn gs claims.0) (sym read) claims.1) claims.2 claims.3)

-- the others are not enough for the effects
pub found_stuck : {A : Type 0} (others : List Call) (call : Call) (reply : Reply) (s : State A) (es : List Effect)
    (old : List Config) → es ≡ s.effects.items → (AreDistinctPartners others → FitsPartner (IsIn others) es → ⊥)
    → Gathers others (IsIdleClaim others call reply (config_of s)) old old
found_stuck others call reply s es old read never =
    gathers_nothing others (IsIdleClaim others call reply (config_of s)) old (λ apart d claims.
    never apart (subst (λ (fs : List Effect). FitsPartner (IsIn others) fs) (sym read) claims.4))

-- one may
pub found_one : {A B : Type 0} (others : List Call) (call : Call) (reply : Reply) (s : State B) (low : State A)
    (seen gs : List Glimpse) (es fs : List Effect) (old new : List Config) → seen ≡ s.seen.items
    → ((g : Glimpse) × IsIn seen g × MayFind g call × (reply_to call.operation.op g.word ≡ reply))
    → es ≡ s.effects.items → FitsPartner (IsIn others) es → fs ≡ s.effects.items → gs ≡ s.seen.items
    → IsLowered others (record { word = s.word; effects = fs; seen = gs }) (config_of low)
    → IsOneMore old (config_of low) new → Gathers others (IsIdleClaim others call reply (config_of s)) old new
found_one others call reply s low seen gs es fs old new saw has read fit also alike lowers more =
    gathers_one others (IsIdleClaim others call reply (config_of s)) old new (config_of s) (config_of low) (
      has.0,
      subst (λ (xs : List Glimpse). IsIn xs has.0) saw has.1,
      has.2,
      has.3,
      subst (λ (xs : List Effect). FitsPartner (IsIn others) xs) read fit,
      refl,
    ) (λ d claims. sym claims.5)
    (lowered_read others (config_of s) (config_of low) s.word fs gs refl also alike lowers) more

-- the answered operation takes effect with another reply
pub take_none : {A : Type 0} (others : List Call) (call : Call) (reply told : Reply) (s : State A) (old : List Config)
    → told ≡ reply_to call.operation.op s.word → (told ≡ reply → ⊥)
    → Gathers others (IsTakenConfig others call reply (config_of s)) old old
take_none others call reply told s old is never =
    gathers_nothing others (IsTakenConfig others call reply (config_of s)) old (λ apart d takes. never (is ∙ takes.0))

-- the others are not enough for the effects
pub take_stuck : {A : Type 0} (others : List Call) (call : Call) (reply : Reply) (s : State A) (es : List Effect)
    (old : List Config) → es ≡ s.effects.items → (AreDistinctPartners others → FitsPartner (IsIn others) es → ⊥)
    → Gathers others (IsTakenConfig others call reply (config_of s)) old old
take_stuck others call reply s es old read never =
    gathers_nothing others (IsTakenConfig others call reply (config_of s)) old (λ apart d takes.
    never apart (subst (λ (fs : List Effect). FitsPartner (IsIn others) fs) (sym read) takes.1))

-- they are
pub take_one : {A : Type 0} (others : List Call) (call : Call) (reply told : Reply) (word : ℕ) (s low : State A)
    (es fs : List Effect) (gs : List Glimpse) (old new : List Config) → word ≡ new_word call.operation.op s.word
    → told ≡ reply_to call.operation.op s.word → told ≡ reply → es ≡ s.effects.items → FitsPartner (IsIn others) es
    → fs ≡ s.effects.items → gs ≡ seen_by others (config_of s) word
    → IsLowered others (record { word = word; effects = fs; seen = gs }) (config_of low)
    → IsOneMore old (config_of low) new → Gathers others (IsTakenConfig others call reply (config_of s)) old new
take_one others call reply told word s low es fs gs old new left is same read fit also saw lowers more =
    gathers_one others (IsTakenConfig others call reply (config_of s)) old new (taken others (config_of s) call) (config_of low)
    (sym is ∙ same, subst (λ (xs : List Effect). FitsPartner (IsIn others) xs) read fit, refl)
    (λ c takes. sym takes.2)
    (lowered_read others (taken others (config_of s) call) (config_of low) word fs gs left also
    (saw ∙ ap (λ (w : ℕ). seen_by others (config_of s) w) left) lowers) more

-- two kinds one after the other
pub gathers_both : (others : List Call) (Kind Other : Config → Type 0) (old new later : List Config)
    → Gathers others Kind old new → Gathers others Other new later → Gathers others (λ d. Kind d ⊎ Other d) old later
gathers_both others Kind Other old new later was next = record {
  grows = goes_more old new later was.grows next.grows;
  from = λ d on. ⊎_elim {C = IsIn old d ⊎ LoweredFrom others (λ x. Kind x ⊎ Other x) d}
      (λ (l : IsIn new d). ⊎_elim {C = IsIn old d ⊎ LoweredFrom others (λ x. Kind x ⊎ Other x) d}
      (λ (o : IsIn old d). inl o)
      (λ (k : LoweredFrom others Kind d). inr (k.0, inl k.1, k.2))
      (was.from d l))
      (λ (k : LoweredFrom others Other d). inr (k.0, inr k.1, k.2))
      (next.from d on);
  all = λ apart d b. ⊎_elim {C = IsAmongLowered others later d}
      (λ (k : Kind d). let r = was.all apart d k in (r.0, r.1, goes_among new later r.0 next.grows r.2))
      (λ (k : Other d). next.all apart d k)
      b;
}

-- the kinds of each place below one
abbrev pub Below : (ℕ → Config → Type 0) → ℕ → Config → Type 0
Below Kind i d = (j : ℕ) × (j < i) × Kind j d

pub gathering_none : (others : List Call) (Kind : ℕ → Config → Type 0) (old : List Config)
    → Gathers others (Below Kind 0) old old
gathering_none others Kind old =
    gathers_nothing others (Below Kind 0) old (λ apart d b. (let l = b.1 in omega arith))

pub gathering_more : (others : List Call) (Kind : ℕ → Config → Type 0) (i : ℕ) (old new later : List Config)
    → Gathers others (Below Kind i) old new → Gathers others (Kind i) new later
    → Gathers others (Below Kind (i + 1)) old later
gathering_more others Kind i old new later was next = record {
  grows = goes_more old new later was.grows next.grows;
  from = λ d on. ⊎_elim {C = IsIn old d ⊎ LoweredFrom others (Below Kind (i + 1)) d}
      (λ (l : IsIn new d). ⊎_elim {C = IsIn old d ⊎ LoweredFrom others (Below Kind (i + 1)) d}
      (λ (o : IsIn old d). inl o)
      (λ (b : LoweredFrom others (Below Kind i) d). let m = b.1.1 in inr (b.0, (b.1.0, omega arith, b.1.2), b.2))
      (was.from d l))
      (λ (k : LoweredFrom others (Kind i) d). inr (k.0, (i, omega arith, k.1), k.2))
      (next.from d on);
  all = λ apart d b. ⊎_elim {C = IsAmongLowered others later d}
      (λ (e : b.0 ≡ i). next.all apart d (subst (λ (n : ℕ). Kind n d) e b.2))
      (λ (ne : b.0 ≢ i).
      let m = b.1 in
      let r = was.all apart d (b.0, omega arith, b.2) in (r.0, r.1, goes_among new later r.0 next.grows r.2))
      (cases_eq b.0 i);
}

-- another name of a kind
pub gathers_as : (others : List Call) (Kind Other : Config → Type 0) (old new : List Config)
    → ((d : Config) → Kind d → Other d) → ((d : Config) → Other d → Kind d) → Gathers others Kind old new
    → Gathers others Other old new
gathers_as others Kind Other old new up down was = record {
  grows = was.grows;
  from = λ d on. ⊎_elim {C = IsIn old d ⊎ LoweredFrom others Other d} (λ (l : IsIn old d). inl l)
      (λ (k : LoweredFrom others Kind d). inr (k.0, up k.0 k.1, k.2)) (was.from d on);
  all = λ apart d o. was.all apart d (down d o);
}

-- what a state of a list leads to
abbrev pub AtPlace : List Config → (Config → Config → Type 0) → ℕ → Config → Type 0
AtPlace configs Leads j d = (c : Config) × (slice_get configs j ≡ Some c) × Leads c d

pub at_one : {A : Type 0} (others : List Call) (Leads : Config → Config → Type 0) (states : List (State A)) (i : ℕ)
    (s : State A) (old new : List Config) → slice_get states i ≡ Some s → Gathers others (Leads (config_of s)) old new
    → Gathers others (AtPlace (configs_of states) Leads i) old new
at_one others Leads states i s old new there was =
    let here = get_config states i s there in
    gathers_as others (Leads (config_of s)) (AtPlace (configs_of states) Leads i) old new
    (λ d l. (config_of s, here, l))
    (λ d p.
    let e : Some (config_of s) ≡ Some p.0 = sym here ∙ p.1 in
    let same : config_of s ≡ p.0 = cc in
    subst (λ (c : Config). Leads c d) (sym same) p.2) was

pub at_all : {A : Type 0} (others : List Call) (Leads : Config → Config → Type 0) (states : List (State A)) (i : ℕ)
    (old new : List Config) → length states ≤ i → Gathers others (Below (AtPlace (configs_of states) Leads) i) old new
    → Gathers others (FromOne (configs_of states) Leads) old new
at_all others Leads states i old new all was =
    gathers_as others (Below (AtPlace (configs_of states) Leads) i) (FromOne (configs_of states) Leads) old new
    (λ d b. (b.2.0, (b.0, b.2.1), b.2.2))
    (λ d f.
    let l = get_within (configs_of states) f.1.0 f.0 f.1.1 in
    let e = long_configs states in
    (f.1.0, omega arith, (f.0, f.1.1, f.2))) was

-- each effect of a configuration
pub each_effect : (others : List Call) (call : Call) (reply : Reply) (c : Config) (i : ℕ) (old new : List Config)
    → length c.effects ≤ i → Gathers others (Below (IsClaimedAt others call reply c) i) old new
    → Gathers others (IsClaimed others call reply c) old new
each_effect others call reply c i old new all was =
    gathers_as others (Below (IsClaimedAt others call reply c) i) (IsClaimed others call reply c) old new
    (λ d b. (b.0, b.2))
    (λ d k.
    let l = get_within c.effects k.0 k.1.0 k.1.1 in
    (k.0, omega arith, k.1)) was

-- both gather the configurations after the answer, as the code reads the others and what was found
pub answered_by : {A B : Type 0} (call : Call) (reply : Reply) (calls others newest : List Call)
    (first second third fourth also : List Call) (states : List (State B)) (found read none gained kept : List (State A))
    → first ≡ others → second ≡ others → third ≡ others → fourth ≡ others → also ≡ newest → read ≡ found → none ≡ []
    → ((c : Call) → IsIn others c ↔ (IsIn calls c × (c.id ≡ call.id → ⊥))) → HasNewest first newest
    → Closes second also (configs_of states) (configs_of found)
    → Gathers third (FromOne (configs_of read) (IsTakenConfig third call reply)) (configs_of none) (configs_of gained)
    → Gathers fourth (FromOne (configs_of states) (MayClaim fourth call reply)) (configs_of gained) (configs_of kept)
    → IsAnsweredBy call reply calls (configs_of states) (configs_of kept)
answered_by {A} {B} call reply calls others newest first second third fourth also states found read none gained kept a b t f n r
    z rest latest closes takes claims =
    let by_others : Gathers others (FromOne (configs_of read) (IsTakenConfig others call reply)) (configs_of none)
    (configs_of gained) = subst (λ (os : List Call). Gathers os (FromOne (configs_of read) (IsTakenConfig os call reply))
    (configs_of none) (configs_of gained)) t takes in
    let of_found : Gathers others (FromOne (configs_of found) (IsTakenConfig others call reply)) (configs_of none)
    (configs_of gained) = subst (λ (ss : List (State A)). Gathers others (FromOne (configs_of ss)
    (IsTakenConfig others call reply)) (configs_of none) (configs_of gained)) r by_others in
    let took : Gathers others (FromOne (configs_of found) (IsTakenConfig others call reply)) [] (configs_of gained) = subst
    (λ (ss : List (State A)). Gathers others (FromOne (configs_of found) (IsTakenConfig others call reply)) (configs_of ss)
    (configs_of gained)) z of_found in
    let claimed : Gathers others (FromOne (configs_of states) (MayClaim others call reply)) (configs_of gained)
    (configs_of kept) = subst (λ (os : List Call). Gathers os (FromOne (configs_of states) (MayClaim os call reply))
    (configs_of gained) (configs_of kept)) f claims in
    record {
      others = others;
      newest = newest;
      found = configs_of found;
      rest = rest;
      latest = subst (λ (os : List Call). HasNewest os newest) a latest;
      closes = subst (λ (ns : List Call). Closes others ns (configs_of states) (configs_of found)) n
          (subst (λ (os : List Call). Closes os also (configs_of states) (configs_of found)) b closes);
      from = λ d on. ⊎_elim {C = LoweredFrom others (FromOne (configs_of found) (IsTakenConfig others call reply)) d
          ⊎ LoweredFrom others (FromOne (configs_of states) (MayClaim others call reply)) d}
          (λ (old : IsIn (configs_of gained) d). ⊎_elim
          {C = LoweredFrom others (FromOne (configs_of found) (IsTakenConfig others call reply)) d
          ⊎ LoweredFrom others (FromOne (configs_of states) (MayClaim others call reply)) d}
          (λ (never : IsIn [] d). absurd (let h : None ≡ Some d = never.1 in cc))
          (λ (k : LoweredFrom others (FromOne (configs_of found) (IsTakenConfig others call reply)) d). inl k)
          (took.from d old))
          (λ (k : LoweredFrom others (FromOne (configs_of states) (MayClaim others call reply)) d). inr k)
          (claimed.from d on);
      taken = λ apart d k.
          let r = took.all apart d k in
          (r.0, r.1, goes_among (configs_of gained) (configs_of kept) r.0 claimed.grows r.2);
      claimed = λ apart d k. claimed.all apart d k;
    }

-- the others, as the code reads them, lead to too many
pub over_others : (call : Call) (calls others newest first second also : List Call) (bound : ℕ) (states : List Config)
    → first ≡ others → second ≡ others → also ≡ newest
    → ((c : Call) → IsIn others c ↔ (IsIn calls c × (c.id ≡ call.id → ⊥))) → HasNewest first newest
    → ((all : List Call) → IsPart second all → IsPart also all → IsOverfullCrowd all bound states)
    → IsOverfullCrowd calls bound states
over_others call calls others newest first second also bound states a b n rest latest over = over calls
    (λ c on. ((rest c).0 (subst (λ (cs : List Call). IsIn cs c) b on)).0)
    (λ c on.
    let old = latest.from c (subst (λ (cs : List Call). IsIn cs c) n on) in
    ((rest c).0 (subst (λ (cs : List Call). IsIn cs c) a old)).0)
