-- What an order leads to behind an answer.
use Rattle.std.proofs.Common.{◌≡◌, inl, inr, ⊎_elim, ℕ, ◌≤◌, true, List, ◌++◌, length, Some, refl, sym, ◌∙◌, ap, subst}
use Rattle.std.proofs.Common.{arith, slice_get, take}
use Rattle.std.specs.List.{insert, remove}
use Rattle.std.proofs.lemmas.Bool.{eqb-true}
use Rattle.std.proofs.lemmas.List.{take-take}
use Rattle.packet.specs.declared.kinds.Reply.{Reply}
use Rattle.packet.specs.declared.kinds.Op.{Op}
use Rattle.packet.specs.Memory.{new_word, reply_of_one, reply_to}
use Rattle.trace_laws.specs.declared.event.Call.{Call}
use Rattle.trace_laws.specs.declared.event.Event.{Event}
use Rattle.trace_laws.specs.Traces.{TraceAnswersAt}
use Rattle.trace_laws.specs.Orders.{memory_of}
use Rattle.trace_laws.specs.Locality.{IsOrderOn}
use Rattle.trace_laws.proofs.Lists.{take_get}
use Rattle.trace_laws.specs.Configs.{IsIn}
use Rattle.trace_watch.specs.declared.state.Effect.{Effect}
use Rattle.trace_watch.specs.States.{Config, IsAmong, IsGlimpsed, is_idle, less_one, newest_number, taken, with_idle}
use Rattle.trace_watch.specs.Matchings.{Matches, MayBe, Other}
use Rattle.trace_watch.specs.Named.{NamedConfig, NamedEffect, named, named_config}
use Rattle.trace_watch.specs.Known.{AreIdleHere, Explains, IsOpenOn, LeadsToConfig}
use Rattle.trace_watch.specs.Closed.{IsAmongLowered, IsTakenConfig, MayClaim}
use Rattle.trace_watch.proofs.Matched.{IsPlaced, insert_back, match_place, remove_from, weaken}
use Rattle.trace_watch.proofs.Covering.{covered_append, covered_match, covers_idle, covers_named, like_named}
use Rattle.trace_watch.proofs.Idle.{matches_front, newest_above, place_cases, tight}
use Rattle.trace_watch.proofs.Bounds.{idle_lowered, idle_seen, idle_tight, lowered_covered, match_lowered}
use Rattle.trace_watch.proofs.Steps.{claimed_explains}
use Rattle.trace_watch.proofs.Answered.{IsAnswer, later_up, more, now, one_open, open_other, open_others, other_later}

module _ {words : ℕ} {opening : List ℕ} {t : List Event} {w : ℕ} {b : Call} {reply : Reply} {calls others : List Call}
    (a : IsAnswer words opening t w b reply calls others) where
  -- one that tells of as much is led to too
  pub leads_among : (order : List Call) (new : List Config) (c : Config) (es : List Effect) (cs : List Call)
      → IsAmongLowered others new c → AreIdleHere c es → Matches (IsOpenOn (more a) w) (c.effects ++ es) cs
      → Explains opening (more a) w order (named_config (with_idle c es) cs) → LeadsToConfig opening (more a) w order new
  leads_among order new c es cs among idle m x =
      let d = among.0 in
      let f = among.2.0 in
      let cov = among.2.2 in
      let ts = tight (IsOpenOn (more a) w) c.effects es cs m in
      let gs = ts.0 in
      let low = match_lowered (IsOpenOn (more a) w) others c.effects d.effects gs cs (open_others a) among.1.effects ts.1 in
      let as_low : named_config (with_idle d gs) cs ≡ named_config (with_idle c gs) cs =
      like_named c d gs cs (sym among.1.word) (lowered_covered others c.effects d.effects among.1.effects) in
      let tightened : named_config (with_idle c gs) cs ≡ named_config (with_idle c es) cs =
      ap (λ (xs : List NamedEffect). let n : NamedConfig = record { word = c.word; effects = xs } in n) ts.2 in
      record {
        config = f;
        on = among.2.1;
        idle = gs;
        seen = covers_idle f d gs cov
            (idle_lowered (IsOpenOn (more a) w) others c d es gs (open_others a) among.1 idle ts.3);
        calls = cs;
        matches = covered_match (IsOpenOn (more a) w) (f.effects ++ gs) (d.effects ++ gs) cs
            (covered_append f.effects d.effects gs cov.effects) low;
        explains = subst (λ (n : NamedConfig). Explains opening (more a) w order n)
            (sym tightened ∙ (sym as_low ∙ covers_named f d gs cs cov)) x;
      }

  -- the reply at the place of the answered operation
  pub replied_so : (order : List Call) (n : ℕ) (c : Call) → IsOrderOn w opening (more a) order → slice_get order n ≡ Some c
      → c.id ≡ b.id → reply ≡ reply_of_one c.operation (memory_of opening (take n order))
  replied_so order n c o there number =
      o.replies (length t) n c reply there
      (subst (λ (m : ℕ). TraceAnswersAt (more a) (length t) m reply) (sym number) (now a))

  -- what is open, but for the answered operation, with bounds that are lowered
  pub record IsAhead (found : List Config) (order : List Call) : Type 0 where
    pub config : Config
    pub on : IsIn found config
    pub idle : List Effect
    pub seen : AreIdleHere config idle
    pub low : (e : Effect) → IsIn idle e → e.newest ≤ newest_number others
    pub cs : List Call
    pub matches : Matches (IsIn others) (config.effects ++ idle) cs
    pub explains : Explains opening t w order (named_config (with_idle config idle) cs)

  -- as it is told by the configurations that were found
  pub ahead : (found : List Config) (order : List Call) (c : Config) (es : List Effect) (cs : List Call) → IsAmong found c
      → AreIdleHere c es → Matches (Other (IsOpenOn t w) b.id) (c.effects ++ es) cs
      → Explains opening t w order (named_config (with_idle c es) cs) → IsAhead found order
  ahead found order c es cs k idle m x =
      let f = k.0 in
      let ts = tight (IsIn others) c.effects es cs
      (weaken (Other (IsOpenOn t w) b.id) (IsIn others) (open_other a) (c.effects ++ es) cs m) in
      let gs = ts.0 in
      let tightened : named_config (with_idle c gs) cs ≡ named_config (with_idle c es) cs =
      ap (λ (xs : List NamedEffect). let n : NamedConfig = record { word = c.word; effects = xs } in n) ts.2 in
      record {
        config = f;
        on = k.1;
        idle = gs;
        seen = covers_idle f c gs k.2 (idle_tight (IsIn others) c es gs idle ts.3);
        low = λ e on.
            let r = (ts.3 e on).5 in
            let l = newest_above others r.1.0 r.0 r.1.1 in let n = r.3 in omega (arith, l, n);
        cs = cs;
        matches = covered_match (IsIn others) (f.effects ++ gs) (c.effects ++ gs) cs
            (covered_append f.effects c.effects gs k.2.effects) ts.1;
        explains = subst (λ (n : NamedConfig). Explains opening t w order n)
            (sym tightened ∙ covers_named f c gs cs k.2) x;
      }

  -- the answered operation has found the word that is there
  here_leads : (order : List Call) (found new : List Config) (c : Config) (es : List Effect) (cs : List Call)
      → IsAmong found c → AreIdleHere c es → is_idle b.operation.op c.word ≡ true → reply_to b.operation.op c.word ≡ reply
      → Matches (IsIn others) (c.effects ++ es) cs → Explains opening (more a) w order (named_config (with_idle c es) cs)
      → ((d : Config) → (f : Config) × IsIn found f × IsTakenConfig others b reply f d → IsAmongLowered others new d)
      → LeadsToConfig opening (more a) w order new
  here_leads order found new c es cs k idle stays replies m x takes =
      let f = k.0 in
      let cov = k.2 in
      let ts = tight (IsIn others) c.effects es cs m in
      let gs = ts.0 in
      let d = taken others f b in
      let full = covered_match (IsIn others) (f.effects ++ gs) (c.effects ++ gs) cs
      (covered_append f.effects c.effects gs cov.effects) ts.1 in
      let among = takes d (
        f,
        k.1,
        (
          ap (λ (v : ℕ). reply_to b.operation.op v) cov.word ∙ replies,
          matches_front (IsIn others) f.effects gs cs full,
          refl,
        ),
      ) in
      let low : (e : Effect) → IsIn gs e → e.newest ≤ newest_number others = λ e on.
      let r = (ts.3 e on).5 in
      let l = newest_above others r.1.0 r.0 r.1.1 in let n = r.3 in omega (arith, l, n) in
      let tightened : named_config (with_idle c gs) cs ≡ named_config (with_idle c es) cs =
      ap (λ (xs : List NamedEffect). let n : NamedConfig = record { word = c.word; effects = xs } in n) ts.2 in
      let same : new_word b.operation.op f.word ≡ f.word = eqb-true (new_word b.operation.op f.word) f.word
      (ap (λ (v : ℕ). is_idle b.operation.op v) cov.word ∙ stays) in
      let y : Explains opening (more a) w order (named_config (with_idle f gs) cs) = subst
      (λ (n : NamedConfig). Explains opening (more a) w order n) (sym tightened ∙ covers_named f c gs cs cov) x in
      leads_among order new d gs cs among
      (idle_seen others f (new_word b.operation.op f.word) gs low
      (covers_idle f c gs cov (idle_tight (IsIn others) c es gs idle ts.3)))
      (weaken (IsIn others) (IsOpenOn (more a) w) (other_later a) (f.effects ++ gs) cs full)
      (subst (λ (v : ℕ). Explains opening (more a) w order (record { word = v; effects = named (f.effects ++ gs) cs })) (sym same) y)

  -- the answered operation has taken effect in a configuration that an order leads to
  pub claim_leads : (order : List Call) (n : ℕ) (old new found : List Config)
      → IsOrderOn w opening (more a) order → (l : LeadsToConfig opening t w (take n order) old) → IsAmong found l.config
      → ((d : Config) → (c : Config) × IsIn found c × IsTakenConfig others b reply c d → IsAmongLowered others new d)
      → ((d : Config) → (c : Config) × IsIn old c × MayClaim others b reply c d → IsAmongLowered others new d)
      → (x : NamedEffect) → IsIn (named (l.config.effects ++ l.idle) l.calls) x → x.id ≡ b.id
      → LeadsToConfig opening (more a) w (take n order) new
  claim_leads order n old new found o l kept takes claims x on number =
      let c = l.config in
      let fs = c.effects ++ l.idle in
      let r : IsPlaced (IsOpenOn t w) fs l.calls on.0 x = match_place (IsOpenOn t w) fs l.calls on.0 x l.matches on.1 in
      let k = on.0 in
      let e = r.effect in
      let one : r.call ≡ b = one_open words t w r.call b a.well r.on a.waits (r.number ∙ number) in
      let p = l.explains.replied x on in
      let there = take_get n order p.at p.call p.there in
      let same : take p.at (take n order) ≡ take p.at order = take-take p.at n order (omega (arith, there.0)) in
      let good : e.reply ≡ reply = r.reply ∙ (p.reply
      ∙ (ap (λ (m : List Call). reply_of_one p.call.operation (memory_of opening m)) same
      ∙ sym (replied_so order p.at p.call o there.1 (p.number ∙ number)))) in
      let cs = remove l.calls k in
      let rest : Matches (Other (IsOpenOn t w) b.id) (remove fs k) cs = subst
      (λ (g : Call). Matches (Other (IsOpenOn t w) g.id) (remove fs k) cs) one r.rest in
      let placed : l.calls ≡ insert cs k b = insert_back l.calls k b (r.at ∙ ap (λ (g : Call). Some g) one) in
      let may : MayBe e b = subst (λ (g : Call). MayBe e g) one r.may in
      let y = claimed_explains (IsOpenOn t w) words opening t w (take n order) (with_idle c l.idle) k e l.calls cs b reply a.is
      (insert_back fs k e r.there) placed good rest l.explains in
      ⊎_elim {C = LeadsToConfig opening (more a) w (take n order) new}
      (λ (at : (slice_get c.effects k ≡ Some e) × (remove fs k ≡ remove c.effects k ++ l.idle)).
      let m : Matches (Other (IsOpenOn t w) b.id) (remove c.effects k ++ l.idle) cs = subst
      (λ (es : List Effect). Matches (Other (IsOpenOn t w) b.id) es cs) at.1 rest in
      let fit = matches_front (IsIn others) (remove c.effects k) l.idle cs
      (weaken (Other (IsOpenOn t w) b.id) (IsIn others) (open_other a) (remove c.effects k ++ l.idle) cs m) in
      leads_among (take n order) new (less_one c k) l.idle cs
      (claims (less_one c k) (c, l.on, inl (k, (e, at.0, good, may, fit, refl)))) l.seen
      (weaken (Other (IsOpenOn t w) b.id) (IsOpenOn (more a) w) (later_up a) (remove c.effects k ++ l.idle) cs m)
      (subst (λ (es : List Effect). Explains opening (more a) w (take n order) (record { word = c.word; effects = named es cs }))
      at.1 y))
      (λ (at : (m : ℕ) × (slice_get l.idle m ≡ Some e) × (remove fs k ≡ c.effects ++ remove l.idle m)).
      let es = remove l.idle at.0 in
      let i = l.seen e (at.0, at.1) in
      let idle : AreIdleHere c es = λ f in_es. l.seen f (remove_from l.idle at.0 in_es.0 f in_es.1) in
      let m : Matches (Other (IsOpenOn t w) b.id) (c.effects ++ es) cs = subst
      (λ (gs : List Effect). Matches (Other (IsOpenOn t w) b.id) gs cs) at.2 rest in
      let other = weaken (Other (IsOpenOn t w) b.id) (IsIn others) (open_other a) (c.effects ++ es) cs m in
      let z : Explains opening (more a) w (take n order) (named_config (with_idle c es) cs) = subst
      (λ (gs : List Effect). Explains opening (more a) w (take n order) (record { word = c.word; effects = named gs cs })) at.2 y in
      let stays : (v : ℕ) → i.word ≡ v → is_idle b.operation.op v ≡ true = λ v s.
      subst (λ (u : ℕ). is_idle b.operation.op u ≡ true) s
      (subst (λ (q : Op). is_idle q i.word ≡ true) (sym may.asks) i.idle) in
      let replies : (v : ℕ) → i.word ≡ v → reply_to b.operation.op v ≡ reply = λ v s.
      ap (λ (u : ℕ). reply_to b.operation.op u) (sym s)
      ∙ (ap (λ (q : Op). reply_to q i.word) may.asks ∙ (sym i.reply ∙ good)) in
      ⊎_elim {C = LeadsToConfig opening (more a) w (take n order) new}
      (λ (s : i.word ≡ c.word).
      here_leads (take n order) found new c es cs kept idle (stays c.word s) (replies c.word s) other z takes)
      (λ (h : IsGlimpsed c.seen (record { word = i.word; newest = e.newest })).
      leads_among (take n order) new c es cs
      (claims c (
        c,
        l.on,
        inr (
          h.0,
          h.1,
          record {
            idle = stays h.0.word (sym h.2);
            early = let u = may.early in let v = h.3 in omega (arith, u, v);
          },
          replies h.0.word (sym h.2),
          matches_front (IsIn others) c.effects es cs other,
          refl,
        ),
      )) idle
      (weaken (Other (IsOpenOn t w) b.id) (IsOpenOn (more a) w) (later_up a) (c.effects ++ es) cs m) z)
      i.there)
      (place_cases c.effects l.idle k e r.there)
