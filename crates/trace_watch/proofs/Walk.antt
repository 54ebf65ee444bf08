-- Answers on a word: from what explains the trace before it, to what explains it with the answer.
use Rattle.std.proofs.Common.{◌≡◌, ◌≢◌, inl, ⊎_elim, true, false, ℕ, zero, suc, ◌+◌, ◌<◌, ◌≤◌, List, [], ◌∷◌, ◌++◌, length, Some, refl, sym, ◌∙◌, ap, subst}
use Rattle.std.proofs.Common.{arith, slice_get, take, get_or}
use Rattle.std.specs.List.{insert}
use Rattle.std.proofs.lemmas.Bool.{cases_Bool, cases_eq, cases_lt, eqb-true}
use Rattle.packet.specs.declared.kinds.Op.{Op}
use Rattle.packet.specs.declared.kinds.Reply.{Reply}
use Rattle.packet.specs.Memory.{new_word, reply_to}
use Rattle.trace_laws.specs.declared.event.Call.{Call}
use Rattle.trace_laws.specs.declared.event.Event.{Event}
use Rattle.trace_laws.specs.declared.event.Event.TheVariants.{Answer}
use Rattle.trace_laws.specs.Traces.{IsTrace, IsAnswered}
use Rattle.trace_laws.specs.Orders.{IsOn, memory_of}
use Rattle.trace_laws.specs.Locality.{IsOrderOn}
use Rattle.trace_laws.proofs.Issues.{one_call}
use Rattle.trace_laws.proofs.Lists.{get_take, take_get, take_push, within_length, get_within}
use Rattle.trace_laws.specs.Configs.{IsIn}
use Rattle.trace_watch.specs.declared.state.Effect.{Effect}
use Rattle.trace_watch.specs.States.{Config, IsAmong, IsIdleHere, changed, effect_of, is_idle, newest_number, spot, taken, with_idle}
use Rattle.trace_watch.specs.Matchings.{FitsPartner, HasNewest, Matches, MayBe, Other}
use Rattle.trace_watch.specs.Named.{NamedConfig, NamedEffect, named, named_config}
use Rattle.trace_watch.specs.Known.{Explains, IsExplainedWatch, IsOpenOn, Knows, LeadsToConfig, ArePendingOn}
use Rattle.trace_watch.specs.Closed.{Closes, FromOne, IsAmongLowered, IsAnsweredBy, IsTakenConfig, LoweredFrom, MayClaim}
use Rattle.trace_watch.proofs.Events.{issue_up}
use Rattle.trace_watch.proofs.Quiet.{order_back}
use Rattle.trace_watch.proofs.Matched.{insert_middle, match_insert, match_others, weaken}
use Rattle.trace_watch.proofs.Covering.{covered_append, covered_match, covers_idle, covers_named}
use Rattle.trace_watch.proofs.Growth.{after_changed, spot_low}
use Rattle.trace_watch.proofs.Idle.{insert_append, matches_front, newest_above}
use Rattle.trace_watch.proofs.Bounds.{idle_seen}
use Rattle.trace_watch.proofs.Steps.{match_ids, put_explains, taken_explains}
use Rattle.trace_watch.proofs.Answered.{IsAnswer, distinct, effect_cases, more, now, one_open, open_other, other_later, other_open}
use Rattle.trace_watch.proofs.KeptSound.{low_sound, may_sound, taken_sound}
use Rattle.trace_watch.proofs.KeptLeads.{IsAhead, ahead, claim_leads, leads_among, replied_so}

module _ {words : ℕ} {opening : List ℕ} {t : List Event} {w : ℕ} {b : Call} {reply : Reply} {calls others : List Call}
    (a : IsAnswer words opening t w b reply calls others) where
  none_of : (c : Config) (es : List Effect) (cs : List Call) → Matches (IsIn others) (c.effects ++ es) cs → (x : NamedEffect)
      → IsIn (named (c.effects ++ es) cs) x → x.id ≡ b.id → ⊥
  none_of c es cs m x on e =
      let r = match_ids (IsIn others) (c.effects ++ es) cs x m on in
      ((a.rest r.0).0 r.1).1 (r.2 ∙ e)

  -- the answered operation stands further on
  further : (order : List Call) (y n : ℕ) (found : List Config) → slice_get order y ≡ Some b
      → IsAhead a found (take n order) → n ≤ y
  further order y n found at s = ⊎_elim {C = n ≤ y}
      (λ (l : y < n).
      let r = s.explains.all y b (get_take n order y b l at) a.waits.pending.unanswered in
      absurd (none_of s.config s.idle s.cs s.matches r.0 r.1 r.2))
      (λ (g : n ≤ y). g)
      (cases_lt y n)

  -- it takes effect now
  take_leads : (order : List Call) (n : ℕ) (found new : List Config) → IsOrderOn w opening (more a) order
      → slice_get order n ≡ Some b → IsAhead a found (take n order)
      → ((d : Config) → (c : Config) × IsIn found c × IsTakenConfig others b reply c d → IsAmongLowered others new d)
      → LeadsToConfig opening (more a) w (take (suc n) order) new
  take_leads order n found new o at s takes =
      let c = s.config in
      let d = taken others c b in
      let fs = c.effects ++ s.idle in
      let replies : reply_to b.operation.op c.word ≡ reply =
      ap (λ (v : ℕ). reply_to b.operation.op v) s.explains.word
      ∙ (ap (λ (v : ℕ). reply_to b.operation.op (get_or (memory_of opening (take n order)) v 0)) (sym a.waits.here)
      ∙ sym (replied_so a order n b o at refl)) in
      let among = takes d (c, s.on, (replies, matches_front (IsIn others) c.effects s.idle s.cs s.matches, refl)) in
      let less = weaken (IsIn others) (Other (IsOpenOn t w) b.id)
      (λ g on. (other_open a g on, ((a.rest g).0 on).1)) fs s.cs s.matches in
      let x = taken_explains (IsOpenOn t w) words opening t w (take n order) (with_idle c s.idle) s.cs b reply a.inside a.is
      a.waits replies less s.explains in
      let same : take n order ++ b ∷ [] ≡ take (suc n) order = sym (take_push order n b at) in
      leads_among a (take (suc n) order) new d s.idle s.cs among
      (idle_seen others c (new_word b.operation.op c.word) s.idle s.low s.seen)
      (weaken (IsIn others) (IsOpenOn (more a) w) (other_later a) fs s.cs s.matches)
      (subst (λ (m : List Call). Explains opening (more a) w m (named_config (with_idle d s.idle) s.cs)) same x)

  -- another operation finds the word that is there, and leaves it
  idle_on : (order : List Call) (n : ℕ) (found : List Config) (d : Call) (s : IsAhead a found (take n order))
      → IsOpenOn t w d → IsIn others d → is_idle d.operation.op s.config.word ≡ true
      → ((x : NamedEffect) → IsIn (named (s.config.effects ++ s.idle) s.cs) x → x.id ≡ d.id → ⊥)
      → IsAhead a found (take n order ++ d ∷ [])
  idle_on order n found d s waits listed stays left = record {
    config = c;
    on = s.on;
    idle = e ∷ s.idle;
    seen = λ f on. here f on.0 on.1;
    low = λ f on. bound f on.0 on.1;
    cs = insert s.cs k d;
    matches = subst (λ (es : List Effect). Matches (IsIn others) es (insert s.cs k d)) (insert_middle c.effects s.idle e)
        (match_insert (IsIn others) (c.effects ++ s.idle) s.cs k e d listed (record { asks = refl; early = omega arith })
        (match_others (IsIn others) (c.effects ++ s.idle) s.cs d.id s.matches left));
    explains = subst (λ (v : ℕ). Explains opening t w (take n order ++ d ∷ [])
        (record { word = v; effects = named (c.effects ++ e ∷ s.idle) (insert s.cs k d) }))
        (eqb-true (new_word d.operation.op c.word) c.word stays)
        (subst (λ (es : List Effect). Explains opening t w (take n order ++ d ∷ [])
        (record { word = new_word d.operation.op c.word; effects = named es (insert s.cs k d) }))
        (insert_middle c.effects s.idle e)
        (put_explains (IsIn others) opening t w (take n order) c.word (c.effects ++ s.idle) s.cs k e d a.inside waits refl refl
        s.matches left s.explains));
  }
    where
      c : Config
      c = s.config

      k : ℕ
      k = length c.effects

      e : Effect
      e = record { op = d.operation.op; reply = reply_to d.operation.op c.word; newest = d.id }

      here : (f : Effect) (i : ℕ) → slice_get (e ∷ s.idle) i ≡ Some f → IsIdleHere c.word c.seen f
      here f zero h =
          let q : e ≡ f = cc in
          subst (λ (y : Effect). IsIdleHere c.word c.seen y) q
          (record { word = c.word; idle = stays; reply = refl; there = inl refl })
      here f (suc i) h = s.seen f (i, h)

      bound : (f : Effect) (i : ℕ) → slice_get (e ∷ s.idle) i ≡ Some f → f.newest ≤ newest_number others
      bound f zero h =
          let q : e ≡ f = cc in
          subst (λ (y : Effect). y.newest ≤ newest_number others) q (newest_above others listed.0 d listed.1)
      bound f (suc i) h = s.low f (i, h)

  -- or it changes it
  change_on : (newest : List Call) (order : List Call) (n : ℕ) (old found : List Config) (d : Call)
      (s : IsAhead a found (take n order)) → HasNewest others newest → Closes others newest old found
      → IsOpenOn t w d → IsIn others d → is_idle d.operation.op s.config.word ≡ false
      → ((x : NamedEffect) → IsIn (named (s.config.effects ++ s.idle) s.cs) x → x.id ≡ d.id → ⊥)
      → IsAhead a found (take n order ++ d ∷ [])
  change_on newest order n old found d s latest closed waits listed moves left =
      let c = s.config in
      let r = latest.all d listed in
      let e = effect_of c r.0 in
      let k = spot c.effects e in
      let fs = c.effects ++ s.idle in
      let may : MayBe e d = record { asks = sym r.2; early = r.3 } in
      let split : insert fs k e ≡ insert c.effects k e ++ s.idle =
      insert_append c.effects s.idle k e (spot_low c.effects e) in
      let m : Matches (IsIn others) (insert c.effects k e ++ s.idle) (insert s.cs k d) = subst
      (λ (es : List Effect). Matches (IsIn others) es (insert s.cs k d)) split
      (match_insert (IsIn others) fs s.cs k e d listed may (match_others (IsIn others) fs s.cs d.id s.matches left)) in
      let moved = after_changed others c r.0 (ap (λ (o : Op). is_idle o c.word) r.2 ∙ moves) in
      let f = subst (λ (x : Config). IsAmong found x) moved (closed.closed c s.on (distinct a) r.0 r.1
      (subst (λ (x : Config). FitsPartner (IsIn others) x.effects) (sym moved)
      (matches_front (IsIn others) (insert c.effects k e) s.idle (insert s.cs k d) m))) in
      let g = changed others c r.0 in
      let x : Explains opening t w (take n order ++ d ∷ []) (named_config (with_idle g s.idle) (insert s.cs k d)) = subst
      (λ (es : List Effect). Explains opening t w (take n order ++ d ∷ [])
      (record { word = new_word r.0.operation.op c.word; effects = named es (insert s.cs k d) })) split
      (put_explains (IsIn others) opening t w (take n order) c.word fs s.cs k e d a.inside waits (sym r.2) refl s.matches left
      s.explains) in
      record {
        config = f.0;
        on = f.1;
        idle = s.idle;
        seen = covers_idle f.0 g s.idle f.2 (idle_seen others c (new_word r.0.operation.op c.word) s.idle s.low s.seen);
        low = s.low;
        cs = insert s.cs k d;
        matches = covered_match (IsIn others) (f.0.effects ++ s.idle) (g.effects ++ s.idle) (insert s.cs k d)
            (covered_append f.0.effects g.effects s.idle f.2.effects) m;
        explains = subst (λ (z : NamedConfig). Explains opening t w (take n order ++ d ∷ []) z)
            (covers_named f.0 g s.idle (insert s.cs k d) f.2) x;
      }

  -- another operation takes effect
  step_on : (newest : List Call) (order : List Call) (n : ℕ) (old found : List Config) (d : Call)
      → HasNewest others newest → Closes others newest old found → IsOrderOn w opening t order
      → slice_get order n ≡ Some d → d.id ≢ b.id → IsAhead a found (take n order) → IsAhead a found (take (suc n) order)
  step_on newest order n old found d latest closed o at ne s =
      let c = s.config in
      let issue = o.issued n d at in
      let later : IsAnswered t d.id → ⊥ = λ told.
      let on = s.explains.legal.answered issue.0 told.0 d told.1 issue.1 (o.here n d at) told.2 in
      let there = take_get n order on.0 on.1 on.2 in
      let same = o.once on.0 n on.1 d there.1 at on.3 in
      let early = there.0 in
      omega arith in
      let left : (x : NamedEffect) → IsIn (named (c.effects ++ s.idle) s.cs) x → x.id ≡ d.id → ⊥ = λ x on e.
      let r = s.explains.replied x on in
      let there = take_get n order r.at r.call r.there in
      let same = o.once r.at n r.call d there.1 at (r.number ∙ e) in
      let early = there.0 in
      omega arith in
      let waits : IsOpenOn t w d = record {
        pending = record { issued = issue; unanswered = later };
        here = o.here n d at;
      } in
      let listed = open_other a d (waits, ne) in
      subst (λ (xs : List Call). IsAhead a found xs) (sym (take_push order n d at))
      (⊎_elim {C = IsAhead a found (take n order ++ d ∷ [])}
      (λ (yes : is_idle d.operation.op c.word ≡ true). idle_on order n found d s waits listed yes left)
      (λ (no : is_idle d.operation.op c.word ≡ false).
      change_on newest order n old found d s latest closed waits listed no left)
      (cases_Bool (is_idle d.operation.op c.word)))

  walk : (newest : List Call) (order : List Call) (y : ℕ) (old found new : List Config)
      → HasNewest others newest → Closes others newest old found → IsOrderOn w opening (more a) order
      → IsOrderOn w opening t order → slice_get order y ≡ Some b
      → ((d : Config) → (c : Config) × IsIn found c × IsTakenConfig others b reply c d → IsAmongLowered others new d)
      → (fuel n : ℕ) → length order ≤ n + fuel → IsAhead a found (take n order)
      → (m : ℕ) × LeadsToConfig opening (more a) w (take m order) new
  walk newest order y old found new latest closed o back at taken zero n enough s =
      let far = further order y n found at s in
      let low = get_within order y b at in
      absurd (omega arith)
  walk newest order y old found new latest closed o back at taken (suc fuel) n enough s =
      let far = further order y n found at s in
      let low = get_within order y b at in
      let d = within_length order n (omega arith) in
      ⊎_elim {C = (m : ℕ) × LeadsToConfig opening (more a) w (take m order) new}
      (λ (e : d.0.id ≡ b.id).
      let waits : IsOpenOn t w d.0 = record {
        pending = record {
          issued = back.issued n d.0 d.1;
          unanswered = λ told. a.waits.pending.unanswered (subst (λ (i : ℕ). IsAnswered t i) e told);
        };
        here = back.here n d.0 d.1;
      } in
      let one : d.0 ≡ b = one_open words t w d.0 b a.well waits a.waits e in
      (suc n, take_leads order n found new o (d.1 ∙ ap (λ (g : Call). Some g) one) s taken))
      (λ (ne : d.0.id ≢ b.id).
      walk newest order y old found new latest closed o back at taken fuel (suc n) (omega arith)
      (step_on newest order n old found d.0 latest closed back d.1 ne s))
      (cases_eq d.0.id b.id)

-- what is known of the word of the answered operation
pub knows_answer : (words : ℕ) (opening : List ℕ) (t : List Event) (w : ℕ) (b : Call) (reply : Reply)
    (calls : List Call) (old new : List Config) → w < length opening → IsTrace words t
    → IsTrace words (t ++ Answer b.id reply ∷ []) → IsOpenOn t w b → ArePendingOn t w calls
    → IsAnsweredBy b reply calls old new → Knows opening t w old → Knows opening (t ++ Answer b.id reply ∷ []) w new
knows_answer words opening t w b reply calls old new inside well is waits pending by knows =
    let a : IsAnswer words opening t w b reply calls by.others = record {
      inside = inside;
      well = well;
      is = is;
      waits = waits;
      pending = pending;
      rest = by.rest;
    } in
    let explained = by.closes.sound calls (λ c on. ((by.rest c).0 on).0)
    (λ c on. ((by.rest c).0 (by.latest.from c on)).0) opening t w inside pending knows.sound in
    record {
      sound = λ d on. ⊎_elim {C = IsExplainedWatch opening (t ++ Answer b.id reply ∷ []) w d}
          (λ (x : LoweredFrom by.others (FromOne by.found (IsTakenConfig by.others b reply)) d).
          low_sound a x.0 d x.2 (taken_sound a x.1.0 x.0 (explained x.1.0 x.1.1) x.1.2))
          (λ (x : LoweredFrom by.others (FromOne old (MayClaim by.others b reply)) d).
          low_sound a x.0 d x.2 (may_sound a x.1.0 x.0 (knows.sound x.1.0 x.1.1) x.1.2))
          (by.from d on);
      complete = λ order o.
          let back = order_back opening t w b.id reply order o in
          let first = knows.complete order back in
          let n = first.0 in
          let l = first.1 in
          let issue = waits.pending.issued in
          let y : IsOn order b.id = o.answered issue.0 (length t) b reply
          (issue_up t (Answer b.id reply) issue.0 b issue.1) waits.here (now a) in
          let one : y.1 ≡ b =
          let i = back.issued y.0 y.1 y.2 in one_call words t well i.0 issue.0 y.1 b i.1 issue.1 y.3 in
          let at : slice_get order y.0 ≡ Some b = y.2 ∙ ap (λ (g : Call). Some g) one in
          let k = by.closes.kept l.config l.on in
          ⊎_elim {C = (m : ℕ) × LeadsToConfig opening (t ++ Answer b.id reply ∷ []) w (take m order) new}
          (λ there. (
            n,
            claim_leads a order n old new by.found o l k (by.taken (distinct a)) (by.claimed (distinct a)) there.0 there.1
                there.2,
          ))
          (λ none.
          let start = ahead a by.found (take n order) l.config l.idle l.calls k l.seen
          (match_others (IsOpenOn t w) (l.config.effects ++ l.idle) l.calls b.id l.matches none) l.explains in
          walk a by.newest order y.0 old by.found new by.latest by.closes o back at (by.taken (distinct a))
          (length order) n (omega arith) start)
          (effect_cases (named (l.config.effects ++ l.idle) l.calls) b.id);
    }
