-- What is kept behind an answer is explained.
use Rattle.std.proofs.Common.{◌≡◌, ⊎_elim, ℕ, zero, suc, List, [], ◌∷◌, ◌++◌, length, Some, refl, sym, subst}
use Rattle.std.proofs.Common.{arith, slice_get}
use Rattle.std.specs.List.{insert, remove}
use Rattle.packet.specs.declared.kinds.Reply.{Reply}
use Rattle.packet.specs.Memory.{new_word, reply_to}
use Rattle.trace_laws.specs.declared.event.Call.{Call}
use Rattle.trace_laws.specs.declared.event.Event.{Event}
use Rattle.trace_laws.specs.declared.event.Event.TheVariants.{Answer}
use Rattle.trace_laws.proofs.Lists.{get_append_left}
use Rattle.trace_laws.specs.Configs.{IsIn}
use Rattle.trace_watch.specs.declared.state.Effect.{Effect}
use Rattle.trace_watch.specs.States.{Config, IsIdleIn, newest_number, with_idle}
use Rattle.trace_watch.specs.Matchings.{Matches, MayBe, Other}
use Rattle.trace_watch.specs.Named.{named}
use Rattle.trace_watch.specs.Known.{AreIdleIn, Explains, HasIssued, IsExplainedWatch, IsOpenOn}
use Rattle.trace_watch.specs.Closed.{IsClaimed, IsIdleClaim, IsTakenConfig, MayClaim}
use Rattle.trace_watch.specs.Lowered.{IsLowered}
use Rattle.trace_watch.proofs.Matched.{fits_weaken, insert_back, match_insert, remove_from, weaken}
use Rattle.trace_watch.proofs.Idle.{ExplainsAll, get_middle, glimpse_all, glimpse_issued, issued_up, newest_issued, remove_append, remove_middle}
use Rattle.trace_watch.proofs.Bounds.{lowered_sound}
use Rattle.trace_watch.proofs.Steps.{claimed_explains, taken_explains}
use Rattle.trace_watch.proofs.Answered.{IsAnswer, later_down, more, open_others, other_later, other_open}

module _ {words : ℕ} {opening : List ℕ} {t : List Event} {w : ℕ} {b : Call} {reply : Reply} {calls others : List Call}
    (a : IsAnswer words opening t w b reply calls others) where
  -- sound: what is kept is explained
  pub taken_sound : (c d : Config) → IsExplainedWatch opening t w c → IsTakenConfig others b reply c d
      → IsExplainedWatch opening (more a) w d
  taken_sound c d x takes = subst (λ (f : Config). IsExplainedWatch opening (more a) w f) (sym takes.2) (record {
    fits = fits_weaken (IsIn others) (IsOpenOn (more a) w) (other_later a) c.effects takes.1;
    explained = λ es idle cs m.
        let less = weaken (IsOpenOn (more a) w) (Other (IsOpenOn t w) b.id) (later_down a) (c.effects ++ es) cs m in
        let r = glimpse_all opening t w others c (new_word b.operation.op c.word) es a.inside x idle cs
        (weaken (Other (IsOpenOn t w) b.id) (IsOpenOn t w) (λ g o. o.0) (c.effects ++ es) cs less) in (
          r.0 ++ b ∷ [],
          taken_explains (IsOpenOn t w) words opening t w r.0 (with_idle c es) cs b reply a.inside a.is a.waits takes.0 less
              r.1,
        );
    issued = λ e on. issued_up t (Answer b.id reply) e.newest (x.issued e on);
    seen = λ g on. issued_up t (Answer b.id reply) g.newest
        (glimpse_issued opening t w others c (new_word b.operation.op c.word) newest x g on);
  })
    where
      newest : HasIssued t (newest_number others)
      newest = newest_issued t others (a.waits.pending.issued.0, b, a.waits.pending.issued.1, omega arith)
          (λ f on. (other_open a f on).pending.issued)

  -- the answered operation has taken effect at a place
  claim_at : (word : ℕ) (fs : List Effect) (k : ℕ) (e : Effect) (cs : List Call) → slice_get fs k ≡ Some e → MayBe e b
      → e.reply ≡ reply → ExplainsAll opening t w word fs → Matches (IsOpenOn (more a) w) (remove fs k) cs
      → (order : List Call) × Explains opening (more a) w order (record { word = word; effects = named (remove fs k) cs })
  claim_at word fs k e cs there may told x m =
      let c : Config = record { word = word; effects = fs; seen = [] } in
      let back = insert_back fs k e there in
      let less = weaken (IsOpenOn (more a) w) (Other (IsOpenOn t w) b.id) (later_down a) (remove fs k) cs m in
      let full = match_insert (IsOpenOn t w) (remove fs k) cs k e b a.waits may less in
      let r = x (insert cs k b) (subst (λ (es : List Effect). Matches (IsOpenOn t w) es (insert cs k b)) (sym back) full) in (
        r.0,
        claimed_explains (IsOpenOn t w) words opening t w r.0 c k e (insert cs k b) cs b reply a.is back refl told less r.1,
      )

  pub claimed_sound : (c d : Config) → IsExplainedWatch opening t w c → IsClaimed others b reply c d
      → IsExplainedWatch opening (more a) w d
  claimed_sound c d x claims =
      let k = claims.0 in
      let e = claims.1.0 in
      subst (λ (f : Config). IsExplainedWatch opening (more a) w f) (sym claims.1.5) (record {
        fits = fits_weaken (IsIn others) (IsOpenOn (more a) w) (other_later a) (remove c.effects k) claims.1.4;
        explained = λ es idle cs m.
            let same = remove_append c.effects es k e claims.1.1 in
            let r = claim_at c.word (c.effects ++ es) k e cs (get_append_left c.effects es k e claims.1.1) claims.1.3 claims.1.2
            (x.explained es idle) (subst (λ (fs : List Effect). Matches (IsOpenOn (more a) w) fs cs) (sym same) m) in (
              r.0,
              subst (λ (fs : List Effect). Explains opening (more a) w r.0 (record { word = c.word; effects = named fs cs })) same
                  r.1,
            );
        issued = λ f on. issued_up t (Answer b.id reply) f.newest (x.issued f (remove_from c.effects k on.0 f on.1));
        seen = λ g on. issued_up t (Answer b.id reply) g.newest (x.seen g on);
      })

  -- or at a word that was there
  pub found_sound : (c d : Config) → IsExplainedWatch opening t w c → IsIdleClaim others b reply c d
      → IsExplainedWatch opening (more a) w d
  found_sound c d x claims = subst (λ (f : Config). IsExplainedWatch opening (more a) w f) (sym claims.5) (record {
    fits = fits_weaken (IsIn others) (IsOpenOn (more a) w) (other_later a) c.effects claims.4;
    explained = λ es idle cs m.
        let same = remove_middle c.effects es e in
        let r = claim_at c.word (c.effects ++ e ∷ es) (length c.effects) e cs (get_middle c.effects es e)
        (record { asks = refl; early = omega arith }) claims.3 (x.explained (e ∷ es) (λ f on. one es idle f on.0 on.1))
        (subst (λ (fs : List Effect). Matches (IsOpenOn (more a) w) fs cs) (sym same) m) in (
          r.0,
          subst (λ (fs : List Effect). Explains opening (more a) w r.0 (record { word = c.word; effects = named fs cs })) same r.1,
        );
    issued = λ f on. issued_up t (Answer b.id reply) f.newest (x.issued f on);
    seen = λ g on. issued_up t (Answer b.id reply) g.newest (x.seen g on);
  })
    where
      e : Effect
      e = record { op = b.operation.op; reply = reply_to b.operation.op claims.0.word; newest = b.id }

      one : (es : List Effect) → AreIdleIn c.seen es → (f : Effect) (k : ℕ) → slice_get (e ∷ es) k ≡ Some f
          → IsIdleIn c.seen f
      one es idle f zero h =
          let s : e ≡ f = cc in
          subst (λ (y : Effect). IsIdleIn c.seen y) s (record {
            glimpse = claims.0;
            there = claims.1;
            idle = claims.2.idle;
            reply = refl;
            low = claims.2.early;
          })
      one es idle f (suc k) h = idle f (k, h)

  pub may_sound : (c d : Config) → IsExplainedWatch opening t w c → MayClaim others b reply c d
      → IsExplainedWatch opening (more a) w d
  may_sound c d x claims = ⊎_elim {C = IsExplainedWatch opening (more a) w d}
      (λ (l : IsClaimed others b reply c d). claimed_sound c d x l)
      (λ (r : IsIdleClaim others b reply c d). found_sound c d x r)
      claims

  pub low_sound : (c d : Config) → IsLowered others c d → IsExplainedWatch opening (more a) w c → IsExplainedWatch opening (more a) w d
  low_sound c d low x = lowered_sound opening (more a) w others c d (open_others a) low x
