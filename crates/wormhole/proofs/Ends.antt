-- What holds of the flits stays when a sender, a receiver or a credit moves.
use Rattle.std.proofs.Common.{◌≡◌, inl, inr, ℕ, ◌+◌, ◌-◌, ◌<◌, List, [], ◌∷◌, ◌++◌, length, Some, option_to_list}
use Rattle.std.proofs.Common.{refl, sym, ◌∙◌, ap, subst, arith}
use Rattle.std.proofs.lemmas.List.{length_push}
use Rattle.std.proofs.lemmas.List.Elements.{All-push}
use Rattle.wormhole.specs.Net.{Net, Parcel, IsParcel, EndsWithTail, flits_of_all}
use Rattle.wormhole.specs.State.{NetLine, Note, NetState, in_line}
use Rattle.wormhole.specs.Events.{InjectHead, InjectRest, Latch, Return, CanInjectHead, CanInjectRest, CanLatch}
use Rattle.wormhole.specs.Events.{CanReturn, put, taken, after}
use Rattle.wormhole.specs.Words.{Words}
use Rattle.wormhole.proofs.Changes.{changed, changed_line}
use Rattle.wormhole.proofs.Channels.{push_head, push_rest, in_line_put}
use Rattle.wormhole.proofs.OneChannel.{words_one}

-- a put keeps the credits
pub put_credits : (n : Net) (l : NetLine) (flit : ℕ) → l.held + length l.flits + l.returning ≡ n.depth → 0 < l.held
    → (l.held - 1) + length (l.flits ++ flit ∷ []) + l.returning ≡ n.depth
put_credits n l flit h c = omega (arith, length_push l.flits flit)

-- a take keeps the credits
pub take_credits : (n : Net) (l : NetLine) (flit : ℕ) (more : List ℕ) → l.held + length l.flits + l.returning ≡ n.depth → l.flits ≡ flit ∷ more
    → l.held + length more + (l.returning + 1) ≡ n.depth
take_credits n l flit more h e = let f : length l.flits ≡ length (flit ∷ more) = ap length e in omega arith

pub words_inject_head : (n : Net) (s : NetState) (x : ℕ) (k : Parcel) → Words n s → CanInjectHead n (s.lines x) x k
    → Words n (after n s (InjectHead x k))
words_inject_head n s x k w c =
    let l : NetLine = s.lines x in
    let h : Note = s.notes x in
    words_one n s (after n s (InjectHead x k)) x (record (put k.head l) { rest = k.tail })
    (record h { parcels = h.parcels ++ k ∷ []; owed = k.tail; sent = h.sent ++ k ∷ [] }) w
    (changed s x (record (put k.head l) { rest = k.tail }) (record h { parcels = h.parcels ++ k ∷ []; owed = k.tail; sent = h.sent ++ k ∷ [] }))
    (record {
      credits = put_credits n l k.head (w.credits x) c.credit;
      contiguous = push_head h.awaited (in_line l) h.owed h.parcels k (w.contiguous x) (w.senders x c.injects ∙ c.idle)
          ∙ ap (λ (fs : List ℕ). fs ++ k.tail) (sym (in_line_put l k.head));
      parcels = All-push (IsParcel n) h.parcels k (w.parcels x) c.parcel;
      awaited = w.awaited x;
      owed = c.parcel.tail;
      senders = λ i. refl;
      unlatched = w.unlatched x;
      assembling = w.assembling x;
    })
    refl
    (inr refl)
    (inl c.injects)

pub words_inject_rest : (n : Net) (s : NetState) (x flit : ℕ) (more : List ℕ) → Words n s → CanInjectRest n (s.lines x) x flit more
    → Words n (after n s (InjectRest x flit more))
words_inject_rest n s x flit more w c =
    let l : NetLine = s.lines x in
    let h : Note = s.notes x in
    let owes : h.owed ≡ flit ∷ more = w.senders x c.injects ∙ c.course in
    words_one n s (after n s (InjectRest x flit more)) x (record (put flit l) { rest = more }) (record h { owed = more }) w
    (changed s x (record (put flit l) { rest = more }) (record h { owed = more }))
    (record {
      credits = put_credits n l flit (w.credits x) c.credit;
      contiguous = push_rest (h.awaited ++ flits_of_all h.parcels) (in_line l) more flit (w.contiguous x ∙ ap (λ (o : List ℕ). in_line l ++ o) owes)
          ∙ ap (λ (fs : List ℕ). fs ++ more) (sym (in_line_put l flit));
      parcels = w.parcels x;
      awaited = w.awaited x;
      owed = (subst (EndsWithTail n) owes (w.owed x)).2;
      senders = λ i. refl;
      unlatched = w.unlatched x;
      assembling = w.assembling x;
    })
    refl
    (inr refl)
    (inl c.injects)

pub words_latch : (n : Net) (s : NetState) (x flit : ℕ) (more : List ℕ) → Words n s → CanLatch n (s.lines x) x flit more
    → Words n (after n s (Latch x flit more))
words_latch n s x flit more w c =
    let l : NetLine = s.lines x in
    let h : Note = s.notes x in
    words_one n s (after n s (Latch x flit more)) x (record (taken more l) { latch = Some flit }) h w
    (changed_line s x (record (taken more l) { latch = Some flit }))
    (record {
      credits = take_credits n l flit more (w.credits x) c.first;
      contiguous = w.contiguous x ∙ (ap (λ o. (option_to_list o ++ l.flits) ++ h.owed) c.free ∙ ap (λ (fs : List ℕ). fs ++ h.owed) c.first);
      parcels = w.parcels x;
      awaited = w.awaited x;
      owed = w.owed x;
      senders = w.senders x;
      unlatched = λ e. let no = c.input in cc;
      assembling = w.assembling x;
    })
    refl
    (inr refl)
    (inr refl)

pub words_return : (n : Net) (s : NetState) (x : ℕ) → Words n s → CanReturn n (s.lines x) x → Words n (after n s (Return x))
words_return n s x w c =
    let l : NetLine = s.lines x in
    let sum = w.credits x in
    let some = c.returns in
    words_one n s (after n s (Return x)) x (record l { held = l.held + 1; returning = l.returning - 1 }) (s.notes x) w
    (changed_line s x (record l { held = l.held + 1; returning = l.returning - 1 }))
    (record {
      credits = omega arith;
      contiguous = w.contiguous x;
      parcels = w.parcels x;
      awaited = w.awaited x;
      owed = w.owed x;
      senders = w.senders x;
      unlatched = w.unlatched x;
      assembling = w.assembling x;
    })
    refl
    (inr refl)
    (inr refl)
