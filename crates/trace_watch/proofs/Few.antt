-- How many configurations open operations lead to.
use Rattle.std.proofs.Common.{◌≡◌, ◌↔◌, ⊎_elim, ℕ, ◌<◌, ◌≤◌, List, [], ◌∷◌, length, Some, Vec, refl, sym, ◌∙◌, ap, subst, arith, slice_get, get_or}
use Rattle.std.proofs.Common.{true, false, cond, suc}
use Rattle.std.specs.List.{insert}
use Rattle.std.proofs.lemmas.Bool.{cases_Bool}
use Rattle.packet.specs.declared.kinds.Op.{Op}
use Rattle.packet.specs.declared.kinds.Reply.{Reply}
use Rattle.packet.specs.Memory.{new_word}
use Rattle.trace_laws.specs.Traces.{IsAnswered}
use Rattle.trace_laws.specs.declared.event.Call.{Call}
use Rattle.trace_laws.specs.declared.event.Event.{Event}
use Rattle.trace_laws.specs.declared.event.Event.TheVariants.{Issue, Answer}
use Rattle.trace_laws.proofs.Issues.{one_call, one_issue}
use Rattle.trace_laws.specs.Configs.{IsIn}
use Rattle.trace_watch.specs.declared.state.State.{State}
use Rattle.trace_watch.specs.declared.watch.Watch.{Watch}
use Rattle.trace_watch.specs.States.{Config, Covers, IsAmong, after, changed, configs_of, effect_of, is_idle, newest_number, other_words, spot}
use Rattle.trace_watch.specs.Matchings.{AreDistinctPartners, FitsPartner, HasNewest}
use Rattle.trace_watch.specs.Known.{IsPendingCall}
use Rattle.trace_watch.specs.Closed.{Closes, IsExpandedState}
use Rattle.trace_watch.specs.Crowds.{ExplainsCrowd, AreFew}
use Rattle.trace_watch.specs.Follows.{Tracks, AnswersFew, states_of}
use Rattle.trace_watch.proofs.Events.{same_number, same_call}
use Rattle.trace_watch.proofs.Matched.{fits_weaken}
use Rattle.trace_watch.proofs.Covering.{covered_fits, covers_changed, covers_trans}
use Rattle.trace_watch.proofs.Growth.{after_changed, after_idle}
use Rattle.trace_watch.proofs.Idle.{newest_above}
use Rattle.trace_watch.proofs.Grown.{long_configs}
use Rattle.trace_watch.proofs.Watching.{pending_inside, states_read}

-- whatever operations lead to is among the configurations that are closed under them
reached : (others newest : List Call) (found : List Config) → AreDistinctPartners others → HasNewest others newest
    → ((f : Config) → IsIn found f → IsExpandedState others newest found f)
    → (path : List Call) (c d f : Config) → IsIn found f → Covers f c → ExplainsCrowd others c path d → IsAmong found d
reached others newest found apart latest closed [] c d f on cov leads =
    (f, on, subst (λ (x : Config). Covers f x) leads cov)
reached others newest found apart latest closed (call ∷ path) c d f on cov leads =
    ⊎_elim {C = IsAmong found d}
    (λ (yes : is_idle call.operation.op c.word ≡ true).
    reached others newest found apart latest closed path c d f on cov
    (subst (λ (x : Config). ExplainsCrowd others x path d) (after_idle others c call yes) leads.2))
    (λ (no : is_idle call.operation.op c.word ≡ false).
    let moved = after_changed others c call no in
    let r = latest.all call leads.0 in
    let over = covers_changed others f c r.0 call r.2 r.3 cov in
    let same = after_changed others f r.0
    (ap (λ (o : Op). is_idle o f.word) r.2 ∙ (ap (λ (v : ℕ). is_idle call.operation.op v) cov.word ∙ no)) in
    let fit = covered_fits (IsIn others) (changed others f r.0) (changed others c call) over
    (subst (λ (x : Config). FitsPartner (IsIn others) x.effects) moved leads.1) in
    let a = subst (λ (x : Config). IsAmong found x) same (closed f on apart r.0 r.1
    (subst (λ (x : Config). FitsPartner (IsIn others) x.effects) (sym same) fit)) in
    reached others newest found apart latest closed path (changed others c call) d a.0 a.1
    (covers_trans a.0 (changed others f r.0) (changed others c call) a.2 over)
    (subst (λ (x : Config). ExplainsCrowd others x path d) moved leads.2))
    (cases_Bool (is_idle call.operation.op c.word))

-- the highest number of some operations is no higher than that of others, if each is one of these
newest_below : (calls more : List Call) → ((c : Call) → IsIn calls c → IsIn more c)
    → newest_number calls ≤ newest_number more
newest_below [] more part = omega arith
newest_below (c ∷ calls) more part =
    let on = part c (0, refl) in
    let l = newest_above more on.0 c on.1 in
    let m = newest_below calls more (λ d h. part d (suc h.0, h.1)) in
    omega (arith, l, m)

-- two lists of the same operations lead to the same
leads_same : (calls more : List Call) → ((c : Call) → IsIn calls c ↔ IsIn more c) → (path : List Call) (c d : Config)
    → ExplainsCrowd calls c path d → ExplainsCrowd more c path d
leads_same calls more same [] c d leads = leads
leads_same calls more same (call ∷ path) c d leads = (
  (same call).0 leads.0,
  fits_weaken (IsIn calls) (IsIn more) (λ x on. (same x).0 on) (after more c call).effects
      (subst (λ (x : Config). FitsPartner (IsIn calls) x.effects) one leads.1),
  leads_same calls more same path (after more c call) d (subst (λ (x : Config). ExplainsCrowd calls x path d) one leads.2),
)
  where
    number : newest_number calls ≡ newest_number more
    number =
        let l = newest_below calls more (λ x on. (same x).0 on) in
        let m = newest_below more calls (λ x on. (same x).1 on) in
        omega (arith, l, m)

    at : ℕ → Config
    at n = cond (is_idle call.operation.op c.word) c (record {
      word = new_word call.operation.op c.word;
      effects = insert c.effects (spot c.effects (effect_of c call)) (effect_of c call);
      seen = other_words (new_word call.operation.op c.word) (record { word = c.word; newest = n } ∷ c.seen);
    })

    one : after calls c call ≡ after more c call
    one = ap at number

pub few_found : (id : ℕ) (calls others newest : List Call) (bound : ℕ) (old found : List Config)
    → ((c : Call) → IsIn others c ↔ (IsIn calls c × (c.id ≡ id → ⊥))) → HasNewest others newest
    → length found ≤ bound → Closes others newest old found → AreDistinctPartners calls → AreFew id calls bound old
few_found id calls others newest bound old found rest latest short closes apart = record {
  found = found;
  short = short;
  all = λ also c d path are on leads.
      let k = closes.kept c on in
      reached others newest found
      (λ x y in_x in_y e. apart x y ((rest x).0 in_x).0 ((rest y).0 in_y).0 e) latest closes.closed path c d k.0 k.1 k.2
      (leads_same also others (λ x. ((λ h. (rest x).1 ((are x).0 h)), (λ h. (are x).1 ((rest x).0 h)))) path c d leads);
}

-- as the code reads them
pub few_read_found : {A B : Type 0} (id : ℕ) (calls others newest first second also : List Call) (bound : ℕ)
    (states : List (State B)) (found : List (State A)) → first ≡ others → second ≡ others → also ≡ newest
    → ((c : Call) → IsIn others c ↔ (IsIn calls c × (c.id ≡ id → ⊥))) → HasNewest first newest
    → length found ≤ bound → Closes second also (configs_of states) (configs_of found) → AreDistinctPartners calls
    → AreFew id calls bound (configs_of states)
few_read_found id calls others newest first second also bound states found a b n rest latest short closes apart =
    few_found id calls others newest bound (configs_of states) (configs_of found) rest
    (subst (λ (os : List Call). HasNewest os newest) a latest) (let e = long_configs found in omega arith)
    (subst (λ (ns : List Call). Closes others ns (configs_of states) (configs_of found)) n
    (subst (λ (os : List Call). Closes os also (configs_of states) (configs_of found)) b closes)) apart

-- operations that are members of one another lead to as many
few_same : (id : ℕ) (calls more : List Call) (bound : ℕ) (old : List Config)
    → ((c : Call) → IsIn calls c ↔ IsIn more c) → AreFew id more bound old → AreFew id calls bound old
few_same id calls more bound old same few = record {
  found = few.found;
  short = few.short;
  all = λ others c d path are on leads. few.all others c d path
      (λ x. (
        (λ h. let r = (are x).0 h in ((same x).0 r.0, r.1)),
        (λ h. (are x).1 ((same x).1 h.0, h.1)),
      )) on leads;
}

-- an operation that is open is one of those that a watch holds
held : {A : Type 0} (opening : List ℕ) (t : List Event) (watch : Watch A) (call : Call) → Tracks opening t watch
    → IsPendingCall t call → IsIn watch.pending.items call
held opening t watch call f p = ⊎_elim {C = IsIn watch.pending.items call}
    (λ (a : IsAnswered t call.id). absurd (p.unanswered a))
    (λ (on : IsIn watch.pending.items call). on)
    (f.pending.all p.issued.0 call p.issued.1)

-- no open operation is answered
pub none_few : {A : Type 0} (opening : List ℕ) (t : List Event) (watch : Watch A) (id : ℕ) (reply : Reply) (bound : ℕ)
    → ((k : ℕ) (c : Call) → slice_get watch.pending.items k ≡ Some c → c.id ≡ id → ⊥) → Tracks opening t watch
    → AnswersFew t (Answer id reply) bound watch
none_few opening t watch id reply bound none f = λ other r calls p e on.
    let h = held opening t watch other f p in
    absurd (none h.0 other h.1 (sym (same_number id other.id reply r e).0))

-- an open operation on a word that there isn't
pub far_few : {A : Type 0} (opening : List ℕ) (t : List Event) (watch : Watch A) (call : Call) (id : ℕ) (reply : Reply)
    (bound : ℕ) → IsIn watch.pending.items call → length watch.words.items ≤ call.operation.address
    → Tracks opening t watch → AnswersFew t (Answer id reply) bound watch
far_few opening t watch call id reply bound on far f =
    absurd (let l = pending_inside opening t watch call on f in omega arith)

-- an open operation is answered
pub answers_few : {A : Type 0} (opening : List ℕ) (t : List Event) (watch : Watch A) (call : Call) (id : ℕ)
    (reply : Reply) (bound : ℕ) (calls : List Call) → IsIn watch.pending.items call → call.id ≡ id
    → ((c : Call) → IsIn calls c ↔ (IsIn watch.pending.items c × (c.operation.address ≡ call.operation.address)))
    → (AreDistinctPartners calls → AreFew call.id calls bound (states_of watch.words.items call.operation.address))
    → Tracks opening t watch → AnswersFew t (Answer id reply) bound watch
answers_few opening t watch call id reply bound calls on number here few f = λ other r also p e are.
    let q = f.pending.each call on in
    let apart : AreDistinctPartners calls = λ c d in_c in_d same.
    let x = f.pending.each c ((here c).0 in_c).0 in
    let y = f.pending.each d ((here d).0 in_d).0 in
    one_call (length opening) t f.well x.issued.0 y.issued.0 c d x.issued.1 y.issued.1 same in
    let told : id ≡ other.id = (same_number id other.id reply r e).0 in
    let at = one_issue (length opening) t f.well q.issued.0 p.issued.0 call other q.issued.1 p.issued.1 (number ∙ told) in
    let there : slice_get t p.issued.0 ≡ Some (Issue call) =
    ap (λ (k : ℕ). slice_get t k) (sym at) ∙ q.issued.1 in
    let same : call ≡ other = same_call call other (let h : slice_get t p.issued.0 ≡ Some (Issue other) = p.issued.1 in cc) in
    subst (λ (x : Call). AreFew x.id also bound (states_of watch.words.items x.operation.address)) same
    (few_same call.id also calls bound (states_of watch.words.items call.operation.address)
    (λ c. (
      (λ in_also. (here c).1 (
        held opening t watch c f (are.each c in_also),
        are.here c in_also ∙ ap (λ (x : Call). x.operation.address) (sym same),
      )),
      (λ in_calls.
          let h = (here c).0 in_calls in
          let p = f.pending.each c h.0 in
          ⊎_elim {C = IsIn also c}
          (λ (told : IsAnswered t c.id). absurd (p.unanswered told))
          (λ (on : IsIn also c). on)
          (are.all p.issued.0 c p.issued.1 (h.1 ∙ ap (λ (x : Call). x.operation.address) same))),
    )) (few apart))

-- as the code reads the word's states
pub few_read : {A : Type 0} (watch : Watch A) (call : Call) (id bound : ℕ) (calls cs : List Call)
    (v : Vec (State A) A) (ss : List (State A)) → cs ≡ calls → ss ≡ v.items
    → v ≡ get_or watch.words.items call.operation.address v → call.operation.address < length watch.words.items
    → (AreDistinctPartners cs → AreFew id cs bound (configs_of ss))
    → AreDistinctPartners calls → AreFew id calls bound (states_of watch.words.items call.operation.address)
few_read {A} watch call id bound calls cs v ss listed items read inside few apart =
    subst (λ (xs : List Config). AreFew id calls bound xs)
    (ap (λ (xs : List (State A)). configs_of xs) items ∙ states_read watch.words.items call.operation.address v inside read)
    (subst (λ (xs : List Call). AreFew id xs bound (configs_of ss)) listed
    (few (subst (λ (xs : List Call). AreDistinctPartners xs) (sym listed) apart)))
