-- The loops over effects, operations and configurations.
use Rattle.packet.specs.Memory.{new_word}
use Rattle.std.proofs.Common.{◌≡◌, ◌≢◌, ⊎_elim, ℕ, zero, suc, ◌+◌, ◌<◌, ◌≤◌, List, [], ◌∷◌, ◌++◌, length, Some, None, refl, sym, ◌∙◌, ap, subst}
use Rattle.std.proofs.Common.{Bool, true, false, cond, arith, slice_get}
use Rattle.std.proofs.lemmas.Bool.{cases_Bool, cases_eq, cases_lt}
use Rattle.trace_laws.specs.declared.event.Call.{Call}
use Rattle.trace_laws.specs.declared.event.Event.{Event}
use Rattle.trace_laws.proofs.Lists.{get_within}
use Rattle.trace_laws.specs.Configs.{IsIn, GoesOn}
use Rattle.trace_watch.specs.declared.state.Effect.{Effect}
use Rattle.trace_watch.specs.States.{Config, IsAmong, after, changed, effect_of, is_before, is_idle, spot}
use Rattle.trace_watch.specs.Matchings.{AreDistinctPartners, FitsPartner, IsPart}
use Rattle.trace_watch.specs.Known.{HasIssued, IsExplainedWatch, IsOpenOn, ArePendingOn, StaysExplained}
use Rattle.trace_watch.specs.Closed.{IsOneMore, IsExpandedState, Expands, CatchesUp, Closes}
use Rattle.trace_watch.proofs.Matched.{fits_weaken, insert_from}
use Rattle.trace_watch.proofs.Fitting.{fits_fewer}
use Rattle.trace_watch.proofs.Covering.{covers_self}
use Rattle.trace_watch.proofs.Idle.{ExplainsAll, glimpse_all, glimpse_issued, insert_append, newest_issued, put_all}
use Rattle.trace_watch.proofs.Grown.{goes_same, goes_more, goes_at, goes_among, goes_back, more_goes, more_among, more_from}

-- a list of one has it alone
pub one_in : (b d : Call) → IsIn (b ∷ []) d → b ≡ d
one_in b d (zero, h) = cc
one_in b d (suc k, h) = cc

-- these are open on a word
open_on : (t : List Event) (w : ℕ) (calls : List Call) (c : Call) → ArePendingOn t w calls → IsIn calls c
    → IsOpenOn t w c
open_on t w calls c pending on = record { pending = pending.each c on; here = pending.here c on }

-- how many effects stand before one more
pub spot_low : (es : List Effect) (e : Effect) → spot es e ≤ length es
spot_low [] e = omega arith
spot_low (f ∷ es) e = ⊎_elim {C = spot (f ∷ es) e ≤ length (f ∷ es)}
    (λ (t : is_before f e ≡ true).
    let s = ap (λ (b : Bool). cond b (suc (spot es e)) 0) t in let l = spot_low es e in omega (arith, s, l))
    (λ (n : is_before f e ≡ false).
    let s = ap (λ (b : Bool). cond b (suc (spot es e)) 0) n in omega (arith, s))
    (cases_Bool (is_before f e))

-- whichever open operation an effect is of, an order leads to it
pub explained_changed : (opening : List ℕ) (t : List Event) (w : ℕ) (all calls : List Call) (c : Config) (call : Call)
    → w < length opening → ArePendingOn t w all → IsPart calls all → IsIn all call
    → FitsPartner (IsIn calls) (changed calls c call).effects
    → IsExplainedWatch opening t w c → IsExplainedWatch opening t w (changed calls c call)
explained_changed opening t w all calls c call inside pending among on fit x = record {
  fits = fits_weaken (IsIn calls) (IsOpenOn t w) (λ d in_calls. open_on t w all d pending (among d in_calls))
      (changed calls c call).effects fit;
  explained = λ es idle. subst (λ (fs : List Effect). ExplainsAll opening t w word fs)
      (insert_append c.effects es k e (spot_low c.effects e))
      (put_all opening t w c.word (c.effects ++ es) k e inside refl (glimpse_all opening t w calls c word es inside x idle));
  issued = λ f in_f. ⊎_elim {C = HasIssued t f.newest}
      (λ (old : IsIn c.effects f). x.issued f old)
      (λ (new : e ≡ f).
      let issue = (pending.each call on).issued in
      let same = ap (λ (g : Effect). g.newest) new in
      (issue.0, call, issue.1, omega (arith, same)))
      (insert_from c.effects k e f in_f.0 in_f.1);
  seen = glimpse_issued opening t w calls c word
      (newest_issued t calls ((pending.each call on).issued.0, call, (pending.each call on).issued.1, omega arith)
      (λ d in_calls. (pending.each d (among d in_calls)).issued)) x;
}
  where
    e : Effect
    e = effect_of c call

    k : ℕ
    k = spot c.effects e

    word : ℕ
    word = new_word call.operation.op c.word

-- an operation that changes the word
pub after_changed : (calls : List Call) (c : Config) (call : Call) → is_idle call.operation.op c.word ≡ false
    → after calls c call ≡ changed calls c call
after_changed calls c call moves = ap (λ (b : Bool). cond b c (changed calls c call)) moves

pub after_idle : (calls : List Call) (c : Config) (call : Call) → is_idle call.operation.op c.word ≡ true
    → after calls c call ≡ c
after_idle calls c call idle = ap (λ (b : Bool). cond b c (changed calls c call)) idle

-- the operations that are enough after one more effect are so before it
pub after_fits : (calls : List Call) (c : Config) (call : Call) → FitsPartner (IsIn calls) (after calls c call).effects
    → FitsPartner (IsIn calls) c.effects
after_fits calls c call fit = ⊎_elim {C = FitsPartner (IsIn calls) c.effects}
    (λ (t : is_idle call.operation.op c.word ≡ true).
    subst (λ (d : Config). FitsPartner (IsIn calls) d.effects) (after_idle calls c call t) fit)
    (λ (f : is_idle call.operation.op c.word ≡ false).
    fits_fewer (IsIn calls) c.effects (spot c.effects (effect_of c call)) (effect_of c call)
    (subst (λ (d : Config). FitsPartner (IsIn calls) d.effects) (after_changed calls c call f) fit))
    (cases_Bool (is_idle call.operation.op c.word))

-- it leaves the word as it is
pub expands_idle : (at : ℕ) (calls : List Call) (call : Call) (old : List Config) (c : Config)
    → slice_get old at ≡ Some c → is_idle call.operation.op c.word ≡ true → Expands at calls (call ∷ []) old old
expands_idle at calls call old c there idle = record {
  expanded = λ d h apart other on fit.
      let same : c ≡ d = cc in
      let one : call ≡ other = one_in call other on in
      subst (λ (f : Call). IsAmong old (after calls d f)) one
      (subst (λ (f : Config). IsAmong old (after calls f call)) same
      (subst (λ (f : Config). IsAmong old f) (sym (after_idle calls c call idle)) (c, (at, there), covers_self c)));
  grows = goes_same old;
  sound = λ all among also opening trace w inside pending explained. explained;
}

-- an operation can't take effect
pub expands_nothing : (at : ℕ) (calls : List Call) (call : Call) (old : List Config) (c : Config)
    → slice_get old at ≡ Some c → is_idle call.operation.op c.word ≡ false
    → (AreDistinctPartners calls → FitsPartner (IsIn calls) (changed calls c call).effects → ⊥)
    → Expands at calls (call ∷ []) old old
expands_nothing at calls call old c there moves never = record {
  expanded = λ d h apart other on fit.
      let same : c ≡ d = cc in
      let one : call ≡ other = one_in call other on in
      absurd (never apart (subst (λ (f : Config). FitsPartner (IsIn calls) f.effects) (after_changed calls c call moves)
      (subst (λ (f : Call). FitsPartner (IsIn calls) (after calls c f).effects) (sym one)
      (subst (λ (f : Config). FitsPartner (IsIn calls) (after calls f other).effects) (sym same) fit))));
  grows = goes_same old;
  sound = λ all among also opening trace w inside pending explained. explained;
}

-- it takes effect now
pub expands_one : (at : ℕ) (calls : List Call) (call : Call) (old new : List Config) (c : Config)
    → slice_get old at ≡ Some c → is_idle call.operation.op c.word ≡ false
    → FitsPartner (IsIn calls) (changed calls c call).effects → IsOneMore old (changed calls c call) new
    → Expands at calls (call ∷ []) old new
expands_one at calls call old new c there moves fit more = record {
  expanded = λ d h apart other on enough.
      let same : c ≡ d = cc in
      let one : call ≡ other = one_in call other on in
      subst (λ (f : Call). IsAmong new (after calls d f)) one
      (subst (λ (f : Config). IsAmong new (after calls f call)) same
      (subst (λ (f : Config). IsAmong new f) (sym (after_changed calls c call moves))
      (more_among old new (changed calls c call) more)));
  grows = more_goes old new (changed calls c call) more;
  sound = λ all among also opening trace w inside pending explained d on.
      ⊎_elim {C = IsExplainedWatch opening trace w d}
      (λ (was : IsIn old d). explained d was)
      (λ (e : changed calls c call ≡ d). subst (λ (f : Config). IsExplainedWatch opening trace w f) e
      (explained_changed opening trace w all calls c call inside pending among (also call (0, refl)) fit
      (explained c (at, there))))
      (more_from old new (changed calls c call) d more on);
}

-- of some operations those up to place i
pub record Expanding (at : ℕ) (calls newest : List Call) (old : List Config) (i : ℕ) (new : List Config) : Type 0 where
  pub expanded : (c : Config) → slice_get old at ≡ Some c → AreDistinctPartners calls → (j : ℕ) (call : Call) → j < i
      → slice_get newest j ≡ Some call → FitsPartner (IsIn calls) (after calls c call).effects
      → IsAmong new (after calls c call)
  pub grows : GoesOn old new
  pub sound : (all : List Call) → IsPart calls all → IsPart newest all → StaysExplained all old new

pub expanding_none : (at : ℕ) (calls newest : List Call) (old : List Config) → Expanding at calls newest old 0 old
expanding_none at calls newest old = record {
  expanded = λ c h apart j call l k fit. absurd (omega arith);
  grows = goes_same old;
  sound = λ all among also opening trace w inside pending explained. explained;
}

pub expanding_more : (at : ℕ) (calls newest : List Call) (old : List Config) (i : ℕ) (new later : List Config)
    (call : Call) → slice_get newest i ≡ Some call → at < length old → Expands at calls (call ∷ []) new later
    → Expanding at calls newest old i new → Expanding at calls newest old (i + 1) later
expanding_more at calls newest old i new later call here low next was = record {
  expanded = λ c h apart j other l k fit. ⊎_elim {C = IsAmong later (after calls c other)}
      (λ (e : j ≡ i).
      let there : slice_get newest i ≡ Some other = ap (λ (n : ℕ). slice_get newest n) (sym e) ∙ k in
      let same : call ≡ other = cc in
      next.expanded c (goes_at old new at c was.grows h) apart other (0, ap (λ (d : Call). Some d) same) fit)
      (λ (ne : j ≢ i).
      goes_among new later (after calls c other) next.grows (was.expanded c h apart j other (omega arith) k fit))
      (cases_eq j i);
  grows = goes_more old new later was.grows next.grows;
  sound = λ all among also opening trace w inside pending explained.
      next.sound all among (λ c on. subst (λ (d : Call). IsIn all d) (one_in call c on) (also call (i, here))) opening trace w
      inside pending (was.sound all among also opening trace w inside pending explained);
}

pub expanding_all : (at : ℕ) (calls newest : List Call) (old : List Config) (i : ℕ) (new : List Config)
    → length newest ≤ i → Expanding at calls newest old i new → Expands at calls newest old new
expanding_all at calls newest old i new all was = record {
  expanded = λ c h apart call on fit.
      was.expanded c h apart on.0 call (let l = get_within newest on.0 call on.1 in omega arith) on.1 fit;
  grows = was.grows;
  sound = was.sound;
}

longer : (xs ys : List Config) → length xs ≤ length (xs ++ ys)
longer [] ys = omega arith
longer (x ∷ xs) ys = let r = longer xs ys in omega arith

pub goes_longer : (old new : List Config) → GoesOn old new → length old ≤ length new
goes_longer old new on =
    let l = longer old on.0 in let e = ap (λ (xs : List Config). length xs) on.1 in omega arith

expanded_still : (calls newest : List Call) (old new : List Config) (c : Config) → GoesOn old new
    → IsExpandedState calls newest old c → IsExpandedState calls newest new c
expanded_still calls newest old new c on was = λ apart call there fit.
    goes_among old new (after calls c call) on (was apart call there fit)

-- all configurations up to the next one have been expanded
pub record Catching (from : ℕ) (calls newest : List Call) (begun : List Config) (next : ℕ) (found : List Config) : Type 0
  where
    pub grows : GoesOn begun found
    pub closed : (j : ℕ) (c : Config) → from ≤ j → j < next → slice_get found j ≡ Some c
        → IsExpandedState calls newest found c
    pub within : next ≤ length found
    pub sound : (all : List Call) → IsPart calls all → IsPart newest all → StaysExplained all begun found

pub catching_none : (from : ℕ) (calls newest : List Call) (begun : List Config) → from ≤ length begun
    → Catching from calls newest begun from begun
catching_none from calls newest begun low = record {
  grows = goes_same begun;
  closed = λ j c g l h. absurd (omega arith);
  within = low;
  sound = λ all among also opening trace w inside pending explained. explained;
}

pub catching_more : (from : ℕ) (calls newest : List Call) (begun : List Config) (next : ℕ) (found later : List Config)
    → next < length found → Expands next calls newest found later → Catching from calls newest begun next found
    → Catching from calls newest begun (next + 1) later
catching_more from calls newest begun next found later low more was = record {
  grows = goes_more begun found later was.grows more.grows;
  closed = λ j d g l h. ⊎_elim {C = IsExpandedState calls newest later d}
      (λ (e : j ≡ next).
      let there : slice_get later next ≡ Some d = ap (λ (n : ℕ). slice_get later n) (sym e) ∙ h in
      more.expanded d (goes_back found later next d more.grows low there))
      (λ (ne : j ≢ next).
      let short : j < length found = omega arith in
      expanded_still calls newest found later d more.grows
      (was.closed j d g (omega arith) (goes_back found later j d more.grows short h)))
      (cases_eq j next);
  within = let l = goes_longer found later more.grows in omega arith;
  sound = λ all among also opening trace w inside pending explained.
      more.sound all among also opening trace w inside pending
      (was.sound all among also opening trace w inside pending explained);
}

pub catching_all : (from : ℕ) (calls newest : List Call) (begun : List Config) (next : ℕ) (found : List Config)
    → length found ≤ next → Catching from calls newest begun next found → CatchesUp from calls newest begun found
catching_all from calls newest begun next found all was = record {
  closed = λ j c g h. was.closed j c g (let l = get_within found j c h in omega arith) h;
  grows = was.grows;
  sound = was.sound;
}

-- all that the configurations up to place i lead to
pub record Closing (calls newest : List Call) (old : List Config) (i : ℕ) (found : List Config) : Type 0 where
  pub kept : (j : ℕ) (c : Config) → j < i → slice_get old j ≡ Some c → IsAmong found c
  pub closed : (j : ℕ) (c : Config) → slice_get found j ≡ Some c → IsExpandedState calls newest found c
  pub sound : (all : List Call) → IsPart calls all → IsPart newest all → StaysExplained all old found

pub closing_none : (calls newest : List Call) (old : List Config) → Closing calls newest old 0 []
closing_none calls newest old = record {
  kept = λ j c l h. absurd (omega arith);
  closed = λ j c h. absurd (let e : None ≡ Some c = h in cc);
  sound = λ all among also opening trace w inside pending explained c on. absurd (let e : None ≡ Some c = on.1 in cc);
}

-- with one more of them
pub added_sound : (calls newest : List Call) (old : List Config) (i : ℕ) (found more : List Config) (c : Config)
    → slice_get old i ≡ Some c → IsOneMore found c more → Closing calls newest old i found
    → (all : List Call) → IsPart calls all → IsPart newest all → StaysExplained all old more
added_sound calls newest old i found more c here one was all among also opening trace w inside pending explained d on =
    ⊎_elim {C = IsExplainedWatch opening trace w d}
    (λ (l : IsIn found d). was.sound all among also opening trace w inside pending explained d l)
    (λ (e : c ≡ d). subst (λ (f : Config). IsExplainedWatch opening trace w f) e (explained c (i, here)))
    (more_from found more c d one on)

pub closing_more : (calls newest : List Call) (old : List Config) (i : ℕ) (found more later : List Config) (c : Config)
    → slice_get old i ≡ Some c → IsOneMore found c more → CatchesUp (length found) calls newest more later
    → Closing calls newest old i found → Closing calls newest old (i + 1) later
closing_more calls newest old i found more later c here one next was =
    let on = goes_more found more later (more_goes found more c one) next.grows in
    record {
      kept = λ j d l h. ⊎_elim {C = IsAmong later d}
          (λ (e : j ≡ i).
          let there : slice_get old i ≡ Some d = ap (λ (n : ℕ). slice_get old n) (sym e) ∙ h in
          let same : c ≡ d = cc in
          subst (λ (f : Config). IsAmong later f) same
          (goes_among more later c next.grows (more_among found more c one)))
          (λ (ne : j ≢ i). goes_among found later d on (was.kept j d (omega arith) h))
          (cases_eq j i);
      closed = λ j d h. ⊎_elim {C = IsExpandedState calls newest later d}
          (λ (l : j < length found).
          expanded_still calls newest found later d on (was.closed j d (goes_back found later j d on l h)))
          (λ (g : length found ≤ j). next.closed j d g h)
          (cases_lt j (length found));
      sound = λ all among also opening trace w inside pending explained.
          next.sound all among also opening trace w inside pending
          (added_sound calls newest old i found more c here one was all among also opening trace w inside pending explained);
    }

pub closing_all : (calls newest : List Call) (old : List Config) (i : ℕ) (found : List Config) → length old ≤ i
    → Closing calls newest old i found → Closes calls newest old found
closing_all calls newest old i found all was = record {
  kept = λ c on. was.kept on.0 c (let l = get_within old on.0 c on.1 in omega arith) on.1;
  closed = λ c on. was.closed on.0 c on.1;
  sound = was.sound;
}
