-- The loops over states, as configurations.
use Rattle.std.proofs.Common.{◌≡◌, true, false, ℕ, ◌+◌, ◌<◌, ◌≤◌, List, [], ◌∷◌, length, Some, sym, ◌∙◌, ap, subst, arith, slice_get, get_or}
use Rattle.std.proofs.lemmas.Option.{slice_get-get_or}
use Rattle.trace_laws.specs.declared.event.Call.{Call}
use Rattle.trace_laws.specs.Configs.{IsIn, GoesOn}
use Rattle.trace_watch.specs.declared.state.Effect.{Effect}
use Rattle.trace_watch.specs.declared.state.State.{State}
use Rattle.trace_watch.specs.States.{Config, after, changed, config_of, configs_of, effect_of, is_idle, spot}
use Rattle.trace_watch.specs.Matchings.{AreDistinctPartners, ArePartners, FitsPartner, MayStillBe}
use Rattle.trace_watch.specs.Closed.{CatchesUp, Closes, Expands, IsOneMore}
use Rattle.trace_watch.proofs.Fitting.{partners_end, partners_more}
use Rattle.trace_watch.proofs.Grown.{get_config, goes_back, goes_same, long_configs}
use Rattle.trace_watch.proofs.Growth.{after_fits, goes_longer, expands_idle, expands_nothing, expands_one, Catching, catching_more, catching_all, Closing, closing_more, closing_all}

-- what stands at a place, as the code reads it
pub index_there : {A : Type 0} (xs : List A) (k : ℕ) (x : A) → k < length xs → x ≡ get_or xs k x
    → slice_get xs k ≡ Some x
index_there {A} xs k x l e = slice_get-get_or xs k x l ∙ ap (λ (y : A). Some y) (sym e)

-- what stands at a place of states says what stands there of their configurations
pub config_at : {A : Type 0} (states : List (State A)) (k : ℕ) (s : State A) (c : Config)
    → slice_get states k ≡ Some s → slice_get (configs_of states) k ≡ Some c → config_of s ≡ c
config_at states k s c there is = let e = get_config states k s there in cc

pub attempt_idle : {A : Type 0} (at : ℕ) (calls : List Call) (call : Call) (found : List (State A)) (s : State A)
    → slice_get found at ≡ Some s → true ≡ is_idle call.operation.op s.word
    → Expands at calls (call ∷ []) (configs_of found) (configs_of found)
attempt_idle at calls call found s there idle =
    expands_idle at calls call (configs_of found) (config_of s) (get_config found at s there) (sym idle)

-- no operation is left for the effect
pub attempt_none : {A : Type 0} (at : ℕ) (calls : List Call) (call : Call) (taken : List ℕ) (found : List (State A))
    (s : State A) (e : Effect) → slice_get found at ≡ Some s → false ≡ is_idle call.operation.op s.word
    → e ≡ effect_of (config_of s) call → ArePartners calls s.effects.items taken
    → ((c : Call) → IsIn calls c → MayStillBe taken e c → ⊥)
    → Expands at calls (call ∷ []) (configs_of found) (configs_of found)
attempt_none at calls call taken found s e there moves made are none =
    expands_nothing at calls call (configs_of found) (config_of s) (get_config found at s there) (sym moves)
    (λ apart fit. partners_end calls s.effects.items taken (spot s.effects.items (effect_of (config_of s) call))
    (effect_of (config_of s) call) are
    (λ c on may. none c on (subst (λ (f : Effect). MayStillBe taken f c) (sym made) may)) apart fit)

-- one is
pub attempt_new : {A : Type 0} (at : ℕ) (calls read : List Call) (call : Call) (taken : List ℕ)
    (found later : List (State A)) (s next : State A) (e : Effect) → slice_get found at ≡ Some s
    → false ≡ is_idle call.operation.op s.word → e ≡ effect_of (config_of s) call
    → ArePartners calls s.effects.items taken → ((p : Call) × IsIn calls p × MayStillBe taken e p) → read ≡ calls
    → config_of next ≡ changed read (config_of s) call
    → IsOneMore (configs_of found) (config_of next) (configs_of later)
    → Expands at calls (call ∷ []) (configs_of found) (configs_of later)
attempt_new at calls read call taken found later s next e there moves made are left same is more =
    expands_one at calls call (configs_of found) (configs_of later) (config_of s) (get_config found at s there) (sym moves)
    (partners_more calls s.effects.items taken (spot s.effects.items (effect_of (config_of s) call))
    (effect_of (config_of s) call) left.0 are left.1 (subst (λ (f : Effect). MayStillBe taken f left.0) made left.2))
    (subst (λ (c : Config). IsOneMore (configs_of found) c (configs_of later))
    (is ∙ ap (λ (cs : List Call). changed cs (config_of s) call) same) more)

-- the operations that these take
pub partners_read : {A : Type 0} (calls : List Call) (taken : List ℕ) (old new : List (State A)) (at : ℕ) (s : State A)
    (es : List Effect) → at < length old → slice_get old at ≡ Some s → es ≡ s.effects.items
    → ArePartners calls es taken → GoesOn (configs_of old) (configs_of new)
    → (c : Config) → slice_get (configs_of new) at ≡ Some c → ArePartners calls c.effects taken
partners_read calls taken old new at s es low there read are on c here =
    let e = long_configs old in
    let is : config_of s ≡ c =
    config_at old at s c there (goes_back (configs_of old) (configs_of new) at c on (omega arith) here) in
    subst (λ (d : Config). ArePartners calls d.effects taken) is
    (subst (λ (fs : List Effect). ArePartners calls fs taken) read are)

-- the operations are not enough for the effects
pub expand_stuck : {A : Type 0} (at : ℕ) (calls newest : List Call) (found : List (State A)) (s : State A)
    (es : List Effect) → slice_get found at ≡ Some s → es ≡ s.effects.items
    → (AreDistinctPartners calls → FitsPartner (IsIn calls) es → ⊥)
    → Expands at calls newest (configs_of found) (configs_of found)
expand_stuck at calls newest found s es there read never = record {
  expanded = λ d h apart call on fit.
      let is : config_of s ≡ d = config_at found at s d there h in
      absurd (never apart (subst (λ (fs : List Effect). FitsPartner (IsIn calls) fs) (sym read)
      (after_fits calls (config_of s) call
      (subst (λ (c : Config). FitsPartner (IsIn calls) (after calls c call).effects) (sym is) fit))));
  grows = goes_same (configs_of found);
  sound = λ all among also opening trace w inside pending explained. explained;
}

pub at_inside : {A : Type 0} (old new : List (State A)) (at : ℕ) → at < length old
    → GoesOn (configs_of old) (configs_of new) → at < length new
at_inside old new at low on =
    let a = long_configs old in
    let b = long_configs new in
    let l = goes_longer (configs_of old) (configs_of new) on in
    omega arith

pub catch_more : {A : Type 0} (from : ℕ) (calls newest : List Call) (begun : List Config) (next : ℕ)
    (found later : List (State A)) → next < length found → Expands next calls newest (configs_of found) (configs_of later)
    → Catching from calls newest begun next (configs_of found)
    → Catching from calls newest begun (next + 1) (configs_of later)
catch_more from calls newest begun next found later low more was =
    catching_more from calls newest begun next (configs_of found) (configs_of later)
    (let e = long_configs found in omega arith) more was

pub catch_all : {A : Type 0} (from : ℕ) (calls newest : List Call) (begun : List Config) (next : ℕ)
    (found : List (State A)) → length found ≤ next → Catching from calls newest begun next (configs_of found)
    → CatchesUp from calls newest begun (configs_of found)
catch_all from calls newest begun next found all was =
    catching_all from calls newest begun next (configs_of found) (let e = long_configs found in omega arith) was

pub close_more : {A B : Type 0} (calls newest : List Call) (states : List (State B)) (i from : ℕ)
    (found more later : List (State A)) (s : State B) (copy : State A) → from ≡ length found → slice_get states i ≡ Some s
    → config_of copy ≡ config_of s → IsOneMore (configs_of found) (config_of copy) (configs_of more)
    → CatchesUp from calls newest (configs_of more) (configs_of later)
    → Closing calls newest (configs_of states) i (configs_of found)
    → Closing calls newest (configs_of states) (i + 1) (configs_of later)
close_more calls newest states i from found more later s copy long there same one next was =
    closing_more calls newest (configs_of states) i (configs_of found) (configs_of more) (configs_of later) (config_of copy)
    (get_config states i s there ∙ ap (λ (c : Config). Some c) (sym same)) one
    (subst (λ (n : ℕ). CatchesUp n calls newest (configs_of more) (configs_of later))
    (long ∙ sym (long_configs found)) next) was

pub close_all : {A B : Type 0} (calls newest : List Call) (states : List (State B)) (i : ℕ) (found : List (State A))
    → length states ≤ i → Closing calls newest (configs_of states) i (configs_of found)
    → Closes calls newest (configs_of states) (configs_of found)
close_all calls newest states i found all was =
    closing_all calls newest (configs_of states) i (configs_of found) (let e = long_configs states in omega arith) was
