-- What a watch knows before the first event.
use Rattle.std.proofs.Common.{◌≡◌, ◌≢◌, ⊎_elim, ℕ, zero, suc, ◌+◌, ◌<◌, List, [], ◌∷◌, ◌++◌, length, Some, None, Vec, refl, sym, ◌∙◌, ap, subst}
use Rattle.std.proofs.Common.{arith, slice_get, get_or}
use Rattle.std.proofs.lemmas.Bool.{cases_eq}
use Rattle.trace_laws.specs.declared.event.Call.{Call}
use Rattle.trace_laws.specs.declared.event.Event.TheVariants.{Issue}
use Rattle.trace_laws.specs.Locality.{IsOrderOn}
use Rattle.trace_laws.specs.Configs.{IsIn}
use Rattle.trace_watch.specs.declared.state.State.{State}
use Rattle.trace_watch.specs.declared.state.Effect.{Effect}
use Rattle.trace_watch.specs.States.{Config, configs_of, with_idle}
use Rattle.trace_watch.specs.Matchings.{Matches}
use Rattle.trace_watch.specs.Named.{named_config}
use Rattle.trace_watch.specs.Known.{AreIdleIn, Explains, IsExplainedWatch, IsOpenOn, Knows, ArePending}
use Rattle.trace_watch.specs.Follows.{Tracks, states_of}
use Rattle.trace_watch.proofs.Events.{trace_none}

-- a word that nothing was done to
abbrev pub first_config : ℕ → Config
first_config word = record { word = word; effects = []; seen = [] }

nothing_on : (opening : List ℕ) (w : ℕ) → IsOrderOn w opening [] []
nothing_on opening w = record {
  here = λ x c h. absurd (let e : None ≡ Some c = h in cc);
  once = λ x y c d h k e. absurd (let f : None ≡ Some c = h in cc);
  issued = λ x c h. absurd (let e : None ≡ Some c = h in cc);
  answered = λ i j c r h here k. absurd (let e : None ≡ Some (Issue c) = h in cc);
  real_time = λ i j x y c d r l a b h k. absurd (let e : None ≡ Some c = h in cc);
  replies = λ i x c r h k. absurd (let e : None ≡ Some c = h in cc);
}

nothing_explained : (opening : List ℕ) (w : ℕ)
    → Explains opening [] w [] (named_config (with_idle (first_config (get_or opening w 0)) []) [])
nothing_explained opening w = record {
  legal = nothing_on opening w;
  word = refl;
  pending = λ e on a. (let h : None ≡ Some e = on.1 in cc);
  replied = λ e on. absurd (let h : None ≡ Some e = on.1 in cc);
  all = λ x c h never. absurd (let e : None ≡ Some c = h in cc);
}

-- nothing was there before
none_idle : (opening : List ℕ) (w : ℕ) (es : List Effect) → AreIdleIn [] es
    → (calls : List Call) → Matches (IsOpenOn [] w) es calls
    → (order : List Call) × Explains opening [] w order (named_config (with_idle (first_config (get_or opening w 0)) es) calls)
none_idle opening w [] idle calls m = ([], nothing_explained opening w)
none_idle opening w (e ∷ es) idle calls m =
    let i = idle e (0, refl) in absurd (let h : None ≡ Some i.glimpse = i.there.1 in cc)

first_explained : (opening : List ℕ) (w : ℕ) → IsExplainedWatch opening [] w (first_config (get_or opening w 0))
first_explained opening w = record {
  fits = ([], tt);
  explained = λ es idle calls m. none_idle opening w es idle calls m;
  issued = λ e on. absurd (let h : None ≡ Some e = on.1 in cc);
  seen = λ g on. absurd (let h : None ≡ Some g = on.1 in cc);
}

knows_none : (opening : List ℕ) (w : ℕ) → Knows opening [] w (first_config (get_or opening w 0) ∷ [])
knows_none opening w = record {
  sound = λ c on. subst (λ (d : Config). IsExplainedWatch opening [] w d) (one c on.0 on.1) (first_explained opening w);
  complete = λ order o. (
    0,
    record {
      config = first_config (get_or opening w 0);
      on = (0, refl);
      idle = [];
      seen = λ e on. absurd (let h : None ≡ Some e = on.1 in cc);
      calls = [];
      matches = tt;
      explains = nothing_explained opening w;
    },
  );
}
  where
    one : (c : Config) (k : ℕ) → slice_get (first_config (get_or opening w 0) ∷ []) k ≡ Some c
        → first_config (get_or opening w 0) ≡ c
    one c zero h = cc
    one c (suc k) h = absurd (let e : None ≡ Some c = h in cc)

pub follows_begin : {A : Type 0} (opening : List ℕ) (words : Vec (Vec (State A) A) A) (pending : Vec Call A)
    → length words.items ≡ length opening
    → ((w : ℕ) → w < length opening → states_of words.items w ≡ first_config (get_or opening w 0) ∷ [])
    → pending.items ≡ []
    → Tracks {A = A} opening [] (record { words = words; pending = pending; last = None })
follows_begin {A} opening words pending sized first none = record {
  well = trace_none (length opening);
  newest = record {
    above = λ i c h. absurd (let e : None ≡ Some (Issue c) = h in cc);
    told = λ n e. absurd (let f : None ≡ Some n = e in cc);
  };
  pending = subst (λ (cs : List Call). ArePending [] cs) (sym none) (record {
    each = λ c on. absurd (let h : None ≡ Some c = on.1 in cc);
    all = λ i c h. absurd (let e : None ≡ Some (Issue c) = h in cc);
  });
  sized = sized;
  known = λ w l. subst (λ (cs : List Config). Knows opening [] w cs) (sym (first w l)) (knows_none opening w);
  filled = λ w l. (
    first_config (get_or opening w 0),
    subst (λ (cs : List Config). IsIn cs (first_config (get_or opening w 0))) (sym (first w l)) (0, refl),
  );
}

-- one word more
states_before : {A : Type 0} (words : List (Vec (State A) A)) (v : Vec (State A) A) (w : ℕ) → w < length words
    → states_of (words ++ v ∷ []) w ≡ states_of words w
states_before [] v w l = absurd (omega arith)
states_before (u ∷ words) v zero l = refl
states_before (u ∷ words) v (suc w) l = states_before words v w (omega arith)

states_last : {A : Type 0} (words : List (Vec (State A) A)) (v : Vec (State A) A)
    → states_of (words ++ v ∷ []) (length words) ≡ configs_of v.items
states_last [] v = refl
states_last (u ∷ words) v = states_last words v

length_more : {X : Type 0} (xs : List X) (x : X) → length (xs ++ x ∷ []) ≡ suc (length xs)
length_more [] x = refl
length_more (y ∷ xs) x = ap suc (length_more xs x)

pub words_long : {A : Type 0} (words more : List (Vec (State A) A)) (states : Vec (State A) A) (i : ℕ)
    → length words ≡ i → more ≡ words ++ states ∷ [] → length more ≡ i + 1
words_long {A} words more states i long pushed =
    let e = ap (λ (ws : List (Vec (State A) A)). length ws) pushed in
    let f = length_more words states in
    omega arith

pub words_push : {A : Type 0} (opening : List ℕ) (words more : List (Vec (State A) A)) (i : ℕ)
    (states : Vec (State A) A) → length words ≡ i → more ≡ words ++ states ∷ []
    → configs_of states.items ≡ first_config (get_or opening i 0) ∷ []
    → ((w : ℕ) → w < i → states_of words w ≡ first_config (get_or opening w 0) ∷ [])
    → (w : ℕ) → w < i + 1 → states_of more w ≡ first_config (get_or opening w 0) ∷ []
words_push {A} opening words more i states long pushed first before w l = ⊎_elim
    {C = states_of more w ≡ first_config (get_or opening w 0) ∷ []}
    (λ (e : w ≡ i).
    ap (λ (ws : List (Vec (State A) A)). states_of ws w) pushed
    ∙ (ap (λ (n : ℕ). states_of (words ++ states ∷ []) n) (e ∙ sym long)
    ∙ (states_last words states ∙ (first ∙ ap (λ (n : ℕ). first_config (get_or opening n 0) ∷ []) (sym e)))))
    (λ (ne : w ≢ i).
    ap (λ (ws : List (Vec (State A) A)). states_of ws w) pushed
    ∙ (states_before words states w (omega arith) ∙ before w (omega arith)))
    (cases_eq w i)
