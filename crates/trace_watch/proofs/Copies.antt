-- Copies, one more; and what a watch knows by what it says.
use Rattle.std.proofs.Common.{◌≡◌, ℕ, zero, suc, ◌+◌, List, [], ◌∷◌, ◌++◌, length, map, take, Some, Vec, refl, sym, ◌∙◌, ap, ap₂, subst, slice_get, slice_index_or}
use Rattle.std.proofs.lemmas.List.{take_more, map-append, length-map}
use Rattle.std.proofs.lemmas.Option.{slice_get_within, get_or_from_slice_get}
use Rattle.trace_laws.specs.declared.event.Event.{Event}
use Rattle.trace_laws.specs.Configs.{IsIn}
use Rattle.trace_watch.specs.declared.state.State.{State}
use Rattle.trace_watch.specs.declared.watch.Watch.{Watch}
use Rattle.trace_watch.specs.States.{Config, configs_of}
use Rattle.trace_watch.specs.Known.{Knows, ArePending, IsNewest}
use Rattle.trace_watch.specs.Follows.{Tracks, states_of}
use Rattle.trace_watch.specs.Watched.{Watched, watched}

-- a copy of one more
pub copies_more : {X Y : Type 0} (f : X → Y) (xs ys next : List X) (k : ℕ) (x y : X) → slice_get xs k ≡ Some x → map f ys ≡ map f (take k xs)
    → next ≡ ys ++ y ∷ [] → f y ≡ f x → map f next ≡ map f (take (k + 1) xs)
copies_more {X} {Y} f xs ys next k x y there so_far put same =
    ap (map f) put
    ∙ (map-append f ys (y ∷ [])
    ∙ (ap₂ (λ (zs : List Y) (b : Y). zs ++ b ∷ []) so_far same
    ∙ (sym (map-append f (take k xs) (x ∷ []))
    ∙ ap (map f)
    (sym (take_more xs k x (slice_get_within xs k x there) ∙ ap (λ z. take k xs ++ z ∷ []) (get_or_from_slice_get xs k x x there))))))

-- what is said of all words
abbrev pub all_configs : {A : Type 0} → List (Vec (State A) A) → List (List Config)
all_configs words = map (λ v. configs_of v.items) words

-- what there is of a word is what is said of it
said_of : {A : Type 0} (words : List (Vec (State A) A)) (w : ℕ) → states_of words w ≡ slice_index_or (all_configs words) w []
said_of [] w = refl
said_of (v ∷ words) zero = refl
said_of (v ∷ words) (suc w) = said_of words w

-- two watches that say the same follow the same traces
pub same_follow : {A B : Type 0} (one : Watch A) (other : Watch B) → watched other ≡ watched one → (opening : List ℕ) (trace : List Event)
    → Tracks opening trace one → Tracks opening trace other
same_follow {A} {B} one other same opening trace h =
    let words : all_configs other.words.items ≡ all_configs one.words.items = ap (λ (x : Watched). x.words) same in
    let at : (w : ℕ) → states_of one.words.items w ≡ states_of other.words.items w =
    λ w. said_of one.words.items w ∙ (ap (λ (cs : List (List Config)). slice_index_or cs w []) (sym words) ∙ sym (said_of other.words.items w)) in
    record {
      well = h.well;
      newest = subst (IsNewest trace) (sym (ap (λ (x : Watched). x.last) same)) h.newest;
      pending = subst (ArePending trace) (sym (ap (λ (x : Watched). x.pending) same)) h.pending;
      sized = sym (length-map other.words.items (λ v. configs_of v.items))
          ∙ (ap length words ∙ (length-map one.words.items (λ v. configs_of v.items) ∙ h.sized));
      known = λ w low. subst (Knows opening trace w) (at w) (h.known w low);
      filled = λ w low. subst (λ (cs : List Config). (c : Config) × IsIn cs c) (at w) (h.filled w low);
    }
