-- The index of the configurations that were found.
use Rattle.std.proofs.Common.{◌≡◌, ◌≢◌, ⊎_elim, ℕ, ◌+◌, ◌<◌, ◌≤◌, List, [], ◌∷◌, ◌++◌, length, Some, refl, sym, ◌∙◌, ap, subst}
use Rattle.std.proofs.Common.{arith, slice_get, set, length-append, length-set}
use Rattle.std.proofs.lemmas.Bool.{cases_eq}
use Rattle.trace_laws.proofs.Lists.{get_push_cases, get_append_left, get_push, get_within, get_set_same, get_set_other}
use Rattle.trace_watch.specs.declared.index.Index.{Index}
use Rattle.trace_watch.specs.States.{Config, Covers, IsAmong, config_of, configs_of}
use Rattle.trace_watch.specs.Crowds.{AreUnlike, IsOpenCrowd}
use Rattle.trace_watch.specs.Chains.{IsMask, IsChain, HasPlace, AreChained, IsIndexed, place_of}
use Rattle.trace_watch.specs.declared.state.State.{State}
use Rattle.trace_watch.proofs.Grown.{goes_back, goes_push, configs_push, long_configs}
use Rattle.trace_watch.proofs.Loops.{config_at}
use Rattle.trace_watch.proofs.Masks.{one_mask, like_mask}

-- a chain is one still where there are more links
chain_more : (links : List ℕ) (x from i : ℕ) (way : List ℕ) → IsChain links from i way
    → IsChain (links ++ x ∷ []) from i way
chain_more links x from i [] h = h
chain_more links x from i (j ∷ way) h =
    (h.0, h.1, get_append_left links (x ∷ []) j h.0 h.2, chain_more links x h.0 i way h.3)

-- no chain begins with 0
pub chain_none : (links : List ℕ) (i : ℕ) (way : List ℕ) → IsChain links 0 i way → ⊥
chain_none links i [] h = omega (arith, h)
chain_none links i (j ∷ way) h = omega (arith, h.1)

-- a chain goes on from the configuration that its number is of, if it doesn't end with it
pub chain_on : (links : List ℕ) (at l i : ℕ) (way : List ℕ) → slice_get links at ≡ Some l → i ≢ at
    → IsChain links (at + 1) i way → (later : List ℕ) × IsChain links l i later
chain_on links at l i [] there ne h = absurd (ne (omega (arith, h)))
chain_on links at l i (j ∷ way) there ne h =
    let same : j ≡ at = omega (arith, h.1) in
    let here : slice_get links at ≡ Some h.0 = ap (λ (n : ℕ). slice_get links n) (sym same) ∙ h.2 in
    let one : h.0 ≡ l = cc in
    (way, subst (λ (n : ℕ). IsChain links n i way) one h.3)

-- one configuration more is put into its chain
chained_more : (heads links : List ℕ) (found : List Config) (word mask head : ℕ) (c : Config) (later more : List ℕ)
    → 0 < length heads → c.word ≡ word → IsMask c.effects mask
    → slice_get heads (place_of (length heads) word mask) ≡ Some head
    → more ≡ links ++ head ∷ [] → later ≡ set heads (place_of (length heads) word mask) (length links + 1)
    → slice_get found (length links) ≡ Some c → AreChained heads links found → AreChained later more found
chained_more heads links found word mask head c later more some is masked there pushed written here was = record {
  lower = λ j l h. ⊎_elim {C = l ≤ j}
      (λ (old : slice_get links j ≡ Some l). was.lower j l old)
      (λ (new : (j ≡ length links) × (head ≡ l)). let m = was.inside p head there in omega (arith, new.0, new.1))
      (get_push_cases links head j l (ap (λ (xs : List ℕ). slice_get xs j) (sym pushed) ∙ h));
  inside = λ q h e. ⊎_elim {C = h ≤ length more}
      (λ (same : q ≡ p).
      let f = get_set_same heads p head n h there (read q h e same) in omega (arith, f, long))
      (λ (ne : q ≢ p).
      let m = was.inside q h (sym (get_set_other heads p q n ne) ∙ at q h e) in omega (arith, long))
      (cases_eq q p);
  chained = λ i d m h l on is_mask e. chain i d m h l on is_mask
      (ap (λ (k : ℕ). slice_get later (place_of k d.word m)) (sym sized) ∙ e);
}
  where
    p : ℕ
    p = place_of (length heads) word mask

    n : ℕ
    n = length links + 1

    long : length more ≡ length links + 1
    long = ap (λ (xs : List ℕ). length xs) pushed ∙ length-append links (head ∷ [])

    sized : length later ≡ length heads
    sized = ap (λ (xs : List ℕ). length xs) written ∙ length-set heads p n

    at : (q h : ℕ) → slice_get later q ≡ Some h → slice_get (set heads p n) q ≡ Some h
    at q h e = ap (λ (xs : List ℕ). slice_get xs q) (sym written) ∙ e

    read : (q h : ℕ) → slice_get later q ≡ Some h → q ≡ p → slice_get (set heads p n) p ≡ Some h
    read q h e same = ap (λ (k : ℕ). slice_get (set heads p n) k) (sym same) ∙ at q h e

    grown : (from i : ℕ) (way : List ℕ) → IsChain links from i way → IsChain more from i way
    grown from i way ch = subst (λ (xs : List ℕ). IsChain xs from i way) (sym pushed) (chain_more links head from i way ch)

    last : slice_get more (length links) ≡ Some head
    last = ap (λ (xs : List ℕ). slice_get xs (length links)) pushed ∙ get_push links head

    old : (i : ℕ) (d : Config) (m h : ℕ) → i < length links → slice_get found i ≡ Some d → IsMask d.effects m
        → slice_get later (place_of (length heads) d.word m) ≡ Some h → (way : List ℕ) × IsChain more h i way
    old i d m h l on is_mask e = ⊎_elim {C = (way : List ℕ) × IsChain more h i way}
        (λ (same : place_of (length heads) d.word m ≡ p).
        let f : h ≡ n = get_set_same heads p head n h there (read (place_of (length heads) d.word m) h e same) in
        let r = was.chained i d m head l on is_mask
        (ap (λ (k : ℕ). slice_get heads k) same ∙ there) in
        (length links ∷ r.0, (head, f, last, grown head i r.0 r.1)))
        (λ (ne : place_of (length heads) d.word m ≢ p).
        let r = was.chained i d m h l on is_mask
        (sym (get_set_other heads p (place_of (length heads) d.word m) n ne) ∙ at (place_of (length heads) d.word m) h e) in
        (r.0, grown h i r.0 r.1))
        (cases_eq (place_of (length heads) d.word m) p)

    fresh : (d : Config) (m h : ℕ) → slice_get found (length links) ≡ Some d → IsMask d.effects m
        → slice_get later (place_of (length heads) d.word m) ≡ Some h → h ≡ n
    fresh d m h on is_mask e =
        let one : c ≡ d = cc in
        let same_word : d.word ≡ word = ap (λ (x : Config). x.word) (sym one) ∙ is in
        let same_mask : m ≡ mask = one_mask c.effects m mask
        (subst (λ (x : Config). IsMask x.effects m) (sym one) is_mask) masked in
        let same : place_of (length heads) d.word m ≡ p =
        ap (λ (w : ℕ). place_of (length heads) w m) same_word ∙ ap (λ (k : ℕ). place_of (length heads) word k) same_mask in
        get_set_same heads p head n h there (read (place_of (length heads) d.word m) h e same)

    chain : (i : ℕ) (d : Config) (m h : ℕ) → i < length more → slice_get found i ≡ Some d → IsMask d.effects m
        → slice_get later (place_of (length heads) d.word m) ≡ Some h → (way : List ℕ) × IsChain more h i way
    chain i d m h l on is_mask e = ⊎_elim {C = (way : List ℕ) × IsChain more h i way}
        (λ (same : i ≡ length links).
        let f = fresh d m h (ap (λ (k : ℕ). slice_get found k) (sym same) ∙ on) is_mask e in
        ([], omega (arith, f, same)))
        (λ (ne : i ≢ length links). old i d m h (omega (arith, l, long)) on is_mask e)
        (cases_eq i (length links))

-- at the place that was found for it
pub chained_there : (heads links : List ℕ) (found : List Config) (c : Config) (place n head : ℕ) (more : List ℕ)
    → place < length heads → HasPlace (length heads) c place → slice_get heads place ≡ Some head
    → more ≡ links ++ head ∷ [] → n ≡ length more → slice_get found (length links) ≡ Some c
    → AreChained heads links found → AreChained (set heads place n) more found
chained_there heads links found c place n head more low p there pushed all here are =
    let newest : n ≡ length links + 1 =
    all ∙ (ap (λ (xs : List ℕ). length xs) pushed ∙ length-append links (head ∷ [])) in
    chained_more heads links found c.word p.0 head c (set heads place n) more (omega arith) refl p.1
    (ap (λ (k : ℕ). slice_get heads k) (sym p.2) ∙ there) pushed
    (ap (λ (k : ℕ). set heads k n) p.2 ∙ ap (λ (m : ℕ). set heads (place_of (length heads) c.word p.0) m) newest) here are

-- longer lists of configurations
chained_longer : (heads links : List ℕ) (found more : List Config) → length links ≡ length found
    → AreChained heads links found → AreChained heads links (found ++ more)
chained_longer heads links found more long was = record {
  lower = was.lower;
  inside = was.inside;
  chained = λ i c mask h l there is at. was.chained i c mask h l (goes_back found (found ++ more) i c (more, refl) (omega arith) there) is at;
}

unlike_push : (found : List Config) (c : Config) → (IsAmong found c → ⊥) → AreUnlike (length found) found
    → AreUnlike (length (found ++ c ∷ [])) (found ++ c ∷ [])
unlike_push found c none was i j a b l m h k like = ⊎_elim {C = ⊥}
    (λ (old : slice_get found j ≡ Some b).
    let n = get_within found j b old in
    was i j a b l n (goes_back found (found ++ c ∷ []) i a (goes_push found c) (omega arith) h) old like)
    (λ (new : (j ≡ length found) × (c ≡ b)).
    none (a, (i, goes_back found (found ++ c ∷ []) i a (goes_push found c) (omega (arith, l, new.0)) h), subst (λ (d : Config). Covers a d) (sym new.1) like))
    (get_push_cases found c j b k)

-- one more is found
pub indexed_push : {A : Type 0} (index later : Index A) (old new : List Config) (c : Config)
    → (IsAmong old c → ⊥) → length later.heads.items ≡ length index.heads.items
    → length later.links.items ≡ length index.links.items + 1
    → ((found : List Config) → AreChained index.heads.items index.links.items found
    → slice_get found (length index.links.items) ≡ Some c → AreChained later.heads.items later.links.items found)
    → new ≡ old ++ c ∷ [] → IsIndexed index old → IsIndexed later new
indexed_push {A} index later old new c none places long chained pushed was =
    subst (λ (cs : List Config). IsIndexed later cs) (sym pushed) (record {
      long = let e = was.long in let f = length-append old (c ∷ []) in omega (arith, long);
      places = let p = was.places in omega (arith, places);
      chained = chained (old ++ c ∷ []) (chained_longer index.heads.items index.links.items old (c ∷ []) was.long was.chained)
          (ap (λ (k : ℕ). slice_get (old ++ c ∷ []) k) was.long ∙ get_push old c);
      unlike = unlike_push old c none was.unlike;
    })

-- whatever tells of as much as a configuration is in the chain of its place
pub chain_begun : (heads links : List ℕ) (found : List Config) (d : Config) (count p h : ℕ)
    → count ≡ length heads → ((mask : ℕ) × IsMask d.effects mask × (p ≡ place_of count d.word mask))
    → slice_get heads p ≡ Some h → length links ≡ length found → AreChained heads links found
    → (i : ℕ) (c : Config) → slice_get found i ≡ Some c → Covers c d → (way : List ℕ) × IsChain links h i way
chain_begun heads links found d count p h sized masked there long are i c on like =
    are.chained i c masked.0 h (let l = get_within found i c on in omega arith) on
    (like_mask c d masked.0 like masked.1)
    (ap (λ (w : ℕ). slice_get heads (place_of (length heads) w masked.0)) like.word
    ∙ (ap (λ (k : ℕ). slice_get heads (place_of k d.word masked.0)) (sym sized)
    ∙ (ap (λ (k : ℕ). slice_get heads k) (sym masked.2) ∙ there)))

-- and behind a state that doesn't tell of as much
pub chain_skip : {A : Type 0} (links : List ℕ) (found : List (State A)) (d : Config) (s : State A) (next at l : ℕ)
    → next ≡ at + 1 → slice_get found at ≡ Some s → (Covers (config_of s) d → ⊥) → slice_get links at ≡ Some l
    → ((i : ℕ) (c : Config) → slice_get (configs_of found) i ≡ Some c → Covers c d
    → (way : List ℕ) × IsChain links next i way)
    → (i : ℕ) (c : Config) → slice_get (configs_of found) i ≡ Some c → Covers c d
    → (way : List ℕ) × IsChain links l i way
chain_skip {A} links found d s next at l is there never linked was i c on like =
    let r = was i c on like in
    chain_on links at l i r.0 linked
    (λ e. never (subst (λ (x : Config). Covers x d)
    (sym (config_at found at s c there (ap (λ (k : ℕ). slice_get (configs_of found) k) (sym e) ∙ on))) like))
    (subst (λ (n : ℕ). IsChain links n i r.0) is r.1)

-- a chain that has ended has none that tells of as much
pub chain_ended : (links : List ℕ) (found : List Config) (d : Config) (next : ℕ) → next ≡ 0
    → ((i : ℕ) (c : Config) → slice_get found i ≡ Some c → Covers c d → (way : List ℕ) × IsChain links next i way)
    → IsAmong found d → ⊥
chain_ended links found d next none was among =
    let r = was among.1.0 among.0 among.1.1 among.2 in
    chain_none links among.1.0 r.0 (subst (λ (n : ℕ). IsChain links n among.1.0 r.0) none r.1)

pub push_indexed : {A : Type 0} (index later : Index A) (old new found : List (State A)) (s : State A)
    → found ≡ old → (IsAmong (configs_of found) (config_of s) → ⊥)
    → length later.heads.items ≡ length index.heads.items
    → length later.links.items ≡ length index.links.items + 1
    → ((cs : List Config) → AreChained index.heads.items index.links.items cs
    → slice_get cs (length index.links.items) ≡ Some (config_of s) → AreChained later.heads.items later.links.items cs)
    → new ≡ old ++ s ∷ [] → IsIndexed index (configs_of old) → IsIndexed later (configs_of new)
push_indexed {A} index later old new found s read none places long chained pushed was =
    indexed_push index later (configs_of old) (configs_of new) (config_of s)
    (subst (λ (ss : List (State A)). IsAmong (configs_of ss) (config_of s) → ⊥) read none) places long chained
    (ap (λ (ss : List (State A)). configs_of ss) pushed ∙ configs_push old s) was

-- more than so many that are found are too many
pub crowd_indexed : {A : Type 0} (index : Index A) (found : List (State A)) (bound : ℕ) → bound < length found
    → IsIndexed index (configs_of found) → IsOpenCrowd bound (configs_of found)
crowd_indexed index found bound more is = record {
  many = let e = long_configs found in omega arith;
  unlike = is.unlike;
}
