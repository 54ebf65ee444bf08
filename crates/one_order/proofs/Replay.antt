-- Operations at home in different banks commute: their replies and words are the same, taken bank by bank.
use Rattle.std.proofs.Common.{◌≡◌, ◌≢◌, ⊎_elim, ℕ, zero, suc, ◌+◌, ◌%◌, ◌<◌, ◌≤◌, ◌==◌, Bool, true, false, List, [], ◌∷◌, ◌++◌, length, map, Option, Some}
use Rattle.std.proofs.Common.{refl, sym, ◌∙◌, ap, subst, arith, slice_get, slice_set, slice_index, length-append, append_assoc}
use Rattle.std.specs.Prelude.{filter}
use Rattle.std.specs.List.{flat_map}
use Rattle.std.proofs.lemmas.Bool.{cases_eq, cases_lt, eqb-true, eq-eqb, ne_eqb, cond-true, cond-false}
use Rattle.std.proofs.lemmas.List.{map-append, set_comm}
use Rattle.std.proofs.lemmas.Option.{same_Some}
use Rattle.packet.specs.declared.kinds.Operation.{Operation}
use Rattle.packet.specs.declared.kinds.Reply.{Reply}
use Rattle.packet.specs.Memory.{new_word, replies, memory_after, reply_to, reply_of_one, memory_after_one}
use Rattle.packet.proofs.Folds.{memory_after-append, other_word}
use Rattle.one_order.specs.Observed.{list_at, total}
use Rattle.one_order.specs.Order.{home}

-- an operation with a reply
abbrev pub Told : Type 0
Told = Operation × Reply

abbrev pub asked : List Told → List Operation
asked qs = map (λ q. q.0) qs

-- the replies are those of a memory
abbrev pub Replays : List Told → List ℕ → Type 0
Replays [] m = Unit {0}
Replays (q ∷ qs) m = (reply_of_one q.0 m ≡ q.1) × Replays qs (memory_after_one q.0 m)

pub replays_replies : (qs : List Told) (m : List ℕ) → Replays qs m → replies (asked qs) m ≡ map (λ q. q.1) qs
replays_replies [] m h = refl
replays_replies (q ∷ qs) m h =
    let first : reply_of_one q.0 m ≡ q.1 = h.0 in
    let rest : replies (asked qs) (memory_after_one q.0 m) ≡ map (λ (r : Told). r.1) qs = replays_replies qs (memory_after_one q.0 m) h.1 in
    cc

-- operations with their replies
abbrev pub told : List Operation → List ℕ → List Told
told [] m = []
told (o ∷ os) m = (o, reply_of_one o m) ∷ told os (memory_after_one o m)

pub told_replays : (os : List Operation) (m : List ℕ) → Replays (told os m) m
told_replays [] m = tt
told_replays (o ∷ os) m = (refl, told_replays os (memory_after_one o m))

pub asked_told : (os : List Operation) (m : List ℕ) → asked (told os m) ≡ os
asked_told [] m = refl
asked_told (o ∷ os) m = ap (λ ps. o ∷ ps) (asked_told os (memory_after_one o m))

pub length-told : (os : List Operation) (m : List ℕ) → length (told os m) ≡ length os
length-told [] m = refl
length-told (o ∷ os) m = ap suc (length-told os (memory_after_one o m))

pub told_at : (os : List Operation) (m : List ℕ) (k : ℕ) (o : Operation) (r : Reply) → slice_get os k ≡ Some o → slice_get (replies os m) k ≡ Some r
    → slice_get (told os m) k ≡ Some (o, r)
told_at [] m k o r h g = absurd (cc)
told_at (p ∷ os) m zero o r h g =
    let a : p ≡ o = same_Some p o h in
    let b : reply_of_one p m ≡ r = same_Some (reply_of_one p m) r g in
    let pair : Operation → Reply → Option Told = λ x y. Some (x, y) in
    ap (λ x. pair x (reply_of_one p m)) a ∙ ap (pair o) b
told_at (p ∷ os) m (suc k) o r h g = told_at os (memory_after_one p m) k o r h g

-- two operations on different words
commute_one : (o p : Operation) (m : List ℕ) → p.address ≢ o.address → memory_after_one p (memory_after_one o m) ≡ memory_after_one o (memory_after_one p m)
commute_one o p m other =
    let at_p : slice_index (memory_after_one o m) p.address ≡ slice_index m p.address = other_word o m p.address other in
    let at_o : slice_index (memory_after_one p m) o.address ≡ slice_index m o.address = other_word p m o.address (λ e. other (sym e)) in
    let v : ℕ = new_word p.op (slice_index m p.address) in
    let w : ℕ = new_word o.op (slice_index m o.address) in
    ap (λ x. slice_set (memory_after_one o m) p.address (new_word p.op x)) at_p
    ∙ (set_comm m o.address p.address w v (λ e. other (sym e))
    ∙ ap (λ x. slice_set (memory_after_one p m) o.address (new_word o.op x)) (sym at_o))

reply_apart : (o p : Operation) (m : List ℕ) → p.address ≢ o.address → reply_of_one p (memory_after_one o m) ≡ reply_of_one p m
reply_apart o p m other = ap (reply_to p.op) (other_word o m p.address other)

-- none of these is on the word of an operation
abbrev pub Apart : List Told → Operation → Type 0
Apart qs o = (k : ℕ) (q : Told) → slice_get qs k ≡ Some q → q.0.address ≢ o.address

-- an operation comes past those on other words
pub past_words : (qs : List Told) (o : Operation) (m : List ℕ) → Apart qs o
    → memory_after (asked qs) (memory_after_one o m) ≡ memory_after_one o (memory_after (asked qs) m)
past_words [] o m apart = refl
past_words (q ∷ qs) o m apart =
    ap (memory_after (asked qs)) (commute_one o q.0 m (apart 0 q refl)) ∙ past_words qs o (memory_after_one q.0 m) (λ k. apart (suc k))

pub past_reply : (qs : List Told) (o : Operation) (m : List ℕ) → Apart qs o → reply_of_one o (memory_after (asked qs) m) ≡ reply_of_one o m
past_reply [] o m apart = refl
past_reply (q ∷ qs) o m apart =
    past_reply qs o (memory_after_one q.0 m) (λ k. apart (suc k)) ∙ reply_apart q.0 o m (λ e. apart 0 q refl (sym e))

pub past_replays : (qs : List Told) (o : Operation) (m : List ℕ) → Apart qs o → Replays qs (memory_after_one o m) → Replays qs m
past_replays [] o m apart h = tt
past_replays (q ∷ qs) o m apart h = (
  sym (reply_apart o q.0 m (apart 0 q refl)) ∙ h.0,
  past_replays qs o (memory_after_one q.0 m) (λ k. apart (suc k)) (subst (Replays qs) (commute_one o q.0 m (apart 0 q refl)) h.1),
)

pub replays_append : (xs ys : List Told) (m : List ℕ) → Replays xs m → Replays ys (memory_after (asked xs) m) → Replays (xs ++ ys) m
replays_append [] ys m h g = g
replays_append (x ∷ xs) ys m h g = (h.0, replays_append xs ys (memory_after_one x.0 m) h.1 g)

pub replays_front : (xs ys : List Told) (m : List ℕ) → Replays (xs ++ ys) m → Replays xs m
replays_front [] ys m h = tt
replays_front (x ∷ xs) ys m h = (h.0, replays_front xs ys (memory_after_one x.0 m) h.1)

pub replays_back : (xs ys : List Told) (m : List ℕ) → Replays (xs ++ ys) m → Replays ys (memory_after (asked xs) m)
replays_back [] ys m h = h
replays_back (x ∷ xs) ys m h = replays_back xs ys (memory_after_one x.0 m) h.1

pub asked-append : (xs ys : List Told) → asked (xs ++ ys) ≡ asked xs ++ asked ys
asked-append xs ys = map-append (λ (q : Told). q.0) xs ys

-- The first operation may stand behind those on other words.
pub replays_moved : (pre post : List Told) (q : Told) (m : List ℕ) → Apart pre q.0 → reply_of_one q.0 m ≡ q.1 → Replays (pre ++ post) (memory_after_one q.0 m)
    → Replays (pre ++ q ∷ post) m
replays_moved pre post q m apart reply h =
    let front = past_replays pre q.0 m apart (replays_front pre post (memory_after_one q.0 m) h) in
    let back : Replays post (memory_after_one q.0 (memory_after (asked pre) m)) =
    subst (Replays post) (past_words pre q.0 m apart) (replays_back pre post (memory_after_one q.0 m) h) in
    replays_append pre (q ∷ post) m front (past_reply pre q.0 m apart ∙ reply, back)

pub words_moved : (pre post : List Told) (q : Told) (m : List ℕ) → Apart pre q.0
    → memory_after (asked (pre ++ q ∷ post)) m ≡ memory_after (asked (pre ++ post)) (memory_after_one q.0 m)
words_moved pre post q m apart =
    ap (λ os. memory_after os m) (asked-append pre (q ∷ post))
    ∙ (memory_after-append (asked pre) (q.0 ∷ asked post) m
    ∙ (ap (memory_after (asked post)) (sym (past_words pre q.0 m apart))
    ∙ (sym (memory_after-append (asked pre) (asked post) (memory_after_one q.0 m))
    ∙ ap (λ os. memory_after os (memory_after_one q.0 m)) (sym (asked-append pre post)))))

-- those at home in a bank
abbrev pub of_bank : ℕ → ℕ → Told → Bool
of_bank tiles b q = home tiles q.0 == b

-- bank by bank, from bank s on, n banks
abbrev pub by_bank : ℕ → ℕ → ℕ → List Told → List Told
by_bank tiles s zero qs = []
by_bank tiles s (suc n) qs = filter (of_bank tiles s) qs ++ by_bank tiles (suc s) n qs

pub by_bank_none : (tiles s n : ℕ) → by_bank tiles s n [] ≡ []
by_bank_none tiles s zero = refl
by_bank_none tiles s (suc n) = by_bank_none tiles (suc s) n

by_bank_skips : (tiles s n : ℕ) (q : Told) (qs : List Told) → home tiles q.0 < s → by_bank tiles s n (q ∷ qs) ≡ by_bank tiles s n qs
by_bank_skips tiles s zero q qs l = refl
by_bank_skips tiles s (suc n) q qs l =
    let no : of_bank tiles s q ≡ false = ne_eqb (home tiles q.0) s (λ e. absurd (omega arith)) in
    let here = cond-false (of_bank tiles s q) (q ∷ filter (of_bank tiles s) qs) (filter (of_bank tiles s) qs) no in
    ap (λ xs. xs ++ by_bank tiles (suc s) n (q ∷ qs)) here ∙ ap (λ ys. filter (of_bank tiles s) qs ++ ys) (by_bank_skips tiles (suc s) n q qs (omega arith))

-- those that a bank's test leaves are of that bank
filtered_cons : (tiles b : ℕ) (p : Told) (qs : List Told) (k : ℕ) (q : Told) → home tiles p.0 ≡ b → slice_get (p ∷ filter (of_bank tiles b) qs) k ≡ Some q
    → ((j : ℕ) → slice_get (filter (of_bank tiles b) qs) j ≡ Some q → home tiles q.0 ≡ b) → home tiles q.0 ≡ b
filtered_cons tiles b p qs zero q is h rest = ap (λ r. home tiles r.0) (sym (same_Some p q h)) ∙ is
filtered_cons tiles b p qs (suc k) q is h rest = rest k h

filtered_on : (tiles b : ℕ) (p : Told) (qs : List Told) (k : ℕ) (q : Told) (c : Bool) → of_bank tiles b p ≡ c
    → slice_get (filter (of_bank tiles b) (p ∷ qs)) k ≡ Some q
    → ((j : ℕ) → slice_get (filter (of_bank tiles b) qs) j ≡ Some q → home tiles q.0 ≡ b) → home tiles q.0 ≡ b
filtered_on tiles b p qs k q true is h rest =
    filtered_cons tiles b p qs k q (eqb-true (home tiles p.0) b is)
    (ap (λ xs. slice_get xs k) (sym (cond-true (of_bank tiles b p) (p ∷ filter (of_bank tiles b) qs) (filter (of_bank tiles b) qs) is)) ∙ h) rest
filtered_on tiles b p qs k q false is h rest =
    rest k (ap (λ xs. slice_get xs k) (sym (cond-false (of_bank tiles b p) (p ∷ filter (of_bank tiles b) qs) (filter (of_bank tiles b) qs) is)) ∙ h)

filtered : (tiles b : ℕ) (qs : List Told) (k : ℕ) (q : Told) → slice_get (filter (of_bank tiles b) qs) k ≡ Some q → home tiles q.0 ≡ b
filtered tiles b [] k q h = absurd (cc)
filtered tiles b (p ∷ qs) k q h = filtered_on tiles b p qs k q (of_bank tiles b p) refl h (λ j. filtered tiles b qs j q)

-- where the first operation stands, bank by bank
pub record Stands (tiles s n : ℕ) (q : Told) (qs : List Told) : Type 0 where
  pub pre : List Told
  pub post : List Told
  pub with : by_bank tiles s n (q ∷ qs) ≡ pre ++ q ∷ post
  pub without : by_bank tiles s n qs ≡ pre ++ post
  pub apart : Apart pre q.0

apart_append : (xs ys : List Told) (o : Operation) → Apart xs o → Apart ys o → (k : ℕ) (q : Told) → slice_get (xs ++ ys) k ≡ Some q → q.0.address ≢ o.address
apart_append [] ys o h g k q e = g k q e
apart_append (x ∷ xs) ys o h g zero q e = h 0 q e
apart_append (x ∷ xs) ys o h g (suc k) q e = apart_append xs ys o (λ j. h (suc j)) g k q e

-- two lists of which the second has a front
join_front : (xs front ys pre post : List Told) → xs ≡ front → ys ≡ pre ++ post → xs ++ ys ≡ (front ++ pre) ++ post
join_front xs front ys pre post h g = ap (λ zs. zs ++ ys) h ∙ (ap (λ zs. front ++ zs) g ∙ sym (append_assoc front pre post))

pub stands : (tiles s n : ℕ) (q : Told) (qs : List Told) → s ≤ home tiles q.0 → home tiles q.0 < s + n → Stands tiles s n q qs
stands tiles s zero q qs low high = absurd (omega arith)
stands tiles s (suc n) q qs low high = ⊎_elim
    (λ (here : home tiles q.0 ≡ s).
    let yes : of_bank tiles s q ≡ true = eq-eqb (home tiles q.0) s here in
    let first = cond-true (of_bank tiles s q) (q ∷ filter (of_bank tiles s) qs) (filter (of_bank tiles s) qs) yes in
    record {
      pre = [];
      post = filter (of_bank tiles s) qs ++ by_bank tiles (suc s) n qs;
      with = ap (λ xs. xs ++ by_bank tiles (suc s) n (q ∷ qs)) first
          ∙ ap (λ ys. q ∷ (filter (of_bank tiles s) qs ++ ys)) (by_bank_skips tiles (suc s) n q qs (omega arith));
      without = refl;
      apart = λ k p h. absurd (cc);
    })
    (λ (other : home tiles q.0 ≢ s).
    let no : of_bank tiles s q ≡ false = ne_eqb (home tiles q.0) s other in
    let first = cond-false (of_bank tiles s q) (q ∷ filter (of_bank tiles s) qs) (filter (of_bank tiles s) qs) no in
    let above : s < home tiles q.0 =
    ⊎_elim (λ (l : s < home tiles q.0). l) (λ (g : home tiles q.0 ≤ s). absurd (other (omega arith))) (cases_lt s (home tiles q.0)) in
    let rest = stands tiles (suc s) n q qs (omega arith) (omega arith) in
    let front : List Told = filter (of_bank tiles s) qs in
    record {
      pre = front ++ rest.pre;
      post = rest.post;
      with = join_front (filter (of_bank tiles s) (q ∷ qs)) front (by_bank tiles (suc s) n (q ∷ qs)) rest.pre (q ∷ rest.post) first rest.with;
      without = join_front front front (by_bank tiles (suc s) n qs) rest.pre rest.post refl rest.without;
      apart = apart_append front rest.pre q.0 (λ k p h e. other (ap (λ a. a % tiles) (sym e) ∙ filtered tiles s qs k p h)) rest.apart;
    })
    (cases_eq (home tiles q.0) s)

-- all homes are banks
abbrev pub AtHome : ℕ → List Told → Type 0
AtHome tiles qs = (k : ℕ) (q : Told) → slice_get qs k ≡ Some q → home tiles q.0 < tiles

-- What replays in one order replays bank by bank, and leaves the same words.
pub by_bank_replays : (tiles : ℕ) (qs : List Told) (m : List ℕ) → AtHome tiles qs → Replays qs m → Replays (by_bank tiles 0 tiles qs) m
by_bank_replays tiles [] m homes h = subst (λ (qs : List Told). Replays qs m) (sym (by_bank_none tiles 0 tiles)) tt
by_bank_replays tiles (q ∷ qs) m homes h =
    let at = stands tiles 0 tiles q qs (omega arith) (omega (arith, homes 0 q refl)) in
    let rest : Replays (at.pre ++ at.post) (memory_after_one q.0 m) =
    subst (λ (qs : List Told). Replays qs (memory_after_one q.0 m)) at.without (by_bank_replays tiles qs (memory_after_one q.0 m) (λ k. homes (suc k)) h.1) in
    subst (λ (qs : List Told). Replays qs m) (sym at.with) (replays_moved at.pre at.post q m at.apart h.0 rest)

pub by_bank_words : (tiles : ℕ) (qs : List Told) (m : List ℕ) → AtHome tiles qs → memory_after (asked (by_bank tiles 0 tiles qs)) m ≡ memory_after (asked qs) m
by_bank_words tiles [] m homes = ap (λ qs. memory_after (asked qs) m) (by_bank_none tiles 0 tiles)
by_bank_words tiles (q ∷ qs) m homes =
    let at = stands tiles 0 tiles q qs (omega arith) (omega (arith, homes 0 q refl)) in
    ap (λ qs. memory_after (asked qs) m) at.with
    ∙ (words_moved at.pre at.post q m at.apart
    ∙ (ap (λ qs. memory_after (asked qs) (memory_after_one q.0 m)) (sym at.without) ∙ by_bank_words tiles qs (memory_after_one q.0 m) (λ k. homes (suc k))))

pub length-by_bank : (tiles : ℕ) (qs : List Told) → AtHome tiles qs → length (by_bank tiles 0 tiles qs) ≡ length qs
length-by_bank tiles [] homes = ap length (by_bank_none tiles 0 tiles)
length-by_bank tiles (q ∷ qs) homes =
    let at = stands tiles 0 tiles q qs (omega arith) (omega (arith, homes 0 q refl)) in
    let more = ap length at.with in
    let less = ap length at.without in
    omega (arith, more, less, length-append at.pre (q ∷ at.post), length-append at.pre at.post, length-by_bank tiles qs (λ k. homes (suc k)))

-- lists that are each bank's, one after the other, are all bank by bank
pub joined : {A : Type 0} (told_of : A → Told) (tiles s : ℕ) (xss : List (List A)) (qs : List Told)
    → ((b : ℕ) → b < length xss → map told_of (list_at xss b) ≡ filter (of_bank tiles (s + b)) qs)
    → map told_of (flat_map (λ xs. xs) xss) ≡ by_bank tiles s (length xss) qs
joined told_of tiles s [] qs h = refl
joined told_of tiles s (xs ∷ xss) qs h =
    let here : s + 0 ≡ s = omega arith in
    map-append told_of xs (flat_map (λ ys. ys) xss)
    ∙ (ap (λ ys. ys ++ map told_of (flat_map (λ ys. ys) xss)) (h 0 (omega arith) ∙ ap (λ b. filter (of_bank tiles b) qs) here)
    ∙ ap (λ ys. filter (of_bank tiles s) qs ++ ys) (joined told_of tiles (suc s) xss qs (λ b l.
    let moved : s + suc b ≡ suc s + b = omega arith in
    h (suc b) (omega arith) ∙ ap (λ c. filter (of_bank tiles c) qs) moved)))

pub length-joined : {A : Type 0} (xss : List (List A)) → length (flat_map (λ xs. xs) xss) ≡ total xss
length-joined [] = refl
length-joined (xs ∷ xss) = omega (arith, length-append xs (flat_map (λ ys. ys) xss), length-joined xss)
