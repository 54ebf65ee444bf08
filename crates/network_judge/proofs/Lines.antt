-- Lines that hold packets of one flit, and channels by their lines.
use Rattle.std.proofs.Common.{◌≡◌, ◌≢◌, ⊎_elim, ℕ, zero, suc, ◌-◌, ◌<◌, Bool, true, false, cond, List, [], ◌∷◌, ◌++◌, Option, Some, None, refl, sym, ◌∙◌, ap}
use Rattle.std.proofs.Common.{subst, arith}
use Rattle.std.proofs.lemmas.Bool.{cases_eq}
use Rattle.wormhole.specs.Net.{Net}
use Rattle.wormhole.specs.State.{NetLine, NetState, update, empty_line, in_line}
use Rattle.wormhole.specs.Events.{put, taken, forwarded, unlatched, credited}
use Rattle.wormhole.proofs.Changes.{update_same, update_other}

-- so many copies of a flit
abbrev pub copies : ℕ → ℕ → List ℕ
copies zero w = []
copies (suc c) w = w ∷ copies c w

pub copies_put : (c w : ℕ) → copies c w ++ w ∷ [] ≡ copies (suc c) w
copies_put zero w = refl
copies_put (suc c) w = ap (λ ws. w ∷ ws) (copies_put c w)

-- a channel with these flits, credits and latch
abbrev pub made : List ℕ → ℕ → ℕ → Option ℕ → NetLine
made flits held returning latch =
    record { flits = flits; held = held; returning = returning; latch = latch; owner = None; rest = []; so_far = [] }

-- a channel that holds c packets of one flit, in it and in the latch behind it; an ejection channel has no latch
abbrev pub line_of : Net → Bool → ℕ → ℕ → NetLine
line_of n e zero w = empty_line n
line_of n true (suc c) w = made (copies (suc c) w) (n.depth - suc c) 0 None
line_of n false (suc c) w = made (copies c w) (n.depth - c) 0 (Some w)

-- how many it can hold
abbrev pub full : Net → Bool → ℕ
full n true = n.depth
full n false = suc n.depth

pub no_owner : (n : Net) (e : Bool) (c w : ℕ) → (line_of n e c w).owner ≡ None
no_owner n true zero w = refl
no_owner n true (suc c) w = refl
no_owner n false zero w = refl
no_owner n false (suc c) w = refl

pub no_rest : (n : Net) (e : Bool) (c w : ℕ) → (line_of n e c w).rest ≡ []
no_rest n true zero w = refl
no_rest n true (suc c) w = refl
no_rest n false zero w = refl
no_rest n false (suc c) w = refl

pub none_returns : (n : Net) (e : Bool) (c w : ℕ) → (line_of n e c w).returning ≡ 0
none_returns n true zero w = refl
none_returns n true (suc c) w = refl
none_returns n false zero w = refl
none_returns n false (suc c) w = refl

pub has_credit : (n : Net) (e : Bool) (c w : ℕ) → 0 < n.depth → c < full n e → 0 < (line_of n e c w).held
has_credit n true zero w deep room = deep
has_credit n true (suc c) w deep room = omega arith
has_credit n false zero w deep room = deep
has_credit n false (suc c) w deep room = omega arith

-- a full one has none
pub no_credit : (n : Net) (e : Bool) (w : ℕ) → 0 < n.depth → (line_of n e (full n e) w).held ≡ 0
no_credit n true w deep = by n.depth refl
  where
    by : (d : ℕ) → n.depth ≡ d → (line_of n true d w).held ≡ 0
    by zero e = absurd (omega arith)
    by (suc d) e = omega arith
no_credit n false w deep = omega arith

-- there is room at first, and then a flit
pub some_room : (n : Net) (e : Bool) → 0 < n.depth → 0 < full n e
some_room n true deep = deep
some_room n false deep = omega arith

pub not_empty : (n : Net) (e : Bool) (c w : ℕ) → 0 < c → in_line (line_of n e c w) ≢ []
not_empty n true zero w some = absurd (omega arith)
not_empty n true (suc c) w some = λ none. cc
not_empty n false zero w some = absurd (omega arith)
not_empty n false (suc c) w some = λ none. cc

-- a packet put by an input: the input doesn't own the output afterwards
pub forwarded_is : (n : Net) (x : ℕ) (e : Bool) (c w : ℕ) → n.is_tail w ≡ true
    → forwarded n x w (line_of n e c w) ≡ put w (line_of n e c w)
forwarded_is n x true zero w tail = ap (λ b. record (put w (line_of n true zero w)) { owner = cond b None (Some x) }) tail
forwarded_is n x true (suc c) w tail = ap (λ b. record (put w (line_of n true (suc c) w)) { owner = cond b None (Some x) }) tail
forwarded_is n x false zero w tail = ap (λ b. record (put w (line_of n false zero w)) { owner = cond b None (Some x) }) tail
forwarded_is n x false (suc c) w tail = ap (λ b. record (put w (line_of n false (suc c) w)) { owner = cond b None (Some x) }) tail

-- a packet put by a sender: none is in course afterwards
pub injected_is : (n : Net) (e : Bool) (c w : ℕ) → record (put w (line_of n e c w)) { rest = [] } ≡ put w (line_of n e c w)
injected_is n true zero w = refl
injected_is n true (suc c) w = refl
injected_is n false zero w = refl
injected_is n false (suc c) w = refl

-- a put into a channel of which the latch is full, or that has none, is one packet more
pub put_more : (n : Net) (c w : ℕ) → c < n.depth → put w (line_of n true c w) ≡ line_of n true (suc c) w
put_more n zero w room = refl
put_more n (suc c) w room = ap (λ ws. made ws (n.depth - suc c - 1) 0 None) (copies_put (suc c) w) ∙ ap (λ h. made (copies (suc (suc c)) w) h 0 None) (omega arith)

pub put_behind : (n : Net) (c w : ℕ) → suc c < suc n.depth → put w (line_of n false (suc c) w) ≡ line_of n false (suc (suc c)) w
put_behind n c w room = ap (λ ws. made ws (n.depth - c - 1) 0 (Some w)) (copies_put c w) ∙ ap (λ h. made (copies (suc c) w) h 0 (Some w)) (omega arith)

-- the flit that was put into an empty channel is taken, and its credit comes back
pub latched : (n : Net) (w : ℕ) → record (taken [] (put w (line_of n false 0 w))) { latch = Some w } ≡ made [] (n.depth - 1) 1 (Some w)
latched n w = refl

pub come_back : (n : Net) (w : ℕ) → 0 < n.depth → credited (made [] (n.depth - 1) 1 (Some w)) ≡ line_of n false 1 w
come_back n w deep = ap (λ h. made [] h 0 (Some w)) (omega arith)

-- the flit has left the latch
pub left : (n : Net) (w : ℕ) → unlatched (line_of n false 1 w) ≡ empty_line n
left n w = ap (λ h. made [] h 0 None) (omega arith)

-- the channels of a state are these
abbrev pub Stands : NetState → (ℕ → NetLine) → Type 0
Stands s g = (x : ℕ) → s.lines x ≡ g x

-- a channel changes
pub restand : (f g : ℕ → NetLine) (y : ℕ) (l m : NetLine) → ((z : ℕ) → z ≢ y → f z ≡ g z) → l ≡ m → (z : ℕ) → update f y l z ≡ update g y m z
restand f g y l m others same z = ⊎_elim
    (λ (e : z ≡ y). subst (λ a. update f y l a ≡ update g y m a) (sym e) (update_same f y l ∙ (same ∙ sym (update_same g y m))))
    (λ (d : z ≢ y). update_other f y l z d ∙ (others z d ∙ sym (update_other g y m z d)))
    (cases_eq z y)

-- what is written where it stands changes nothing
pub as_it_was : (g : ℕ → NetLine) (y : ℕ) (l : NetLine) → g y ≡ l → (z : ℕ) → g z ≡ update g y l z
as_it_was g y l same z = ⊎_elim
    (λ (e : z ≡ y). ap g e ∙ (same ∙ sym (ap (update g y l) e ∙ update_same g y l)))
    (λ (d : z ≢ y). sym (update_other g y l z d))
    (cases_eq z y)
