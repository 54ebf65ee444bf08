-- What is known of the channels that inputs own, as flits are put.
use Rattle.std.proofs.Common.{◌≡◌, ◌≢◌, ⊎_elim, ℕ, ◌<◌, Bool, true, false, cond, List, ◌++◌, length, set, take, drop, Vec, Some, None, replicate, refl, sym, ◌∙◌, ap, subst}
use Rattle.std.proofs.lemmas.Bool.{cases_eq}
use Rattle.std.proofs.lemmas.List.{length-set, get_or-set_same, get_or-set_other, get_or_default, take_at}
use Rattle.std.specs.Prelude.{slice_index_or, if◌then◌else◌}
use Rattle.network_machine.specs.declared.channel.Channel.{Channel}
use Rattle.network_machine.specs.declared.owned.Owned.{Owned}
use Rattle.network_machine.specs.declared.owned.Owned.TheVariants.{Nothing}
use Rattle.network_machine.specs.Owned.{MayOwn, OwnsWithin, AreOwned, SameOwners, OwnersAfter}
use Rattle.network_machine.specs.Outputs.{IsOwnedBy}
use Rattle.network_machine.specs.declared.machine.Machine.TheInside.{Inside}
use Rattle.network_machine.specs.Inside.{AreEmpty, IsNetworkMachine}
use Rattle.network_machine.specs.Moves.{ChannelsHaveRoom}
use Rattle.network_machine.proofs.Puts.{some_channel}

-- where owners stay
pub still_owned : (known : List Owned) (old new : List Channel) → AreOwned known old → SameOwners old new → length new ≡ length old → AreOwned known new
still_owned known old new are same size x o low y d here owner =
    (let within : y < length old = subst (λ n. y < n) size here in are x o low y d within (sym (same y d within) ∙ owner))

-- channels that are written back
pub owned_back : (known : List Owned) (new rest : List Channel) (len : ℕ) → length new ≡ len → AreOwned known new → AreOwned known (take len (new ++ rest))
owned_back known new rest len all are = subst (AreOwned known) (sym (take_at new rest len all)) are

-- one channel has moved, and kept its owner
pub same_owners : (cs : List Channel) (x : ℕ) (c e : Channel) → x < length cs → c.owner ≡ (slice_index_or cs x e).owner → SameOwners cs (set cs x c)
same_owners cs x c e low is z d within = ⊎_elim
    (λ (at : z ≡ x). subst (λ w. (slice_index_or (set cs x c) w d).owner ≡ (slice_index_or cs w d).owner) (sym at)
    (ap (λ (k : Channel). k.owner) (get_or-set_same cs x c d low) ∙ (is ∙ ap (λ (k : Channel). k.owner) (get_or_default cs x e d low))))
    (λ (apart : z ≢ x). ap (λ (k : Channel). k.owner) (get_or-set_other cs x z c d apart))
    (cases_eq z x)

-- a flit was put into channel y, or none
pub put_owners : (cs : List Channel) (y x : ℕ) (c e : Channel) (is_tail made : Bool) → y < length cs
    → c.owner ≡ (if made then cond is_tail None (Some x) else (slice_index_or cs y e).owner) → OwnersAfter cs (set cs y c) x y is_tail made
put_owners cs y x c e is_tail made low is = record {
  others = λ z d apart within. ap (λ (k : Channel). k.owner) (get_or-set_other cs y z c d apart);
  here = λ d. ap (λ (k : Channel). k.owner) (get_or-set_same cs y c d low)
      ∙ (is ∙ ap (λ (k : Channel). if made then cond is_tail None (Some x) else k.owner) (get_or_default cs y e d low));
}

-- and then owners stay
pub owners_on : (old mid new : List Channel) (x y : ℕ) (is_tail made : Bool) → y < length old → length mid ≡ length old → OwnersAfter old mid x y is_tail made
    → SameOwners mid new → OwnersAfter old new x y is_tail made
owners_on old mid new x y is_tail made low size after same = record {
  others = λ z d apart within. same z d (subst (λ n. z < n) (sym size) within) ∙ after.others z d apart within;
  here = λ d. same y d (subst (λ n. y < n) (sym size) low) ∙ after.here d;
}

-- where no flit was put, owners stay
pub none_put : (old new : List Channel) (x y : ℕ) (is_tail : Bool) → OwnersAfter old new x y is_tail false → SameOwners old new
none_put old new x y is_tail after z d within = ⊎_elim
    (λ (at : z ≡ y). subst (λ w. (slice_index_or new w d).owner ≡ (slice_index_or old w d).owner) (sym at) (after.here d))
    (λ (apart : z ≢ y). after.others z d apart within)
    (cases_eq z y)

no_tail : (b : Bool) (x : ℕ) → cond b None (Some x) ≡ Some x → b ≡ false
no_tail true x e = absurd (cc)
no_tail false x e = refl

not_theirs : (b : Bool) (x z : ℕ) → z ≢ x → cond b None (Some x) ≡ Some z → ⊥
not_theirs true x z apart e = absurd (cc)
not_theirs false x z apart e = (let same : z ≡ x = cc in apart same)

-- what is known once input x has put a flit into channel y
pub put_owned : (known : List Owned) (old new : List Channel) (x y : ℕ) (is_tail : Bool) (k e : Owned) → x < length known → AreOwned known old → length new ≡ length old
    → OwnersAfter old new x y is_tail true → ((z : ℕ) → MayOwn (slice_index_or known x e) z → z ≢ y → MayOwn k z) → (is_tail ≡ false → MayOwn k y)
    → AreOwned (set known x k) new
put_owned known old new x y is_tail k e low are size after others here z o within v d inside owner = ⊎_elim
    (λ (at : z ≡ x). subst (λ (q : Owned). MayOwn q v) (sym (ap (λ w. slice_index_or (set known x k) w o) at ∙ get_or-set_same known x k o low))
    (mine (subst (λ w. (slice_index_or new v d).owner ≡ Some w) at owner)))
    (λ (apart : z ≢ x). subst (λ (q : Owned). MayOwn q v) (sym (get_or-set_other known x z k o apart)) (theirs apart))
    (cases_eq z x)
  where
    there : v < length old
    there = subst (λ n. v < n) size inside

    mine : (slice_index_or new v d).owner ≡ Some x → MayOwn k v
    mine is = ⊎_elim
        (λ (at : v ≡ y). subst (MayOwn k) (sym at) (here (no_tail is_tail x (sym (after.here d) ∙ (ap (λ w. (slice_index_or new w d).owner) (sym at) ∙ is)))))
        (λ (apart : v ≢ y). others v (are x e low v d there (sym (after.others v d apart there) ∙ is)) apart)
        (cases_eq v y)

    theirs : z ≢ x → MayOwn (slice_index_or known z o) v
    theirs apart = ⊎_elim
        (λ (at : v ≡ y). absurd (not_theirs is_tail x z apart (sym (after.here d) ∙ (ap (λ w. (slice_index_or new w d).owner) (sym at) ∙ owner))))
        (λ (other : v ≢ y). are z o (subst (λ n. z < n) (length-set known x k) within) v d there (sym (after.others v d other there) ∙ owner))
        (cases_eq v y)

-- an input owns no channel but those that it may own
pub may_own : (known : Owned) (cs : List Channel) (x y : ℕ) → OwnsWithin known cs x → IsOwnedBy cs x y → MayOwn known y
may_own known cs x y within own = (let d : Channel = some_channel cs y own.here in within y d own.here (own.owner d))

-- no input owns an empty channel
pub none_owned : (n count depth : ℕ) (cs : List Channel) → AreEmpty count depth cs → AreOwned (replicate n Nothing) cs
none_owned n count depth cs are x o low y d here owner = (let none = (are.each y d here).owner in absurd (cc))

-- channels of a machine that have moved, with owners that stay, and are written back
pub goes_on : {A : Type 0} (m : Inside A) → IsNetworkMachine m → (old new : List Channel) → old ≡ m.channels.items → length new ≡ length old → ChannelsHaveRoom new
    → SameOwners old new → length new ≡ m.channels.len → (v : Vec Channel A) → v.items ≡ take m.channels.len (new ++ drop (length new) m.channels.items)
    → IsNetworkMachine (record m { channels = v })
goes_on {A} m h old new is size room same long v back =
    (let whole : v.items ≡ new = back ∙ take_at new (drop (length new) m.channels.items) m.channels.len long in
    record {
      full = h.full;
      replies = h.replies;
      arrive = h.arrive;
      columns = h.columns;
      width = h.width;
      few = h.few;
      size = ap length whole ∙ (size ∙ (ap length is ∙ h.size));
      room = subst ChannelsHaveRoom (sym whole) room;
      many = h.many;
      owned = subst (AreOwned m.owned.items) (sym whole) (still_owned m.owned.items old new (subst (AreOwned m.owned.items) (sym is) h.owned) same size);
      pairs = h.pairs;
    })

-- and of which the owners are known anew
pub goes_on_known : {A : Type 0} (m : Inside A) → IsNetworkMachine m → (new : List Channel) → length new ≡ length m.channels.items → ChannelsHaveRoom new
    → length new ≡ m.channels.len → (v : Vec Channel A) → v.items ≡ take m.channels.len (new ++ drop (length new) m.channels.items)
    → (known : List Owned) → AreOwned known new → length known ≡ length m.owned.items → length known ≡ m.owned.len
    → (w : Vec Owned A) → w.items ≡ take m.owned.len (known ++ drop (length known) m.owned.items) → IsNetworkMachine (record m { channels = v; owned = w })
goes_on_known {A} m h new size room long v back known are many long_2 w back_2 =
    (let whole : v.items ≡ new = back ∙ take_at new (drop (length new) m.channels.items) m.channels.len long in
    let whole_2 : w.items ≡ known = back_2 ∙ take_at known (drop (length known) m.owned.items) m.owned.len long_2 in
    record {
      full = h.full;
      replies = h.replies;
      arrive = h.arrive;
      columns = h.columns;
      width = h.width;
      few = h.few;
      size = ap length whole ∙ (size ∙ h.size);
      room = subst ChannelsHaveRoom (sym whole) room;
      many = ap length whole_2 ∙ (many ∙ h.many);
      owned = subst (λ (ks : List Owned). AreOwned ks v.items) (sym whole_2) (subst (AreOwned known) (sym whole) are);
      pairs = h.pairs;
    })
