-- What a flit put into a channel, or taken from it, does to the packets in it.
use Rattle.std.proofs.Common.{◌≡◌, ◌≢◌, option_to_list, ℕ, true, false, List, [], ◌∷◌, ◌++◌, All, refl, sym, ◌∙◌, ap}
use Rattle.std.proofs.Common.{append_assoc, append-nil}
use Rattle.std.proofs.lemmas.List.Elements.{All-head}
use Rattle.wormhole.specs.Net.{Net, Parcel, IsParcel, EndsWithTail, net_flits, flits_of_all}
use Rattle.wormhole.specs.State.{NetLine, in_line}

pub flits_push : (ks : List Parcel) (k : Parcel) → flits_of_all (ks ++ k ∷ []) ≡ flits_of_all ks ++ net_flits k
flits_push [] k = append-nil (net_flits k)
flits_push (j ∷ ks) k =
    ap (λ (fs : List ℕ). net_flits j ++ fs) (flits_push ks k) ∙ sym (append_assoc (net_flits j) (flits_of_all ks) (net_flits k))

-- a head flit is put: no flit of another packet is owed
pub push_head : (awaited line owed : List ℕ) (ks : List Parcel) (k : Parcel) → awaited ++ flits_of_all ks ≡ line ++ owed → owed ≡ []
    → awaited ++ flits_of_all (ks ++ k ∷ []) ≡ (line ++ k.head ∷ []) ++ k.tail
push_head awaited line owed ks k h e =
    ap (λ (fs : List ℕ). awaited ++ fs) (flits_push ks k)
    ∙ (sym (append_assoc awaited (flits_of_all ks) (net_flits k))
    ∙ (ap (λ (fs : List ℕ). fs ++ net_flits k) (h ∙ (ap (λ (o : List ℕ). line ++ o) e ∙ append-nil line))
    ∙ sym (append_assoc line (k.head ∷ []) k.tail)))

-- a further flit is put
pub push_rest : (left line more : List ℕ) (flit : ℕ) → left ≡ line ++ flit ∷ more → left ≡ (line ++ flit ∷ []) ++ more
push_rest left line more flit h = h ∙ sym (append_assoc line (flit ∷ []) more)

-- a head flit is taken: it begins the first of the packets
pub record HasPopped (ks : List Parcel) (awaited : List ℕ) (flit : ℕ) (left : List ℕ) : Type 0 where
  pub first : Parcel
  pub others : List Parcel
  pub parcels : ks ≡ first ∷ others
  pub none : awaited ≡ []
  pub head : first.head ≡ flit
  pub tail : first.tail ++ flits_of_all others ≡ left

pub pop_head : (n : Net) (awaited : List ℕ) (ks : List Parcel) (flit : ℕ) (left : List ℕ) → EndsWithTail n awaited → n.is_head flit ≡ true
    → awaited ++ flits_of_all ks ≡ flit ∷ left → HasPopped ks awaited flit left
pop_head n [] [] flit left shaped head h = cc
pop_head n [] (k ∷ ks) flit left shaped head h = record { first = k; others = ks; parcels = refl; none = refl; head = cc; tail = cc }
pop_head n (a ∷ as') ks flit left shaped head h =
    let same : a ≡ flit = cc in
    let no : n.is_head a ≡ false = shaped.0 in
    cc

-- a further flit is taken: it is the first that was awaited
pub pop_rest : (n : Net) (awaited : List ℕ) (ks : List Parcel) (flit : ℕ) (left : List ℕ) → All (IsParcel n) ks → n.is_head flit ≡ false
    → awaited ++ flits_of_all ks ≡ flit ∷ left → (more : List ℕ) × (awaited ≡ flit ∷ more) × (more ++ flits_of_all ks ≡ left)
pop_rest n [] [] flit left are head h = cc
pop_rest n [] (k ∷ ks) flit left are head h =
    let same : k.head ≡ flit = cc in
    let yes' = (All-head (IsParcel n) k ks are).head in
    cc
pop_rest n (a ∷ as') ks flit left are head h = (as', cc, cc)

-- a flit put at the end of a channel is the last of those on their way
pub in_line_put : (l : NetLine) (flit : ℕ) → option_to_list l.latch ++ (l.flits ++ flit ∷ []) ≡ in_line l ++ flit ∷ []
in_line_put l flit = sym (append_assoc (option_to_list l.latch) l.flits (flit ∷ []))

pub push_not_empty : {A : Type 0} (xs : List A) (x : A) → xs ++ x ∷ [] ≢ []
push_not_empty [] x h = cc
push_not_empty (y ∷ xs) x h = cc
