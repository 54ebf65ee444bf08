-- Idle operations take effect one after the other.
use Rattle.std.proofs.Common.{◌≡◌, ◌≢◌, ⊎_elim, ℕ, zero, suc, ◌+◌, ◌<◌, ◌≤◌, ◌==◌, Bool, true, false, cond, List, [], ◌∷◌, ◌++◌, length, Option, Some, None, refl, sym, ◌∙◌, ap, subst}
use Rattle.std.proofs.Common.{slice_get, drop, add-one}
use Rattle.std.proofs.lemmas.Bool.{cases_eq, eqb-true, ne_eqb, cond-true, cond-false}
use Rattle.std.proofs.lemmas.List.{drop_all}
use Rattle.std.specs.Int.{bit_at}
use Rattle.std.specs.Option.{IfSome}
use Rattle.packet.specs.declared.kinds.Op.{Op}
use Rattle.packet.specs.declared.kinds.Op.TheVariants.{Load, Store, Swap, Cas, Add, And, Or, Xor, Max, Min}
use Rattle.packet.specs.declared.kinds.Reply.{Reply}
use Rattle.packet.specs.declared.kinds.Reply.TheVariants.{Old}
use Rattle.packet.specs.Memory.{new_word, reply_to}
use Rattle.trace_laws.specs.declared.opened.Open.{Open}
use Rattle.trace_laws.specs.declared.opened.Config.{Config}
use Rattle.trace_laws.specs.declared.opened.Branch.{Branch}
use Rattle.trace_laws.specs.declared.opened.Node.{Node}
use Rattle.trace_laws.specs.Configs.{IsIn, IsLeft, MayTake, AgreesWithValue, IsIdle, IsAsGood, effect, with_bit}
use Rattle.trace_laws.proofs.Dominance.{good_same, good_more, good_idle}
use Rattle.trace_laws.proofs.Picking.{grown, node_of}
use Rattle.trace_laws.proofs.Lists.{get_push, get_push_cases, get_append_left}
use Rattle.trace_judge.specs.declared.idles.Idle.{Idle}
use Rattle.trace_judge.specs.Idles.{FitsAt, IsListed, AreListed, AreLow, fits_at, applies, calmed, settled}
use Rattle.trace_judge.specs.Sets.{StaysSound, Replaces}
use Rattle.trace_judge.proofs.Branches.{stays_same, stays_more, stays_fewer, stays_added}

-- a reply that is a word is the word that was found
told_word : (op : Op) (u r : ℕ) → reply_to op u ≡ Old r → u ≡ r
told_word Load u r h = cc
told_word (Store v) u r h = cc
told_word (Swap v) u r h = cc
told_word (Cas e n) u r h = cc
told_word (Add v) u r h = cc
told_word (And v) u r h = cc
told_word (Or v) u r h = cc
told_word (Xor v) u r h = cc
told_word (Max v) u r h = cc
told_word (Min v) u r h = cc

-- an operation that is told the word which it leaves is idle
pub told_idle : (o : Open) (r : ℕ) → o.promise ≡ Some (Old r) → new_word o.call.operation.op r ≡ r → IsIdle o
told_idle o r told left = λ word agrees.
    let h : reply_to o.call.operation.op word ≡ Old r =
    subst (λ (p : Option Reply). IfSome p (λ reply. reply_to o.call.operation.op word ≡ reply)) told agrees in
    let e : word ≡ r = told_word o.call.operation.op word r h in
    ap (λ (v : ℕ). new_word o.call.operation.op v) e ∙ (left ∙ sym e)

pub told_fits : (o : Open) (r : ℕ) → o.promise ≡ Some (Old r) → reply_to o.call.operation.op r ≡ Old r
    → (word : ℕ) → FitsAt (Some r) word → AgreesWithValue o word
told_fits o r told fits = λ word e.
    subst (λ (p : Option Reply). IfSome p (λ reply. reply_to o.call.operation.op word ≡ reply)) (sym told)
    (subst (λ (v : ℕ). reply_to o.call.operation.op v ≡ Old r) e fits)

-- one that is told another word than this doesn't take effect at it
pub other_told : (o : Open) (word told : ℕ) → o.promise ≡ Some (Old told) → told ≢ word → AgreesWithValue o word → ⊥
other_told o word told e ne agrees =
    let h : reply_to o.call.operation.op word ≡ Old told =
    subst (λ (p : Option Reply). IfSome p (λ reply. reply_to o.call.operation.op word ≡ reply)) e agrees in
    ne (sym (told_word o.call.operation.op word told h))

-- so is a load that is never answered
pub load_idle : (o : Open) → o.call.operation.op ≡ Load → IsIdle o
load_idle o e = λ word agrees. ap (λ (op : Op). new_word op word) e

pub load_fits : (o : Open) → o.promise ≡ None → (word : ℕ) → AgreesWithValue o word
load_fits o none = λ word.
    subst (λ (p : Option Reply). IfSome p (λ reply. reply_to o.call.operation.op word ≡ reply)) (sym none) tt

-- whether it may take effect
pub applies_taken : (q : Idle) (c : Config) → bit_at c.taken q.slot ≡ 1 → applies q c ≡ false
applies_taken q c e = ap (λ (b : ℕ). cond (b == 0) (fits_at q.at c.word) false) e

pub applies_left : (q : Idle) (c : Config) → bit_at c.taken q.slot ≡ 0 → applies q c ≡ fits_at q.at c.word
applies_left q c e = ap (λ (b : ℕ). cond (b == 0) (fits_at q.at c.word) false) e

pub applies_at : (q : Idle) (c : Config) (word : ℕ) → bit_at c.taken q.slot ≡ 0 → q.at ≡ Some word
    → applies q c ≡ (word == c.word)
applies_at q c word left at = applies_left q c left ∙ ap (λ (a : Option ℕ). fits_at a c.word) at

pub applies_any : (q : Idle) (c : Config) → bit_at c.taken q.slot ≡ 0 → q.at ≡ None → applies q c ≡ true
applies_any q c left at = applies_left q c left ∙ ap (λ (a : Option ℕ). fits_at a c.word) at

left_of : (q : Idle) (c : Config) → applies q c ≡ true → IsLeft c q.slot
left_of q c h = ⊎_elim {C = IsLeft c q.slot}
    (λ (e : bit_at c.taken q.slot ≡ 0). e)
    (λ (ne : bit_at c.taken q.slot ≢ 0). absurd
    (let no : applies q c ≡ false = cond-false (bit_at c.taken q.slot == 0) (fits_at q.at c.word) false
    (ne_eqb (bit_at c.taken q.slot) 0 ne) in
    let e : true ≡ false = sym h ∙ no in cc))
    (cases_eq (bit_at c.taken q.slot) 0)

fits_of : (at : Option ℕ) (word : ℕ) → fits_at at word ≡ true → FitsAt at word
fits_of None word h = tt
fits_of (Some v) word h = eqb-true v word h

may_of : (table : List (Option Open)) (w : ℕ) (q : Idle) (c : Config) → IsListed table w q → applies q c ≡ true
    → MayTake table w c q.slot q.opened
may_of table w q c is h =
    let left : IsLeft c q.slot = left_of q c h in
    record {
      pending = is.pending;
      left = left;
      agrees = is.fits c.word (fits_of q.at c.word (sym (applies_left q c left) ∙ h));
    }

-- its effect leaves the word as it is
calm_effect : (table : List (Option Open)) (w : ℕ) (q : Idle) (c : Config) → IsListed table w q → applies q c ≡ true
    → effect c q.slot q.opened ≡ record { word = c.word; taken = with_bit c.taken q.slot }
calm_effect table w q c is h =
    let may = may_of table w q c is h in
    ap (λ (v : ℕ). record { word = v; taken = with_bit c.taken q.slot }) (is.idle c.word may.agrees)

calm_good : (table : List (Option Open)) (w : ℕ) (q : Idle) (c : Config) → q.slot < 128 → IsListed table w q
    → IsAsGood table w (calmed q c) c
calm_good table w q c low is = by (applies q c) refl
  where
    by : (b : Bool) → applies q c ≡ b → IsAsGood table w (calmed q c) c
    by true h = subst (λ (d : Config). IsAsGood table w d c)
        (calm_effect table w q c is h ∙ sym (cond-true (applies q c) (record { word = c.word; taken = with_bit c.taken q.slot }) c h))
        (good_idle table w c q.slot q.opened low (may_of table w q c is h) is.idle)
    by false h = subst (λ (d : Config). IsAsGood table w d c)
        (sym (cond-false (applies q c) (record { word = c.word; taken = with_bit c.taken q.slot }) c h))
        (good_same table w c)

-- what a configuration settles to is as good
pub settled_good : (table : List (Option Open)) (w : ℕ) (idles : List Idle) (c : Config) → AreLow idles
    → AreListed table w idles → IsAsGood table w (settled idles c) c
settled_good table w [] c low are = good_same table w c
settled_good table w (q ∷ idles) c low are = good_more table w (settled idles (calmed q c)) (calmed q c) c
    (settled_good table w idles (calmed q c) (λ p h. low p (suc h.0, h.1)) (λ p h. are p (suc h.0, h.1)))
    (calm_good table w q c (low q (zero, refl)) (are q (zero, refl)))

-- one more of them
drop_at : {A : Type 0} (xs : List A) (i : ℕ) (x : A) → slice_get xs i ≡ Some x → drop i xs ≡ x ∷ drop (suc i) xs
drop_at [] i x h = cc
drop_at (y ∷ xs) zero x h = let e : y ≡ x = cc in ap (λ z. z ∷ xs) e
drop_at (y ∷ xs) (suc i) x h = drop_at xs i x h

pub settled_more : (idles : List Idle) (i : ℕ) (q : Idle) (c d start : Config) → slice_get idles i ≡ Some q
    → d ≡ calmed q c → settled (drop i idles) c ≡ start → settled (drop (i + 1) idles) d ≡ start
settled_more idles i q c d start at is was =
    ap (λ (n : ℕ). settled (drop n idles) d) (add-one i)
    ∙ (ap (λ (e : Config). settled (drop (suc i) idles) e) is
    ∙ (ap (λ (qs : List Idle). settled qs c) (sym (drop_at idles i q at)) ∙ was))

pub settled_all : (idles : List Idle) (i : ℕ) (c start : Config) → length idles ≤ i
    → settled (drop i idles) c ≡ start → c ≡ start
settled_all idles i c start all was = ap (λ (qs : List Idle). settled qs c) (sym (drop_all i idles all)) ∙ was

-- the branch that an idle operation leads to
pub leads_same : (table : List (Option Open)) (w : ℕ) (from : Branch) (nodes : List Node)
    → Replaces table w from nodes from nodes
leads_same table w from nodes = λ others. stays_same table w (others ++ from ∷ []) nodes

pub leads_more : (table : List (Option Open)) (w : ℕ) (a b c : Branch) (l m n : List Node)
    → Replaces table w a l b m → Replaces table w b m c n → Replaces table w a l c n
leads_more table w a b c l m n f g = λ others.
    stays_more table w (others ++ a ∷ []) (others ++ b ∷ []) (others ++ c ∷ []) l m n (f others) (g others)

in_end : (others : List Branch) (b : Branch) → IsIn (others ++ b ∷ []) b
in_end others b = (length others, get_push others b)

-- what stands at the end beside others
end_fewer : (others : List Branch) (a b c : Branch) → IsIn (others ++ b ∷ []) c → IsIn ((others ++ a ∷ []) ++ b ∷ []) c
end_fewer others a b c h = ⊎_elim {C = IsIn ((others ++ a ∷ []) ++ b ∷ []) c}
    (λ (old : slice_get others h.0 ≡ Some c).
    (h.0, get_append_left (others ++ a ∷ []) (b ∷ []) h.0 c (get_append_left others (a ∷ []) h.0 c old)))
    (λ (r : (h.0 ≡ length others) × (b ≡ c)).
    subst (λ (d : Branch). IsIn ((others ++ a ∷ []) ++ b ∷ []) d) r.1 (in_end (others ++ a ∷ []) b))
    (get_push_cases others b h.0 c h.1)

pub leads_one : (table : List (Option Open)) (w : ℕ) (from to : Branch) (nodes more : List Node) (q : Idle)
    → IsListed table w q → applies q from.config ≡ true
    → to ≡ record { config = record { word = from.config.word; taken = with_bit from.config.taken q.slot }; trail = Some (length nodes) }
    → more ≡ nodes ++ record { call = q.opened.call; before = from.trail } ∷ []
    → Replaces table w from nodes to more
leads_one table w from to nodes more q is h made longer = λ others.
    let o : Open = q.opened in
    let next : Branch = grown nodes from q.slot o in
    let same : to ≡ next = made ∙ ap (λ (d : Config). record { config = d; trail = Some (length nodes) })
    (sym (calm_effect table w q from.config is h)) in
    subst (λ (b : Branch). StaysSound table w (others ++ from ∷ []) nodes (others ++ b ∷ []) more) (sym same)
    (subst (λ (ns : List Node). StaysSound table w (others ++ from ∷ []) nodes (others ++ next ∷ []) ns) (sym longer)
    (stays_more table w (others ++ from ∷ []) ((others ++ from ∷ []) ++ next ∷ []) (others ++ next ∷ [])
    nodes (nodes ++ node_of from o ∷ []) (nodes ++ node_of from o ∷ [])
    (stays_added table w (others ++ from ∷ []) nodes from q.slot o (in_end others from) (may_of table w q from.config is h))
    (stays_fewer table w ((others ++ from ∷ []) ++ next ∷ []) (others ++ next ∷ []) (nodes ++ node_of from o ∷ [])
    (λ b here. end_fewer others from next b here))))

-- one more that is listed
pub low_more : (idles later : List Idle) (q : Idle) → q.slot < 128 → later ≡ idles ++ q ∷ [] → AreLow idles → AreLow later
low_more idles later q l e low = λ p h. ⊎_elim {C = p.slot < 128}
    (λ (old : slice_get idles h.0 ≡ Some p). low p (h.0, old))
    (λ (r : (h.0 ≡ length idles) × (q ≡ p)). subst (λ (x : Idle). x.slot < 128) r.1 l)
    (get_push_cases idles q h.0 p (ap (λ (qs : List Idle). slice_get qs h.0) (sym e) ∙ h.1))

pub listed_more : (table : List (Option Open)) (w slot : ℕ) (place : Option Open) (idles later : List Idle) (q : Idle)
    → slice_get table slot ≡ Some place
    → (q.slot ≡ slot) × (place ≡ Some q.opened) × (q.opened.call.operation.address ≡ w) × IsIdle q.opened
    × ((word : ℕ) → FitsAt q.at word → AgreesWithValue q.opened word)
    → later ≡ idles ++ q ∷ [] → AreListed table w idles → AreListed table w later
listed_more table w slot place idles later q at is e are = λ p h. ⊎_elim {C = IsListed table w p}
    (λ (old : slice_get idles h.0 ≡ Some p). are p (h.0, old))
    (λ (r : (h.0 ≡ length idles) × (q ≡ p)). subst (λ (x : Idle). IsListed table w x) r.1 (record {
      pending = record {
        there = ap (λ (s : ℕ). slice_get table s) is.0 ∙ (at ∙ ap (λ (o : Option Open). Some o) is.1);
        here = is.2;
      };
      idle = is.3;
      fits = is.4;
    }))
    (get_push_cases idles q h.0 p (ap (λ (qs : List Idle). slice_get qs h.0) (sym e) ∙ h.1))

-- a branch, as the code makes it
pub branch_is : (word a b x y : ℕ) → a ≡ b → x ≡ y
    → (let made : ℕ → ℕ → Branch = λ t n. record { config = record { word = word; taken = t }; trail = Some n } in made a x ≡ made b y)
branch_is word a b x y e f =
    let made : ℕ → ℕ → Branch = λ t n. record { config = record { word = word; taken = t }; trail = Some n } in
    ap (λ (t : ℕ). made t x) e ∙ ap (λ (n : ℕ). made b n) f
