-- The network of fixed routes is that of the reader whose routers have one choice each.
use Rattle.std.proofs.Common.{◌≡◌, ◌⊎◌, inl, inr, ℕ, ◌+◌, Bool, true, false, List, [], ◌∷◌, refl, sym, ◌∙◌, ap}
use Rattle.std.specs.Prelude.{Result, Ok, Err, if◌then◌else◌, ◌==◌}
use Rattle.lexer.specs.Words.{words_of}
use Rattle.lexer.specs.declared.refusal.Refusal.{Refusal}
use Rattle.lexer.specs.Outcome.{then_lines, refusal_at}
use Rattle.network_text.specs.declared.reason.NetworkReason.{NetworkReason}
use Rattle.network_text.specs.declared.reason.NetworkReason.TheVariants as reason
use Rattle.network_text.specs.declared.choosing.Routers.TheVariants.{OneChoice}
use Rattle.network_text.specs.Network.{Reading, NetworkSpec, count_of, begun, started, after_words, network_from, network_or_why}
use Rattle.network_text.specs.Choosing.{ChoosingText, choosing_with, nothing_chosen, fixed_network, with_fixed, text_from, text_or_why}

abbrev Read : Type 0
Read = Result Reading NetworkReason

abbrev pub Whole : Type 0
Whole = Result ChoosingText (Refusal NetworkReason)

-- the network of a text that is read
abbrev pub network_by : Whole → Result NetworkSpec (Refusal NetworkReason)
network_by (Ok t) = Ok (fixed_network t)
network_by (Err e) = Err e

begun_replies : (r : Reading) (b : Bool) → r.begun ≡ b → (begun r).replies ≡ r.replies
begun_replies r true e = ap (λ b. (if b then r else started r).replies) e
begun_replies r false e = ap (λ b. (if b then r else started r).replies) e

begun_flits : (r : Reading) (b : Bool) → r.begun ≡ b → (begun r).flits ≡ r.flits
begun_flits r true e = ap (λ b. (if b then r else started r).flits) e
begun_flits r false e = ap (λ b. (if b then r else started r).flits) e

all_by : (n : ℕ) (t : ChoosingText) (b : Bool)
    → then_lines n (if b then Err reason.ChannelsMissing
    else Ok (record { table = (begun t.fixed).table; replies = t.fixed.replies; flits = t.fixed.flits })) Ok
    ≡ network_by (then_lines n (if b then Err reason.ChannelsMissing else Ok (choosing_with (begun t.fixed) t.layers t.further t.escapes)) Ok)
all_by n t true = refl
all_by n t false =
    ap (λ rs. Ok (record { table = (begun t.fixed).table; replies = rs; flits = t.fixed.flits })) (sym (begun_replies t.fixed t.fixed.begun refl))
    ∙ ap (λ fs. Ok (record { table = (begun t.fixed).table; replies = (begun t.fixed).replies; flits = fs }))
    (sym (begun_flits t.fixed t.fixed.begun refl))

line_by : (n : ℕ) (m : Read) (t : ChoosingText) (lines : List (List ℕ))
    → ((u : ChoosingText) (k : ℕ) → network_from u.fixed k lines ≡ network_by (text_from OneChoice u k lines))
    → then_lines n m (λ q. network_from q (n + 1) lines) ≡ network_by (then_lines n (with_fixed t m) (λ next. text_from OneChoice next (n + 1) lines))
line_by n (Ok q) t lines each = each (choosing_with q t.layers t.further t.escapes) (n + 1)
line_by n (Err e) t lines each = refl

fixed_by : (lines : List (List ℕ)) (t : ChoosingText) (n : ℕ) → network_from t.fixed n lines ≡ network_by (text_from OneChoice t n lines)
fixed_by [] t n = all_by n t (count_of t.fixed == 0)
fixed_by (line ∷ lines) t n = line_by n (after_words t.fixed (words_of line)) t lines (fixed_by lines)

-- the network of fixed routes is that of the reader whose routers have one choice each
pub one_choice : (lines : List (List ℕ)) → network_or_why lines ≡ network_by (text_or_why OneChoice lines)
one_choice lines = fixed_by lines nothing_chosen 1

pub network_is : (lines : List (List ℕ)) (t : ChoosingText) (n : NetworkSpec) → text_or_why OneChoice lines ≡ Ok t → n ≡ fixed_network t
    → network_or_why lines ≡ Ok n
network_is lines t n read is = one_choice lines ∙ ap network_by read ∙ ap Ok (sym is)

pub network_refused : (lines : List (List ℕ)) (e : Refusal NetworkReason) → (e ≡ refusal_at 0 reason.Memory) ⊎ (text_or_why OneChoice lines ≡ Err e)
    → (e ≡ refusal_at 0 reason.Memory) ⊎ (network_or_why lines ≡ Err e)
network_refused lines e (inl m) = inl m
network_refused lines e (inr bad) = inr (one_choice lines ∙ ap network_by bad)
