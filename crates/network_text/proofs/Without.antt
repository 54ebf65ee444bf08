-- Lines that give names change no network.
use Rattle.std.proofs.Common.{◌≡◌, ℕ, ◌+◌, Bool, true, false, cond, List, [], ◌∷◌, refl, sym, ◌∙◌, ap, subst}
use Rattle.std.specs.Prelude.{Result, Ok, Err, Option, Some, None, if◌then◌else◌, not, replicate, nat_le, length, ◌==◌}
use Rattle.lexer.specs.Words.{words_of, begins_comment}
use Rattle.lexer.specs.declared.refusal.Refusal.{Refusal}
use Rattle.lexer.specs.Outcome.{◌>>=◌, then_lines}
use Rattle.lexer.specs.declared.fault.LineFault.{LineFault}
use Rattle.lexer.specs.Faults.{by_fault}
use Rattle.network_text.specs.declared.reading.GivenNames.{GivenNames}
use Rattle.network_text.specs.declared.reason.Keyword.{Keyword}
use Rattle.network_text.specs.declared.reason.Keyword.TheVariants as key
use Rattle.network_text.specs.declared.reason.NetworkReason.{NetworkReason}
use Rattle.network_text.specs.declared.reason.NetworkReason.TheVariants as reason
use Rattle.network_text.specs.Reasons.{network_keyword_of, network_fault_of}
use Rattle.network_text.specs.Shapes.{unless, after_router_words, after_link_words, after_name_words, number_at}
use Rattle.network_text.specs.Network.{Reading, NetworkSpec, reading_with, nothing_read, lacks, count_of}
use Rattle.network_text.specs.Network.{after_router, after_link, after_name, names_at, with_names, unnamed}
use Rattle.network_text.specs.Network.{after_first, after_words, network_with, network_from, network_or_why, network_of}
use Rattle.network_text.specs.Names.{is_naming, words_name, without_names}
use Rattle.network_text.proofs.Plain.{Read, forget, begun_mapped, goes}

-- what gives a name keeps all else
abbrev Keeps : List GivenNames → Reading → Read → Type 0
Keeps s r made = (next : Reading) → made ≡ Ok next → forget s next ≡ forget s r

abbrev got : Reading → Read → Reading
got r (Ok next) = next
got r (Err e) = r

keeps_ok : (s : List GivenNames) (r q : Reading) → forget s q ≡ forget s r → Keeps s r (Ok q)
keeps_ok s r q same = λ next made. ap (λ (o : Read). forget s (got r o)) (sym made) ∙ same

keeps_err : (s : List GivenNames) (r : Reading) (e : NetworkReason) → Keeps s r (Err e)
keeps_err s r e = λ next made. absurd (cc)

keeps_if : (s : List GivenNames) (r : Reading) (b : Bool) (x y : Read) → Keeps s r x → Keeps s r y → Keeps s r (if b then x else y)
keeps_if s r true x y a b = a
keeps_if s r false x y a b = b

keeps_unless : (s : List GivenNames) (r : Reading) (o : Option NetworkReason) (x : Read) → Keeps s r x → Keeps s r (unless o x)
keeps_unless s r None x a = a
keeps_unless s r (Some e) x a = keeps_err s r e

keeps_bind : (s : List GivenNames) (r : Reading) (m : Result ℕ NetworkReason) (f : ℕ → Read) → ((x : ℕ) → Keeps s r (f x)) → Keeps s r (m >>= f)
keeps_bind s r (Ok x) f a = a x
keeps_bind s r (Err e) f a = keeps_err s r e

-- names under a number keep all else
begun_by_names : (s : List GivenNames) (r : Reading) (b : Bool)
    → forget s (if b then reading_with r.table r.replies r.begun (replicate 65536 unnamed) r.flits else r) ≡ forget s r
begun_by_names s r true = refl
begun_by_names s r false = refl

with_keeps : (s : List GivenNames) (r : Reading) (x : ℕ) (n : GivenNames) → Keeps s r (Ok (with_names r x n))
with_keeps s r x n = keeps_ok s r (with_names r x n) (begun_by_names s r (length r.names == 0))

router_keeps : (s : List GivenNames) (r : Reading) (x : ℕ) → Keeps s r (after_router r x)
router_keeps s r x =
    keeps_if s r (count_of r == 0) _ _ (keeps_err s r _) (keeps_if s r (nat_le 65536 x) _ _ (keeps_err s r _)
    (keeps_if s r (names_at r x).router _ _ (keeps_err s r _) (with_keeps s r x _)))

link_keeps : (s : List GivenNames) (r : Reading) (x a b : ℕ) → Keeps s r (after_link r x a b)
link_keeps s r x a b =
    keeps_unless s r (lacks r 1 x) _ (keeps_if s r (not (names_at r a).router) _ _ (keeps_err s r _)
    (keeps_if s r (not (names_at r b).router) _ _ (keeps_err s r _)
    (keeps_if s r (names_at r x).link _ _ (keeps_err s r _) (with_keeps s r x _))))

name_keeps : (s : List GivenNames) (r : Reading) (x : ℕ) → Keeps s r (after_name r x)
name_keeps s r x = keeps_unless s r (lacks r 1 x) _ (keeps_if s r (names_at r x).name _ _ (keeps_err s r _) (with_keeps s r x _))

router_words_keep : (s : List GivenNames) (r : Reading) (f : ℕ → Read) (ws : List (List ℕ)) → ((x : ℕ) → Keeps s r (f x)) → Keeps s r (after_router_words f ws)
router_words_keep s r f [] each = keeps_err s r _
router_words_keep s r f (a ∷ []) each = keeps_err s r _
router_words_keep s r f (a ∷ b ∷ []) each = keeps_bind s r (number_at 1 a) _ (λ x. keeps_if s r _ _ _ (each x) (keeps_err s r _))
router_words_keep s r f (a ∷ b ∷ c ∷ []) each = keeps_err s r _
router_words_keep s r f (a ∷ b ∷ c ∷ d ∷ []) each =
    keeps_bind s r (number_at 1 a) _ (λ x. keeps_bind s r (number_at 3 c) _ (λ _. keeps_bind s r (number_at 4 d) _
    (λ _. keeps_if s r _ _ _ (each x) (keeps_err s r _))))
router_words_keep s r f (a ∷ b ∷ c ∷ d ∷ e ∷ more) each = keeps_err s r _

link_words_keep : (s : List GivenNames) (r : Reading) (f : ℕ → ℕ → ℕ → Read) (ws : List (List ℕ)) → ((x y z : ℕ) → Keeps s r (f x y z))
    → Keeps s r (after_link_words f ws)
link_words_keep s r f [] each = keeps_err s r _
link_words_keep s r f (a ∷ []) each = keeps_err s r _
link_words_keep s r f (a ∷ b ∷ []) each = keeps_err s r _
link_words_keep s r f (a ∷ b ∷ c ∷ []) each =
    keeps_bind s r (number_at 1 a) _ (λ x. keeps_bind s r (number_at 2 b) _ (λ y. keeps_bind s r (number_at 3 c) _ (each x y)))
link_words_keep s r f (a ∷ b ∷ c ∷ d ∷ []) each =
    keeps_bind s r (number_at 1 a) _ (λ x. keeps_bind s r (number_at 2 b) _ (λ y. keeps_bind s r (number_at 3 c) _
    (λ z. keeps_bind s r (number_at 4 d) _ (λ _. each x y z))))
link_words_keep s r f (a ∷ b ∷ c ∷ d ∷ e ∷ more) each = keeps_err s r _

name_words_keep : (s : List GivenNames) (r : Reading) (f : ℕ → Read) (ws : List (List ℕ)) → ((x : ℕ) → Keeps s r (f x)) → Keeps s r (after_name_words f ws)
name_words_keep s r f [] each = keeps_err s r _
name_words_keep s r f (a ∷ ws) each =
    keeps_if s r _ _ _ (keeps_bind s r (number_at 1 a) _ (λ x. keeps_if s r _ _ _ (each x) (keeps_err s r _))) (keeps_err s r _)

keeps_by : (s : List GivenNames) (r : Reading) (b : Bool) (k : Option Keyword) (ws : List (List ℕ)) → is_naming k ≡ true
    → Keeps s r (if b then Ok r else after_first r k ws)
keeps_by s r true k ws named = keeps_ok s r r refl
keeps_by s r false None ws named = keeps_err s r _
keeps_by s r false (Some key.Channels) ws named = absurd (cc)
keeps_by s r false (Some key.Inject) ws named = absurd (cc)
keeps_by s r false (Some key.Eject) ws named = absurd (cc)
keeps_by s r false (Some key.Join) ws named = absurd (cc)
keeps_by s r false (Some key.Next) ws named = absurd (cc)
keeps_by s r false (Some key.Reply) ws named = absurd (cc)
keeps_by s r false (Some key.Escape) ws named = absurd (cc)
keeps_by s r false (Some key.Length) ws named = absurd (cc)
keeps_by s r false (Some key.Router) ws named = router_words_keep s r (after_router r) ws (router_keeps s r)
keeps_by s r false (Some key.Link) ws named = link_words_keep s r (after_link r) ws (link_keeps s r)
keeps_by s r false (Some key.Name) ws named = name_words_keep s r (after_name r) ws (name_keeps s r)

keeps : (s : List GivenNames) (r : Reading) (ws : List (List ℕ)) → words_name ws ≡ true → Keeps s r (after_words r ws)
keeps s r [] named = absurd (cc)
keeps s r (w ∷ ws) named = keeps_by s r (begins_comment w) (network_keyword_of w) ws named

-- the lines behind a line that is taken
pub record Opened (o : Read) (f : Reading → Result NetworkSpec (Refusal NetworkReason)) (net : NetworkSpec) : Type 0 where
  pub next : Reading
  pub made : o ≡ Ok next
  pub rest : f next ≡ Ok net

opened : (number : ℕ) (made : Read) (rest : Reading → Result NetworkSpec (Refusal NetworkReason)) (net : NetworkSpec)
    → then_lines number made rest ≡ Ok net → Opened made rest net
opened number (Ok next) rest net is = record { next = next; made = refl; rest = is }
opened number (Err e) rest net is = absurd (cc)

other_number : (a b : ℕ) (o : Result NetworkSpec NetworkReason) (net : NetworkSpec) → then_lines a o Ok ≡ Ok net → then_lines b o Ok ≡ Ok net
other_number a b (Ok n) net is = is
other_number a b (Err e) net is = absurd (cc)

-- the network at the end of a reading r, with the table of a reading q
abbrev network_by : Reading → Reading → Result NetworkSpec NetworkReason
network_by r q = if count_of r == 0 then Err reason.ChannelsMissing else Ok (record { table = q.table; replies = r.replies; flits = r.flits })

with_mapped : (s : List GivenNames) (r : Reading) → network_with (forget s r) ≡ network_with r
with_mapped s r = ap (network_by r) (begun_mapped s r)

without_by : (line : List ℕ) (lines : List (List ℕ)) (r : Reading) (a b : ℕ) (s : List GivenNames) (net : NetworkSpec) (name : Bool)
    → ((q : Reading) (c d : ℕ) (t : List GivenNames) → network_from q c lines ≡ Ok net → network_from (forget t q) d (without_names lines) ≡ Ok net)
    → words_name (words_of line) ≡ name → Opened (after_words r (words_of line)) (λ next. network_from next (a + 1) lines) net
    → network_from (forget s r) b (cond (not name) (line ∷ without_names lines) (without_names lines)) ≡ Ok net
without_by line lines r a b s net true behind named o =
    subst (λ q. network_from q b (without_names lines) ≡ Ok net) (keeps s r (words_of line) named o.next o.made)
    (behind o.next (a + 1) b s o.rest)
without_by line lines r a b s net false behind plain o =
    let on = goes s r o.next (words_of line) plain o.made in
    ap (λ m. then_lines b m (λ next. network_from next (b + 1) (without_names lines))) on.made
    ∙ behind o.next (a + 1) (b + 1) on.names o.rest

without_from : (lines : List (List ℕ)) (net : NetworkSpec) (r : Reading) (a b : ℕ) (s : List GivenNames)
    → network_from r a lines ≡ Ok net → network_from (forget s r) b (without_names lines) ≡ Ok net
without_from [] net r a b s is = ap (λ o. then_lines b o Ok) (with_mapped s r) ∙ other_number a b (network_with r) net is
without_from (line ∷ lines) net r a b s is =
    without_by line lines r a b s net (words_name (words_of line)) (without_from lines net) refl (opened a (after_words r (words_of line)) _ net is)

-- the network of the lines without names
pub without : (lines : List (List ℕ)) (net : NetworkSpec) → network_or_why lines ≡ Ok net → network_or_why (without_names lines) ≡ Ok net
without lines net is = without_from lines net nothing_read 1 1 [] is

abbrev back : NetworkSpec → Result NetworkSpec LineFault → Result NetworkSpec (Refusal NetworkReason)
back n (Ok m) = Ok m
back n (Err e) = Ok n

ok_of : (o : Result NetworkSpec (Refusal NetworkReason)) (net : NetworkSpec) → by_fault network_fault_of o ≡ Ok net → o ≡ Ok net
ok_of (Ok n) net is = ap (back n) is
ok_of (Err e) net is = absurd (cc)

pub without_of_fault : (lines : List (List ℕ)) (net : NetworkSpec) → network_of lines ≡ Ok net → network_of (without_names lines) ≡ Ok net
without_of_fault lines net is = ap (by_fault network_fault_of) (without lines net (ok_of (network_or_why lines) net is))
